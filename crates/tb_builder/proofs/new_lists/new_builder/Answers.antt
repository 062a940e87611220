use Rattle.std.proofs.Common.{◌∙◌, ap, refl, None, false}
use Rattle.std.specs.FinMap.{get}
use Rattle.tb_builder.specs.declared.Builder.{Builder}
use Rattle.tb_builder.specs.Ownership.{box_ids, own_ids, ids_of}
use Rattle.tb_builder.specs.NewLists.{Opened}
use Rattle.tb_builder.proofs.Ownership.NewLemmas.{opened_first, new_contents, new_fresh, new_sound, started_lasting}
use Rattle.tb_builder.proofs.new_lists.new_builder.Goals.{After-started}
use Rattle.tb_builder.proofs.new_lists.new_builder.Goals as goal

pub returns-in_err-held-clause-others : goal.returns-in_err-held-clause-others
returns-in_err-held-clause-others c = λ q live.
    let one = opened_first c.args.store.now c.void_boxes.new.store c.add_list.new.self (box_ids c.in_ok-boxes.boxes) c.in_ok-rest.rest c.in_ok-boxes.ensures.boxes.opened c.in_ok-rest.ensures.fresh c.in_ok-rest.ensures.opened in
    ap (λ m. get m q) c.in_err-held.ensures.err ∙ one.others q live

pub returns-in_err-waiting-clause-others : goal.returns-in_err-waiting-clause-others
returns-in_err-waiting-clause-others c = λ q live.
    let one = opened_first c.args.store.now c.void_boxes.new.store c.add_list.new.self (box_ids c.in_ok-boxes.boxes) c.in_ok-rest.rest c.in_ok-boxes.ensures.boxes.opened c.in_ok-rest.ensures.fresh c.in_ok-rest.ensures.opened in
    let two = opened_first c.args.store.now c.add_list.new.self c.add_list-2.new.self _ c.in_ok-held.held one c.in_ok-held.ensures.fresh c.in_ok-held.ensures.opened in
    ap (λ m. get m q) c.in_err-waiting.ensures.err ∙ two.others q live

pub returns-in_err-page-clause-others : goal.returns-in_err-page-clause-others
returns-in_err-page-clause-others c = λ q live.
    let one = opened_first c.args.store.now c.void_boxes.new.store c.add_list.new.self (box_ids c.in_ok-boxes.boxes) c.in_ok-rest.rest c.in_ok-boxes.ensures.boxes.opened c.in_ok-rest.ensures.fresh c.in_ok-rest.ensures.opened in
    let two = opened_first c.args.store.now c.add_list.new.self c.add_list-2.new.self _ c.in_ok-held.held one c.in_ok-held.ensures.fresh c.in_ok-held.ensures.opened in
    let three = opened_first c.args.store.now c.add_list-2.new.self c.add_list-3.new.self _ c.in_ok-waiting.waiting two c.in_ok-waiting.ensures.fresh c.in_ok-waiting.ensures.opened in
    ap (λ m. get m q) c.in_err-page.ensures.err ∙ three.others q live

-- the builder that is made
abbrev made : After-started → Builder
made c = record { boxes = c.in_ok-boxes.boxes; page = c.in_ok-page.page; waiting = c.in_ok-waiting.waiting; held = c.in_ok-held.held; rest = c.in_ok-rest.rest; frozen = None; opened = false; stopped = false; tried = c.no_try.result; course = c.started.result }

-- its lists were opened
opened : (c : After-started) → Opened c.args.store.now c.add_list-4.new.self (own_ids (ids_of (made c)))
opened c =
    let one = opened_first c.args.store.now c.void_boxes.new.store c.add_list.new.self (box_ids c.in_ok-boxes.boxes) c.in_ok-rest.rest c.in_ok-boxes.ensures.boxes.opened c.in_ok-rest.ensures.fresh c.in_ok-rest.ensures.opened in
    let two = opened_first c.args.store.now c.add_list.new.self c.add_list-2.new.self _ c.in_ok-held.held one c.in_ok-held.ensures.fresh c.in_ok-held.ensures.opened in
    let three = opened_first c.args.store.now c.add_list-2.new.self c.add_list-3.new.self _ c.in_ok-waiting.waiting two c.in_ok-waiting.ensures.fresh c.in_ok-waiting.ensures.opened in
    opened_first c.args.store.now c.add_list-3.new.self c.add_list-4.new.self _ c.in_ok-page.page three c.in_ok-page.ensures.fresh c.in_ok-page.ensures.opened

pub returns-clause-sound : goal.returns-clause-sound
returns-clause-sound c =
    let w = (goal.at.returns-clause-sound c).After-started in
    new_sound _ _ (made w) _ (opened w) c.in_ok-boxes.ensures.boxes.classes c.in_ok-boxes.ensures.boxes.void c.requires refl refl refl (started_lasting c.started.result c.started.ensures)

pub returns-clause-contents : goal.returns-clause-contents
returns-clause-contents c =
    let w = (goal.at.returns-clause-contents c).After-started in
    new_contents _ _ (made w) _ (opened w) c.in_ok-boxes.ensures.boxes.classes c.in_ok-boxes.ensures.boxes.void c.requires refl refl

pub returns-clause-fresh : goal.returns-clause-fresh
returns-clause-fresh c =
    let w = (goal.at.returns-clause-fresh c).After-started in
    new_fresh _ _ (made w) _ (opened w) c.in_ok-boxes.ensures.boxes.classes c.in_ok-boxes.ensures.boxes.void c.requires refl refl

pub returns-clause-others : goal.returns-clause-others
returns-clause-others c = (opened (goal.at.returns-clause-others c).After-started).others
