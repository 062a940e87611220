use Rattle.std.proofs.Common.{◌≡◌, ◌∙◌, sym, ap, refl, List}
use Rattle.std.proofs.lemmas.Bool.{true≢false}
use Rattle.tb_builder.specs.declared.Builder.{Builder}
use Rattle.tb_builder.specs.declared.ClassList.{ClassList}
use Rattle.tb_builder.specs.Ownership.{Ids, ids_of, IsClassList, box_ids, inner_ids, nodes_of}
use Rattle.tb_builder.proofs.Ownership.OwnedLemmas.{live-left}
use Rattle.tb_builder.proofs.LegalPlaces.ClassLemmas.{first_at, found_within, none_at, list_live}
use Rattle.tb_builder.proofs.Handover.BoxLemmas.{voided_boxes, marked, box_apart, taken_contents, taken_sound, taken_keeps, taken_others, taken_is}
use Rattle.tb_builder.proofs.Builder.take_box.Goals.{After-entry-found, After-append}
use Rattle.tb_builder.proofs.Builder.take_box.Goals as goal

pub unreachable-requires : goal.unreachable-requires
unreachable-requires c = true≢false (sym c.requires.known ∙ none_at c.args.self.now.boxes c.args.class (sym c.place_of.ensures ∙ c.in_default.is))

pub entry-found-requires : goal.entry-found-requires
entry-found-requires c = found_within c.args.self.now.boxes c.args.class c.in-Some.k (sym c.place_of.ensures ∙ c.in-Some.is)

pub set_void-requires : goal.set_void-requires
set_void-requires c = found_within c.args.self.now.boxes c.args.class c.in-Some.k (sym c.place_of.ensures ∙ c.in-Some.is)

-- the box that was found is the box of the class
is_box : (c : After-entry-found) → IsClassList c.args.self.now.boxes c.args.class c.entry-found.result
is_box c = record { place = c.in-Some.k; first = first_at c.args.self.now.boxes c.args.class c.in-Some.k c.entry-found.result (sym c.place_of.ensures ∙ c.in-Some.is); is = sym c.entry-found.ensures }

-- the builder with that box void
abbrev voided : After-append → Builder
voided c = record c.args.self.now { boxes = c.set_void.new.self }

-- its ids are those of before, with the boxes of the class void
voided_ids : (c : After-append) → ids_of (voided c) ≡ record (ids_of c.args.self.now) { boxes = voided_boxes c.args.class c.args.self.now.boxes }
voided_ids c =
    let e = c.entry-found.result in
    let first = first_at c.args.self.now.boxes c.args.class c.in-Some.k e (sym c.place_of.ensures ∙ c.in-Some.is) in
    ap (λ (es : List ClassList). (let i : Ids = record (ids_of c.args.self.now) { boxes = es } in i)) (c.set_void.ensures e c.entry-found.ensures ∙ marked _ _ _ _ e first c.entry-found.ensures c.requires.sound.own.classes)

pub append-requires-clause-second_live : goal.append-requires-clause-second_live
append-requires-clause-second_live c =
    let b = c.args.self.now in
    let s = c.args.store.now in
    let h = is_box (goal.at.append-requires-clause-second_live c).After-entry-found in
    list_live s b.boxes c.args.class _ h (live-left s (box_ids b.boxes) (inner_ids (nodes_of (ids_of b) s)) c.requires.sound.own.live.1.1.1.1)

pub append-requires-clause-apart : goal.append-requires-clause-apart
append-requires-clause-apart c = box_apart c.args.self.now c.args.store.now _ _ _ (is_box (goal.at.append-requires-clause-apart c).After-entry-found) c.requires.apart

pub returns-clause-sound : goal.returns-clause-sound
returns-clause-sound c =
    let h = is_box (goal.at.returns-clause-sound c).After-entry-found in
    taken_sound _ _ c.append.new.self _ _ _ c.requires.sound c.requires.empty h c.requires.apart c.append.ensures.joined (voided c) (voided_ids c) refl refl refl refl

pub returns-clause-contents : goal.returns-clause-contents
returns-clause-contents c =
    let h = is_box (goal.at.returns-clause-contents c).After-entry-found in
    taken_contents _ _ c.append.new.self _ _ _ c.requires.sound c.requires.empty h c.requires.apart c.append.ensures.joined (voided c) (voided_ids c) refl refl refl refl

pub returns-clause-keeps : goal.returns-clause-keeps
returns-clause-keeps c =
    let h = is_box (goal.at.returns-clause-keeps c).After-entry-found in
    taken_keeps _ _ c.append.new.self _ _ _ c.requires.sound c.requires.empty h c.requires.apart c.append.ensures.joined (voided c) (voided_ids c) refl refl refl refl

pub returns-clause-others : goal.returns-clause-others
returns-clause-others c =
    let h = is_box (goal.at.returns-clause-others c).After-entry-found in
    taken_others _ _ c.append.new.self _ _ _ c.requires.sound c.requires.empty h c.requires.apart c.append.ensures.joined

pub returns-clause-taken : goal.returns-clause-taken
returns-clause-taken c =
    let h = is_box (goal.at.returns-clause-taken c).After-entry-found in
    taken_is _ _ c.append.new.self _ _ _ c.requires.sound c.requires.empty h c.requires.apart c.append.ensures.joined
