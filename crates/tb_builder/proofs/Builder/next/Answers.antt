use Rattle.std.proofs.Common.{◌≡◌, sym, subst}
use Rattle.tb_pool.specs.Lists.{list_at}
use Rattle.tb_node.specs.PlainNodes.{plain_of}
use Rattle.tb_builder.specs.Contents.{Contents, contents_of}
use Rattle.tb_builder.specs.PageEvents.{NextIs, FirstIs, KeepsBoxes}
use Rattle.tb_builder.specs.Contents.{laid, reach_ahead, places_of}
use Rattle.tb_builder.specs.PassedNodes.{EventPast}
use Rattle.tb_builder.specs.Courses.{IsSound}
use Rattle.tb_builder.specs.declared.Event.TheVariants as events
use Rattle.tb_builder.proofs.Handover.FrontLemmas.{no_nodes}
use Rattle.tb_builder.proofs.Events.NextLemmas.{fired_keeps}
use Rattle.tb_builder.proofs.Events.PagingLemmas.{paging_next}
use Rattle.tb_builder.proofs.Events.WalkLemmas.{told_here}
use Rattle.tb_builder.proofs.Ownership.SpareLemmas.{contents_still, sound_still, fits_still, keeps_filled}
use Rattle.tb_builder.proofs.Builder.next.Goals as goal

pub fire-requires-clause-none_held : goal.fire-requires-clause-none_held
fire-requires-clause-none_held c = no_nodes (plain_of (list_at c.args.store.now)) (list_at c.args.store.now c.args.self.now.held) c.requires.none_held

pub returns-in_err-page-clause-sound : goal.returns-in_err-page-clause-sound
returns-in_err-page-clause-sound c =
    let lists : c.fire.new.store.lists ≡ c.args.store.now.lists = c.in_err-page.ensures.lists in
    subst (λ b. IsSound b c.fire.new.store) (sym c.in_err-page.ensures.builder) (sound_still c.args.store.now c.fire.new.store lists c.args.self.now c.requires.sound)

pub returns-then-self-clause-event : goal.returns-then-self-clause-event
returns-then-self-clause-event c =
    subst (λ s. NextIs s (events.Fired c.in_ok-page.page) (contents_of c.args.self.now c.args.store.now) c.args.ask.now (contents_of c.fire.new.self c.fire.new.store) c.fire.new.store) (sym c.if-self.true) (c.in_ok-page.ensures.fires.fired c.args.ask.now)

pub returns-then-self-clause-page : goal.returns-then-self-clause-page
returns-then-self-clause-page c = paging_next (events.Fired c.in_ok-page.page) (contents_of c.args.self.now c.args.store.now) (contents_of c.fire.new.self c.fire.new.store) c.args.ask.now c.fire.new.store (returns-then-self-clause-event c)

pub returns-then-self-clause-keeps : goal.returns-then-self-clause-keeps
returns-then-self-clause-keeps c = fired_keeps c.args.self.now c.fire.new.self c.args.store.now c.fire.new.store c.in_ok-page.page c.in_ok-page.ensures.fires

pub returns-in_err-make_room-clause-sound : goal.returns-in_err-make_room-clause-sound
returns-in_err-make_room-clause-sound c = sound_still c.args.store.now c.make_room.new.store c.make_room.ensures.lists c.args.self.now c.requires.sound

pub fill-requires-clause-sound : goal.fill-requires-clause-sound
fill-requires-clause-sound c = sound_still c.args.store.now c.make_room.new.store c.make_room.ensures.lists c.args.self.now c.requires.sound

pub fill-requires-clause-fits : goal.fill-requires-clause-fits
fill-requires-clause-fits c = fits_still c.args.store.now c.make_room.new.store c.make_room.ensures.lists c.args.self.now c.args.ask.now c.requires.fits

pub returns-clause-event : goal.returns-clause-event
returns-clause-event c =
    let d = contents_of c.fill.new.self c.fill.new.store in
    let ask = c.args.ask.now in
    let e = c.fill.result in
    subst (λ s. NextIs s e (contents_of c.args.self.now c.args.store.now) ask d c.fill.new.store) (sym c.if-self.false)
    (subst (λ (b : Contents). FirstIs e (laid b ask) (reach_ahead b ask) (places_of b ask) ask d × KeepsBoxes b d ask) (contents_still c.args.store.now c.make_room.new.store c.make_room.ensures.lists c.args.self.now) (c.fill.ensures.first, c.fill.ensures.stays))

pub returns-clause-page : goal.returns-clause-page
returns-clause-page c = paging_next c.fill.result (contents_of c.args.self.now c.args.store.now) (contents_of c.fill.new.self c.fill.new.store) c.args.ask.now c.fill.new.store (returns-clause-event c)

pub returns-clause-keeps : goal.returns-clause-keeps
returns-clause-keeps c = keeps_filled c.args.store.now c.make_room.new.store c.make_room.ensures.lists c.args.self.now c.fill.new.self c.fill.new.store c.fill.ensures.frame.others c.fill.ensures.frame.apart

pub returns-then-self-clause-past : goal.returns-then-self-clause-past
returns-then-self-clause-past c = λ on. tt

pub returns-clause-past : goal.returns-clause-past
returns-clause-past c = λ on. subst (λ (b : Contents). EventPast c.fill.result b (contents_of c.fill.new.self c.fill.new.store) c.args.ask.now) (contents_still c.args.store.now c.make_room.new.store c.make_room.ensures.lists c.args.self.now) c.fill.ensures.past

pub returns-clause-room : goal.returns-clause-room
returns-clause-room c = told_here c.fill.result (contents_of c.args.self.now c.make_room.new.store) (contents_of c.fill.new.self c.fill.new.store) c.fill.new.self c.fill.new.store c.args.ask.now c.fill.ensures.first
