use Rattle.std.proofs.Common.{◌≡◌, false, sym, subst, ap, ◌∙◌}
use Rattle.tb_builder.specs.declared.Builder.{Builder}
use Rattle.tb_builder.specs.PageWalks.{LeadsOn}
use Rattle.tb_builder.specs.declared.Event.TheVariants as events
use Rattle.tb_builder.proofs.Events.WalkLemmas.{leads_after, leads_room, leads_turn, leads_try, leads_here, leads_to, next_turn}
use Rattle.tb_builder.proofs.Events.PassedLemmas.{keeps_then}
use Rattle.tb_builder.specs.Ownership.{ids_of}
use Rattle.tb_builder.proofs.Builder.next_without_tries.Goals.{After-make_room, In-Acts}
use Rattle.tb_builder.proofs.Builder.next_without_tries.Goals as goal

-- from the first call up to here
come : (c : After-make_room) → LeadsOn c.args.self.now c.args.store.now c.args.ask.now c.pass_nodes.new.self c.make_room.new.store
come c =
    let ask = c.args.ask.now in
    let w = c.pass_nodes.new.self in
    let v = c.pass_nodes.new.store in
    let l = c.places.self in
    let m = c.places.store in
    let r = c.make_room.new.store in
    leads_after ask c.args.self.now l w c.args.store.now m r c.places.invariant.leads
    (leads_after ask l w w m v r c.pass_nodes.ensures.leads (leads_room ask w v r c.make_room.ensures.lists c.pass_nodes.ensures.leads.sound c.pass_nodes.ensures.leads.fits))

pub returns-in_err-make_room-clause-sound : goal.returns-in_err-make_room-clause-sound
returns-in_err-make_room-clause-sound c = (come (goal.at.returns-in_err-make_room-clause-sound c).After-make_room).sound

pub turn-requires-clause-sound : goal.turn-requires-clause-sound
turn-requires-clause-sound c = (come (goal.at.turn-requires-clause-sound c).After-make_room).sound

pub turn-requires-clause-fits : goal.turn-requires-clause-fits
turn-requires-clause-fits c = (come (goal.at.turn-requires-clause-fits c).After-make_room).fits

pub places-preserved-in-Goes : goal.places-preserved-in-Goes
places-preserved-in-Goes c =
    let h = come (goal.at.places-preserved-in-Goes c).After-make_room in
    let w = c.pass_nodes.new.self in
    let d = c.turn.new.self in
    let went = leads_turn c.args.ask.now w d c.make_room.new.store c.turn.new.store c.if-self.false h.fits c.in-Goes.ensures in
    record {
      leads = leads_after c.args.ask.now c.args.self.now w d c.args.store.now c.make_room.new.store c.turn.new.store h went;
      none_held = went.held ∙ h.held ∙ c.requires.none_held;
    }

pub places-preserved : goal.places-preserved
places-preserved c =
    let h = come (goal.at.places-preserved c).After-make_room in
    let w = c.pass_nodes.new.self in
    let d = c.turn.new.self in
    let tried = leads_try c.args.ask.now w d c.make_room.new.store c.turn.new.store d.tried c.if-self.false h.fits c.in-Tried.ensures in
    record {
      leads = leads_after c.args.ask.now c.args.self.now w d c.args.store.now c.make_room.new.store c.turn.new.store h tried;
      none_held = tried.held ∙ h.held ∙ c.requires.none_held;
    }

-- nothing changed
still : (c : In-Acts) → LeadsOn c.args.self.now c.args.store.now c.args.ask.now c.turn.new.self c.turn.new.store
still c =
    let b = c.args.self.now in
    let s = c.args.store.now in
    let ask = c.args.ask.now in
    let at = c.in-Acts.ensures in
    subst (λ x. LeadsOn b s ask x c.turn.new.store) (sym at.builder) (subst (LeadsOn b s ask c.pass_nodes.new.self) (sym at.store) (come (goal.at.In-Acts c).After-make_room))

still_on : (c : In-Acts) → c.turn.new.self.stopped ≡ false
still_on c = ap (λ (b : Builder). b.stopped) c.in-Acts.ensures.builder ∙ c.if-self.false

pub hand_out-requires-clause-sound : goal.hand_out-requires-clause-sound
hand_out-requires-clause-sound c = (still (goal.at.hand_out-requires-clause-sound c).In-Acts).sound

pub hand_out-requires-clause-on : goal.hand_out-requires-clause-on
hand_out-requires-clause-on c = still_on (goal.at.hand_out-requires-clause-on c).In-Acts

pub returns-in-Acts-clause-comes : goal.returns-in-Acts-clause-comes
returns-in-Acts-clause-comes c =
    let i = (goal.at.returns-in-Acts-clause-comes c).In-Acts in
    let h = still i in
    let d = c.turn.new.self in
    let t = c.turn.new.store in
    leads_to c.args.ask.now c.args.self.now d d d c.args.store.now t t c.hand_out.new.store (events.Act c.hand_out.result) h (leads_here c.args.ask.now d t h.sound h.fits)
    (next_turn c.args.ask.now d d t c.hand_out.new.store (events.Act c.hand_out.result) (still_on i) (c.hand_out.ensures c.args.ask.now))

pub returns-in-Acts-clause-sound : goal.returns-in-Acts-clause-sound
returns-in-Acts-clause-sound c = (c.hand_out.ensures c.args.ask.now).sound

pub returns-in-Acts-clause-keeps : goal.returns-in-Acts-clause-keeps
returns-in-Acts-clause-keeps c =
    let i = (goal.at.returns-in-Acts-clause-keeps c).In-Acts in
    let d = c.turn.new.self in
    keeps_then (ids_of c.args.self.now) (ids_of d) (ids_of d) c.args.store.now c.turn.new.store c.hand_out.new.store (still i).keeps
    (next_turn c.args.ask.now d d c.turn.new.store c.hand_out.new.store (events.Act c.hand_out.result) (still_on i) (c.hand_out.ensures c.args.ask.now)).keeps

pub returns-in-Ends-clause-comes : goal.returns-in-Ends-clause-comes
returns-in-Ends-clause-comes c =
    let h = come (goal.at.returns-in-Ends-clause-comes c).After-make_room in
    let w = c.pass_nodes.new.self in
    let r = c.make_room.new.store in
    leads_to c.args.ask.now c.args.self.now w w c.turn.new.self c.args.store.now r r c.turn.new.store events.Empty h (leads_here c.args.ask.now w r h.sound h.fits)
    (next_turn c.args.ask.now w c.turn.new.self r c.turn.new.store events.Empty c.if-self.false c.in-Ends.ensures)

pub returns-in-Ends-clause-keeps : goal.returns-in-Ends-clause-keeps
returns-in-Ends-clause-keeps c =
    let h = come (goal.at.returns-in-Ends-clause-keeps c).After-make_room in
    keeps_then (ids_of c.args.self.now) (ids_of c.pass_nodes.new.self) (ids_of c.turn.new.self) c.args.store.now c.make_room.new.store c.turn.new.store h.keeps
    (next_turn c.args.ask.now c.pass_nodes.new.self c.turn.new.self c.make_room.new.store c.turn.new.store events.Empty c.if-self.false c.in-Ends.ensures).keeps
