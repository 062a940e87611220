use Rattle.std.proofs.Common.{refl}
use Rattle.tb_makeup.proofs.Filled.MoreLemmas.{none-left}
use Rattle.tb_makeup.proofs.Filled.UnderwayLemmas.{underway-start, underway-fits, underway-none}
use Rattle.tb_makeup.proofs.Filled.PassingLemmas.{come-sound, come-tried, come-fewer-tried, come-takes, come-can, come-acted, come-fewer, come-over, come-no-kern, come-items, come-supplied, come-fewer-left, come-fires}
use Rattle.tb_makeup.proofs.makeup.Makeup.fill.Goals as goal

pub next-init : goal.next-init
next-init c = underway-start c.args.wanted c.args.self.now c.args.happened.now.items c.requires.ready c.requires.empty

pub next_event-requires-clause-fits : goal.next_event-requires-clause-fits
next_event-requires-clause-fits c = underway-fits c.args.wanted c.args.self.now c.next.self c.next.self c.next.happened.items c.requires.ready c.next.invariant

pub next_event-requires-clause-none_held : goal.next_event-requires-clause-none_held
next_event-requires-clause-none_held c = underway-none c.args.wanted c.args.self.now c.next.self c.next.self c.next.happened.items c.requires.ready c.next.invariant

pub next-smaller-in-Continue-branch-3 : goal.next-smaller-in-Continue-branch-3
next-smaller-in-Continue-branch-3 c =
    come-fewer-tried c.args.wanted c.args.self.now c.next_event.new.self c.next.happened.items c.requires.ready c.in_ok-tried.field-0 c.next.self c.next.invariant c.in_ok-tried.ensures c.in-Try.tried c.in-Try.is

pub next-preserved-in-Continue-branch-3 : goal.next-preserved-in-Continue-branch-3
next-preserved-in-Continue-branch-3 c =
    come-tried c.args.wanted c.args.self.now c.next_event.new.self c.next.happened.items c.requires.ready c.in_ok-tried.field-0 c.next.self c.next.invariant c.in_ok-tried.ensures c.in-Try.tried c.in-Try.is c.note_try.new.happened.items c.in_ok-note_try-in-Try.ensures

pub act-requires-clause-take : goal.act-requires-clause-take
act-requires-clause-take c = come-takes c.args.wanted c.args.self.now c.next_event.new.self c.next.happened.items c.requires.ready c.in_ok-tried.field-0 c.next.self c.next.invariant c.in_ok-tried.ensures c.in-Act.act c.in-Act.is

pub act-requires-clause-builder : goal.act-requires-clause-builder
act-requires-clause-builder c = come-can c.args.wanted c.args.self.now c.next_event.new.self c.next.happened.items c.requires.ready c.in_ok-tried.field-0 c.next.self c.next.invariant c.in_ok-tried.ensures c.in-Act.act c.in-Act.is

pub next-smaller-in-Continue-branch-4 : goal.next-smaller-in-Continue-branch-4
next-smaller-in-Continue-branch-4 c =
    let d = c.next_event.new.self in
    let acted = c.in_ok-act-in-Act.ensures in
    come-fewer c.args.wanted c.args.self.now d c.next.happened.items c.requires.ready c.in_ok-tried.field-0 c.next.self c.next.invariant c.in_ok-tried.ensures c.in-Act.act c.in-Act.is (record d { builder = c.act.new.b; store = c.act.new.store; plain = c.act.new.self }) acted.acts (record { plain = acted.same; ask = refl; limit = refl; bound = refl }) refl

pub next-preserved-in-Continue-branch-4 : goal.next-preserved-in-Continue-branch-4
next-preserved-in-Continue-branch-4 c =
    let d = c.next_event.new.self in
    let acted = c.in_ok-act-in-Act.ensures in
    come-acted c.args.wanted c.args.self.now d c.next.happened.items c.requires.ready c.in_ok-tried.field-0 c.next.self c.next.invariant c.in_ok-tried.ensures c.in-Act.act c.in-Act.is (record d { builder = c.act.new.b; store = c.act.new.store; plain = c.act.new.self }) acted.acts (record { plain = acted.same; ask = refl; limit = refl; bound = refl }) refl

pub returns-in-Fired : goal.returns-in-Fired
returns-in-Fired c = come-fires c.args.wanted c.args.self.now c.next_event.new.self c.next.happened.items c.requires.ready c.in_ok-tried.field-0 c.next.self c.next.invariant c.in_ok-tried.ensures c.in-Fired.page c.in-Fired.is

pub returns-in_default : goal.returns-in_default
returns-in_default c = come-over c.args.wanted c.args.self.now c.next_event.new.self c.next.happened.items c.requires.ready c.in_ok-tried.field-0 c.next.self c.next.invariant c.in_ok-tried.ensures c.in-Empty.is (none-left c.next_event.new.self.left c.in_default.not-Some)

pub supply-requires-clause-sound : goal.supply-requires-clause-sound
supply-requires-clause-sound c = come-sound c.args.wanted c.args.self.now c.next_event.new.self c.next.happened.items c.requires.ready c.in_ok-tried.field-0 c.next.self c.next.invariant c.in_ok-tried.ensures

pub supply-requires-clause-items : goal.supply-requires-clause-items
supply-requires-clause-items c = come-items c.args.wanted c.args.self.now c.next_event.new.self c.next.happened.items c.requires.ready c.in_ok-tried.field-0 c.next.self c.next.invariant c.in_ok-tried.ensures c.in-Empty.is c.in-Some.left c.in-Some.is

pub supply-requires-clause-no_kern : goal.supply-requires-clause-no_kern
supply-requires-clause-no_kern c = come-no-kern c.args.wanted c.args.self.now c.next_event.new.self c.next.happened.items c.requires.ready c.in_ok-tried.field-0 c.next.self c.next.invariant c.in_ok-tried.ensures c.in-Empty.is c.in-Some.left c.in-Some.is

pub next-smaller : goal.next-smaller
next-smaller c = come-fewer-left c.args.wanted c.args.self.now c.next_event.new.self c.next.happened.items c.requires.ready c.in_ok-tried.field-0 c.next.self c.next.invariant c.in_ok-tried.ensures c.in-Empty.is c.in-Some.left c.in-Some.is c.supply.new.self c.in_ok-supply-in-Empty.ensures

pub next-preserved : goal.next-preserved
next-preserved c = come-supplied c.args.wanted c.args.self.now c.next_event.new.self c.next.happened.items c.requires.ready c.in_ok-tried.field-0 c.next.self c.next.invariant c.in_ok-tried.ensures c.in-Empty.is c.in-Some.left c.in-Some.is c.supply.new.self c.in_ok-supply-in-Empty.ensures
