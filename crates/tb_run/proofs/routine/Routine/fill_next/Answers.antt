use Rattle.std.proofs.Common.{refl, subst, sym}
use Rattle.std.specs.Prelude.{◌<◌}
use Rattle.tb_run.specs.declared.routine.Routine.{Routine}
use Rattle.tb_run.specs.declared.routine.Ending.TheVariants as endings
use Rattle.tb_run.specs.Routine.{held_in, state_of}
use Rattle.tb_steps.specs.Run.{ask_for}
use Rattle.tb_run.specs.FilledPages.{IsFilledLast}
use Rattle.tb_run.proofs.Filling.FillingLemmas.{IsUnderway, IsAskedAgain, turns_left, underway-start, underway-fits, comes-so}
use Rattle.tb_run.proofs.Filling.MoreLemmas.{none-left}
use Rattle.tb_run.proofs.Filling.PassingLemmas.{come-whole, come-tried, come-fewer, come-sized, come-acted, come-fewer-acted, come-full, come-over, come-fires}
use Rattle.tb_run.proofs.Filling.SupplyingLemmas.{come-takes, come-supplied-so, come-fewer-left}
use Rattle.tb_run.proofs.routine.Routine.fill_next.Goals as goal

pub next-init : goal.next-init
next-init c =
    underway-start c.args.wanted c.args.self.now c.ask-ask.result c.args.happened.now.items (c.ask-ask.ensures c.args.self.now.store (held_in c.args.self.now).boxes (held_in c.args.self.now).waiting) c.requires.ready c.requires.empty

pub next_event-requires-clause-fits : goal.next_event-requires-clause-fits
next_event-requires-clause-fits c =
    underway-fits c.args.wanted c.args.self.now c.next.self c.next.ask c.next.happened.items c.next.invariant c.requires.ready

pub next-smaller-in-Continue-branch-3 : goal.next-smaller-in-Continue-branch-3
next-smaller-in-Continue-branch-3 c =
    come-fewer c.args.wanted c.args.self.now c.next_event.new.self c.next.ask c.next.happened.items c.requires.ready (ask_for (state_of c.args.self.now)) refl c.in_ok-tried.field-0 c.next.self c.next.invariant (comes-so c.args.wanted c.args.self.now c.next.self c.next.ask c.next.happened.items c.next.invariant c.next_event.new.self c.in_ok-tried.field-0 c.in_ok-tried.ensures) c.in-Try.tried c.in-Try.is

pub next-preserved-in-Continue-branch-3 : goal.next-preserved-in-Continue-branch-3
next-preserved-in-Continue-branch-3 c =
    come-tried c.args.wanted c.args.self.now c.next_event.new.self c.next.ask c.next.happened.items c.requires.ready (ask_for (state_of c.args.self.now)) refl c.in_ok-tried.field-0 c.next.self c.next.invariant (comes-so c.args.wanted c.args.self.now c.next.self c.next.ask c.next.happened.items c.next.invariant c.next_event.new.self c.in_ok-tried.field-0 c.in_ok-tried.ensures) c.in-Try.tried c.in-Try.is c.note_try.new.happened.items c.in_ok-note_try-in-Try.ensures

pub act-requires-clause-whole : goal.act-requires-clause-whole
act-requires-clause-whole c =
    come-whole c.args.wanted c.args.self.now c.next_event.new.self c.next.ask c.next.happened.items c.requires.ready (ask_for (state_of c.args.self.now)) refl c.in_ok-tried.field-0 c.next.self c.next.invariant (comes-so c.args.wanted c.args.self.now c.next.self c.next.ask c.next.happened.items c.next.invariant c.next_event.new.self c.in_ok-tried.field-0 c.in_ok-tried.ensures)

pub act-requires-clause-act : goal.act-requires-clause-act
act-requires-clause-act c =
    come-sized c.args.wanted c.args.self.now c.next_event.new.self c.next.ask c.next.happened.items c.requires.ready (ask_for (state_of c.args.self.now)) refl c.in_ok-tried.field-0 c.next.self c.next.invariant (comes-so c.args.wanted c.args.self.now c.next.self c.next.ask c.next.happened.items c.next.invariant c.next_event.new.self c.in_ok-tried.field-0 c.in_ok-tried.ensures) c.in-Act.act c.in-Act.is

pub returns-in-Err : goal.returns-in-Err
returns-in-Err c =
    subst (λ n. IsFilledLast c.args.wanted c.args.self.now (endings.PoolFull n c.in-Err.full.live) c.act.new.self c.next.happened.items) (sym c.line_of.ensures)
    (come-full c.args.wanted c.args.self.now c.next_event.new.self c.next.ask c.next.happened.items c.requires.ready (ask_for (state_of c.args.self.now)) refl c.in_ok-tried.field-0 c.next.self c.next.invariant (comes-so c.args.wanted c.args.self.now c.next.self c.next.ask c.next.happened.items c.next.invariant c.next_event.new.self c.in_ok-tried.field-0 c.in_ok-tried.ensures) c.in-Act.act c.in-Act.is c.act.new.self c.in-Err.full.live c.in-Err.ensures.err)

pub next-smaller-in-Act : goal.next-smaller-in-Act
next-smaller-in-Act c =
    subst (λ (x : Routine). turns_left c.args.self.now x < turns_left c.args.self.now c.next.self) (sym c.in_ok-hand_over-in-Act.ensures.machine)
    (come-fewer-acted c.args.wanted c.args.self.now c.next_event.new.self c.next.ask c.next.happened.items c.requires.ready (ask_for (state_of c.args.self.now)) refl c.in_ok-tried.field-0 c.next.self c.next.invariant (comes-so c.args.wanted c.args.self.now c.next.self c.next.ask c.next.happened.items c.next.invariant c.next_event.new.self c.in_ok-tried.field-0 c.in_ok-tried.ensures) c.in-Act.act c.in-Act.is c.act.new.self c.in_default.ensures.ok)

pub next-preserved-in-Act : goal.next-preserved-in-Act
next-preserved-in-Act c =
    subst (λ (x : Routine). IsUnderway c.args.wanted c.args.self.now x c.ask_again.new.ask c.hand_over.new.happened.items) (sym c.in_ok-hand_over-in-Act.ensures.machine)
    (come-acted c.args.wanted c.args.self.now c.next_event.new.self c.next.ask c.next.happened.items c.requires.ready (ask_for (state_of c.args.self.now)) refl c.in_ok-tried.field-0 c.next.self c.next.invariant (comes-so c.args.wanted c.args.self.now c.next.self c.next.ask c.next.happened.items c.next.invariant c.next_event.new.self c.in_ok-tried.field-0 c.in_ok-tried.ensures) c.in-Act.act c.in-Act.is c.act.new.self c.in_default.ensures.ok
    c.ask_again.new.ask (subst (λ (x : Routine). IsAskedAgain x c.next.ask c.ask_again.new.ask) c.in_ok-hand_over-in-Act.ensures.machine c.ask_again.ensures) c.hand_over.new.happened.items c.in_ok-hand_over-in-Act.ensures.events)

pub returns-in-Fired : goal.returns-in-Fired
returns-in-Fired c =
    come-fires c.args.wanted c.args.self.now c.next_event.new.self c.next.ask c.next.happened.items c.requires.ready (ask_for (state_of c.args.self.now)) refl c.in_ok-tried.field-0 c.next.self c.next.invariant (comes-so c.args.wanted c.args.self.now c.next.self c.next.ask c.next.happened.items c.next.invariant c.next_event.new.self c.in_ok-tried.field-0 c.in_ok-tried.ensures) c.in-Fired.page c.in-Fired.is

pub returns-in_default-left : goal.returns-in_default-left
returns-in_default-left c = come-over c.args.wanted c.args.self.now c.next_event.new.self c.next.ask c.next.happened.items c.requires.ready (ask_for (state_of c.args.self.now)) refl c.in_ok-tried.field-0 c.next.self c.next.invariant (comes-so c.args.wanted c.args.self.now c.next.self c.next.ask c.next.happened.items c.next.invariant c.next_event.new.self c.in_ok-tried.field-0 c.in_ok-tried.ensures) c.in-Empty.is (none-left c.next_event.new.self.left c.in_default-left.not-Some)

pub supply-requires-clause-whole : goal.supply-requires-clause-whole
supply-requires-clause-whole c = come-whole c.args.wanted c.args.self.now c.next_event.new.self c.next.ask c.next.happened.items c.requires.ready (ask_for (state_of c.args.self.now)) refl c.in_ok-tried.field-0 c.next.self c.next.invariant (comes-so c.args.wanted c.args.self.now c.next.self c.next.ask c.next.happened.items c.next.invariant c.next_event.new.self c.in_ok-tried.field-0 c.in_ok-tried.ensures)

pub supply-requires-clause-no_kern : goal.supply-requires-clause-no_kern
supply-requires-clause-no_kern c = come-takes c.args.wanted c.args.self.now c.next_event.new.self c.next.ask c.next.happened.items c.requires.ready (ask_for (state_of c.args.self.now)) refl c.in_ok-tried.field-0 c.next.self c.next.invariant (comes-so c.args.wanted c.args.self.now c.next.self c.next.ask c.next.happened.items c.next.invariant c.next_event.new.self c.in_ok-tried.field-0 c.in_ok-tried.ensures) c.in-Empty.is c.in-Some.left c.in-Some.is

pub next-smaller : goal.next-smaller
next-smaller c = come-fewer-left c.args.wanted c.args.self.now c.next_event.new.self c.next.ask c.next.happened.items c.requires.ready (ask_for (state_of c.args.self.now)) refl c.in_ok-tried.field-0 c.next.self c.next.invariant (comes-so c.args.wanted c.args.self.now c.next.self c.next.ask c.next.happened.items c.next.invariant c.next_event.new.self c.in_ok-tried.field-0 c.in_ok-tried.ensures) c.in-Empty.is c.in-Some.left c.in-Some.is c.supply.new.self c.in_ok-supply-in-Empty.ensures

pub next-preserved : goal.next-preserved
next-preserved c = come-supplied-so c.args.wanted c.args.self.now c.next_event.new.self c.next.ask c.next.happened.items c.requires.ready (ask_for (state_of c.args.self.now)) refl c.in_ok-tried.field-0 c.next.self c.next.invariant (comes-so c.args.wanted c.args.self.now c.next.self c.next.ask c.next.happened.items c.next.invariant c.next_event.new.self c.in_ok-tried.field-0 c.in_ok-tried.ensures) c.in-Empty.is c.in-Some.left c.in-Some.is c.supply.new.self c.in_ok-supply-in-Empty.ensures
