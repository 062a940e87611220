use Rattle.std.proofs.Common.{sym, subst, ◌∙◌, ap}
use Rattle.std.specs.Prelude.{not, Some, None, if◌then◌else◌}
use Rattle.tb_output.specs.Machine.{MachineView}
use Rattle.tb_steps.specs.Runnable.{AreRunnable}
use Rattle.tb_run.specs.declared.routine.Routine.{Routine}
use Rattle.tb_run.specs.Routine.{state_of}
use Rattle.tb_search.specs.Branches.{first_break, HasHanded}
use Rattle.tb_search.proofs.ServedLemmas.{break-good, break-notes}
use Rattle.tb_search.proofs.TakenLemmas.{taken-branch, none-limit}
use Rattle.tb_search.proofs.branch.Branch.cut.Goals as goal

pub most_limit-requires-clause-params : goal.most_limit-requires-clause-params
most_limit-requires-clause-params c =
    subst (λ (v : MachineView). AreRunnable v.params) (sym c.in_ok-more.ensures.wait.machine) (subst (λ (x : Routine). AreRunnable x.machine.params) (sym c.deref_mut-routine.ensures.value) c.requires.ready.settled.params)

pub returns-then-not-more-clause-branch : goal.returns-then-not-more-clause-branch
returns-then-not-more-clause-branch c = λ few.
    taken-branch c.args.self.now c.in-Some.ahead c.in-Some.is c.requires (first_break c.in-Some.ahead.items.now) (break-good (state_of c.args.self.now.routine.value).classes c.in-Some.ahead.items.now) (break-notes c.in-Some.ahead.items.now) None c.hand_cut.new.routine
    (subst (λ (x : Routine). HasHanded (first_break c.in-Some.ahead.items.now) c.in-Some.ahead None x c.hand_cut.new.routine) c.deref_mut-routine.ensures.value
    (subst (λ b. HasHanded (first_break c.in-Some.ahead.items.now) c.in-Some.ahead (if b then Some c.hand_cut.new.ahead else None) c.deref_mut-routine.result.now c.hand_cut.new.routine) c.if-not-more.true c.in_ok-more.ensures))
    c.most_limit.new.self c.most_limit.ensures.same (none-limit c.most_limit.result _ (c.is_none-few.ensures ∙ ap not few) c.most_limit.ensures.bounded)

pub returns-else-not-more-clause-branch : goal.returns-else-not-more-clause-branch
returns-else-not-more-clause-branch c = λ few.
    taken-branch c.args.self.now c.in-Some.ahead c.in-Some.is c.requires (first_break c.in-Some.ahead.items.now) (break-good (state_of c.args.self.now.routine.value).classes c.in-Some.ahead.items.now) (break-notes c.in-Some.ahead.items.now) (Some c.hand_cut.new.ahead) c.hand_cut.new.routine
    (subst (λ (x : Routine). HasHanded (first_break c.in-Some.ahead.items.now) c.in-Some.ahead (Some c.hand_cut.new.ahead) x c.hand_cut.new.routine) c.deref_mut-routine.ensures.value
    (subst (λ b. HasHanded (first_break c.in-Some.ahead.items.now) c.in-Some.ahead (if b then Some c.hand_cut.new.ahead else None) c.deref_mut-routine.result.now c.hand_cut.new.routine) c.if-not-more.false c.in_ok-more.ensures))
    c.most_limit.new.self c.most_limit.ensures.same (none-limit c.most_limit.result _ (c.is_none-few.ensures ∙ ap not few) c.most_limit.ensures.bounded)
