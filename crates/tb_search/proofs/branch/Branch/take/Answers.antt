use Rattle.std.proofs.Common.{refl, sym, subst, ◌∙◌, ap, []}
use Rattle.std.specs.Prelude.{not, Some, None, if◌then◌else◌}
use Rattle.std.proofs.lemmas.List.Elements.{All-from_recursion}
use Rattle.tb_output.specs.Machine.{MachineView}
use Rattle.tb_items.specs.GalleyNodes.{IsGalleyNode}
use Rattle.tb_steps.specs.Runnable.{AreRunnable}
use Rattle.tb_run.specs.declared.routine.Routine.{Routine}
use Rattle.tb_run.specs.Routine.{state_of}
use Rattle.tb_search.specs.Branches.{HasHanded}
use Rattle.tb_search.proofs.TakenLemmas.{taken-branch, none-limit}
use Rattle.tb_search.proofs.branch.Branch.take.Goals as goal

pub most_limit-requires-clause-params : goal.most_limit-requires-clause-params
most_limit-requires-clause-params c =
    subst (λ (v : MachineView). AreRunnable v.params) (sym c.in_ok-more.ensures.wait.machine) (subst (λ (x : Routine). AreRunnable x.machine.params) (sym c.deref_mut-routine.ensures.value) c.requires.ready.settled.params)

pub returns-then-not-more-clause-branch : goal.returns-then-not-more-clause-branch
returns-then-not-more-clause-branch c = λ few.
    taken-branch c.args.self.now c.in-Some.ahead c.in-Some.is c.requires [] (All-from_recursion (IsGalleyNode (state_of c.args.self.now.routine.value).classes) [] tt) refl None c.hand_next.new.routine
    (subst (λ (x : Routine). HasHanded [] c.in-Some.ahead None x c.hand_next.new.routine) c.deref_mut-routine.ensures.value
    (subst (λ b. HasHanded [] c.in-Some.ahead (if b then Some c.hand_next.new.ahead else None) c.deref_mut-routine.result.now c.hand_next.new.routine) c.if-not-more.true c.in_ok-more.ensures))
    c.most_limit.new.self c.most_limit.ensures.same (none-limit c.most_limit.result _ (c.is_none-few.ensures ∙ ap not few) c.most_limit.ensures.bounded)

pub returns-else-not-more-clause-branch : goal.returns-else-not-more-clause-branch
returns-else-not-more-clause-branch c = λ few.
    taken-branch c.args.self.now c.in-Some.ahead c.in-Some.is c.requires [] (All-from_recursion (IsGalleyNode (state_of c.args.self.now.routine.value).classes) [] tt) refl (Some c.hand_next.new.ahead) c.hand_next.new.routine
    (subst (λ (x : Routine). HasHanded [] c.in-Some.ahead (Some c.hand_next.new.ahead) x c.hand_next.new.routine) c.deref_mut-routine.ensures.value
    (subst (λ b. HasHanded [] c.in-Some.ahead (if b then Some c.hand_next.new.ahead else None) c.deref_mut-routine.result.now c.hand_next.new.routine) c.if-not-more.false c.in_ok-more.ensures))
    c.most_limit.new.self c.most_limit.ensures.same (none-limit c.most_limit.result _ (c.is_none-few.ensures ∙ ap not few) c.most_limit.ensures.bounded)
