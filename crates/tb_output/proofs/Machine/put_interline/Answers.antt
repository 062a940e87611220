use Rattle.std.proofs.Common.{◌≡◌, refl, sym, subst, [], ◌++◌, FitsSigned, w64, rules}
use Rattle.std.proofs.lemmas.Int.{to_z-of_z, ints}
use Rattle.tb_pool.specs.Lists.{list_at, with_list}
use Rattle.tb_node.specs.Fit.{IsPenalty}
use Rattle.tb_output.specs.Machine.{MachineView}
use Rattle.tb_output.specs.BackList.{between_list}
use Rattle.tb_output.specs.MachineFrame.{HasGrown}
use Rattle.tb_output.proofs.InText.PushLemmas.{grown-of}
use Rattle.tb_output.proofs.FiringWork.ResultLemmas.{memory-err}
use Rattle.tb_output.proofs.FiringWork.StepLemmas.{no-room}
use Rattle.tb_output.proofs.InText.TextSteps.{interline-done}
use Rattle.tb_output.proofs.StepLaws.WorkSteps.{continues-puts_interline}
use Rattle.tb_output.proofs.Machine.put_interline.Goals.{In_ok-push_between}
use Rattle.tb_output.proofs.Machine.put_interline.Goals as goal

pub returns-in_err-push_between-clause-err : goal.returns-in_err-push_between-clause-err
returns-in_err-push_between-clause-err c =
    memory-err c.from_residual.result _ c.from_residual.ensures.1
    (no-room _ _ _ _ _ _ c.requires.machine c.requires.back refl c.in_err-push_between.ensures.err (continues-puts_interline c.args.self.now.params c.args.nobreak)).does

pub returns-in_err-push_between-clause-keeps : goal.returns-in_err-push_between-clause-keeps
returns-in_err-push_between-clause-keeps c = (no-room _ _ _ _ _ _ c.requires.machine c.requires.back refl c.in_err-push_between.ensures.err (continues-puts_interline c.args.self.now.params c.args.nobreak)).keeps

-- the penalty is at the end of what goes back
grown : (c : In_ok-push_between) → HasGrown c.args.back (between_list c.args.self.now.params.interlinepenalty c.args.nobreak (list_at c.args.store.now c.args.back)) [] c.args.store.now c.push_between.new.store
grown c =
    let i = c.self.inside in
    let ns = list_at c.args.store.now c.args.back in
    let small : IsPenalty i.params.interlinepenalty = subst (λ (v : MachineView). IsPenalty v.params.interlinepenalty) (sym c.self.view_is) c.requires.machine.params.interlinepenalty in
    let fits : FitsSigned w64 i.params.interlinepenalty = search (rules, ints, small) in
    let put : c.push_between.new.store.lists ≡ with_list c.args.store.now c.args.back (ns ++ between_list i.params.interlinepenalty c.args.nobreak ns) = simp to_z-of_z at c.in_ok-push_between.ensures.ok in
    grown-of _ _ _ _ [] (subst (λ (v : MachineView). c.push_between.new.store.lists ≡ with_list c.args.store.now c.args.back (ns ++ between_list v.params.interlinepenalty c.args.nobreak ns)) c.self.view_is put)

pub returns-clause-ok : goal.returns-clause-ok
returns-clause-ok c = (interline-done _ _ _ _ c.args.nobreak c.requires.machine c.requires.back (grown (goal.at.returns-clause-ok c).In_ok-push_between)).does

pub returns-clause-keeps : goal.returns-clause-keeps
returns-clause-keeps c = (interline-done _ _ _ _ c.args.nobreak c.requires.machine c.requires.back (grown (goal.at.returns-clause-keeps c).In_ok-push_between)).keeps
