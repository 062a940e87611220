use Rattle.std.proofs.Common.{◌≡◌, sym, subst, [], None}
use Rattle.tb_output.specs.State.{first_state}
use Rattle.tb_items.specs.Classes.{classes_of}
use Rattle.tb_run.specs.declared.routine.Routine.{Routine}
use Rattle.tb_run.specs.Routine.{state_of, IsReady}
use Rattle.tb_search.proofs.AheadLemmas.{begins-with-all}
use Rattle.tb_search.proofs.StartLemmas.{start-branch}
use Rattle.tb_search.proofs.branch.Branch.start.Goals as goal

pub returns-clause-branch : goal.returns-clause-branch
returns-clause-branch c =
    let made = c.in_ok-empty.ensures in
    let same = sym c.in_ok-routine.ensures.ok in
    start-branch c.args.galley.now c.in_ok-routine.routine c.all_items.result (subst IsReady same made.ready) (subst (λ (r : Routine). r.left ≡ None) same made.left)
    (subst (λ (r : Routine). state_of r ≡ first_state c.args.galley.now.params (classes_of c.args.galley.now) []) same made.state) c.all_items.ensures.nodes c.all_items.ensures.items c.requires.items c.requires.nodes

pub returns-clause-items : goal.returns-clause-items
returns-clause-items c = begins-with-all c.args.galley.now c.all_items.result c.all_items.ensures.galley c.all_items.ensures.params c.all_items.ensures.items c.all_items.ensures.columns
