use Rattle.std.proofs.Common.{sym, subst, ◌∙◌, ap, ℤ, ◌∷◌, [], FitsSigned, w64, rules}
use Rattle.std.proofs.lemmas.Int.{to_z-of_z}
use Rattle.std.specs.FinMap.{remove}
use Rattle.tb_node.specs.PlainNodes.{plain_list}
use Rattle.tb_output.specs.Output.{hold}
use Rattle.tb_output.specs.Machine.{MachineView}
use Rattle.tb_output.specs.PageChanges.{with_held}
use Rattle.tb_output.specs.FiringWork.{shows, Does}
use Rattle.tb_output.specs.MachineFrame.{KeepsMachine}
use Rattle.tb_output.proofs.Firings.HoldLemmas.{held-keeps, held-done}
use Rattle.tb_output.proofs.Machine.hold.Goals as goal

pub returns-clause-done : goal.returns-clause-done
returns-clause-done c =
    let fits : FitsSigned w64 c.args.room = search rules in
    let held = c.exchange_held-before.ensures.machine ∙ ap (λ (z : ℤ). with_held c.args.body z c.args.self.now) (to_z-of_z w64 c.args.room fits) in
    let dropped = c.drop_list.ensures ∙ ap (remove c.args.store.now.lists) c.exchange_held-before.ensures.before in
    subst (λ (v : MachineView). Does (shows c.args.self.now c.args.store.now) (shows v c.drop_list.new.store) (hold (plain_list c.args.store.now c.args.body))) (sym held)
    (held-done c.args.body c.args.room c.args.self.now c.args.store.now c.drop_list.new.store c.requires.machine c.requires.body c.requires.room c.requires.apart dropped)

pub returns-clause-keeps : goal.returns-clause-keeps
returns-clause-keeps c =
    let fits : FitsSigned w64 c.args.room = search rules in
    let held = c.exchange_held-before.ensures.machine ∙ ap (λ (z : ℤ). with_held c.args.body z c.args.self.now) (to_z-of_z w64 c.args.room fits) in
    let dropped = c.drop_list.ensures ∙ ap (remove c.args.store.now.lists) c.exchange_held-before.ensures.before in
    subst (λ (v : MachineView). KeepsMachine (c.args.body ∷ []) c.args.self.now v c.args.store.now c.drop_list.new.store) (sym held)
    (held-keeps c.args.body c.args.room c.args.self.now c.args.store.now c.drop_list.new.store c.requires.machine c.requires.body c.requires.room c.requires.apart dropped)
