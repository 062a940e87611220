use Rattle.std.proofs.Common.{refl, sym, subst, ◌∙◌, [], Bool}
use Rattle.std.specs.Prelude.{if◌then◌else◌}
use Rattle.tb_builder.proofs.Events.WalkLemmas.{list_there}
use Rattle.tb_output.specs.BackList.{clear_list}
use Rattle.tb_output.specs.MachineFrame.{HasGrown}
use Rattle.tb_output.proofs.InText.PushLemmas.{grown-of, grown-none}
use Rattle.tb_output.proofs.Machine.clear_rest.Goals as goal

pub returns-in_ok-push_clear-clause-ok : goal.returns-in_ok-push_clear-clause-ok
returns-in_ok-push_clear-clause-ok c =
    subst (λ (t : Bool). HasGrown c.args.back (if t then clear_list else []) [] c.args.store.now c.push_clear.new.store) (sym (sym c.is_waited_for.ensures ∙ c.if-is_waited_for.true))
    (grown-of c.args.store.now c.push_clear.new.store c.args.back clear_list [] c.in_ok-push_clear.ensures.ok)

pub returns-else-is_waited_for-clause-ok : goal.returns-else-is_waited_for-clause-ok
returns-else-is_waited_for-clause-ok c =
    subst (λ (t : Bool). HasGrown c.args.back (if t then clear_list else []) [] c.args.store.now c.args.store.now) (sym (sym c.is_waited_for.ensures ∙ c.if-is_waited_for.false))
    (grown-none c.args.store.now c.args.store.now c.args.back [] (list_there c.args.store.now c.args.back c.requires) refl)
