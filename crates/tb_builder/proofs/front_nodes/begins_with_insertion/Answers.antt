use Rattle.std.proofs.Common.{◌∙◌, sym, ap}
use Rattle.tb_pool.specs.Lists.{list_at}
use Rattle.tb_builder.specs.Firing.{begins_with_insertion}
use Rattle.tb_builder.proofs.Turns.FillLemmas.{first_is}
use Rattle.tb_builder.proofs.Events.FilledLemmas.{none_first}
use Rattle.tb_builder.proofs.front_nodes.begins_with_insertion.Goals as goal

pub returns-in-Some : goal.returns-in-Some
returns-in-Some c =
    let f = first_is (list_at c.args.store.now c.args.l) c.in-Some.n.now (sym c.in-Some.ensures) in
    c.is_insertion.ensures ∙ sym (ap begins_with_insertion f.1)

pub returns-in-None : goal.returns-in-None
returns-in-None c = sym (ap begins_with_insertion (none_first (list_at c.args.store.now c.args.l) (sym c.in-None.ensures)))
