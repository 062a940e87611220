use Rattle.std.proofs.Common.{◌∙◌, rules, ap, pos, FitsSigned, w64, arith}
use Rattle.std.proofs.lemmas.Int.{to_z-of_z, ints}
use Rattle.tb_node.proofs.FitLemmas.{list_nodes_fit, list_sums_fit}
use Rattle.tb_float.specs.Pool.{marked_floats}
use Rattle.tb_column.proofs.PageLemmas.{is-opened, opened-frame, none-marked, page-column}
use Rattle.tb_column.proofs.float_columns.float_column.Goals as goal

pub pack-requires-clause-nodes : goal.pack-requires-clause-nodes
pack-requires-clause-nodes c = list_nodes_fit c.open_page.new.store c.in_ok-list.list c.in_ok-list.ensures.page.sized

pub pack-requires-clause-sums : goal.pack-requires-clause-sums
pack-requires-clause-sums c = list_sums_fit c.open_page.new.store c.in_ok-list.list (pos 0) (omega (arith, ints)) c.in_ok-list.ensures.page.sized c.in_ok-list.ensures.page.few

pub returns-clause-column : goal.returns-clause-column
returns-clause-column c =
    let height : FitsSigned w64 c.args.height = search rules in
    let set = simp to_z-of_z at c.pack.ensures.value in
    page-column c.args.store.now c.open_page.new.store c.in_ok-list.list c.args.wide c.args.p.now (marked_floats c.args.from c.args.pool.now) c.in_ok-list.ensures.lists c.args.height c.pack.result set

pub returns-clause-opened : goal.returns-clause-opened
returns-clause-opened c = is-opened c.args.store.now c.open_page.new.store c.in_ok-list.list _ c.in_ok-list.ensures.fresh c.in_ok-list.ensures.lists

pub returns-clause-frame : goal.returns-clause-frame
returns-clause-frame c = opened-frame c.args.store.now c.open_page.new.store c.in_ok-list.list _ c.in_ok-list.ensures.fresh c.in_ok-list.ensures.lists

pub returns-clause-unmarked : goal.returns-clause-unmarked
returns-clause-unmarked c = ap (marked_floats c.args.from) c.in_ok-list.ensures.pool ∙ none-marked c.args.from c.args.pool.now c.requires.waiting
