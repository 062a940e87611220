use Rattle.std.proofs.Common.{rules, FitsSigned, w64}
use Rattle.std.proofs.lemmas.Int.{to_z-of_z}
use Rattle.tb_column.proofs.StoreLemmas.{with_list-added}
use Rattle.tb_column.proofs.nodes.push_some_rule.Goals as goal

pub returns-clause-lists : goal.returns-clause-lists
returns-clause-lists c =
    let above : FitsSigned w64 c.args.rule.above = search rules in
    let height : FitsSigned w64 c.args.rule.height = search rules in
    let below : FitsSigned w64 c.args.rule.below = search rules in
    let one = simp to_z-of_z at c.push_made.ensures.lists in
    let two = simp to_z-of_z at c.push_made-2.ensures.lists in
    let three = simp to_z-of_z at c.push_made-3.ensures.lists in
    let both = with_list-added c.args.store.now c.push_made.new.store c.push_made-2.new.store c.args.l _ _ one two in
    with_list-added c.args.store.now c.push_made-2.new.store c.push_made-3.new.store c.args.l _ _ both three
