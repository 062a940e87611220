use Rattle.std.proofs.Common.{rules, FitsSigned, w64}
use Rattle.std.proofs.lemmas.Int.{to_z-of_z}
use Rattle.tb_column.proofs.StoreLemmas.{with_list-added}
use Rattle.tb_plain.proofs.taken_floats.push_page.Goals as goal

pub returns-clause-lists : goal.returns-clause-lists
returns-clause-lists c =
    let fits : FitsSigned w64 c.args.p.now.textheight = search rules in
    let second = simp to_z-of_z at c.push_float.ensures.lists in
    with_list-added c.args.store.now c.push_made.new.store c.push_float.new.store c.args.l _ _ c.push_made.ensures.lists second
