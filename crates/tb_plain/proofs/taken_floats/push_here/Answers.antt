use Rattle.std.proofs.Common.{rules, FitsSigned, w64}
use Rattle.std.proofs.lemmas.Int.{to_z-of_z}
use Rattle.tb_column.proofs.StoreLemmas.{with_list-added}
use Rattle.tb_plain.proofs.taken_floats.push_here.Goals as goal

pub returns : goal.returns
returns c =
    let fits : FitsSigned w64 c.args.f.now.height = search rules in
    let flat = simp to_z-of_z at c.push_float.ensures.lists in
    let two = with_list-added c.args.store.now c.push_made.new.store c.push_float.new.store c.args.l _ _ c.push_made.ensures.lists flat in
    let three = with_list-added c.args.store.now c.push_float.new.store c.push_made-2.new.store c.args.l _ _ two c.push_made-2.ensures.lists in
    record { lists = with_list-added c.args.store.now c.push_made-2.new.store c.push_made-3.new.store c.args.l _ _ three c.push_made-3.ensures.lists }
