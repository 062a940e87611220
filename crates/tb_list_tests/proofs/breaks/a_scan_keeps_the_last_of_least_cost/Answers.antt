use Rattle.std.proofs.Common.{◌≤ℤ◌, pos, [], ◌∷◌, arith}
use Rattle.std.proofs.lemmas.Int.{ints}
use Rattle.std.proofs.lemmas.List.Elements.{All-from_recursion}
use Rattle.tb_node.specs.PlainNodes.{shape_of}
use Rattle.tb_node.specs.Fit.{IsSized}
use Rattle.tb_node.proofs.FitLemmas.{sized-fits}
use Rattle.tb_break.proofs.ScanLemmas.{stands-fits}
use Rattle.tb_list_tests.proofs.breaks.a_scan_keeps_the_last_of_least_cost.Goals as goal

pub add-requires-2-clause-fits : goal.add-requires-2-clause-fits
add-requires-2-clause-fits g c =
    let one = c.add.ensures.stands (pos 0) [] [] c.new_scan-scan.ensures.stands in
    let tried = c.offer.ensures.stands (pos 0) _ [] one in
    let low : pos 0 ≤ℤ pos 0 = omega (arith, ints) in
    stands-fits _ (pos 0) _ (shape_of c.make_box-2.result) tried low (record { sized = All-from_recursion IsSized (shape_of c.make_box.result ∷ shape_of c.make_box-2.result ∷ []) (c.make_box.ensures, (c.make_box-2.ensures, tt)); few = omega arith })

pub add-requires-3-clause-node : goal.add-requires-3-clause-node
add-requires-3-clause-node g c = sized-fits (shape_of c.make_box-3.result) c.make_box-3.ensures

pub add-requires-3-clause-fits : goal.add-requires-3-clause-fits
add-requires-3-clause-fits g c =
    let one = c.add.ensures.stands (pos 0) [] [] c.new_scan-scan.ensures.stands in
    let tried = c.offer.ensures.stands (pos 0) _ [] one in
    let two = c.add-2.ensures.stands (pos 0) _ [] tried in
    let again = c.offer-second.ensures.stands (pos 0) _ [] two in
    let low : pos 0 ≤ℤ pos 0 = omega (arith, ints) in
    stands-fits _ (pos 0) _ (shape_of c.make_box-3.result) again low (record { sized = All-from_recursion IsSized (shape_of c.make_box.result ∷ shape_of c.make_box-2.result ∷ shape_of c.make_box-3.result ∷ []) (c.make_box.ensures, (c.make_box-2.ensures, (c.make_box-3.ensures, tt))); few = omega arith })

pub add-requires-2-clause-node : goal.add-requires-2-clause-node
add-requires-2-clause-node g c = sized-fits (shape_of c.make_box-2.result) c.make_box-2.ensures
