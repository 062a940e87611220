use Rattle.std.proofs.Common.{◌∙◌, ap, FitsSigned, w64, rules}
use Rattle.std.proofs.lemmas.Int.{to_z-of_z}
use Rattle.std.specs.Prelude.{◌+ℤ◌}
use Rattle.tb_node.specs.declared.Sums.{Sums}
use Rattle.tb_break.specs.SplitPlace.{scan_place}
use Rattle.tb_break.proofs.FindLemmas.{found_is}
use Rattle.tb_break.proofs.splits.visit.Goals as goal

pub returns-clause-scan : goal.returns-clause-scan
returns-clause-scan c =
    let h : FitsSigned w64 c.args.height = c.ranges.height in
    let p : FitsSigned w64 c.in-Some.penalty = search rules in
    let kept = simp to_z-of_z at c.offer-offer.ensures.kept in
    rw c.in-Some.is kept

pub returns-clause-best : goal.returns-clause-best
returns-clause-best c =
    let h : FitsSigned w64 c.args.height = c.ranges.height in
    let p : FitsSigned w64 c.in-Some.penalty = search rules in
    let k : FitsSigned w64 c.offer-offer.result.cost = search rules in
    let z : FitsSigned w64 c.height_and_depth.result = search rules in
    let value = simp to_z-of_z at c.offer-offer.ensures.value in
    let made = simp to_z-of_z at c.make_found.ensures in
    let size = c.height_and_depth.ensures ∙ ap (λ (s : Sums). s.total +ℤ s.depth) c.sums-sums.ensures.value in
    rw c.in-Some.is (found_is (scan_place c.args.scan.now c.args.index c.args.height c.in-Some.penalty) c.args.scan.now.best c.offer-offer.result c.make_found.result c.found_if.result c.args.best.now c.args.kind c.height_and_depth.result value size made c.found_if.ensures)

pub returns-clause-stop : goal.returns-clause-stop
returns-clause-stop c =
    let h : FitsSigned w64 c.args.height = c.ranges.height in
    let p : FitsSigned w64 c.in-Some.penalty = search rules in
    let value = simp to_z-of_z at c.offer-offer.ensures.value in
    rw c.in-Some.is (ap (λ o. o.stop) value)
