use Rattle.std.proofs.Common.{◌≡◌, subst, ◌+◌, ◌-◌, suc, ◌<◌, drop, length, arith}
use Rattle.std.specs.Prelude.{◌/◌}
use Rattle.tb_rate.specs.Places.{own_penalty}
use Rattle.tb_search.proofs.PenaltyLemmas.{passed}
use Rattle.tb_search.proofs.penalties.first_on.Goals as goal

pub halves-preserved-then-places-middle : goal.halves-preserved-then-places-middle
halves-preserved-then-places-middle c =
    let qs = c.args.places.now in
    let middle = c.halves.first + (c.halves.last - c.halves.first) / 2 in
    let next : suc middle ≡ middle + 1 = omega arith in
    let test = c.halves-test.true in
    let last = c.halves.invariant.last in
    let inside : middle < length qs = omega (arith, test, last) in
    record {
      first = omega (arith, inside);
      last = last;
      same = subst (λ n. own_penalty (drop n qs) c.args.line ≡ own_penalty qs c.args.line) next (passed 0 middle qs c.args.line _ c.requires inside c.if-places-middle.true);
    }
