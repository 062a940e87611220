use Rattle.std.proofs.Common.{◌≡◌, ◌≤◌, ◌-◌, length, drop}
use Rattle.std.specs.Prelude.{reverse}
use Rattle.tb_lines.specs.LeastSolution.{is_greater}
use Rattle.tb_search.proofs.table.is_greater.Given as goal

-- so many of the last breaks are equal
abbrev pub invariant-loop-k : goal.invariant-loop-k
invariant-loop-k l = record {
  first : l.k ≤ length l.a;
  second : l.k ≤ length l.b;
  same : is_greater (drop l.k (reverse l.a)) (drop l.k (reverse l.b)) ≡ is_greater (reverse l.a) (reverse l.b);
}

abbrev pub decreases-loop-k : goal.decreases-loop-k
decreases-loop-k l = length l.a - l.k
