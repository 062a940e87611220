use Rattle.std.proofs.Common.{◌≡◌, drop, false}
use Rattle.std.specs.Prelude.{replicate}
use Rattle.tb_search.specs.Ways.{marked}
use Rattle.tb_search.proofs.table.flags.Given as goal

-- what is left of the numbers is marked as all are
abbrev pub invariant-loop-number : goal.invariant-loop-number
invariant-loop-number l = marked l.flags.items (drop l.number-index l.numbers) ≡ marked (replicate l.count false) l.numbers
