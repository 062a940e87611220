use Rattle.std.proofs.Common.{◌≡◌, take}
use Rattle.tb_search.proofs.table.breaks_with.Given as goal

-- the breaks so far are copied
abbrev pub invariant-loop-number : goal.invariant-loop-number
invariant-loop-number l = l.copy.items ≡ take l.number-index l.breaks
