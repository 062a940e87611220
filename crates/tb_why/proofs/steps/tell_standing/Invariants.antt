use Rattle.std.proofs.Common.{◌≡◌, ◌++◌, map, take}
use Rattle.tb_told.specs.declared.Tale.TheVariants.{Stands}
use Rattle.tb_told.specs.Tales.{tales}
use Rattle.tb_why.proofs.steps.tell_standing.Given as goal

abbrev pub invariant-loop-line : goal.invariant-loop-line
invariant-loop-line l = l.pieces.items ≡ l.fn.pieces.items ++ tales (map (λ n. Stands n) (take l.line-index l.here))
