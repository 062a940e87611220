use Rattle.std.proofs.Common.{◌≡◌, ◌++◌, take, drop}
use Rattle.tb_told.specs.ColumnPieces.{in_column, told_choices}
use Rattle.tb_told.proofs.company.tell_joins.Given as goal

abbrev pub invariant-loop-k : goal.invariant-loop-k
invariant-loop-k l = l.pieces.items ++ in_column (told_choices l.wanted (take l.k l.company) (drop l.k l.company)) ≡ l.initial.pieces.items ++ in_column (told_choices l.wanted (take l.fn.place l.company) (drop l.fn.place l.company))
