use Rattle.std.proofs.Common.{◌≡◌, ◌++◌, drop}
use Rattle.tb_told.specs.ColumnPieces.{in_column, taken_told}
use Rattle.tb_told.proofs.company.tell_taken.Given as goal

abbrev pub invariant-loop-choice : goal.invariant-loop-choice
invariant-loop-choice l = l.pieces.items ++ in_column (taken_told (drop l.choice-index l.company)) ≡ l.initial.pieces.items ++ in_column (taken_told l.company)
