use Rattle.std.proofs.Common.{◌≡◌, ◌++◌, take, drop}
use Rattle.tb_float.specs.Lists.{float_entries, floats_of}
use Rattle.tb_told.specs.ColumnTold.{told_from, told_column}
use Rattle.tb_told.specs.ColumnPieces.{in_column}
use Rattle.tb_told.proofs.company.tell_floats.Given as goal

abbrev pub invariant-loop-entry : goal.invariant-loop-entry
invariant-loop-entry l = record {
  can_next : (goal.iterator-loop-entry).can_next l.entry-iterator;
  is_finite : (goal.iterator-loop-entry).is_finite l.entry-iterator;
  left : l.entry-iterator ≡ float_entries (drop l.place (floats_of l.fn.from l.fn.pool.lists));
  told : l.pieces.items ++ in_column (told_from l.wanted (take l.place (floats_of l.fn.from l.fn.pool.lists)) (drop l.place (floats_of l.fn.from l.fn.pool.lists))) ≡ l.initial.pieces.items ++ in_column (told_column l.wanted (floats_of l.fn.from l.fn.pool.lists));
}
