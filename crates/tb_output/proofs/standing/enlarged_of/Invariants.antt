use Rattle.std.proofs.Common.{◌≡◌, drop}
use Rattle.tb_column.specs.Column.{enlarged_of}
use Rattle.tb_column.specs.Notes.{notes_shown}
use Rattle.tb_output.proofs.standing.enlarged_of.Given as goal

abbrev pub invariant-loop-note : goal.invariant-loop-note
invariant-loop-note l = enlarged_of l.shrink (notes_shown l.store (drop l.note-index l.notes)) ≡ enlarged_of l.shrink (notes_shown l.store l.notes)
