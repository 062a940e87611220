use Rattle.std.proofs.Common.{◌≡◌, ◌*◌, ◌≤◌, take}
use Rattle.tb_column.specs.TextColumns.{above_count}
use Rattle.tb_column.proofs.notes.above_count.Given as goal

abbrev pub invariant-loop-note : goal.invariant-loop-note
invariant-loop-note l = record { value : l.count ≡ above_count (take l.note-index l.notes); bound : l.count ≤ 6 * l.note-index; few : l.note-index ≤ 256 }
