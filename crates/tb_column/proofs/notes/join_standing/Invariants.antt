use Rattle.std.proofs.Common.{take}
use Rattle.tb_column.specs.Notes.{boxes_at}
use Rattle.tb_column.proofs.NoteLemmas.{JoinedSoFar}
use Rattle.tb_column.proofs.notes.join_standing.Given as goal

abbrev pub invariant-loop-note : goal.invariant-loop-note
invariant-loop-note l = JoinedSoFar l.p l.kern l.body l.fn.store (boxes_at l.standing (take l.note-index l.notes)) l.store
