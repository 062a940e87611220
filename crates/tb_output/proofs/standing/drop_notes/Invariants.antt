use Rattle.tb_output.proofs.Firings.DroppedNotes.{DroppedSoFar}
use Rattle.tb_output.proofs.standing.drop_notes.Given as goal

abbrev pub invariant-loop-note : goal.invariant-loop-note
invariant-loop-note l = DroppedSoFar l.notes l.note-index l.fn.store l.store
