use Rattle.tb_output.specs.Notes.{boxes_held}
use Rattle.tb_output.proofs.Firings.ClassesTaken.{TakenSoFar}
use Rattle.tb_output.proofs.notes.take_notes.Given as goal

abbrev pub invariant-loop-class : goal.invariant-loop-class
invariant-loop-class l = TakenSoFar l.classes l.class-index (boxes_held l.notes) l.fn.b l.b l.fn.store l.store
