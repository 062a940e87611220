use Rattle.std.proofs.Common.{drop}
use Rattle.tb_output.proofs.ColumnPages.SizeLemmas.{IsHeightSoFar}
use Rattle.tb_output.proofs.texts.notes_height.Given as goal

abbrev pub invariant-loop-note : goal.invariant-loop-note
invariant-loop-note l = IsHeightSoFar l.store l.notes (drop l.note-index l.notes) l.note-index l.height
