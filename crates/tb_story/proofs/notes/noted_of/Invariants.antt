use Rattle.std.proofs.Common.{◌≡◌, drop}
use Rattle.tb_story.specs.Summary.{noted_of}
use Rattle.tb_story.proofs.notes.noted_of.Given as goal

abbrev pub invariant-loop-n : goal.invariant-loop-n
invariant-loop-n l = noted_of l.line l.notes ≡ noted_of l.line (drop l.n-index l.notes)
