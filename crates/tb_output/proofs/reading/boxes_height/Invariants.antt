use Rattle.std.proofs.Common.{drop}
use Rattle.tb_builder.specs.Contents.{contents_of}
use Rattle.tb_output.proofs.Firings.ReadingLemmas.{IsReadSoFar}
use Rattle.tb_output.proofs.reading.boxes_height.Given as goal

abbrev pub invariant-loop-class : goal.invariant-loop-class
invariant-loop-class l = IsReadSoFar l.classes (drop l.class-index l.classes) (contents_of l.b l.store).boxes l.class-index l.height
