use Rattle.std.proofs.Common.{◌≡◌, drop}
use Rattle.tb_pool.specs.Lists.{Lists}
use Rattle.tb_node.specs.declared.Node.{Node}
use Rattle.tb_builder.specs.Contents.{contents_of}
use Rattle.tb_column.specs.Column.{standing_notes}
use Rattle.tb_output.specs.State.{notes_in}
use Rattle.tb_output.specs.Reading.{any_notes}
use Rattle.tb_output.proofs.reading.any_boxes.Given as goal

abbrev pub invariant-loop-class : goal.invariant-loop-class
invariant-loop-class l = (s : Lists Node) → any_notes (standing_notes (notes_in (drop l.class-index l.classes) (contents_of l.b s).boxes)) ≡ any_notes (standing_notes (notes_in l.classes (contents_of l.b s).boxes))
