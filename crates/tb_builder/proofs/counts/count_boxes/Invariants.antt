use Rattle.std.proofs.Common.{map, drop}
use Rattle.tb_builder.specs.Contents.{boxed_of, box_count}
use Rattle.tb_builder.proofs.Amounts.CountLemmas.{Boxing}
use Rattle.tb_builder.proofs.counts.count_boxes.Given as goal

abbrev pub invariant-loop-entry : goal.invariant-loop-entry
invariant-loop-entry l = Boxing l.fn.store 18446744073709551615 (box_count (map (boxed_of l.fn.store) l.boxes)) (drop l.entry-index l.boxes) l.total
