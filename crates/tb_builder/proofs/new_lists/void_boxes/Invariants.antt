use Rattle.std.proofs.Common.{take}
use Rattle.tb_builder.specs.NewLists.{VoidBoxes}
use Rattle.tb_builder.proofs.new_lists.void_boxes.Given as goal

abbrev pub invariant-loop-class : goal.invariant-loop-class
invariant-loop-class l = VoidBoxes l.fn.store l.store (take l.class-index l.classes) l.boxes
