use Rattle.std.proofs.Common.{◌≡◌, map, take}
use Rattle.tb_items.specs.Classes.{class_of}
use Rattle.tb_run.proofs.classes.classes_of.Given as goal

-- the classes before this place
abbrev pub invariant-loop-line : goal.invariant-loop-line
invariant-loop-line l = l.classes.items ≡ map class_of (take l.line-index l.line-items)
