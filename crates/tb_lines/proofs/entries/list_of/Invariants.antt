use Rattle.std.proofs.Common.{◌≡◌, take, map}
use Rattle.tb_lines.specs.declared.entries.Entry.TheVariants.{Item as item}
use Rattle.tb_lines.proofs.entries.list_of.Given as goal

abbrev pub invariant-loop-item : goal.invariant-loop-item
invariant-loop-item l = l.entries.items ≡ map item (take l.item-index l.items)
