use Rattle.std.proofs.Common.{◌≡◌, ◌++◌, drop}
use Rattle.tb_galley.specs.CanonicalText.{item_lines}
use Rattle.tb_galley.proofs.item_texts.put_items.Given as goal

abbrev pub invariant-loop-item : goal.invariant-loop-item
invariant-loop-item l = l.out.items ++ item_lines l.version (drop l.item-index l.items) ≡ l.fn.out.items ++ item_lines l.version l.items
