use Rattle.std.proofs.Common.{◌≡◌, ◌++◌, drop}
use Rattle.tb_galley.specs.CanonicalText.{class_lines}
use Rattle.tb_galley.proofs.canonical_text.put_classes.Given as goal

abbrev pub invariant-loop-class : goal.invariant-loop-class
invariant-loop-class l = l.out.items ++ class_lines (drop l.class-index l.classes) ≡ l.fn.out.items ++ class_lines l.classes
