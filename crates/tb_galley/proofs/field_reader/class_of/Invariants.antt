use Rattle.std.proofs.Common.{◌≡◌, drop, map}
use Rattle.tb_galley.specs.Fields.{is_foot_class}
use Rattle.tb_galley.specs.declared.classes.ClassLine.{ClassLine}
use Rattle.tb_galley.proofs.field_reader.class_of.Given as goal

abbrev pub invariant-loop-class : goal.invariant-loop-class
invariant-loop-class l =
    is_foot_class (map (λ (c : ClassLine). c.number) (drop l.class-index l.classes)) l.number ≡ is_foot_class (map (λ (c : ClassLine). c.number) l.classes) l.number
