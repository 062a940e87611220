use Rattle.std.proofs.Common.{◌≡◌, rules, FitsSigned, w64, to_z, of_z, arith, true, false}
use Rattle.std.specs.Prelude.{int_lt}
use Rattle.std.proofs.lemmas.Int.{to_z-of_z, ints}
use Rattle.std.proofs.lemmas.Bool.Decides.{nat_tests}
use Rattle.tb_text.specs.Lines.{fields_of}
use Rattle.tb_galley.specs.FieldReader.{left_of}
use Rattle.tb_galley.proofs.AmountFields.{least_read, least_fault}
use Rattle.tb_galley.proofs.fields.Fields.dimension_from.Goals as goal

pub returns-in-Some : goal.returns-in-Some
returns-in-Some c =
    let fits : FitsSigned w64 c.in-Some.value = search rules in
    let same : to_z w64 (of_z w64 c.in-Some.value) ≡ c.in-Some.value = simp to_z-of_z in
    let first = c.in-Some.ensures in
    let enough : int_lt c.in-Some.value c.args.low ≡ false = grind (arith, ints, nat_tests) in
    rw same (least_read (left_of c.args.self.now) first.field (fields_of c.in-Some.rest.now) first.fields c.in-Some.value first.dimension c.args.low c.args.cause enough)

pub returns-in-Some-2 : goal.returns-in-Some-2
returns-in-Some-2 c =
    let first = c.in-Some.ensures in
    let below : int_lt c.in-Some.value c.args.low ≡ true = grind (arith, ints, nat_tests) in
    rw c.new.ensures (least_fault (left_of c.args.self.now) first.field (fields_of c.in-Some.rest.now) first.fields c.in-Some.value first.dimension c.args.low c.args.cause below)
