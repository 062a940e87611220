use Rattle.std.proofs.Common.{◌≡◌, rules, FitsSigned, w64, to_z, of_z}
use Rattle.std.proofs.lemmas.Int.{to_z-of_z}
use Rattle.tb_text.specs.Lines.{fields_of}
use Rattle.tb_galley.specs.FieldReader.{left_of}
use Rattle.tb_galley.proofs.AmountFields.{stretch_is}
use Rattle.tb_galley.proofs.fields.Fields.stretch.Goals as goal

pub returns-in-Some : goal.returns-in-Some
returns-in-Some c =
    let fits : FitsSigned w64 c.in-Some.value = search rules in
    let same : to_z w64 (of_z w64 c.in-Some.value) ≡ c.in-Some.value = simp to_z-of_z in
    let first = c.in-Some.ensures in
    rw same (stretch_is (left_of c.args.self.now) first.field (fields_of c.in-Some.rest.now) first.fields c.in-Some.value first.dimension first.stretch)
