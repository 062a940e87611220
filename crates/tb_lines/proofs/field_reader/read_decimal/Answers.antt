use Rattle.std.proofs.Common.{pos, FitsSigned, w64, rules}
use Rattle.std.specs.Prelude.{◌≤ℤ◌}
use Rattle.std.proofs.lemmas.Int.{to_z-of_z}
use Rattle.tb_galley.specs.FieldReader.{left_of}
use Rattle.tb_lines.proofs.ValidContents.{least_ok}
use Rattle.tb_lines.proofs.field_reader.read_decimal.Goals as goal

pub overflow_cast-result : goal.overflow_cast-result
overflow_cast-result c =
    let f : FitsSigned w64 c.in_ok-decimal_from.field-0 = search rules in
    let r = least_ok (pos 0) c.args.cause (left_of c.args.fields.now) _ c.in_ok-decimal_from.ensures in
    let most : c.in_ok-decimal_from.field-0 ≤ℤ pos 1073741823 = r.1 in
    let positive : pos 0 ≤ℤ c.in_ok-decimal_from.field-0 = r.0 in
    simp to_z-of_z (search rules)
