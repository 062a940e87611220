use Rattle.std.proofs.Common.{pos, FitsSigned, w64, rules, arith}
use Rattle.std.specs.Prelude.{◌≤ℤ◌}
use Rattle.std.proofs.lemmas.Int.{ints, to_z-of_z}
use Rattle.tb_galley.specs.FieldReader.{left_of}
use Rattle.tb_lines.proofs.ValidContents.{least_ok}
use Rattle.tb_lines.proofs.field_reader.read_size.Goals as goal

pub overflow_cast-result : goal.overflow_cast-result
overflow_cast-result c =
    let f : FitsSigned w64 c.in_ok-dimension_from.field-0 = search rules in
    let g : FitsSigned w64 c.args.low = search rules in
    let read = simp to_z-of_z at c.in_ok-dimension_from.ensures in
    let r = least_ok c.args.low c.args.cause (left_of c.args.fields.now) _ read in
    let least : c.args.low ≤ℤ c.in_ok-dimension_from.field-0 = r.0 in
    let most : c.in_ok-dimension_from.field-0 ≤ℤ pos 1073741823 = r.1 in
    let positive : pos 0 ≤ℤ c.in_ok-dimension_from.field-0 = grind (arith, ints) in
    simp to_z-of_z (search rules)
