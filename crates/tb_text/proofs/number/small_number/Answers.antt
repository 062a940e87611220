use Rattle.std.proofs.Common.{◌≡◌, pos, rules, FitsSigned, w64, to_z, of_z}
use Rattle.std.proofs.lemmas.Int.{to_z-of_z}
use Rattle.tb_text.proofs.SmallNumbers.{IsRead, few_read}
use Rattle.tb_text.proofs.number.small_number.Goals as goal

pub returns-in-Some : goal.returns-in-Some
returns-in-Some c =
    let read : IsRead (pos c.in-Some.number) c.args.field.now = few_read c.args.field.now c.in-Some.number c.in-Some.ensures.digits c.in-Some.ensures.some c.in-Some.ensures.value c.in-Some.ensures.small in
    let fits : FitsSigned w64 c.from.result = search rules in
    let same : to_z w64 (of_z w64 c.from.result) ≡ pos c.in-Some.number = simp to_z-of_z (search rules) in
    rw same record { integer = read.integer; dimension = read.dimension; stretch = read.stretch }
