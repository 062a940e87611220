use Rattle.std.proofs.Common.{pos, ◌*ℤ◌, ◌+ℤ◌, FitsSigned, w64, arith}
use Rattle.std.specs.Prelude.{int_div}
use Rattle.std.proofs.lemmas.Int.{ints, to_z-of_z}
use Rattle.tb_scaled.proofs.Cubes.{Cube, cube_of}
use Rattle.tb_rate.proofs.ratings.cube.Goals as goal

pub overflow_mul-cube : goal.overflow_mul-cube
overflow_mul-cube c =
    let ratio : FitsSigned w64 c.args.ratio = c.ranges.ratio in
    let cube : Cube c.args.ratio = cube_of c.args.ratio (omega (arith, ints)) (omega (arith, ints)) in
    let square : FitsSigned w64 (c.args.ratio *ℤ c.args.ratio) = cube.square in
    simp to_z-of_z cube.cube

pub overflow_add-result : goal.overflow_add-result
overflow_add-result c =
    let ratio : FitsSigned w64 c.args.ratio = c.ranges.ratio in
    let all : Cube c.args.ratio = cube_of c.args.ratio (omega (arith, ints)) (omega (arith, ints)) in
    let square : FitsSigned w64 (c.args.ratio *ℤ c.args.ratio) = all.square in
    let cube : FitsSigned w64 (c.args.ratio *ℤ c.args.ratio *ℤ c.args.ratio) = all.cube in
    simp to_z-of_z all.sum

pub returns : goal.returns
returns c =
    let ratio : FitsSigned w64 c.args.ratio = c.ranges.ratio in
    let all : Cube c.args.ratio = cube_of c.args.ratio (omega (arith, ints)) (omega (arith, ints)) in
    let square : FitsSigned w64 (c.args.ratio *ℤ c.args.ratio) = all.square in
    let cube : FitsSigned w64 (c.args.ratio *ℤ c.args.ratio *ℤ c.args.ratio) = all.cube in
    let sum : FitsSigned w64 (c.args.ratio *ℤ c.args.ratio *ℤ c.args.ratio +ℤ pos 131072) = all.sum in
    let share : FitsSigned w64 (int_div (c.args.ratio *ℤ c.args.ratio *ℤ c.args.ratio +ℤ pos 131072) (pos 262144)) = all.share in
    simp to_z-of_z (record { value = all.value; low = all.low; high = all.high })
