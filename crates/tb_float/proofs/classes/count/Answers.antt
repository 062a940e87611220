use Rattle.std.proofs.Common.{◌≡◌, ◌≤◌, length, arith, rules}
use Rattle.tb_float.specs.Classes.{set_count}
use Rattle.tb_float.proofs.ClassLemmas.{count-few}
use Rattle.tb_float.proofs.classes.count.Goals as goal

pub overflow_add-set : goal.overflow_add-set
overflow_add-set c =
    let flags = c.args.flags.now in
    let many : length flags ≡ 256 = search rules in
    let few : set_count flags ≤ 256 = omega (arith, count-few flags) in
    omega (arith, few, c.loop-flag.invariant.counted)
