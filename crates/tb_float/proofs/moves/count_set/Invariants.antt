use Rattle.std.proofs.Common.{◌≡◌, ◌+◌, drop}
use Rattle.tb_float.specs.Classes.{set_count}
use Rattle.tb_float.proofs.moves.count_set.Given as goal

abbrev pub invariant-loop-flag : goal.invariant-loop-flag
invariant-loop-flag l = record {
  counted : l.set + set_count (drop l.flag-index l.fn.flags) ≡ set_count l.fn.flags;
}
