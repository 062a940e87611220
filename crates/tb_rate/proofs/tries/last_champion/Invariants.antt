use Rattle.std.proofs.Common.{◌≡◌, drop, None}
use Rattle.tb_rate.specs.Tries.{champion_among}
use Rattle.tb_rate.proofs.tries.last_champion.Given as goal

abbrev pub invariant-loop-happening : goal.invariant-loop-happening
invariant-loop-happening l = champion_among l.best (drop l.happening-index l.happened) ≡ champion_among None l.fn.happened
