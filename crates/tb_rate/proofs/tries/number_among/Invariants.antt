use Rattle.std.proofs.Common.{◌≡◌, drop}
use Rattle.tb_rate.specs.Tries.{number_among}
use Rattle.tb_rate.proofs.tries.number_among.Given as goal

-- no page was shipped before
abbrev pub invariant-loop-happening : goal.invariant-loop-happening
invariant-loop-happening l = number_among l.number l.happened ≡ number_among l.number (drop l.happening-index l.happened)
