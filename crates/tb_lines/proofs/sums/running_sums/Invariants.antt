use Rattle.std.proofs.Common.{◌≡◌, take}
use Rattle.tb_lines.specs.Demerits.{sums_of}
use Rattle.tb_lines.specs.Prepared.{AreSmall}
use Rattle.tb_lines.proofs.RunLemmas.{RunTo}
use Rattle.tb_lines.proofs.sums.running_sums.Given as goal

abbrev pub invariant-loop-k : goal.invariant-loop-k
invariant-loop-k l = record {
  run : RunTo l.entries l.sums.items l.k;
  total : l.total ≡ sums_of (take l.k l.entries);
  small : AreSmall l.k l.total;
}
