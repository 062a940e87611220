use Rattle.std.proofs.Common.{◌≡◌, ◌++◌, take}
use Rattle.tb_why.specs.ShownTurns.{all_happens}
use Rattle.tb_why.proofs.weaving.show_happened.Given as goal

abbrev pub invariant-loop-happening : goal.invariant-loop-happening
invariant-loop-happening l = l.shown.items ≡ l.fn.shown.items ++ all_happens (take l.happening-index l.happened)
