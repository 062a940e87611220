use Rattle.std.specs.Prelude.{IsTrue}
use Rattle.tb_param.specs.Ranges.{are_params}
use Rattle.tb_routine_tests.proofs.output.given.params.Given as goal

abbrev pub invariant-loop-name : goal.invariant-loop-name
invariant-loop-name l = IsTrue (are_params l.p)

abbrev pub invariant-loop-name-2 : goal.invariant-loop-name-2
invariant-loop-name-2 l = IsTrue (are_params l.p)
