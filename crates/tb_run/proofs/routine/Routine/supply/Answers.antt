use Rattle.std.proofs.Common.{refl}
use Rattle.tb_run.proofs.Turns.WholeLemmas.{items-of, supplied-so}
use Rattle.tb_run.proofs.routine.Routine.supply.Goals as goal

pub hand_over-requires-clause-can : goal.hand_over-requires-clause-can
hand_over-requires-clause-can c = record { sound = c.requires.whole.builder; no_kern = c.requires.no_kern }

pub hand_over-requires-clause-items : goal.hand_over-requires-clause-items
hand_over-requires-clause-items c = items-of c.args.self.now c.args.left c.requires.whole c.requires.left

pub returns : goal.returns
returns c = supplied-so c.args.self.now _ c.args.left c.requires.whole c.requires.left c.in_ok-self.ensures refl refl
