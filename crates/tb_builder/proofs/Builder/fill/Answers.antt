use Rattle.tb_builder.proofs.Events.FilledLemmas.{filling_goes, filling_still, filling_ends}
use Rattle.tb_builder.proofs.Builder.fill.Goals as goal

pub turns-preserved : goal.turns-preserved
turns-preserved c = filling_goes c.turns.invariant c.in-Goes.ensures

pub returns-in-Tried : goal.returns-in-Tried
returns-in-Tried c = filling_ends c.turns.invariant c.in-Tried.ensures

pub hand_out-requires-clause-sound : goal.hand_out-requires-clause-sound
hand_out-requires-clause-sound c = (filling_still c.turns.invariant c.in-Acts.ensures).sound

pub hand_out-requires-clause-on : goal.hand_out-requires-clause-on
hand_out-requires-clause-on c = (filling_still c.turns.invariant c.in-Acts.ensures).on

pub returns-in-Acts : goal.returns-in-Acts
returns-in-Acts c = filling_ends (filling_still c.turns.invariant c.in-Acts.ensures) (c.hand_out.ensures c.args.ask.now)

pub returns-in-Ends : goal.returns-in-Ends
returns-in-Ends c = filling_ends c.turns.invariant c.in-Ends.ensures
