use Rattle.std.proofs.Common.{ap, ◌-◌, [], ◌∷◌}
use Rattle.tb_float.specs.declared.Entry.TheVariants as entries
use Rattle.tb_output.proofs.Acts.TakingLemmas.{current-unmarked, taken-above, float-there}
use Rattle.tb_output.proofs.act.take_above.Goals as goal

pub move_to-requires-clause-float : goal.move_to-requires-clause-float
move_to-requires-clause-float c = float-there c.args.f c.args.pool.now c.take.new.self c.in_ok-take.ensures.taken _ (ap (λ n. n - 1) c.len-last.ensures.value)

pub returns-clause-taken : goal.returns-clause-taken
returns-clause-taken c = taken-above c.args.f c.args.pool.now c.take.new.self c.in_ok-take.ensures.taken _ (ap (λ n. n - 1) c.len-last.ensures.value) c.move_to.new.self c.move_to.ensures.moved

pub returns-clause-unmarked : goal.returns-clause-unmarked
returns-clause-unmarked c = λ h. c.move_to.ensures.unmarked (current-unmarked (entries.Float c.args.f ∷ []) c.args.pool.now c.take.new.self c.in_ok-take.ensures.taken h)
