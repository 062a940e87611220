use Rattle.std.proofs.Common.{sym, ◌∙◌, ap, ◌-◌, [], ◌∷◌}
use Rattle.tb_float.specs.declared.Entry.TheVariants as entries
use Rattle.tb_output.proofs.Acts.TakingLemmas.{current-unmarked, taken-current, float-there, taken-second}
use Rattle.tb_output.proofs.act.take_into.Goals as goal

pub returns-then-not-waits-clause-taken : goal.returns-then-not-waits-clause-taken
returns-then-not-waits-clause-taken c = taken-current c.args.p.now c.args.f c.args.pool.now c.take.new.self c.in_ok-take.ensures.taken (sym c.waits_for_page-waits.ensures ∙ c.if-not-waits.true)

pub move_to-requires-clause-float : goal.move_to-requires-clause-float
move_to-requires-clause-float c = float-there c.args.f c.args.pool.now c.take.new.self c.in_ok-take.ensures.taken _ (ap (λ n. n - 1) c.len-last.ensures.value)

pub returns-clause-taken : goal.returns-clause-taken
returns-clause-taken c = taken-second c.args.p.now c.args.f c.args.pool.now c.take.new.self c.in_ok-take.ensures.taken _ (ap (λ n. n - 1) c.len-last.ensures.value) (sym c.waits_for_page-waits.ensures ∙ c.if-not-waits.false) c.move_to.new.self c.move_to.ensures.moved

pub returns-then-not-waits-clause-unmarked : goal.returns-then-not-waits-clause-unmarked
returns-then-not-waits-clause-unmarked c = current-unmarked (entries.Float c.args.f ∷ []) c.args.pool.now c.take.new.self c.in_ok-take.ensures.taken

pub returns-clause-unmarked : goal.returns-clause-unmarked
returns-clause-unmarked c = λ h. c.move_to.ensures.unmarked (current-unmarked (entries.Float c.args.f ∷ []) c.args.pool.now c.take.new.self c.in_ok-take.ensures.taken h)
