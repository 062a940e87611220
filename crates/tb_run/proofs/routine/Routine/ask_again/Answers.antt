use Rattle.std.proofs.Common.{◌≡◌, sym, ◌∙◌, Bool, true, false, if◌then◌else◌}
use Rattle.tb_builder.specs.declared.Ask.{Ask}
use Rattle.tb_run.proofs.routine.Routine.ask_again.Goals as goal

else-ask : (t : Bool) (x y z : Ask) → t ≡ false → z ≡ y → z ≡ (if t then x else y)
else-ask true x y z e h = cc
else-ask false x y z e h = h

pub returns-then-not-is_frozen : goal.returns-then-not-is_frozen
returns-then-not-is_frozen c = λ boxes waiting. else-ask _ _ _ _ (sym c.is_frozen.ensures ∙ c.if-not-is_frozen.true) (c.ask.ensures c.args.self.now.store boxes waiting)
