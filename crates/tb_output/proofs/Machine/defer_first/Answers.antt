use Rattle.std.proofs.Common.{sym, subst, ◌∙◌, Bool}
use Rattle.tb_output.specs.FiringParts.{HasDeferred}
use Rattle.tb_output.proofs.FiringWork.ResultLemmas.{ok-map}
use Rattle.tb_output.proofs.Machine.defer_first.Goals as goal

pub returns-then-only_here-clause-ok : goal.returns-then-only_here-clause-ok
returns-then-only_here-clause-ok c =
    ok-map c.defer_with_top.result _ _ (subst (λ (t : Bool). HasDeferred t c.args.f.now c.args.self.now c.defer_with_top.new.self) (sym (sym c.only_here.ensures ∙ c.if-only_here.true))) c.defer_with_top.ensures.ok

pub move_first-requires-clause-first : goal.move_first-requires-clause-first
move_first-requires-clause-first c = (c.args.f.now, c.requires)

pub returns-clause-ok : goal.returns-clause-ok
returns-clause-ok c =
    subst (λ (t : Bool). HasDeferred t c.args.f.now c.args.self.now c.move_first.new.self) (sym (sym c.only_here.ensures ∙ c.if-only_here.false)) (c.move_first.ensures c.args.f.now c.requires)
