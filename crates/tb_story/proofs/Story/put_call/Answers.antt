use Rattle.std.proofs.Common.{◌≡◌, ◌++◌, codes, refl, subst}
use Rattle.tb_text.specs.Fields.{and_count}
use Rattle.tb_text.specs.Fronts.{PutsFront}
use Rattle.tb_text.proofs.FrontLemmas.{cut, fails, on_joined}
use Rattle.tb_story.proofs.Story.put_call.Goals as goal

pub returns-in_err-put_total : goal.returns-in_err-put_total
returns-in_err-put_total c =
    fails _ _ _ _ c.from_residual.ensures.0
    (cut _ (subst (λ s. PutsFront c.args.out.now.items (codes " called" ++ and_count s.called) c.put_total.new.out.items) c.self.view_is c.in_err-put_total.ensures))

pub returns : goal.returns
returns c =
    on_joined c.put_fate.result c.args.out.now.items c.put_total.new.out.items c.put_fate.new.out.items _ _ _ refl
    (subst (λ s. c.put_total.new.out.items ≡ c.args.out.now.items ++ (codes " called" ++ and_count s.called)) c.self.view_is c.in_ok-put_total.ensures) c.put_fate.ensures
