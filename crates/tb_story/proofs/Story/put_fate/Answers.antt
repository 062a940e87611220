use Rattle.std.proofs.Common.{◌≡◌, ◌++◌, refl, subst}
use Rattle.tb_text.specs.Fronts.{PutsFront}
use Rattle.tb_text.proofs.FrontLemmas.{cut, fails, on_joined}
use Rattle.tb_story.specs.StoryLines.{landed_text}
use Rattle.tb_story.proofs.Story.put_fate.Goals as goal

pub returns-in_err-put_landed : goal.returns-in_err-put_landed
returns-in_err-put_landed c =
    fails _ _ _ _ c.from_residual.ensures.0
    (cut _ (subst (λ s. PutsFront c.args.out.now.items (landed_text s.landed s.place) c.put_landed.new.out.items) c.self.view_is c.in_err-put_landed.ensures))

pub returns : goal.returns
returns c =
    on_joined c.put_reasons.result c.args.out.now.items c.put_landed.new.out.items c.put_reasons.new.out.items _ _ _ refl
    (subst (λ s. c.put_landed.new.out.items ≡ c.args.out.now.items ++ landed_text s.landed s.place) c.self.view_is c.in_ok-put_landed.ensures) c.put_reasons.ensures
