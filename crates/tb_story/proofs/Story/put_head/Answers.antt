use Rattle.std.proofs.Common.{◌++◌, refl, subst}
use Rattle.tb_text.specs.Fields.{and_count, and_text}
use Rattle.tb_text.specs.Fronts.{PutsAfter}
use Rattle.tb_text.proofs.FrontLemmas.{cut, fails, on_joined}
use Rattle.tb_story.proofs.Story.put_head.Goals as goal

pub returns-in_err-put : goal.returns-in_err-put
returns-in_err-put c = fails _ _ _ _ c.from_residual.ensures.0 (cut _ c.in_err-put.ensures)

pub returns : goal.returns
returns c =
    on_joined c.put_name.result c.args.out.now.items c.put.new.out.items c.put_name.new.out.items _ _ _ refl c.in_ok-put.ensures
    (subst (λ s. PutsAfter c.put_name.result c.put.new.out.items (and_text s.float.name ++ and_count s.float.line) c.put_name.new.out.items) c.self.view_is c.put_name.ensures)
