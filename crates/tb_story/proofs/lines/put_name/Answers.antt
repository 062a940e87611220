use Rattle.std.proofs.Common.{refl}
use Rattle.tb_text.proofs.FrontLemmas.{cut, fails, on_joined}
use Rattle.tb_story.proofs.lines.put_name.Goals as goal

pub returns-in_err-put_text : goal.returns-in_err-put_text
returns-in_err-put_text c = fails _ _ _ _ c.from_residual.ensures.0 (cut _ (simp c.as_bytes.ensures at c.in_err-put_text.ensures))

pub returns : goal.returns
returns c =
    on_joined c.put_count.result c.args.out.now.items c.put_text.new.out.items c.put_count.new.out.items _ _ _ refl (simp c.as_bytes.ensures at c.in_ok-put_text.ensures)
    (simp c.from.ensures at c.put_count.ensures)
