use Rattle.std.proofs.Common.{refl}
use Rattle.tb_text.proofs.FrontLemmas.{cut, fails, on_joined}
use Rattle.tb_story.proofs.lines.put_landed.Goals as goal

pub returns-in_err-put_landed_words : goal.returns-in_err-put_landed_words
returns-in_err-put_landed_words c = fails _ _ _ _ c.from_residual.ensures.0 (cut _ c.in_err-put_landed_words.ensures)

pub returns : goal.returns
returns c =
    on_joined c.put_text.result c.args.out.now.items c.put_landed_words.new.out.items c.put_text.new.out.items _ _ _ refl c.in_ok-put_landed_words.ensures (simp c.where_text.ensures at c.put_text.ensures)
