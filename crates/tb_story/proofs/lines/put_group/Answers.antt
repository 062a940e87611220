use Rattle.std.proofs.Common.{refl}
use Rattle.tb_text.proofs.FrontLemmas.{cut, fails, on_joined}
use Rattle.tb_story.proofs.lines.put_group.Goals as goal

pub returns-in_err-put_words : goal.returns-in_err-put_words
returns-in_err-put_words c = fails _ _ _ _ c.from_residual.ensures.0 (cut _ c.in_err-put_words.ensures)

pub returns : goal.returns
returns c =
    on_joined c.put_gain.result c.args.out.now.items c.put_words.new.out.items c.put_gain.new.out.items _ _ _ refl c.in_ok-put_words.ensures c.put_gain.ensures
