use Rattle.std.proofs.Common.{◌∙◌}
use Rattle.tb_builder.specs.Firing.{share_told}
use Rattle.tb_builder.proofs.Course.share_at.Goals as goal

pub returns : goal.returns
returns c = λ z page marked h. c.share_told.ensures ∙ (λ j. share_told (c.cut_at.ensures z page marked h j) (c.last_in.ensures z page marked h j) c.args.index)
