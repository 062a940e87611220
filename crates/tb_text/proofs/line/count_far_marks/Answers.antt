use Rattle.std.proofs.Common.{◌∙◌}
use Rattle.tb_text.proofs.FirstField.{marks_are}
use Rattle.tb_text.proofs.line.count_far_marks.Goals as goal

pub returns : goal.returns
returns c = c.unwrap_or.ensures ∙ marks_are c.args.line.now c.memchr2.result c.memchr2.ensures
