use Rattle.std.proofs.Common.{refl}
use Rattle.tb_text.proofs.FrontLemmas.{on_joined, when_ok}
use Rattle.tb_lines.specs.LineText.{glue_line}
use Rattle.tb_lines.proofs.line_texts.put_glue.Goals as goal

pub returns : goal.returns
returns c =
    when_ok c.put.result c.args.out.now.items (glue_line c.args.width) c.put.new.out.items (on_joined c.put.result c.args.out.now.items c.put_width.new.out.items c.put.new.out.items _ _ _ refl c.in_ok-put_width.ensures c.put.ensures)
