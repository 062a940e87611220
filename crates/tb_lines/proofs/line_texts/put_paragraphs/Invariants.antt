use Rattle.tb_lines.proofs.WriteSteps.{ParagraphsTo}
use Rattle.tb_lines.proofs.line_texts.put_paragraphs.Given as goal

abbrev pub invariant-loop-n : goal.invariant-loop-n
invariant-loop-n l = ParagraphsTo l.params l.paragraphs l.solutions l.fn.out.items l.n l.above l.out.items
