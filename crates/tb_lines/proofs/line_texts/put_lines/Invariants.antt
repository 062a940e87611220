use Rattle.tb_lines.proofs.WriteSteps.{LinesTo}
use Rattle.tb_lines.proofs.line_texts.put_lines.Given as goal

abbrev pub invariant-loop-k : goal.invariant-loop-k
invariant-loop-k l = LinesTo l.params l.name l.sizes l.fn.above l.fn.out.items l.k l.below l.out.items
