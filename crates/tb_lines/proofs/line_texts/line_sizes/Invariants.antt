use Rattle.tb_lines.proofs.WriteSteps.{SizesTo}
use Rattle.tb_lines.proofs.line_texts.line_sizes.Given as goal

abbrev pub invariant-loop-place : goal.invariant-loop-place
invariant-loop-place l = SizesTo l.entries l.breaks l.place-index l.start l.sizes.items
