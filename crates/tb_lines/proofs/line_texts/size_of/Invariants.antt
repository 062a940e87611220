use Rattle.std.proofs.Common.{◌≡◌, drop}
use Rattle.tb_lines.specs.LineText.{joined_size, size_of}
use Rattle.tb_lines.proofs.line_texts.size_of.Given as goal

abbrev pub invariant-loop-entry : goal.invariant-loop-entry
invariant-loop-entry l = joined_size l.size (size_of (drop l.entry-index l.entries)) ≡ size_of l.entries
