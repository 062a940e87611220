use Rattle.tb_lines.proofs.RunLemmas.{WordsFrom}
use Rattle.tb_lines.proofs.sums.word_starts.Given as goal

abbrev pub invariant-loop-k : goal.invariant-loop-k
invariant-loop-k l = WordsFrom l.entries l.starts.items l.k
