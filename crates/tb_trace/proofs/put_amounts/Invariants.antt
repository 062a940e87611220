use Rattle.std.proofs.Common.{drop}
use Rattle.tb_text.proofs.FrontLemmas.{PutSoFar}
use Rattle.tb_trace.specs.Lines.{and_numbers}
use Rattle.tb_trace.proofs.put_amounts.Given as goal

abbrev pub invariant-loop-amount : goal.invariant-loop-amount
invariant-loop-amount l = PutSoFar l.fn.out.items (and_numbers l.fn.amounts) l.out.items (and_numbers (drop l.amount-index l.amounts))
