use Rattle.std.proofs.Common.{sym, ◌∙◌, inl, inr, arith}
use Rattle.tb_search.proofs.OrderLemmas.{other-decides, same-passed, longer-decides}
use Rattle.tb_search.proofs.table.is_greater.Goals as goal
use Rattle.tb_search.proofs.table.is_greater.Goals.{then-loop-k-test+else-k-b, else-loop-k-test}

pub returns-then-x-y : goal.returns-then-x-y
returns-then-x-y c = sym (other-decides c.args.a.now c.args.b.now c.loop-k.k c.loop-k-test.true c.if-k-b.true c.if-x-y.true) ∙ c.loop-k.invariant.same

pub loop-k-preserved : goal.loop-k-preserved
loop-k-preserved c = record {
  first = omega arith;
  second = omega arith;
  same = same-passed c.args.a.now c.args.b.now c.loop-k.k c.loop-k-test.true c.if-k-b.true c.if-x-y.false ∙ c.loop-k.invariant.same;
}

pub returns : goal.returns
returns c =
    sym (longer-decides c.args.a.now c.args.b.now c.loop-k.k c.loop-k.invariant.first c.loop-k.invariant.second
    (elim c.loop-k-test.branch [ then-loop-k-test+else-k-b w ↦ inr (omega arith) | else-loop-k-test w ↦ inl (omega arith) ]))
    ∙ c.loop-k.invariant.same
