use Rattle.std.proofs.Common.{ap, sym, get_or, None, arith}
use Rattle.tb_pool.proofs.CopyLemmas.{slab_same}
use Rattle.tb_pool.proofs.RefillLemmas.{emptying_none, emptying_some, emptying_ends}
use Rattle.tb_pool.proofs.copies.emptied.Goals.{in-Some, in_default}
use Rattle.tb_pool.proofs.copies.emptied.Goals as goal

pub loop-key-init : goal.loop-key-init
loop-key-init c =
    let same = slab_same _ (λ x y h. h) c.args.heads.now c.in_ok-new.new c.in_ok-new.ensures.cases in
    record { before = λ q below. absurd (omega (arith, below)); rest = λ q _. ap (λ slots. get_or slots q None) same }

pub loop-key-preserved : goal.loop-key-preserved
loop-key-preserved c = elim c.match-get_mut.branch [
  | in-Some w ↦
      let some = rw w.in-Some.is at c.get_mut.ensures.value in
      rw w.new-is (emptying_some c.args.heads.now c.loop-key.new c.loop-key.key c.loop-key.invariant w.in-Some.ends.now (sym some))
  | in_default w ↦
      let none = rw w.in_default.is at c.get_mut.ensures.value in
      rw w.new-is (emptying_none c.args.heads.now c.loop-key.new c.loop-key.key c.loop-key.invariant (sym none))
]

pub returns : goal.returns
returns c = emptying_ends c.args.heads.now c.loop-key.new c.loop-key.key c.loop-key.invariant (omega (arith, c.capacity-key-end.ensures.slots))
