use Rattle.std.proofs.Common.{subst, get_or, pos, FitsSigned, w64, rules}
use Rattle.std.proofs.lemmas.Int.{to_z-of_z}
use Rattle.tb_text.proofs.FrontLemmas.{PutSoFar, put-begins, put-more, put-stops, put-ends, fails}
use Rattle.tb_trace.specs.Lines.{and_numbers}
use Rattle.tb_trace.proofs.NumberLemmas.{numbers-from, numbers-past}
use Rattle.tb_trace.proofs.put_amounts.Goals as goal

pub loop-amount-init : goal.loop-amount-init
loop-amount-init c = put-begins _ _

pub returns-in_err-put_amount : goal.returns-in_err-put_amount
returns-in_err-put_amount c =
    let ns = c.args.amounts.now in
    let i = c.loop-amount.amount-index in
    let fits : FitsSigned w64 (get_or ns i (pos 0)) = search rules in
    let put = simp to_z-of_z at c.in_err-put_amount.ensures in
    let so_far = subst (PutSoFar c.args.out.now.items (and_numbers ns) c.loop-amount.out.items) (numbers-from ns i (pos 0) c.loop-amount-test.true) c.loop-amount.invariant in
    fails _ _ _ _ c.from_residual.ensures.0 (put-stops _ _ so_far put)

pub loop-amount-preserved : goal.loop-amount-preserved
loop-amount-preserved c =
    let ns = c.args.amounts.now in
    let i = c.loop-amount.amount-index in
    let fits : FitsSigned w64 (get_or ns i (pos 0)) = search rules in
    let put = simp to_z-of_z at c.in_ok-put_amount.ensures in
    put-more _ _ _ (subst (PutSoFar c.args.out.now.items (and_numbers ns) c.loop-amount.out.items) (numbers-from ns i (pos 0) c.loop-amount-test.true) c.loop-amount.invariant) put

pub returns : goal.returns
returns c =
    put-ends (subst (PutSoFar c.args.out.now.items (and_numbers c.args.amounts.now) c.loop-amount.out.items)
    (numbers-past c.args.amounts.now c.loop-amount.amount-index c.loop-amount-test.false) c.loop-amount.invariant)
