use Rattle.std.proofs.Common.{◌∙◌, sym, arith, Option, Some, None, IfSome}
use Rattle.tb_text.proofs.SmallNumbers.{digits_more, value_more, before_ninth, front_is, whole_front}
use Rattle.tb_text.proofs.number.front_number.Goals as goal

if_some : {A : Type 0} (o : Option A) (P Q : A → Type 0) → ((x : A) → P x → Q x) → IfSome o P → IfSome o Q
if_some None P Q f h = tt
if_some (Some x) P Q f h = f x h

pub returns-then-not-is_digit : goal.returns-then-not-is_digit
returns-then-not-is_digit c =
    if_some c.after_digits.result _ _
    (λ r h. front_is c.args.bytes.now c.loop-k.k c.loop-k.number r.0 r.1.now c.loop-k-test.true c.loop-k.invariant.few c.loop-k.invariant.digits c.loop-k.invariant.value
    (sym c.is_digit.ensures ∙ c.if-not-is_digit.true) h.0 h.1 h.2)
    c.after_digits.ensures

pub overflow_mul-number : goal.overflow_mul-number
overflow_mul-number c =
    let small = before_ninth c.args.bytes.now c.loop-k.k c.loop-k.number (omega arith) c.loop-k.invariant.digits c.loop-k.invariant.value in
    omega arith

pub overflow_add-number : goal.overflow_add-number
overflow_add-number c =
    let small = before_ninth c.args.bytes.now c.loop-k.k c.loop-k.number (omega arith) c.loop-k.invariant.digits c.loop-k.invariant.value in
    omega (arith, c.from.ensures, c.type_inv.bytes c.loop-k.k)

pub loop-k-preserved : goal.loop-k-preserved
loop-k-preserved c = record {
  digits = digits_more c.args.bytes.now c.loop-k.k c.loop-k-test.true c.loop-k.invariant.digits (sym c.is_digit.ensures ∙ c.if-not-is_digit.false);
  value = rw c.from.ensures (value_more c.args.bytes.now c.loop-k.k c.loop-k.number c.loop-k-test.true c.loop-k.invariant.value);
  few = omega arith;
}

pub returns : goal.returns
returns c =
    if_some c.after_digits-2.result _ _
    (λ r h. whole_front c.args.bytes.now c.loop-k.k c.loop-k.number r.0 r.1.now (omega arith) c.loop-k.invariant.few c.loop-k.invariant.digits c.loop-k.invariant.value h.0 h.1 h.2)
    c.after_digits-2.ensures
