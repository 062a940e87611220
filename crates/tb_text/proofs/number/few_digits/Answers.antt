use Rattle.std.proofs.Common.{◌∙◌, sym, rules, arith}
use Rattle.tb_text.proofs.SmallNumbers.{AreFewDigits, digits_more, value_more, before_last, few_digits}
use Rattle.tb_text.proofs.number.few_digits.Goals as goal

pub overflow_mul-number : goal.overflow_mul-number
overflow_mul-number c =
    let small = before_last c.args.bytes.now c.loop-byte.byte-index c.loop-byte.number c.loop-byte-test.true (omega arith) c.loop-byte.invariant.digits c.loop-byte.invariant.value in
    omega arith

pub overflow_add-number : goal.overflow_add-number
overflow_add-number c =
    let small = before_last c.args.bytes.now c.loop-byte.byte-index c.loop-byte.number c.loop-byte-test.true (omega arith) c.loop-byte.invariant.digits c.loop-byte.invariant.value in
    omega (arith, c.from.ensures, c.type_inv.bytes c.loop-byte.byte-index)

pub loop-byte-preserved : goal.loop-byte-preserved
loop-byte-preserved c = record {
  digits = digits_more c.args.bytes.now c.loop-byte.byte-index c.loop-byte-test.true c.loop-byte.invariant.digits (sym c.is_digit.ensures ∙ c.if-not-is_digit.false);
  value = rw c.from.ensures (value_more c.args.bytes.now c.loop-byte.byte-index c.loop-byte.number c.loop-byte-test.true c.loop-byte.invariant.value);
}

pub returns : goal.returns
returns c =
    let few : AreFewDigits c.args.bytes.now c.loop-byte.number = few_digits c.args.bytes.now c.loop-byte.byte-index _ (search rules) (omega arith) (omega arith) c.loop-byte.invariant.digits c.loop-byte.invariant.value in
    record { digits = few.numeral.digits; some = few.numeral.some; value = few.numeral.value; small = few.small }
