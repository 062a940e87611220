use Rattle.std.proofs.Common.{◌≡◌, ◌≤◌, ℕ, arith, rules, length, drop}
use Rattle.std.specs.Prelude.{decimal}
use Rattle.std.proofs.lemmas.Fmt.{length-decimal-le}
use Rattle.tb_generator.proofs.LedDigits.{at_end, led}
use Rattle.tb_generator.proofs.write_led.Goals as goal

-- a number of at most 40000 has no more than five digits
short : (k : ℕ) → k ≤ 40000 → length (decimal k) ≤ 5
short k few = length-decimal-le 5 k (omega arith) (omega arith) (omega arith)

pub write_digits-start-requires : goal.write_digits-start-requires
write_digits-start-requires c = rw c.from.ensures (omega (arith, short c.args.k c.requires), search rules)

pub overflow_sub-start : goal.overflow_sub-start
overflow_sub-start c =
    let start = rw c.from.ensures at c.write_digits-start.ensures.start in
    omega (arith, short c.args.k c.requires, start)

pub returns : goal.returns
returns c =
    let w = c.write_digits-start in
    let start = rw c.from.ensures at w.ensures.start in
    let digits : drop w.result w.new.buf ≡ decimal c.args.k = at_end w.new.buf c.args.text.now (decimal c.args.k) 6 w.result (search rules) (rw c.from.ensures at w.ensures.written) in
    record {
      within = omega (arith, start, short c.args.k c.requires);
      written = led w.new.buf (decimal c.args.k) 6 w.result c.args.letter (search rules) (omega (arith, short c.args.k c.requires, start)) (omega (arith, start)) digits;
    }
