use Rattle.std.proofs.Common.{◌≡◌, ◌+◌, ◌-◌, arith, rules, length, refl}
use Rattle.std.proofs.lemmas.Fmt.{length-decimal-le}
use Rattle.std.proofs.lemmas.List.{drop-set}
use Rattle.tb_text.proofs.fields.write_field.Goals as goal

pub write_digits-start-requires : goal.write_digits-start-requires
write_digits-start-requires c = (omega (arith, length-decimal-le 20 c.args.number (omega arith) (omega arith) c.ranges.number.fits, c.requires.room), c.requires.inside)

pub overflow_sub-line : goal.overflow_sub-line
overflow_sub-line c = omega (arith, length-decimal-le 20 c.args.number (omega arith) (omega arith) c.ranges.number.fits, c.requires.room, c.write_digits-start.ensures.start)

pub overflow_sub-result : goal.overflow_sub-result
overflow_sub-result c = omega (arith, length-decimal-le 20 c.args.number (omega arith) (omega arith) c.ranges.number.fits, c.requires.room, c.write_digits-start.ensures.start)

pub returns-clause-start : goal.returns-clause-start
returns-clause-start c = omega (arith, length-decimal-le 20 c.args.number (omega arith) (omega arith) c.ranges.number.fits, c.requires.room, c.write_digits-start.ensures.start)

pub returns-clause-written : goal.returns-clause-written
returns-clause-written c =
    let w = c.write_digits-start in
    let short = length-decimal-le 20 c.args.number (omega arith) (omega arith) c.ranges.number.fits in
    let e : w.result - 1 + 1 ≡ w.result = omega (arith, short, c.requires.room, w.ensures.start) in
    let long : length w.new.buf ≡ length c.args.line.now = search rules in
    rw (drop-set w.new.buf (w.result - 1) 32 (omega (arith, short, c.requires.room, c.requires.inside, w.ensures.start, long)), e, w.ensures.written) refl
