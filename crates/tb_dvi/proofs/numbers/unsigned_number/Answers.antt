use Rattle.std.proofs.Common.{◌<◌, length, arith, le_trans}
use Rattle.tb_dvi.proofs.NumberLemmas.{small-now, small-end}
use Rattle.tb_dvi.proofs.numbers.unsigned_number.Goals as goal

pub overflow_mul-number : goal.overflow_mul-number
overflow_mul-number c =
    let s : c.loop-byte.number < 16777216 = small-now c.loop-byte.number c.loop-byte.byte-index (length c.args.bytes.now) c.loop-byte-test.true c.requires c.loop-byte.invariant.small in
    record { fits = omega (arith, s) }

pub returns-clause-small : goal.returns-clause-small
returns-clause-small c = small-end c.loop-byte.number c.loop-byte.byte-index (le_trans c.loop-byte.auto.byte-index-end c.requires) c.loop-byte.invariant.small
