use Rattle.std.proofs.Common.{◌++◌, ◌≡◌, length, take, rules, arith, length-append}
use Rattle.std.proofs.KnownBytes.{Consumes-trans}
use Rattle.tb_top.proofs.input.read_input.Goals as goal

-- the piece that there was no memory for was taken
pub returns-in_err-append-clause-stops : goal.returns-in_err-append-clause-stops
returns-in_err-append-clause-stops g c =
    let before = c.reading.invariant.so_far in
    let same = before.count in
    let low = c.reading-test.true in
    let bound = c.in_ok-count.ensures.bound in
    let size : length c.read.new.buf ≡ 4096 = search rules in
    record {
      taken = before.input ++ take c.in_ok-count.count c.read.new.buf;
      given = Consumes-trans _ _ _ _ _ before.given c.in_ok-count.ensures.bytes.0;
      stopped = simp length-append (omega arith);
    }
