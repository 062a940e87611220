use Rattle.std.proofs.Common.{◌≡◌, ◌<◌, ◌^◌, drop}
use Rattle.tb_dvi.specs.Machine.{number_after, unsigned_number}
use Rattle.tb_dvi.proofs.numbers.unsigned_number.Given as goal

abbrev pub invariant-loop-byte : goal.invariant-loop-byte
invariant-loop-byte l = record {
  value : number_after l.number (drop l.byte-index l.bytes) ≡ unsigned_number l.bytes;
  small : l.number < 256 ^ l.byte-index;
}
