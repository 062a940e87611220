use Rattle.std.proofs.Common.{◌≡◌, take, true}
use Rattle.std.specs.List.{list_all}
use Rattle.tb_text.specs.Numbers.{is_digit, number_of}
use Rattle.tb_text.proofs.number.few_digits.Given as goal

abbrev pub invariant-loop-byte : goal.invariant-loop-byte
invariant-loop-byte l = record {
  digits : list_all is_digit (take l.byte-index l.bytes) ≡ true;
  value : l.number ≡ number_of (take l.byte-index l.bytes);
}
