use Rattle.std.proofs.Common.{◌≡◌, ◌≤◌, take, true}
use Rattle.std.specs.List.{list_all}
use Rattle.tb_text.specs.Numbers.{is_digit, number_of}
use Rattle.tb_text.proofs.number.front_number.Given as goal

abbrev pub invariant-loop-k : goal.invariant-loop-k
invariant-loop-k l = record {
  digits : list_all is_digit (take l.k l.bytes) ≡ true;
  value : l.number ≡ number_of (take l.k l.bytes);
  few : l.k ≤ 9;
}
