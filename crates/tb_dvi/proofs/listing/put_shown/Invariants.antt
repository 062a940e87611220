use Rattle.std.proofs.Common.{◌≡◌, ◌++◌, drop}
use Rattle.tb_dvi.specs.Listing.{shown}
use Rattle.tb_dvi.proofs.listing.put_shown.Given as goal

abbrev pub invariant-loop-byte : goal.invariant-loop-byte
invariant-loop-byte l = l.out.items ++ shown (drop l.byte-index l.text) ≡ l.initial.out.items ++ shown l.text
