use Rattle.std.proofs.Common.{◌≡◌, ◌≤◌, ◌+◌, [], length}
use Rattle.std.specs.List.{fold}
use Rattle.tb_galley.specs.declared.pieces.Progress.TheVariants.{Lines}
use Rattle.tb_galley.specs.Pieces.{take_byte}
use Rattle.tb_galley.proofs.pieces.past_bare_lines.Given as goal

abbrev pub invariant-lines : goal.invariant-lines
invariant-lines l = record {
  read : fold take_byte (Lines l.lines []) l.rest ≡ fold take_byte (Lines l.initial.lines []) l.text;
  lines : l.lines.lines + length l.rest ≤ l.initial.lines.lines + length l.text;
  count : l.lines.count ≡ l.initial.lines.count;
  shorter : length l.rest ≤ length l.text;
}

abbrev pub decreases-lines : goal.decreases-lines
decreases-lines l = length l.rest
