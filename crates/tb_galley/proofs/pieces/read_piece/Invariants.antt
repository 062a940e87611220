use Rattle.std.proofs.Common.{◌≡◌, ◌<◌, ◌+◌, length}
use Rattle.std.specs.List.{fold}
use Rattle.tb_galley.specs.declared.pieces.Progress.TheVariants.{Lines}
use Rattle.tb_galley.specs.Pieces.{take_byte}
use Rattle.tb_galley.proofs.pieces.read_piece.Given as goal

abbrev pub invariant-lines : goal.invariant-lines
invariant-lines l = record {
  read : fold take_byte (Lines l.lines l.unfinished) l.rest ≡ fold take_byte (Lines l.initial.lines l.initial.unfinished) l.piece;
  lines : l.lines.lines + length l.rest < 4294967295;
  count : l.lines.count + length l.rest < 4294967295;
}

abbrev pub decreases-lines : goal.decreases-lines
decreases-lines l = length l.rest
