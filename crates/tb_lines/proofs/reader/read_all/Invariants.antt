use Rattle.std.proofs.Common.{◌≡◌, ◌≤◌, ◌+◌, length}
use Rattle.std.specs.List.{fold}
use Rattle.tb_text.specs.Lines.{lines_of}
use Rattle.tb_lines.specs.Reader.{take_said, start}
use Rattle.tb_lines.proofs.reader.read_all.Given as goal

abbrev pub invariant-lines : goal.invariant-lines
invariant-lines l = record {
  read : fold take_said l.reader (lines_of l.rest) ≡ fold take_said start (lines_of l.bytes);
  lines : l.reader.lines + length l.rest ≤ 8388608;
  count : l.reader.count + length l.rest ≤ 8388608;
}

abbrev pub decreases-lines : goal.decreases-lines
decreases-lines l = length l.rest
