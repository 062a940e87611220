use Rattle.std.proofs.Common.{◌≡◌, drop, map}
use Rattle.tb_galley.specs.Spelling.{spelled_row, spelled_value}
use Rattle.tb_galley.proofs.spelling.spelled_value.Given as goal

abbrev pub invariant-loop-row : goal.invariant-loop-row
invariant-loop-row g l = spelled_value (map spelled_row (drop l.row-index l.rows)) l.text ≡ spelled_value (map spelled_row l.rows) l.text
