use Rattle.std.proofs.Common.{◌↔◌, drop, map}
use Rattle.tb_param.specs.TableRows.{row_seen}
use Rattle.tb_param.specs.Changes.{Agree}
use Rattle.tb_param.proofs.changes.agree.Given as goal

abbrev pub invariant-loop-row : goal.invariant-loop-row
invariant-loop-row l = Agree l.a l.b (map row_seen l.rows) ↔ Agree l.a l.b (map row_seen (drop l.row-index l.rows))
