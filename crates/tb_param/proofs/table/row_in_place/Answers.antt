use Rattle.std.proofs.Common.{rules, ◌≡◌}
use Rattle.std.proofs.lemmas.Slice.Eq.{bytes_eq-Decides}
use Rattle.tb_param.specs.TableRows.{row_seen}
use Rattle.tb_param.proofs.RowNames.{found-in-place}
use Rattle.tb_param.proofs.table.row_in_place.Goals as goal

pub returns-then-eq : goal.returns-then-eq
returns-then-eq c =
    let same : c.row_at-row.result.0.now ≡ c.args.name.now = (bytes_eq-Decides c.row_at-row.result.0.now c.args.name.now).0 (search rules) in
    found-in-place c.from-place.result (row_seen c.row_at-row.result) c.args.name.now c.row_at-row.ensures same
