use Rattle.std.proofs.Common.{◌≡◌, ◌++◌, drop, map, filter}
use Rattle.tb_param.specs.TableRows.{row_seen}
use Rattle.tb_param.specs.Table.{is_known_in}
use Rattle.tb_galley.specs.CanonicalText.{set_lines}
use Rattle.tb_galley.proofs.canonical_text.put_sets.Given as goal

abbrev pub invariant-loop-row : goal.invariant-loop-row
invariant-loop-row l =
    l.out.items ++ set_lines l.params (filter (λ r. is_known_in l.version r.field) (map row_seen (drop l.row-index l.rows)))
    ≡ l.fn.out.items ++ set_lines l.params (filter (λ r. is_known_in l.version r.field) (map row_seen l.rows))
