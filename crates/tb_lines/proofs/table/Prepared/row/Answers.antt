use Rattle.std.proofs.Common.{sym, ◌∙◌}
use Rattle.tb_lines.proofs.Offers.{not_legal}
use Rattle.tb_lines.proofs.table.Prepared.row.Goals as goal

pub returns-then-not-is_legal-clause-value : goal.returns-then-not-is_legal-clause-value
returns-then-not-is_legal-clause-value c =
    not_legal c.args.self.now.params.now c.args.self.now.entries.now c.args.rows.now c.args.to (sym c.is_legal.ensures ∙ c.if-not-is_legal.true)
