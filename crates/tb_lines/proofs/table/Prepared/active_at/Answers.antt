use Rattle.std.proofs.Common.{◌≡◌, ap, ◌∙◌, length, arith, refl}
use Rattle.tb_lines.proofs.LeastWays.{length-table_of}
use Rattle.tb_lines.proofs.ActiveBreaks.{active_step, passed_read}
use Rattle.tb_lines.proofs.table.Prepared.active_at.Goals as goal

pub bounds-rows-low : goal.bounds-rows-low
bounds-rows-low c =
    let l : length c.args.rows.now ≡ c.args.to = ap length c.requires.rows ∙ length-table_of c.args.self.now.params.now c.args.self.now.entries.now c.args.to in
    omega arith

pub passed-preserved : goal.passed-preserved
passed-preserved c =
    active_step c.args.self.now.params.now c.args.self.now.entries.now c.args.to c.passed.low c.args.active c.passed.invariant c.passed-test.true
    (passed_read c.args.self.now.params.now c.args.self.now.entries.now c.args.rows.now c.args.to c.passed.low _ _ c.requires.rows c.passed-test.true refl (c.is_passed.ensures c.if-is_passed.true))
