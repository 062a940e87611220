use Rattle.std.proofs.Common.{ap, sym, ◌∙◌, subst, length, List, Option}
use Rattle.tb_lines.specs.declared.table.Best.{Best}
use Rattle.tb_lines.specs.Prepared.{HasSmallTotals}
use Rattle.tb_lines.proofs.LeastWays.{length-table_of}
use Rattle.tb_lines.proofs.Offers.{table_more, small_more}
use Rattle.tb_lines.proofs.table.Prepared.table.Goals as goal

pub loop-to-preserved : goal.loop-to-preserved
loop-to-preserved c =
    let P : List (Option Best) → Type 0 = λ rows. HasSmallTotals rows in
    record {
      rows = table_more c.args.self.now.params.now c.args.self.now.entries.now c.loop-to.rows.items c.as_slice-in-loop-to.result.now c.loop-to.to c.row-row.result c.push.new.self.items
          c.loop-to.invariant.rows c.as_slice-in-loop-to.ensures.value c.row-row.ensures.value c.in_ok-push.ensures.items;
      totals = subst P (sym c.in_ok-push.ensures.items) (small_more c.loop-to.rows.items c.loop-to.to c.row-row.result
          (ap length c.loop-to.invariant.rows ∙ length-table_of c.args.self.now.params.now c.args.self.now.entries.now c.loop-to.to) c.loop-to.invariant.totals c.row-row.ensures.small);
      active = c.past-active.ensures;
    }
