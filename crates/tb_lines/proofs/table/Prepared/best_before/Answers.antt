use Rattle.std.proofs.Common.{◌≡◌, ap, ◌∙◌, sym, subst, length, arith, refl, None, List, Option, ℕ, ◌<◌}
use Rattle.tb_lines.specs.declared.table.Best.{Best}
use Rattle.tb_lines.specs.SolutionLines.{step_demerits}
use Rattle.tb_lines.specs.Table.{offer, best_among, row_at}
use Rattle.tb_lines.specs.ActiveBreaks.{IsPassedBy}
use Rattle.tb_lines.proofs.LeastWays.{length-table_of}
use Rattle.tb_lines.proofs.Offers.{best_more, row_small}
use Rattle.tb_lines.proofs.ActiveBreaks.{best_of_active}
use Rattle.tb_lines.proofs.table.Prepared.best_before.Goals as goal

pub loop-from-init : goal.loop-from-init
loop-from-init c =
    let P : List (Option Best) → Type 0 = λ rows. (i : ℕ) → i < c.args.active.low → IsPassedBy c.args.self.now.params.now c.args.self.now.entries.now c.args.to (row_at rows i) i in
    record {
      best = best_of_active c.args.self.now.params.now c.args.self.now.entries.now c.args.rows.now c.args.to c.args.active.low (subst P (sym c.requires.rows) c.requires.active.passed) c.start_row-best.result c.start_row-best.ensures.value;
      small = c.start_row-best.ensures.small;
    }

pub bounds-rows-from : goal.bounds-rows-from
bounds-rows-from c =
    let l : length c.args.rows.now ≡ c.args.to = ap length c.requires.rows ∙ length-table_of c.args.self.now.params.now c.args.self.now.entries.now c.args.to in
    omega arith

pub with_row-best-requires-clause-row : goal.with_row-best-requires-clause-row
with_row-best-requires-clause-row c =
    let l : length c.args.rows.now ≡ c.args.to = ap length c.requires.rows ∙ length-table_of c.args.self.now.params.now c.args.self.now.entries.now c.args.to in
    row_small c.args.rows.now c.loop-from.from None _ c.requires.totals (omega arith) refl

pub loop-from-preserved : goal.loop-from-preserved
loop-from-preserved c =
    let l : length c.args.rows.now ≡ c.args.to = ap length c.requires.rows ∙ length-table_of c.args.self.now.params.now c.args.self.now.entries.now c.args.to in
    record {
      best = best_more c.args.self.now.params.now c.args.self.now.entries.now c.args.rows.now c.args.to c.args.active.low c.loop-from.from c.args.active.forced
          c.requires.legal c.requires.active.forced c.requires.active.up_to (omega arith) (omega arith)
          c.loop-from.best _ c.with_row-best.result None (omega arith) refl c.loop-from.invariant.best c.with_row-best.ensures.value;
      small = c.with_row-best.ensures.small;
    }

pub returns-clause-value : goal.returns-clause-value
returns-clause-value c =
    let within = c.requires.active.within in
    let e : c.loop-from.from ≡ c.args.to = omega arith in
    c.loop-from.invariant.best ∙ ap (best_among (offer (step_demerits c.args.self.now.params.now c.args.self.now.entries.now) (row_at c.args.rows.now) c.args.to)) e
