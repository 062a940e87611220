use Rattle.std.proofs.Common.{sym, subst, ◌∙◌, ◌+◌, ◌≤◌, ◌∷◌, [], FitsSigned, w64, rules}
use Rattle.std.proofs.lemmas.Int.{to_z-of_z}
use Rattle.tb_column.specs.StoredColumns.{column_shown}
use Rattle.tb_sheet.specs.declared.Sheet.TheVariants as sheets
use Rattle.tb_output.specs.declared.RunFault.TheVariants as faults
use Rattle.tb_output.specs.Machine.{MachineView}
use Rattle.tb_output.specs.Pages.{ship_pair}
use Rattle.tb_output.specs.FiringWork.{shows, IsCutShort, Does}
use Rattle.tb_output.specs.MachineFrame.{KeepsMachine}
use Rattle.tb_output.specs.PageChanges.{HasShipped, without_doubles, doubled_lists}
use Rattle.tb_output.proofs.FiringWork.ResultLemmas.{memory-err, same-err}
use Rattle.tb_output.proofs.StepLaws.WorkSteps.{continues-ship_pair}
use Rattle.tb_output.proofs.FiringWork.WorkingLemmas.{no-memory}
use Rattle.tb_output.proofs.FiringWork.StandLemmas.{lists-shown}
use Rattle.tb_output.proofs.FiringWork.KeepLemmas.{keeps-same, keeps-then}
use Rattle.tb_output.proofs.ColumnPages.FloatMoves.{fill_double-does, floats-keep}
use Rattle.tb_output.proofs.ColumnPages.PairLemmas.{pair_shipped, failed-of, pair-does, pair-fails, pair-kept, pair-keeps}
use Rattle.tb_output.proofs.ColumnPages.ShipLemmas.{unshipped-same}
use Rattle.tb_output.proofs.ColumnPages.StepsInTurn.{pair-all, pair-cut}
use Rattle.tb_output.proofs.Machine.ship_pair.Goals.{After-end_pair}
use Rattle.tb_output.proofs.Machine.ship_pair.Goals as goal

-- the page was shipped
shipped : (c : After-end_pair) → HasShipped (sheets.Two c.in_ok-tops.tops c.pair_place-at.result c.left-left.result c.args.right) (without_doubles c.args.self.now) c.ship.new.self
shipped c =
    let fits : FitsSigned w64 c.pair_place-at.result = search rules in
    subst (λ n. HasShipped (sheets.Two c.in_ok-tops.tops c.pair_place-at.result c.left-left.result c.args.right) n c.ship.new.self) c.in_ok-tops.ensures.machine (simp to_z-of_z at c.in_ok-ship.ensures.ok)

-- what the pair that was shipped keeps
kept : (c : After-end_pair) → KeepsMachine (c.args.right.list ∷ []) c.args.self.now c.end_pair.new.self c.args.store.now c.take_tops.new.store
kept c =
    subst (λ n. KeepsMachine (c.args.right.list ∷ []) c.args.self.now n c.args.store.now c.take_tops.new.store) (sym c.end_pair.ensures)
    (pair-keeps c.args.self.now c.ship.new.self _ _ c.in_ok-tops.tops c.pair_place-at.result c.left-left.result c.args.right c.left-left.ensures c.pair_place-at.ensures c.in_ok-tops.ensures.tops c.in_ok-tops.ensures.opened c.requires.machine c.requires.column c.in_ok-tops.ensures.page c.requires.apart (shipped c))

-- what it does
done : (c : After-end_pair) → Does (shows c.args.self.now c.args.store.now) (shows c.end_pair.new.self c.take_tops.new.store) (pair_shipped c.args.self.now (column_shown c.args.store.now c.args.right))
done c =
    subst (λ n. Does (shows c.args.self.now c.args.store.now) (shows n c.take_tops.new.store) (pair_shipped c.args.self.now (column_shown c.args.store.now c.args.right))) (sym c.end_pair.ensures)
    (pair-does c.args.self.now c.ship.new.self _ _ c.in_ok-tops.tops c.pair_place-at.result c.left-left.result c.args.right c.left-left.ensures c.pair_place-at.ensures c.in_ok-tops.ensures.tops c.in_ok-tops.ensures.opened c.requires.machine c.requires.column (shipped c))

pub left-left-requires : goal.left-left-requires
left-left-requires c = c.requires.machine.left c.requires.second

-- there was no memory for the list of wide floats
pub returns-in_err-tops : goal.returns-in_err-tops
returns-in_err-tops c =
    let m = c.args.self.now in
    let store = c.args.store.now in
    let s = c.take_tops.new.store in
    let step = ship_pair m.params (column_shown store c.args.right) in
    let same = sym c.in_err-tops.ensures.same in
    record {
      ok = search rules;
      err = memory-err c.from_residual.result _ c.from_residual.ensures.1
          (subst (λ n. Does (shows m store) (IsCutShort faults.Memory n s) step) same
          (no-memory m m store s step (lists-shown m store s c.requires.machine c.in_err-tops.ensures.err).events (continues-ship_pair m.params (column_shown store c.args.right))));
      keeps = subst (λ n. KeepsMachine (c.args.right.list ∷ []) m n store s) same (keeps-same (c.args.right.list ∷ []) m store s c.requires.machine c.in_err-tops.ensures.err);
    }

pub ship-requires : goal.ship-requires
ship-requires c =
    let same = sym c.in_ok-tops.ensures.machine in
    record { first = subst (λ (n : MachineView). 1 ≤ n.page) same c.requires.machine.first; last = subst (λ (n : MachineView). n.page ≤ 4194305) same c.requires.machine.last; numbered = subst (λ (n : MachineView). n.number ≤ n.page + 1000000) same c.requires.machine.numbered }

-- the page was not shipped
pub returns-in_err-ship : goal.returns-in_err-ship
returns-in_err-ship c =
    let m = c.args.self.now in
    let store = c.args.store.now in
    let s = c.take_tops.new.store in
    let failed = c.in_err-ship.ensures.err in
    record {
      ok = search rules;
      err = same-err c.from_residual-in_err-ship.result _ _ c.from_residual-in_err-ship.ensures.1
          (pair-fails m c.ship.new.self _ _ c.in_ok-tops.tops c.pair_place-at.result c.left-left.result c.args.right c.left-left.ensures c.pair_place-at.ensures c.in_ok-tops.ensures.tops c.in_ok-tops.ensures.opened c.requires.machine c.requires.column _ (failed-of _ (without_doubles m) c.take_tops.new.self c.ship.new.self c.in_ok-tops.ensures.machine failed));
      keeps = pair-kept m c.ship.new.self _ _ c.in_ok-tops.tops c.pair_place-at.result c.left-left.result c.args.right c.left-left.ensures c.pair_place-at.ensures c.in_ok-tops.ensures.tops c.in_ok-tops.ensures.opened c.requires.machine c.requires.column (unshipped-same _ c.take_tops.new.self c.ship.new.self failed ∙ c.in_ok-tops.ensures.machine);
    }

pub wide_pages-requires : goal.wide_pages-requires
wide_pages-requires c = (kept (goal.at.wide_pages-requires c).After-end_pair).machine

-- a page of wide floats was not
pub returns-in_err-wide_pages : goal.returns-in_err-wide_pages
returns-in_err-wide_pages c =
    let m = c.args.self.now in
    let one = c.end_pair.new.self in
    let two = c.wide_pages.new.self in
    let s = c.take_tops.new.store in
    let t = c.wide_pages.new.store in
    let w = (goal.at.returns-in_err-wide_pages c).After-end_pair in
    record {
      ok = search rules;
      err = same-err c.from_residual-in_err-wide_pages.result _ _ c.from_residual-in_err-wide_pages.ensures.1 (pair-cut m one two m c.args.store.now s t (column_shown c.args.store.now c.args.right) _ (kept w).fields.params (done w) c.in_err-wide_pages.ensures.err);
      keeps = keeps-then (c.args.right.list ∷ []) [] m one two c.args.store.now s t (kept w) c.wide_pages.ensures.keeps (λ q live none. tt);
    }

pub fill_double-requires : goal.fill_double-requires
fill_double-requires c = c.wide_pages.ensures.keeps.machine.params.columns.floats

pub returns : goal.returns
returns c =
    let m = c.args.self.now in
    let store = c.args.store.now in
    let s = c.take_tops.new.store in
    let lists = c.args.right.list ∷ [] in
    let one = c.end_pair.new.self in
    let two = c.wide_pages.new.self in
    let three = c.fill_double.new.self in
    let t = c.wide_pages.new.store in
    let w = (goal.at.returns c).After-end_pair in
    let params = (kept w).fields.params in
    let then = keeps-then lists [] m one two store s t (kept w) c.wide_pages.ensures.keeps (λ q live none. tt) in
    record {
      ok = pair-all m one two three store s t (column_shown store c.args.right) params (c.wide_pages.ensures.keeps.fields.params ∙ params) (done w) c.in_ok-wide_pages.ensures.ok (fill_double-does two three t c.fill_double.ensures);
      err = tt;
      keeps = keeps-then lists [] m two three store t t then (floats-keep (doubled_lists two) two three t c.fill_double.ensures c.wide_pages.ensures.keeps.machine) (λ q live none. tt);
    }
