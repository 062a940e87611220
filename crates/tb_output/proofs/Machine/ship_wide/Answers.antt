use Rattle.std.proofs.Common.{◌≡◌, refl, sym, subst, ◌∙◌, ap, [], FitsSigned, w64, rules}
use Rattle.std.proofs.lemmas.Int.{to_z-of_z}
use Rattle.tb_float.specs.Lists.{wide_part, wide_waiting}
use Rattle.tb_float.specs.Pool.{marked_floats}
use Rattle.tb_output.specs.Pages.{wide_wanted}
use Rattle.tb_output.specs.Machine.{MachineView, AreOutputParams}
use Rattle.tb_output.specs.MachineFrame.{KeepsMachine}
use Rattle.tb_output.specs.FiringParts.{wide_done}
use Rattle.tb_output.proofs.Clears.CompanyHeads.{some-chosen}
use Rattle.tb_output.proofs.Clears.CompanyLemmas.{continues-wide_done}
use Rattle.tb_output.proofs.ColumnPages.FloatPages.{WideTaken, source-is, wide-taken, page-shipped, page-not, page-keeps, page-kept, wide-keeps, wide-cut, page-machine}
use Rattle.tb_output.proofs.FiringWork.KeepLemmas.{keeps-same}
use Rattle.tb_output.proofs.FiringWork.ResultLemmas.{memory-err, same-err}
use Rattle.tb_output.proofs.Machine.ship_wide.Goals.{After-wide_part-from, In_ok-column}
use Rattle.tb_output.proofs.Machine.ship_wide.Goals as goal
use Rattle.tb_node.proofs.FitLemmas.{extent_small}

-- no floats make a page
pub returns-then-not-choose_wide-clause-ok : goal.returns-then-not-choose_wide-clause-ok
returns-then-not-choose_wide-clause-ok c =
    let none = c.choose_wide.ensures.none c.if-not-choose_wide.true in
    record { none = none.none; machine = none.machine; lists = refl }

pub returns-then-not-choose_wide-clause-keeps : goal.returns-then-not-choose_wide-clause-keeps
returns-then-not-choose_wide-clause-keeps c =
    let none = c.choose_wide.ensures.none c.if-not-choose_wide.true in
    subst (λ n. KeepsMachine [] c.args.self.now n c.args.store.now c.args.store.now) (sym none.machine) (keeps-same [] c.args.self.now c.args.store.now c.args.store.now c.requires refl)

pub take_floats-requires-clause-height : goal.take_floats-requires-clause-height
take_floats-requires-clause-height c =
    let i = c.self.inside in
    let params : AreOutputParams i.params = subst AreOutputParams (ap (λ (v : MachineView). v.params) (sym (c.self.view_is ∙ c.choose_wide.ensures.rest))) c.requires.params in
    let high : FitsSigned w64 i.params.textheight = search rules in
    rw to_z-of_z (extent_small i.params.textheight params.columns.floats.textheight)

-- the floats wait where wide ones do
from_is : (c : After-wide_part-from) → c.wide_part-from.result ≡ wide_part c.choose_wide.new.self.params
from_is c = c.wide_part-from.ensures.value ∙ ap (λ (v : MachineView). wide_part v.params) c.self.view_is

-- a company has a float
pub take_floats-requires-clause-marked : goal.take_floats-requires-clause-marked
take_floats-requires-clause-marked c =
    let m = c.args.self.now in
    let chosen = c.choose_wide.ensures.chosen c.if-not-choose_wide.false in
    let from = source-is m c.choose_wide.new.self _ c.choose_wide.ensures.rest (from_is (goal.at.take_floats-requires-clause-marked c).After-wide_part-from) in
    λ none. some-chosen (wide_wanted m.params c.args.clearing) (wide_waiting m.params m.pool.lists) chosen.choices chosen.found (sym chosen.marked ∙ ap (λ f. marked_floats f c.choose_wide.new.self.pool) (sym from) ∙ none)

-- there was no memory
pub returns-in_err-column-clause-err : goal.returns-in_err-column-clause-err
returns-in_err-column-clause-err c =
    let m = c.args.self.now in
    let from = from_is (goal.at.returns-in_err-column-clause-err c).After-wide_part-from in
    memory-err c.from_residual.result _ c.from_residual.ensures.1
    (wide-cut _ _ _ _ _ _ _ c.requires (c.choose_wide.ensures.chosen c.if-not-choose_wide.false) c.choose_wide.ensures.rest from c.in_err-column.ensures.unchosen c.in_err-column.ensures.err (wide_done m.params c.args.clearing) (continues-wide_done m.params c.args.clearing))

pub returns-in_err-column-clause-keeps : goal.returns-in_err-column-clause-keeps
returns-in_err-column-clause-keeps c =
    let from = from_is (goal.at.returns-in_err-column-clause-keeps c).After-wide_part-from in
    wide-keeps c.args.clearing _ _ _ _ _ _ c.requires (c.choose_wide.ensures.chosen c.if-not-choose_wide.false) c.choose_wide.ensures.rest from c.in_err-column.ensures.unchosen c.in_err-column.ensures.err

-- the floats were taken into a column
taken : (c : In_ok-column) → WideTaken c.args.clearing c.args.self.now c.choose_wide.new.self c.take_floats.new.self c.args.store.now c.take_floats.new.store c.in_ok-column.column
taken c =
    let high : FitsSigned w64 c.self.inside.params.textheight = search rules in
    wide-taken _ _ _ _ _ _ _ c.wide_part-from.result c.self.inside.params.textheight c.requires (c.choose_wide.ensures.chosen c.if-not-choose_wide.false) c.choose_wide.ensures.rest
    (c.wide_part-from.ensures.value ∙ ap (λ (v : MachineView). wide_part v.params) c.self.view_is) c.in_ok-column.ensures.machine c.in_ok-column.ensures.opened (ap (λ (v : MachineView). v.params.textheight) c.self.view_is) (simp to_z-of_z at c.in_ok-column.ensures.shown)

pub ship-requires : goal.ship-requires
ship-requires c =
    let is = page-machine _ _ _ _ _ _ _ (taken (goal.at.ship-requires c).In_ok-column) in
    record { first = is.first; last = is.last; numbered = is.numbered }

-- the page was not shipped
pub returns-in_err-ship : goal.returns-in_err-ship
returns-in_err-ship c =
    let h = taken (goal.at.returns-in_err-ship c).In_ok-column in
    record {
      ok = search rules;
      err = same-err c.from_residual-in_err-ship.result _ _ c.from_residual-in_err-ship.ensures.1 (page-not _ _ _ _ _ _ _ h c.ship.new.self _ c.in_err-ship.ensures.err);
      keeps = page-kept _ _ _ _ _ _ _ h c.ship.new.self _ c.in_err-ship.ensures.err;
    }

pub returns : goal.returns
returns c =
    let h = taken (goal.at.returns c).In_ok-column in
    record {
      ok = page-shipped _ _ _ _ _ _ _ h c.ship.new.self c.in_ok-ship.ensures.ok;
      err = tt;
      keeps = page-keeps _ _ _ _ _ _ _ h c.ship.new.self c.in_ok-column.ensures.column c.in_ok-ship.ensures.ok;
    }

pub take_floats-requires-clause-params : goal.take_floats-requires-clause-params
take_floats-requires-clause-params c = subst (λ (m : MachineView). AreOutputParams m.params) (sym c.choose_wide.ensures.rest) c.requires.params
