use Rattle.std.proofs.Common.{refl, sym, subst, ◌∙◌, ap, [], FitsSigned, w64, rules}
use Rattle.std.proofs.lemmas.Int.{to_z-of_z}
use Rattle.tb_float.specs.Rooms.{column_height_of}
use Rattle.tb_float.specs.declared.Part.TheVariants as parts
use Rattle.tb_column.proofs.ClosingLemmas.{height_amount}
use Rattle.tb_output.specs.Columns.{single_wanted}
use Rattle.tb_output.specs.Machine.{MachineView, AreOutputParams}
use Rattle.tb_output.specs.MachineFrame.{KeepsMachine}
use Rattle.tb_output.specs.FiringParts.{column_done}
use Rattle.tb_output.specs.FiringWork.{shows, IsCutShort}
use Rattle.tb_output.proofs.Clears.CompanyHeads.{some-chosen}
use Rattle.tb_output.proofs.Clears.CompanyLemmas.{continues-column_done}
use Rattle.tb_output.proofs.ColumnPages.FloatPages.{ColumnTaken, column-taken, column-machine, column-none, column-out, column-keeps, back-keeps, back-cut}
use Rattle.tb_output.proofs.FiringWork.KeepLemmas.{keeps-same}
use Rattle.tb_output.proofs.FiringWork.ResultLemmas.{memory-err, same-err}
use Rattle.tb_output.proofs.Machine.put_out_floats.Goals.{In_ok-column}
use Rattle.tb_output.proofs.Machine.put_out_floats.Goals as goal

pub take_floats-requires-clause-height : goal.take_floats-requires-clause-height
take_floats-requires-clause-height c =
    let height : FitsSigned w64 c.column_height-height.result = search rules in
    simp to_z-of_z (height_amount c.column_height-height.result c.column_height-height.ensures.within)

-- no floats make a column
pub returns-then-not-choose_column-clause-ok : goal.returns-then-not-choose_column-clause-ok
returns-then-not-choose_column-clause-ok c =
    let none = c.choose_column.ensures.none c.if-not-choose_column.true in
    record { none = none.none; machine = none.machine; lists = refl }

pub returns-then-not-choose_column-clause-keeps : goal.returns-then-not-choose_column-clause-keeps
returns-then-not-choose_column-clause-keeps c =
    let none = c.choose_column.ensures.none c.if-not-choose_column.true in
    subst (λ n. KeepsMachine [] c.args.self.now n c.args.store.now c.args.store.now) (sym none.machine) (keeps-same [] c.args.self.now c.args.store.now c.args.store.now c.requires refl)

-- a company has a float
pub take_floats-requires-clause-marked : goal.take_floats-requires-clause-marked
take_floats-requires-clause-marked c =
    let m = c.args.self.now in
    let chosen = c.choose_column.ensures.chosen c.if-not-choose_column.false in
    λ none. some-chosen (single_wanted m.params m.pool.lists c.args.clearing) m.pool.lists.deferred chosen.choices chosen.found (sym chosen.marked ∙ none)

-- there was no memory
pub returns-in_err-column-clause-err : goal.returns-in_err-column-clause-err
returns-in_err-column-clause-err c =
    let m = c.args.self.now in
    memory-err c.from_residual.result _ c.from_residual.ensures.1
    (back-cut _ parts.Deferred tt _ _ _ _ _ c.requires (c.choose_column.ensures.chosen c.if-not-choose_column.false) c.choose_column.ensures.rest
    c.in_err-column.ensures.unchosen c.in_err-column.ensures.err (column_done m.params c.args.clearing) (continues-column_done m.params c.args.clearing))

pub returns-in_err-column-clause-keeps : goal.returns-in_err-column-clause-keeps
returns-in_err-column-clause-keeps c =
    back-keeps _ parts.Deferred tt _ _ _ _ _ c.requires (c.choose_column.ensures.chosen c.if-not-choose_column.false) c.choose_column.ensures.rest
    c.in_err-column.ensures.unchosen c.in_err-column.ensures.err

-- the floats were taken into a column
taken : (c : In_ok-column) → ColumnTaken c.args.clearing c.args.self.now c.choose_column.new.self c.take_floats.new.self c.args.store.now c.take_floats.new.store c.in_ok-column.column
taken c =
    let high : FitsSigned w64 c.column_height-height.result = search rules in
    column-taken _ _ _ _ _ _ _ c.column_height-height.result c.requires (c.choose_column.ensures.chosen c.if-not-choose_column.false) c.choose_column.ensures.rest
    c.in_ok-column.ensures.machine c.in_ok-column.ensures.opened (c.column_height-height.ensures.value ∙ ap (λ (v : MachineView). column_height_of v.params v.pool.lists) c.self.view_is) (simp to_z-of_z at c.in_ok-column.ensures.shown)

pub put_out-requires : goal.put_out-requires
put_out-requires c =
    let h = taken (goal.at.put_out-requires c).In_ok-column in
    record { machine = column-machine _ _ _ _ _ _ _ h; column = c.in_ok-column.ensures.column; apart = column-none _ _ _ _ _ _ _ h }

-- the column was not put out
pub returns-in_err-put_out : goal.returns-in_err-put_out
returns-in_err-put_out c =
    let h = taken (goal.at.returns-in_err-put_out c).In_ok-column in
    record {
      ok = search rules;
      err = same-err c.from_residual-in_err-put_out.result _ _ c.from_residual-in_err-put_out.ensures.1 (column-out _ _ _ _ _ _ _ h (IsCutShort _ c.put_out.new.self c.put_out.new.store) c.in_err-put_out.ensures.err);
      keeps = column-keeps _ _ _ _ _ _ _ h _ _ c.put_out.ensures.keeps;
    }

pub returns : goal.returns
returns c =
    let h = taken (goal.at.returns c).In_ok-column in
    record {
      ok = column-out _ _ _ _ _ _ _ h (shows c.put_out.new.self c.put_out.new.store) c.in_ok-put_out.ensures.ok;
      err = tt;
      keeps = column-keeps _ _ _ _ _ _ _ h _ _ c.put_out.ensures.keeps;
    }

pub take_floats-requires-clause-params : goal.take_floats-requires-clause-params
take_floats-requires-clause-params c = subst (λ (m : MachineView). AreOutputParams m.params) (sym c.choose_column.ensures.rest) c.requires.params
