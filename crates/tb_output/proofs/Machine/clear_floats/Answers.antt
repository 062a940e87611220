use Rattle.std.proofs.Common.{sym}
use Rattle.tb_output.proofs.FiringWork.ResultLemmas.{memory-err, same-err}
use Rattle.tb_output.proofs.Clears.ClearSteps.{FrontKept, areas, after-front, after-front_cut, after-front_keeps, columns-done, columns-cut, wide-done, wide-cut, rest-whole, rest-memory}
use Rattle.tb_output.proofs.Machine.clear_floats.Goals.{After-defer_areas}
use Rattle.tb_output.proofs.Machine.clear_floats.Goals as goal

pub keep_front-requires-clause-apart : goal.keep_front-requires-clause-apart
keep_front-requires-clause-apart c = λ e. c.requires.lists.apart.0.0 (sym e)

-- the front of the text goes back
front : (c : After-defer_areas) → FrontKept c.args.back c.args.body c.args.self.now c.defer_areas.new.self c.args.store.now c.keep_front.new.store
front c = record { is = c.requires.machine; back = c.requires.back; page = c.requires.lists.text; apart = c.requires.lists.apart; grown = c.keep_front.ensures; again = c.defer_areas.ensures }

pub float_columns-requires : goal.float_columns-requires
float_columns-requires c = (areas _ _ _ _ _ _ (front (goal.at.float_columns-requires c).After-defer_areas)).keeps.machine

pub returns-in_err-float_columns-clause-err : goal.returns-in_err-float_columns-clause-err
returns-in_err-float_columns-clause-err c =
    let h = front (goal.at.returns-in_err-float_columns-clause-err c).After-defer_areas in
    same-err c.from_residual.result _ _ c.from_residual.ensures.1 (after-front_cut _ _ _ _ _ _ h _ _ _ _ (columns-cut _ _ _ _ _ _ h _ _ c.float_columns.ensures.keeps _ c.in_err-float_columns.ensures.err))

pub returns-in_err-float_columns-clause-keeps : goal.returns-in_err-float_columns-clause-keeps
returns-in_err-float_columns-clause-keeps c =
    let h = front (goal.at.returns-in_err-float_columns-clause-keeps c).After-defer_areas in
    after-front_keeps _ _ _ _ _ _ h _ _ (columns-cut _ _ _ _ _ _ h _ _ c.float_columns.ensures.keeps _ c.in_err-float_columns.ensures.err).keeps

pub clear_wide-requires-clause-machine : goal.clear_wide-requires-clause-machine
clear_wide-requires-clause-machine c = c.float_columns.ensures.keeps.machine

pub clear_wide-requires-clause-back : goal.clear_wide-requires-clause-back
clear_wide-requires-clause-back c =
    let h = front (goal.at.clear_wide-requires-clause-back c).After-defer_areas in
    let done = columns-done _ _ _ _ _ _ h _ _ c.float_columns.ensures.keeps c.in_ok-float_columns.ensures.ok in
    done.keeps.back

pub returns-in_err-clear_wide-clause-err : goal.returns-in_err-clear_wide-clause-err
returns-in_err-clear_wide-clause-err c =
    let h = front (goal.at.returns-in_err-clear_wide-clause-err c).After-defer_areas in
    let done = columns-done _ _ _ _ _ _ h _ _ c.float_columns.ensures.keeps c.in_ok-float_columns.ensures.ok in
    same-err c.from_residual-in_err-clear_wide.result _ _ c.from_residual-in_err-clear_wide.ensures.1 (after-front_cut _ _ _ _ _ _ h _ _ _ _ (wide-cut _ _ _ _ _ _ h _ _ _ _ done c.clear_wide.ensures.keeps _ c.in_err-clear_wide.ensures.err))

pub returns-in_err-clear_wide-clause-keeps : goal.returns-in_err-clear_wide-clause-keeps
returns-in_err-clear_wide-clause-keeps c =
    let h = front (goal.at.returns-in_err-clear_wide-clause-keeps c).After-defer_areas in
    let done = columns-done _ _ _ _ _ _ h _ _ c.float_columns.ensures.keeps c.in_ok-float_columns.ensures.ok in
    after-front_keeps _ _ _ _ _ _ h _ _ (wide-cut _ _ _ _ _ _ h _ _ _ _ done c.clear_wide.ensures.keeps _ c.in_err-clear_wide.ensures.err).keeps

pub clear_rest-requires : goal.clear_rest-requires
clear_rest-requires c = c.clear_wide.ensures.keeps.back.live

pub returns-in_err-clear_rest-clause-err : goal.returns-in_err-clear_rest-clause-err
returns-in_err-clear_rest-clause-err c =
    let h = front (goal.at.returns-in_err-clear_rest-clause-err c).After-defer_areas in
    let done = columns-done _ _ _ _ _ _ h _ _ c.float_columns.ensures.keeps c.in_ok-float_columns.ensures.ok in
    let wide = wide-done _ _ _ _ _ _ h _ _ _ _ done c.clear_wide.ensures.keeps c.in_ok-clear_wide.ensures.ok in
    memory-err c.from_residual-in_err-clear_rest.result _ c.from_residual-in_err-clear_rest.ensures.1 (after-front_cut _ _ _ _ _ _ h _ _ _ _ (rest-memory _ _ _ _ _ _ h _ _ _ wide c.in_err-clear_rest.ensures.err))

pub returns-in_err-clear_rest-clause-keeps : goal.returns-in_err-clear_rest-clause-keeps
returns-in_err-clear_rest-clause-keeps c =
    let h = front (goal.at.returns-in_err-clear_rest-clause-keeps c).After-defer_areas in
    let done = columns-done _ _ _ _ _ _ h _ _ c.float_columns.ensures.keeps c.in_ok-float_columns.ensures.ok in
    let wide = wide-done _ _ _ _ _ _ h _ _ _ _ done c.clear_wide.ensures.keeps c.in_ok-clear_wide.ensures.ok in
    after-front_keeps _ _ _ _ _ _ h _ _ (rest-memory _ _ _ _ _ _ h _ _ _ wide c.in_err-clear_rest.ensures.err).keeps

pub returns-clause-ok : goal.returns-clause-ok
returns-clause-ok c =
    let h = front (goal.at.returns-clause-ok c).After-defer_areas in
    let done = columns-done _ _ _ _ _ _ h _ _ c.float_columns.ensures.keeps c.in_ok-float_columns.ensures.ok in
    let wide = wide-done _ _ _ _ _ _ h _ _ _ _ done c.clear_wide.ensures.keeps c.in_ok-clear_wide.ensures.ok in
    after-front _ _ _ _ _ _ h _ _ _ (rest-whole _ _ _ _ _ _ h _ _ _ wide c.in_ok-clear_rest.ensures.ok)

pub returns-clause-keeps : goal.returns-clause-keeps
returns-clause-keeps c =
    let h = front (goal.at.returns-clause-keeps c).After-defer_areas in
    let done = columns-done _ _ _ _ _ _ h _ _ c.float_columns.ensures.keeps c.in_ok-float_columns.ensures.ok in
    let wide = wide-done _ _ _ _ _ _ h _ _ _ _ done c.clear_wide.ensures.keeps c.in_ok-clear_wide.ensures.ok in
    after-front_keeps _ _ _ _ _ _ h _ _ (rest-whole _ _ _ _ _ _ h _ _ _ wide c.in_ok-clear_rest.ensures.ok).keeps
