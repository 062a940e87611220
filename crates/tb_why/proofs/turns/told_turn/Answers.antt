use Rattle.std.proofs.Common.{◌≡◌, sym, subst, ap, ◌∙◌, true, ◌++◌, length}
use Rattle.tb_float.specs.Pool.{FloatPool}
use Rattle.tb_run.specs.FilledPages.{Fills, IsFiring, IsFilledLast, HasServed}
use Rattle.tb_run.specs.Routine.{IsTurned}
use Rattle.tb_run.proofs.Turns.TurnLemmas.{ok-with, last-turned, last-pages, last-ended, served-turned}
use Rattle.tb_output.proofs.FiringWork.ResultLemmas.{ok-map}
use Rattle.tb_why.specs.ShownOf.{AreShownPages}
use Rattle.tb_why.specs.ShownTurns.{filled_shown}
use Rattle.tb_why.proofs.TurnLemmas.{filled-params, served-params, last-shown, fired-shown, filled-pages, turn-pages}
use Rattle.tb_why.proofs.turns.told_turn.Goals as goal

-- the run ends before a page fires

pub returns-in_ok-show_filled-in-Ends-clause-turned : goal.returns-in_ok-show_filled-in-Ends-clause-turned
returns-in_ok-show_filled-in-Ends-clause-turned c =
    let h : IsFilledLast true c.args.routine.now c.in-Ends.ending c.fill.new.self c.fill.new.happened.items = subst (λ x. Fills true c.args.routine.now x c.fill.new.self c.fill.new.happened.items) c.in-Ends.is c.in_ok-ending.ensures in
    last-turned true c.args.routine.now c.fill.new.self c.in-Ends.ending c.fill.new.happened.items h

pub returns-in_ok-show_filled-in-Ends-clause-params : goal.returns-in_ok-show_filled-in-Ends-clause-params
returns-in_ok-show_filled-in-Ends-clause-params c =
    let h : IsFilledLast true c.args.routine.now c.in-Ends.ending c.fill.new.self c.fill.new.happened.items = subst (λ x. Fills true c.args.routine.now x c.fill.new.self c.fill.new.happened.items) c.in-Ends.is c.in_ok-ending.ensures in
    filled-params c.args.routine.now c.fill.new.self c.fill.new.happened.items h.filled

pub returns-in_ok-show_filled-in-Ends-clause-ended : goal.returns-in_ok-show_filled-in-Ends-clause-ended
returns-in_ok-show_filled-in-Ends-clause-ended c =
    let h : IsFilledLast true c.args.routine.now c.in-Ends.ending c.fill.new.self c.fill.new.happened.items = subst (λ x. Fills true c.args.routine.now x c.fill.new.self c.fill.new.happened.items) c.in-Ends.is c.in_ok-ending.ensures in
    last-ended true c.args.routine.now c.fill.new.self c.in-Ends.ending c.fill.new.happened.items h

pub returns-in_ok-show_filled-in-Ends-clause-pages : goal.returns-in_ok-show_filled-in-Ends-clause-pages
returns-in_ok-show_filled-in-Ends-clause-pages c =
    let h : IsFilledLast true c.args.routine.now c.in-Ends.ending c.fill.new.self c.fill.new.happened.items = subst (λ x. Fills true c.args.routine.now x c.fill.new.self c.fill.new.happened.items) c.in-Ends.is c.in_ok-ending.ensures in
    last-pages true c.args.routine.now c.fill.new.self c.in-Ends.ending c.fill.new.happened.items h

pub returns-in_ok-show_filled-in-Ends-clause-shown : goal.returns-in_ok-show_filled-in-Ends-clause-shown
returns-in_ok-show_filled-in-Ends-clause-shown c =
    let h : IsFilledLast true c.args.routine.now c.in-Ends.ending c.fill.new.self c.fill.new.happened.items = subst (λ x. Fills true c.args.routine.now x c.fill.new.self c.fill.new.happened.items) c.in-Ends.is c.in_ok-ending.ensures in
    let waited : c.len-waited.result ≡ length c.args.routine.now.machine.pool.lists.second = c.len-waited.ensures.value ∙ ap (λ (p : FloatPool). length p.lists.second) c.pool.ensures in
    last-shown c.args.routine.now c.fill.new.self c.in-Ends.ending c.fill.new.happened.items h c.show_filled.new.shown.items
    (c.in_ok-show_filled-in-Ends.ensures ∙ (λ i. c.clear.ensures.items i ++ filled_shown (waited i) c.fill.new.self.machine (c.as_slice.ensures.value i)))

pub returns-in_ok-show_filled-in-Ends-clause-shown_pages : goal.returns-in_ok-show_filled-in-Ends-clause-shown_pages
returns-in_ok-show_filled-in-Ends-clause-shown_pages c =
    let h : IsFilledLast true c.args.routine.now c.in-Ends.ending c.fill.new.self c.fill.new.happened.items = subst (λ x. Fills true c.args.routine.now x c.fill.new.self c.fill.new.happened.items) c.in-Ends.is c.in_ok-ending.ensures in
    let waited : c.len-waited.result ≡ length c.args.routine.now.machine.pool.lists.second = c.len-waited.ensures.value ∙ ap (λ (p : FloatPool). length p.lists.second) c.pool.ensures in
    subst (AreShownPages c.fill.new.self.store) (sym (c.in_ok-show_filled-in-Ends.ensures ∙ (λ i. c.clear.ensures.items i ++ filled_shown (waited i) c.fill.new.self.machine (c.as_slice.ensures.value i))))
    (filled-pages c.args.routine.now c.fill.new.self c.fill.new.happened.items h.filled c.fill.new.self.store (last-pages true c.args.routine.now c.fill.new.self c.in-Ends.ending c.fill.new.happened.items h))

-- the page fires

pub serve_shown-requires-clause-page : goal.serve_shown-requires-clause-page
serve_shown-requires-clause-page c =
    let h : IsFiring true c.args.routine.now c.in-Fires.page c.fill.new.self c.fill.new.happened.items = subst (λ x. Fills true c.args.routine.now x c.fill.new.self c.fill.new.happened.items) c.in-Fires.is c.in_ok-ending.ensures in
    h.can

pub serve_shown-requires-clause-quiet : goal.serve_shown-requires-clause-quiet
serve_shown-requires-clause-quiet c =
    let h : IsFiring true c.args.routine.now c.in-Fires.page c.fill.new.self c.fill.new.happened.items = subst (λ x. Fills true c.args.routine.now x c.fill.new.self c.fill.new.happened.items) c.in-Fires.is c.in_ok-ending.ensures in
    h.filled.lists

pub returns-in_ok-show_filled-in-Fires-clause-turned : goal.returns-in_ok-show_filled-in-Fires-clause-turned
returns-in_ok-show_filled-in-Fires-clause-turned c =
    let h : IsFiring true c.args.routine.now c.in-Fires.page c.fill.new.self c.fill.new.happened.items = subst (λ x. Fills true c.args.routine.now x c.fill.new.self c.fill.new.happened.items) c.in-Fires.is c.in_ok-ending.ensures in
    ok-with c.serve_shown.result (λ o. HasServed c.in-Fires.page c.fill.new.self o c.serve_shown.new.routine c.fill.new.happened.items c.serve_shown.new.happened.items) (λ o. IsTurned true c.args.routine.now c.serve_shown.new.happened.items o c.serve_shown.new.routine)
    (λ o. served-turned true c.args.routine.now c.fill.new.self c.in-Fires.page c.fill.new.happened.items h o c.serve_shown.new.routine c.serve_shown.new.happened.items)
    c.serve_shown.ensures.served

pub returns-in_ok-show_filled-in-Fires-clause-params : goal.returns-in_ok-show_filled-in-Fires-clause-params
returns-in_ok-show_filled-in-Fires-clause-params c =
    let h : IsFiring true c.args.routine.now c.in-Fires.page c.fill.new.self c.fill.new.happened.items = subst (λ x. Fills true c.args.routine.now x c.fill.new.self c.fill.new.happened.items) c.in-Fires.is c.in_ok-ending.ensures in
    served-params c.args.routine.now c.fill.new.self c.serve_shown.new.routine c.fill.new.happened.items h.filled c.serve_shown.result c.serve_shown.ensures.params

pub returns-in_ok-show_filled-in-Fires-clause-shown : goal.returns-in_ok-show_filled-in-Fires-clause-shown
returns-in_ok-show_filled-in-Fires-clause-shown c =
    let h : IsFiring true c.args.routine.now c.in-Fires.page c.fill.new.self c.fill.new.happened.items = subst (λ x. Fills true c.args.routine.now x c.fill.new.self c.fill.new.happened.items) c.in-Fires.is c.in_ok-ending.ensures in
    let waited : c.len-waited.result ≡ length c.args.routine.now.machine.pool.lists.second = c.len-waited.ensures.value ∙ ap (λ (p : FloatPool). length p.lists.second) c.pool.ensures in
    ok-map c.serve_shown.result _ _
    (λ e. fired-shown c.args.routine.now c.fill.new.self c.in-Fires.page c.fill.new.happened.items h c.serve_shown.new.routine.store c.show_filled-in-Fires.new.shown.items c.serve_shown.new.shown.items
    (c.in_ok-show_filled-in-Fires.ensures ∙ (λ i. c.clear.ensures.items i ++ filled_shown (waited i) c.fill.new.self.machine (c.as_slice-in-Fires.ensures.value i))) e)
    c.serve_shown.ensures.shown

pub returns-in_ok-show_filled-in-Fires-clause-shown_pages : goal.returns-in_ok-show_filled-in-Fires-clause-shown_pages
returns-in_ok-show_filled-in-Fires-clause-shown_pages c =
    let h : IsFiring true c.args.routine.now c.in-Fires.page c.fill.new.self c.fill.new.happened.items = subst (λ x. Fills true c.args.routine.now x c.fill.new.self c.fill.new.happened.items) c.in-Fires.is c.in_ok-ending.ensures in
    let waited : c.len-waited.result ≡ length c.args.routine.now.machine.pool.lists.second = c.len-waited.ensures.value ∙ ap (λ (p : FloatPool). length p.lists.second) c.pool.ensures in
    turn-pages c.args.routine.now c.fill.new.self c.in-Fires.page c.fill.new.happened.items h c.serve_shown.result c.serve_shown.new.routine c.serve_shown.new.happened.items c.show_filled-in-Fires.new.shown.items c.serve_shown.new.shown.items
    (c.in_ok-show_filled-in-Fires.ensures ∙ (λ i. c.clear.ensures.items i ++ filled_shown (waited i) c.fill.new.self.machine (c.as_slice-in-Fires.ensures.value i)))
    c.serve_shown.ensures.served c.serve_shown.ensures.pages c.serve_shown.ensures.shown_pages
