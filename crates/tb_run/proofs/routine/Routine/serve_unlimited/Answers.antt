use Rattle.std.proofs.Common.{◌≡◌, sym, subst, ◌∙◌, ap, []}
use Rattle.tb_steps.specs.Runnable.{AreRunnable}
use Rattle.tb_run.specs.declared.routine.Routine.{Routine}
use Rattle.tb_run.specs.Routine.{with_events, IsConsistent, IsBounded, IsReady, AreHappened}
use Rattle.tb_run.specs.UnlimitedPages.{HasSent}
use Rattle.tb_run.proofs.Turns.UnlimitedLemmas.{none-ended, none-with, none-so, all-whole, all-params, all-ready, all-lists, all-sent}
use Rattle.tb_run.proofs.routine.Routine.serve_unlimited.Goals as goal

pub most_limit-requires-clause-whole : goal.most_limit-requires-clause-whole
most_limit-requires-clause-whole c =
    let on = none-ended c.in_ok-ending.ending (sym c.is_some.ensures ∙ c.if-is_some.false) in
    subst IsConsistent (sym c.in_ok-hand_over.ensures.machine) (all-whole c.args.self.now c.serve_all.new.self c.args.page c.in_ok-ending.ending c.requires.page c.in_ok-ending.ensures on)

pub most_limit-requires-clause-params : goal.most_limit-requires-clause-params
most_limit-requires-clause-params c =
    let on = none-ended c.in_ok-ending.ending (sym c.is_some.ensures ∙ c.if-is_some.false) in
    subst (λ (x : Routine). AreRunnable x.machine.params) (sym c.in_ok-hand_over.ensures.machine) (all-params c.args.self.now c.serve_all.new.self c.args.page c.in_ok-ending.ending c.requires.page c.in_ok-ending.ensures on)

pub returns-clause-ready : goal.returns-clause-ready
returns-clause-ready c =
    let on = none-ended c.in_ok-ending.ending (sym c.is_some.ensures ∙ c.if-is_some.false) in
    let m = c.most_limit.new.self in
    let same : m ≡ record (with_events [] c.serve_all.new.self) { most = m.most } = c.most_limit.ensures.same ∙ ap (λ (x : Routine). record x { most = m.most }) c.in_ok-hand_over.ensures.machine in
    none-with c.most_limit.result (IsBounded 4194304 m) (IsReady m) c.most_limit.ensures.bounded
    (all-ready c.args.self.now c.serve_all.new.self c.args.page c.in_ok-ending.ending c.requires.page c.in_ok-ending.ensures on m same)

pub returns-clause-lists : goal.returns-clause-lists
returns-clause-lists c =
    let on = none-ended c.in_ok-ending.ending (sym c.is_some.ensures ∙ c.if-is_some.false) in
    let m = c.most_limit.new.self in
    let same : m ≡ record (with_events [] c.serve_all.new.self) { most = m.most } = c.most_limit.ensures.same ∙ ap (λ (x : Routine). record x { most = m.most }) c.in_ok-hand_over.ensures.machine in
    none-so c.most_limit.result (AreHappened m c.hand_over.new.happened.items)
    (all-lists c.args.self.now c.serve_all.new.self c.args.page c.in_ok-ending.ending c.requires.page c.in_ok-ending.ensures on m same c.args.happened.now.items c.hand_over.new.happened.items c.requires.quiet c.in_ok-hand_over.ensures.events)

pub returns-clause-sent : goal.returns-clause-sent
returns-clause-sent c =
    let on = none-ended c.in_ok-ending.ending (sym c.is_some.ensures ∙ c.if-is_some.false) in
    let m = c.most_limit.new.self in
    let same : m ≡ record (with_events [] c.serve_all.new.self) { most = m.most } = c.most_limit.ensures.same ∙ ap (λ (x : Routine). record x { most = m.most }) c.in_ok-hand_over.ensures.machine in
    none-so c.most_limit.result (HasSent c.args.page c.args.self.now m c.args.happened.now.items c.hand_over.new.happened.items)
    (all-sent c.args.self.now c.serve_all.new.self c.args.page c.in_ok-ending.ending c.requires.page c.in_ok-ending.ensures on m same c.args.happened.now.items c.hand_over.new.happened.items c.in_ok-hand_over.ensures.events)
