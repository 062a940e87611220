use Rattle.std.proofs.Common.{◌≡◌, subst, sym}
use Rattle.std.specs.Prelude.{IfNone}
use Rattle.tb_items.specs.Happenings.{ArePages}
use Rattle.tb_run.specs.declared.routine.Routine.{Routine}
use Rattle.tb_run.specs.Routine.{IsReady, IsEnded, AreHappened}
use Rattle.tb_run.specs.FilledPages.{HasServed}
use Rattle.tb_run.proofs.Turns.TurnLemmas.{has-served, served-ready, served-ended, served-pages, served-lists}
use Rattle.tb_run.proofs.routine.Routine.serve_next.Goals as goal

pub serve-requires-clause-whole : goal.serve-requires-clause-whole
serve-requires-clause-whole c = c.requires.page.whole

pub serve-requires-clause-page : goal.serve-requires-clause-page
serve-requires-clause-page c = c.requires.page.can

pub serve-requires-clause-room : goal.serve-requires-clause-room
serve-requires-clause-room c = c.requires.page.room

pub serve-requires-clause-bounded : goal.serve-requires-clause-bounded
serve-requires-clause-bounded c = c.requires.page.bounded

pub serve-requires-clause-params : goal.serve-requires-clause-params
serve-requires-clause-params c = c.requires.page.params

pub serve-requires-clause-classes : goal.serve-requires-clause-classes
serve-requires-clause-classes c = c.requires.page.classes

pub serve-requires-clause-served : goal.serve-requires-clause-served
serve-requires-clause-served c = c.requires.page.served

pub serve-requires-clause-ends : goal.serve-requires-clause-ends
serve-requires-clause-ends c = c.requires.page.ends

pub returns-clause-served : goal.returns-clause-served
returns-clause-served c =
    let q = c.args.self.now in
    let d = c.serve.new.self in
    let hs = c.args.happened.now.items in
    let new = c.hand_over.new.happened.items in
    subst (λ (x : Routine). HasServed c.args.page q c.in_ok-ending.ending x hs new) (sym c.in_ok-hand_over.ensures.machine)
    (has-served q d c.args.page c.in_ok-ending.ending hs new c.requires.page c.in_ok-ending.ensures c.requires.quiet c.in_ok-hand_over.ensures.events)

pub returns-clause-ready : goal.returns-clause-ready
returns-clause-ready c =
    let q = c.args.self.now in
    let d = c.serve.new.self in
    let hs = c.args.happened.now.items in
    let new = c.hand_over.new.happened.items in
    subst (λ (x : Routine). IfNone c.in_ok-ending.ending (IsReady x)) (sym c.in_ok-hand_over.ensures.machine)
    (served-ready q d c.args.page c.in_ok-ending.ending hs new c.requires.page c.in_ok-ending.ensures c.requires.quiet c.in_ok-hand_over.ensures.events)

pub returns-clause-params : goal.returns-clause-params
returns-clause-params c =
    subst (λ (x : Routine). x.machine.params ≡ c.args.self.now.machine.params) (sym c.in_ok-hand_over.ensures.machine) c.in_ok-ending.ensures.params

pub returns-clause-ended : goal.returns-clause-ended
returns-clause-ended c =
    let q = c.args.self.now in
    let d = c.serve.new.self in
    let hs = c.args.happened.now.items in
    let new = c.hand_over.new.happened.items in
    subst IsEnded (sym c.in_ok-hand_over.ensures.machine)
    (served-ended q d c.args.page c.in_ok-ending.ending hs new c.requires.page c.in_ok-ending.ensures c.requires.quiet c.in_ok-hand_over.ensures.events)

pub returns-clause-pages : goal.returns-clause-pages
returns-clause-pages c =
    let q = c.args.self.now in
    let d = c.serve.new.self in
    let hs = c.args.happened.now.items in
    let new = c.hand_over.new.happened.items in
    subst (λ (x : Routine). ArePages x.store new) (sym c.in_ok-hand_over.ensures.machine)
    (served-pages q d c.args.page c.in_ok-ending.ending hs new c.requires.page c.in_ok-ending.ensures c.requires.quiet c.in_ok-hand_over.ensures.events)

pub returns-clause-lists : goal.returns-clause-lists
returns-clause-lists c =
    let q = c.args.self.now in
    let d = c.serve.new.self in
    let hs = c.args.happened.now.items in
    let new = c.hand_over.new.happened.items in
    subst (λ (x : Routine). IfNone c.in_ok-ending.ending (AreHappened x new)) (sym c.in_ok-hand_over.ensures.machine)
    (served-lists q d c.args.page c.in_ok-ending.ending hs new c.requires.page c.in_ok-ending.ensures c.requires.quiet c.in_ok-hand_over.ensures.events)
