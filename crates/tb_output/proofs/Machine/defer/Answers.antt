use Rattle.std.proofs.Common.{refl, Bool}
use Rattle.tb_output.specs.State.{Work}
use Rattle.tb_output.specs.Text.{only_here, defer}
use Rattle.tb_output.specs.FiringParts.{float_placed, without_first}
use Rattle.tb_node.specs.declared.Where.TheVariants as places
use Rattle.tb_output.proofs.FiringWork.ResultLemmas.{memory-err, ok-map, err-map}
use Rattle.tb_output.proofs.FiringWork.StepLemmas.{Done, keeps-on, no-room}
use Rattle.tb_output.proofs.InText.TextSteps.{deferred-done, then-interline, then-interline_cut, continues-float_placed, continues-none}
use Rattle.tb_output.proofs.Machine.defer.Goals as goal

pub returns-in_err-defer_first-clause-err : goal.returns-in_err-defer_first-clause-err
returns-in_err-defer_first-clause-err c =
    memory-err c.from_residual.result _ c.from_residual.ensures.1
    (λ (vert : Bool). (no-room c.args.back c.args.self.now c.defer_first.new.self c.args.store.now c.args.store.now (float_placed c.args.self.now.params vert c.args.f.now places.Deferred) c.requires.machine c.requires.back c.in_err-defer_first.ensures.err refl (continues-float_placed c.args.self.now.params vert c.args.f.now places.Deferred)).does)

pub returns-in_err-defer_first-clause-keeps : goal.returns-in_err-defer_first-clause-keeps
returns-in_err-defer_first-clause-keeps c =
    (no-room c.args.back c.args.self.now c.defer_first.new.self c.args.store.now c.args.store.now (λ w. w) c.requires.machine c.requires.back c.in_err-defer_first.ensures.err refl (λ w. continues-none w)).keeps

pub put_interline-requires-clause-machine : goal.put_interline-requires-clause-machine
put_interline-requires-clause-machine c =
    (deferred-done c.args.back c.args.self.now c.defer_first.new.self c.args.store.now c.requires.machine c.requires.back (only_here c.args.f.now) c.args.f.now c.in_ok-defer_first.ensures.ok refl).keeps.machine

pub put_interline-requires-clause-back : goal.put_interline-requires-clause-back
put_interline-requires-clause-back c =
    (deferred-done c.args.back c.args.self.now c.defer_first.new.self c.args.store.now c.requires.machine c.requires.back (only_here c.args.f.now) c.args.f.now c.in_ok-defer_first.ensures.ok refl).keeps.back

pub returns-clause-ok : goal.returns-clause-ok
returns-clause-ok c =
    let m = c.args.self.now in
    let step = λ (w : Work). defer m.params c.args.f.now (without_first w.state.floats) w in
    let waits : Done c.args.back m c.defer_first.new.self c.args.store.now c.args.store.now step = deferred-done c.args.back m c.defer_first.new.self c.args.store.now c.requires.machine c.requires.back (only_here c.args.f.now) c.args.f.now c.in_ok-defer_first.ensures.ok refl in
    ok-map c.put_interline.result _ _
    (λ y. λ (vert : Bool). then-interline c.args.back m c.defer_first.new.self c.defer_first.new.self c.args.store.now c.args.store.now c.put_interline.new.store step waits c.args.f.now.nobreak y)
    c.put_interline.ensures.ok

pub returns-clause-err : goal.returns-clause-err
returns-clause-err c =
    let m = c.args.self.now in
    let step = λ (w : Work). defer m.params c.args.f.now (without_first w.state.floats) w in
    let waits : Done c.args.back m c.defer_first.new.self c.args.store.now c.args.store.now step = deferred-done c.args.back m c.defer_first.new.self c.args.store.now c.requires.machine c.requires.back (only_here c.args.f.now) c.args.f.now c.in_ok-defer_first.ensures.ok refl in
    err-map c.put_interline.result _ _
    (λ e y. λ (vert : Bool). then-interline_cut c.args.back m c.defer_first.new.self c.defer_first.new.self c.args.store.now c.args.store.now c.put_interline.new.store step waits c.args.f.now.nobreak e y)
    c.put_interline.ensures.err

pub returns-clause-keeps : goal.returns-clause-keeps
returns-clause-keeps c =
    keeps-on c.args.back c.args.self.now c.defer_first.new.self c.defer_first.new.self c.args.store.now c.args.store.now c.put_interline.new.store
    (deferred-done c.args.back c.args.self.now c.defer_first.new.self c.args.store.now c.requires.machine c.requires.back (only_here c.args.f.now) c.args.f.now c.in_ok-defer_first.ensures.ok refl).keeps
    c.put_interline.ensures.keeps
