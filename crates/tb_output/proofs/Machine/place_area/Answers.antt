use Rattle.std.proofs.Common.{Bool}
use Rattle.tb_output.specs.FiringParts.{float_placed, place_of, without_first}
use Rattle.tb_output.specs.FloatMoves.{place_float}
use Rattle.tb_output.specs.Text.{puts_interline}
use Rattle.tb_output.specs.State.{Work}
use Rattle.tb_output.specs.FiringWork.{shows_back, IsCutShort}
use Rattle.tb_output.proofs.FiringWork.ResultLemmas.{ok-map, err-map}
use Rattle.tb_output.proofs.FiringWork.WorkingLemmas.{does-same}
use Rattle.tb_output.proofs.FiringWork.StepLemmas.{Done, keeps-on}
use Rattle.tb_output.proofs.InText.TextSteps.{area-column, area-done, area-places, then-interline, then-interline_cut}
use Rattle.tb_output.proofs.Machine.place_area.Goals as goal

pub move_first-requires-clause-first : goal.move_first-requires-clause-first
move_first-requires-clause-first c = (c.args.f.now, c.requires.first)

pub move_first-requires-clause-column : goal.move_first-requires-clause-column
move_first-requires-clause-column c = area-column c.args.to c.requires.area

pub put_interline-requires-clause-machine : goal.put_interline-requires-clause-machine
put_interline-requires-clause-machine c =
    (area-done c.args.back c.args.self.now c.move_first.new.self c.args.store.now c.requires.machine c.requires.back c.args.to c.args.f.now (area-column c.args.to c.requires.area) (c.move_first.ensures c.args.f.now c.requires.first)).keeps.machine

pub put_interline-requires-clause-back : goal.put_interline-requires-clause-back
put_interline-requires-clause-back c =
    (area-done c.args.back c.args.self.now c.move_first.new.self c.args.store.now c.requires.machine c.requires.back c.args.to c.args.f.now (area-column c.args.to c.requires.area) (c.move_first.ensures c.args.f.now c.requires.first)).keeps.back

pub returns-clause-ok : goal.returns-clause-ok
returns-clause-ok c =
    let m = c.args.self.now in
    let mid = c.move_first.new.self in
    let step = λ (w : Work). place_float m.params (place_of c.args.to) c.args.f.now (without_first w.state.floats) w in
    let moved : Done c.args.back m mid c.args.store.now c.args.store.now step = area-done c.args.back m mid c.args.store.now c.requires.machine c.requires.back c.args.to c.args.f.now (area-column c.args.to c.requires.area) (c.move_first.ensures c.args.f.now c.requires.first) in
    ok-map c.put_interline.result _ _
    (λ y. λ (vert : Bool). does-same (shows_back c.args.back m c.args.store.now) (shows_back c.args.back mid c.put_interline.new.store) (λ w. puts_interline m.params c.args.f.now.nobreak (step w)) (float_placed m.params vert c.args.f.now (place_of c.args.to))
    (λ b w h. area-places c.args.to m.params vert c.args.f.now w c.requires.area)
    (then-interline c.args.back m mid mid c.args.store.now c.args.store.now c.put_interline.new.store step moved c.args.f.now.nobreak y))
    c.put_interline.ensures.ok

pub returns-clause-err : goal.returns-clause-err
returns-clause-err c =
    let m = c.args.self.now in
    let mid = c.move_first.new.self in
    let step = λ (w : Work). place_float m.params (place_of c.args.to) c.args.f.now (without_first w.state.floats) w in
    let moved : Done c.args.back m mid c.args.store.now c.args.store.now step = area-done c.args.back m mid c.args.store.now c.requires.machine c.requires.back c.args.to c.args.f.now (area-column c.args.to c.requires.area) (c.move_first.ensures c.args.f.now c.requires.first) in
    err-map c.put_interline.result _ _
    (λ e y. λ (vert : Bool). does-same (shows_back c.args.back m c.args.store.now) (IsCutShort e mid c.put_interline.new.store) (λ w. puts_interline m.params c.args.f.now.nobreak (step w)) (float_placed m.params vert c.args.f.now (place_of c.args.to))
    (λ b w h. area-places c.args.to m.params vert c.args.f.now w c.requires.area)
    (then-interline_cut c.args.back m mid mid c.args.store.now c.args.store.now c.put_interline.new.store step moved c.args.f.now.nobreak e y))
    c.put_interline.ensures.err

pub returns-clause-keeps : goal.returns-clause-keeps
returns-clause-keeps c =
    keeps-on c.args.back c.args.self.now c.move_first.new.self c.move_first.new.self c.args.store.now c.args.store.now c.put_interline.new.store
    (area-done c.args.back c.args.self.now c.move_first.new.self c.args.store.now c.requires.machine c.requires.back c.args.to c.args.f.now (area-column c.args.to c.requires.area) (c.move_first.ensures c.args.f.now c.requires.first)).keeps
    c.put_interline.ensures.keeps
