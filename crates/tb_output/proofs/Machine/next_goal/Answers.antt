use Rattle.std.proofs.Common.{◌≡◌, sym, subst, ap, ◌∙◌, true, false, [], FitsSigned, w64, rules, arith}
use Rattle.std.proofs.lemmas.Int.{to_z-of_z, ints}
use Rattle.tb_builder.specs.Pageable.{IsGoal}
use Rattle.tb_scaled.specs.Scaled.{max_dimen}
use Rattle.tb_float.specs.Rooms.{column_room_of}
use Rattle.tb_sheet.specs.Asked.{hold_penalty}
use Rattle.tb_output.specs.Output.{is_int, is_crowded, leave_column, with_goal, next_goal}
use Rattle.tb_output.specs.Machine.{MachineView}
use Rattle.tb_output.specs.FiringWork.{shows_back, IsCutShort, Does}
use Rattle.tb_output.specs.MachineFrame.{KeepsBack}
use Rattle.tb_output.proofs.Firings.GoalLemmas.{goal-keeps, goal-done, goal-held, goal-crowded, goal-room}
use Rattle.tb_output.proofs.FiringWork.ResultLemmas.{ok-map, err-map}
use Rattle.tb_output.proofs.FiringWork.WorkingLemmas.{does-same}
use Rattle.tb_output.proofs.Machine.next_goal.Goals as goal

pub returns-then-is_signal-clause-ok : goal.returns-then-is_signal-clause-ok
returns-then-is_signal-clause-ok c =
    let fits : FitsSigned w64 c.args.penalty = search rules in
    let m = c.args.self.now in
    let held : is_int c.args.penalty hold_penalty ≡ true = sym (simp to_z-of_z at c.is_signal.ensures) ∙ c.if-is_signal.true in
    subst (λ (v : MachineView). Does (shows_back c.args.back m c.args.store.now) (shows_back c.args.back v c.args.store.now) (next_goal m.params c.args.penalty)) (sym c.set_goal.ensures)
    (does-same (shows_back c.args.back m c.args.store.now) (shows_back c.args.back (record m { goal = max_dimen }) c.args.store.now) (with_goal max_dimen) (next_goal m.params c.args.penalty) (λ b w h. goal-held m.params c.args.penalty w held)
    (goal-done c.args.back m c.args.store.now c.requires.machine c.requires.back max_dimen (record { low = omega (arith, ints); high = omega (arith, ints) })))

pub returns-then-is_crowded-clause-ok : goal.returns-then-is_crowded-clause-ok
returns-then-is_crowded-clause-ok c =
    let fits : FitsSigned w64 c.args.penalty = search rules in
    let m = c.args.self.now in
    let differ : is_int c.args.penalty hold_penalty ≡ false = sym (simp to_z-of_z at c.is_signal.ensures) ∙ c.if-is_signal.false in
    let room : FitsSigned w64 c.column_room-room.result = search rules in
    let crowded : is_crowded m.params (column_room_of m.params m.pool.lists) ≡ true = ap (is_crowded m.params) (sym c.column_room-room.ensures.value) ∙ sym (simp to_z-of_z at c.is_crowded.ensures) ∙ c.if-is_crowded.true in
    ok-map c.leave_column.result _ _
    (does-same (shows_back c.args.back m c.args.store.now) (shows_back c.args.back c.leave_column.new.self c.leave_column.new.store) leave_column (next_goal m.params c.args.penalty) (λ b w h. goal-crowded m.params c.args.penalty m c.args.store.now differ crowded b w h.0))
    c.leave_column.ensures.ok

pub returns-then-is_crowded-clause-err : goal.returns-then-is_crowded-clause-err
returns-then-is_crowded-clause-err c =
    let fits : FitsSigned w64 c.args.penalty = search rules in
    let m = c.args.self.now in
    let differ : is_int c.args.penalty hold_penalty ≡ false = sym (simp to_z-of_z at c.is_signal.ensures) ∙ c.if-is_signal.false in
    let room : FitsSigned w64 c.column_room-room.result = search rules in
    let crowded : is_crowded m.params (column_room_of m.params m.pool.lists) ≡ true = ap (is_crowded m.params) (sym c.column_room-room.ensures.value) ∙ sym (simp to_z-of_z at c.is_crowded.ensures) ∙ c.if-is_crowded.true in
    err-map c.leave_column.result _ _
    (λ e. does-same (shows_back c.args.back m c.args.store.now) (IsCutShort e c.leave_column.new.self c.leave_column.new.store) leave_column (next_goal m.params c.args.penalty) (λ b w h. goal-crowded m.params c.args.penalty m c.args.store.now differ crowded b w h.0))
    c.leave_column.ensures.err

pub returns-clause-ok : goal.returns-clause-ok
returns-clause-ok c =
    let fits : FitsSigned w64 c.args.penalty = search rules in
    let m = c.args.self.now in
    let differ : is_int c.args.penalty hold_penalty ≡ false = sym (simp to_z-of_z at c.is_signal.ensures) ∙ c.if-is_signal.false in
    let fits_room : FitsSigned w64 c.column_room-room.result = search rules in
    let crowded : is_crowded m.params (column_room_of m.params m.pool.lists) ≡ false = ap (is_crowded m.params) (sym c.column_room-room.ensures.value) ∙ sym (simp to_z-of_z at c.is_crowded.ensures) ∙ c.if-is_crowded.false in
    let set : c.set_goal-2.new.self ≡ record m { goal = column_room_of m.params m.pool.lists } = simp to_z-of_z at c.set_goal-2.ensures ∙ ap (λ g. record m { goal = g }) c.column_room-room.ensures.value in
    subst (λ (v : MachineView). Does (shows_back c.args.back m c.args.store.now) (shows_back c.args.back v c.args.store.now) (next_goal m.params c.args.penalty)) (sym set)
    (does-same (shows_back c.args.back m c.args.store.now) (shows_back c.args.back (record m { goal = column_room_of m.params m.pool.lists }) c.args.store.now) (with_goal (column_room_of m.params m.pool.lists)) (next_goal m.params c.args.penalty) (λ b w h. goal-room m.params c.args.penalty m c.args.store.now differ crowded b w h.0)
    (goal-done c.args.back m c.args.store.now c.requires.machine c.requires.back (column_room_of m.params m.pool.lists) (subst IsGoal c.column_room-room.ensures.value c.column_room-room.ensures.small)))

pub returns-then-is_signal-clause-keeps : goal.returns-then-is_signal-clause-keeps
returns-then-is_signal-clause-keeps c =
    subst (λ (v : MachineView). KeepsBack c.args.back [] c.args.self.now v c.args.store.now c.args.store.now) (sym c.set_goal.ensures)
    (goal-keeps c.args.back c.args.self.now c.args.store.now c.requires.machine c.requires.back max_dimen (record { low = omega (arith, ints); high = omega (arith, ints) }))

pub returns-clause-keeps : goal.returns-clause-keeps
returns-clause-keeps c =
    let m = c.args.self.now in
    let fits_room : FitsSigned w64 c.column_room-room.result = search rules in
    subst (λ (v : MachineView). KeepsBack c.args.back [] m v c.args.store.now c.args.store.now) (sym (simp to_z-of_z at c.set_goal-2.ensures))
    (goal-keeps c.args.back m c.args.store.now c.requires.machine c.requires.back c.column_room-room.result c.column_room-room.ensures.small)
