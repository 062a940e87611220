use Rattle.std.proofs.Common.{◌≡◌, refl, sym, subst, [], FitsSigned, w64, to_z, of_z, rules}
use Rattle.std.proofs.lemmas.Int.{to_z-of_z}
use Rattle.tb_scaled.specs.Amount.{IsAmount}
use Rattle.tb_margin.specs.Margin.{placed_note}
use Rattle.tb_output.specs.contracts.Machine.{the_view}
use Rattle.tb_output.specs.Machine.{MachineView}
use Rattle.tb_output.specs.BackList.{note_list}
use Rattle.tb_output.specs.MachineFrame.{HasGrown}
use Rattle.tb_output.proofs.FiringWork.ResultLemmas.{memory-err, ok-map, err-map}
use Rattle.tb_output.proofs.ColumnPages.SizeLemmas.{amount-cast, amount-passed}
use Rattle.tb_output.proofs.FiringWork.StepLemmas.{no-room, keeps-on}
use Rattle.tb_output.proofs.InText.TextSteps.{continues-note_placed}
use Rattle.tb_output.proofs.InText.MarginSteps.{reach-amount, note-place, warning-memory, told-keeps, note-memory, stands-keeps, note-whole, note-cut}
use Rattle.tb_output.proofs.Machine.place_margin.Goals.{After-set_note_bottom, In_ok-push_note}
use Rattle.tb_output.proofs.Machine.place_margin.Goals as goal
use Rattle.tb_node.proofs.FitLemmas.{extent_small}

pub place_note-at-requires-clause-bottom : goal.place_note-at-requires-clause-bottom
place_note-at-requires-clause-bottom c =
    subst (λ (m : MachineView). IsAmount (to_z w64 (of_z w64 m.note_bottom))) (sym c.self.view_is) (amount-passed c.args.self.now.note_bottom (reach-amount c.args.self.now.note_bottom c.requires.note_bottom))

pub returns-in_err-retire_note-clause-err : goal.returns-in_err-retire_note-clause-err
returns-in_err-retire_note-clause-err c =
    memory-err c.from_residual.result _ c.from_residual.ensures.1
    (no-room _ _ _ _ _ _ c.requires.machine c.requires.back c.in_err-retire_note.ensures.err refl (continues-note_placed c.args.self.now.params c.args.size.now c.args.m.now)).does

pub returns-in_err-retire_note-clause-keeps : goal.returns-in_err-retire_note-clause-keeps
returns-in_err-retire_note-clause-keeps c =
    (no-room _ _ _ _ _ _ c.requires.machine c.requires.back c.in_err-retire_note.ensures.err refl (continues-note_placed c.args.self.now.params c.args.size.now c.args.m.now)).keeps

-- where the note goes
place_is : (c : After-set_note_bottom) → (let m = c.args.self.now in c.place_note-at.result ≡ placed_note m.params m.number m.two_columns m.first_column c.args.size.now.height m.note_bottom c.args.m.now)
place_is c = note-place c.args.self.now (the_view c.self.inside) c.args.size.now c.args.m.now c.place_note-at.result c.self.view_is c.requires.height c.requires.note_bottom c.place_note-at.ensures

-- the machine keeps its bottom
set_is : (c : After-set_note_bottom) → c.set_note_bottom.new.self ≡ record c.retire_note.new.self { note_bottom = c.place_note-at.result.bottom }
set_is c = let fits : FitsSigned w64 c.place_note-at.result.bottom = search rules in simp to_z-of_z at c.set_note_bottom.ensures

-- the note goes back
grown_is : (c : In_ok-push_note) → HasGrown c.args.back (note_list c.args.size.now.depth c.args.m.now c.place_note-at.result) [] c.args.store.now c.push_note.new.store
grown_is c =
    subst (λ d. HasGrown c.args.back (note_list d c.args.m.now c.place_note-at.result) [] c.args.store.now c.push_note.new.store) (amount-cast c.args.size.now.depth (extent_small c.args.size.now.depth c.requires.depth)) c.in_ok-push_note.ensures.ok

pub returns-in_err-warn_moved-clause-err : goal.returns-in_err-warn_moved-clause-err
returns-in_err-warn_moved-clause-err c =
    let w = (goal.at.returns-in_err-warn_moved-clause-err c).After-set_note_bottom in
    memory-err c.from_residual-in_err-warn_moved.result _ c.from_residual-in_err-warn_moved.ensures.1
    (warning-memory _ _ _ c.requires.machine c.requires.back c.args.size.now c.args.m.now _ (place_is w) _ c.in_ok-retire_note.ensures.ok _ (set_is w) _ c.in_err-warn_moved.ensures.err).does

pub returns-in_err-warn_moved-clause-keeps : goal.returns-in_err-warn_moved-clause-keeps
returns-in_err-warn_moved-clause-keeps c =
    let w = (goal.at.returns-in_err-warn_moved-clause-keeps c).After-set_note_bottom in
    (warning-memory _ _ _ c.requires.machine c.requires.back c.args.size.now c.args.m.now _ (place_is w) _ c.in_ok-retire_note.ensures.ok _ (set_is w) _ c.in_err-warn_moved.ensures.err).keeps

pub push_note-requires-clause-back : goal.push_note-requires-clause-back
push_note-requires-clause-back c =
    let w = (goal.at.push_note-requires-clause-back c).After-set_note_bottom in
    (told-keeps _ _ _ c.requires.machine c.requires.back c.args.size.now c.args.m.now _ (place_is w) _ c.in_ok-retire_note.ensures.ok _ (set_is w) _ c.in_ok-warn_moved.ensures.ok).back.live

pub returns-in_err-push_note-clause-err : goal.returns-in_err-push_note-clause-err
returns-in_err-push_note-clause-err c =
    let w = (goal.at.returns-in_err-push_note-clause-err c).After-set_note_bottom in
    memory-err c.from_residual-in_err-push_note.result _ c.from_residual-in_err-push_note.ensures.1
    (note-memory _ _ _ c.requires.machine c.requires.back c.args.size.now c.args.m.now _ (place_is w) _ c.in_ok-retire_note.ensures.ok _ (set_is w) _ c.in_ok-warn_moved.ensures.ok _ c.in_err-push_note.ensures.err).does

pub returns-in_err-push_note-clause-keeps : goal.returns-in_err-push_note-clause-keeps
returns-in_err-push_note-clause-keeps c =
    let w = (goal.at.returns-in_err-push_note-clause-keeps c).After-set_note_bottom in
    (note-memory _ _ _ c.requires.machine c.requires.back c.args.size.now c.args.m.now _ (place_is w) _ c.in_ok-retire_note.ensures.ok _ (set_is w) _ c.in_ok-warn_moved.ensures.ok _ c.in_err-push_note.ensures.err).keeps

pub put_interline-requires-clause-machine : goal.put_interline-requires-clause-machine
put_interline-requires-clause-machine c =
    let w = (goal.at.put_interline-requires-clause-machine c).After-set_note_bottom in
    let grown = grown_is (goal.at.put_interline-requires-clause-machine c).In_ok-push_note in
    (stands-keeps _ _ _ c.requires.machine c.requires.back c.args.size.now c.args.m.now _ (place_is w) _ c.in_ok-retire_note.ensures.ok _ (set_is w) _ c.in_ok-warn_moved.ensures.ok _ c.requires.depth grown).machine

pub put_interline-requires-clause-back : goal.put_interline-requires-clause-back
put_interline-requires-clause-back c =
    let w = (goal.at.put_interline-requires-clause-back c).After-set_note_bottom in
    let grown = grown_is (goal.at.put_interline-requires-clause-back c).In_ok-push_note in
    (stands-keeps _ _ _ c.requires.machine c.requires.back c.args.size.now c.args.m.now _ (place_is w) _ c.in_ok-retire_note.ensures.ok _ (set_is w) _ c.in_ok-warn_moved.ensures.ok _ c.requires.depth grown).back

pub returns-clause-ok : goal.returns-clause-ok
returns-clause-ok c =
    let w = (goal.at.returns-clause-ok c).After-set_note_bottom in
    let grown = grown_is (goal.at.returns-clause-ok c).In_ok-push_note in
    ok-map c.put_interline.result _ _ (note-whole _ _ _ c.requires.machine c.requires.back c.args.size.now c.args.m.now _ (place_is w) _ c.in_ok-retire_note.ensures.ok _ (set_is w) _ c.in_ok-warn_moved.ensures.ok _ c.requires.depth grown c.put_interline.new.store) c.put_interline.ensures.ok

pub returns-clause-err : goal.returns-clause-err
returns-clause-err c =
    let w = (goal.at.returns-clause-err c).After-set_note_bottom in
    let grown = grown_is (goal.at.returns-clause-err c).In_ok-push_note in
    err-map c.put_interline.result _ _ (λ e. note-cut _ _ _ c.requires.machine c.requires.back c.args.size.now c.args.m.now _ (place_is w) _ c.in_ok-retire_note.ensures.ok _ (set_is w) _ c.in_ok-warn_moved.ensures.ok _ c.requires.depth grown e c.put_interline.new.store) c.put_interline.ensures.err

pub returns-clause-keeps : goal.returns-clause-keeps
returns-clause-keeps c =
    let w = (goal.at.returns-clause-keeps c).After-set_note_bottom in
    let grown = grown_is (goal.at.returns-clause-keeps c).In_ok-push_note in
    keeps-on _ _ _ _ _ _ _ (stands-keeps _ _ _ c.requires.machine c.requires.back c.args.size.now c.args.m.now _ (place_is w) _ c.in_ok-retire_note.ensures.ok _ (set_is w) _ c.in_ok-warn_moved.ensures.ok _ c.requires.depth grown) c.put_interline.ensures.keeps
