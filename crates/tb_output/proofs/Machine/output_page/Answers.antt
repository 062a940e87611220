use Rattle.std.proofs.Common.{◌≡◌, sym, ap, ◌∙◌, true, false, FitsSigned, w64, rules}
use Rattle.std.specs.Prelude.{not, int_le}
use Rattle.std.proofs.lemmas.Int.{to_z-of_z}
use Rattle.tb_scaled.specs.Scaled.{eject_penalty}
use Rattle.tb_node.specs.PlainNodes.{plain_list}
use Rattle.tb_output.specs.Columns.{ordinary}
use Rattle.tb_sheet.specs.Asked.{clear_penalty}
use Rattle.tb_output.specs.Output.{is_int}
use Rattle.tb_output.specs.Machine.{machine_lists}
use Rattle.tb_output.specs.MachineFrame.{back_lists}
use Rattle.tb_output.specs.FiringWork.{shows_back, shows_page, IsCutShort}
use Rattle.tb_output.proofs.FiringWork.ResultLemmas.{ok-map, err-map}
use Rattle.tb_output.proofs.Firings.OutputTurns.{lists-fewer, ordinary-keeps, ordinary-done, ordinary-cut, by-ordinary, by-clear, by-float}
use Rattle.tb_output.proofs.Machine.output_page.Goals.{Then-is_ordinary, After-is_signal}
use Rattle.tb_output.proofs.Machine.output_page.Goals as goal

-- the penalty is that of an ordinary page
is-high : (c : Then-is_ordinary) → int_le eject_penalty c.args.page.now.penalty ≡ true
is-high c = let fits : FitsSigned w64 c.args.page.now.penalty = search rules in sym (simp to_z-of_z at c.is_ordinary.ensures) ∙ c.if-is_ordinary.true

-- the penalty is lower
is-low : (c : After-is_signal) → int_le eject_penalty c.args.page.now.penalty ≡ false
is-low c = let fits : FitsSigned w64 c.args.page.now.penalty = search rules in sym (simp to_z-of_z at c.is_ordinary.ensures) ∙ c.if-is_ordinary.false

-- whether it asks to put out all floats
is-clear : (c : After-is_signal) → c.is_signal.result ≡ is_int c.args.page.now.penalty clear_penalty
is-clear c = let fits : FitsSigned w64 c.args.page.now.penalty = search rules in simp to_z-of_z at c.is_signal.ensures

pub ordinary-requires-clause-lists : goal.ordinary-requires-clause-lists
ordinary-requires-clause-lists c = lists-fewer (back_lists c.args.store.now c.args.back) (machine_lists c.args.self.now) _ _ _ c.requires.lists

pub returns-then-is_ordinary-clause-ok : goal.returns-then-is_ordinary-clause-ok
returns-then-is_ordinary-clause-ok c =
    let m = c.args.self.now in
    let s = c.args.store.now in
    let high = is-high (goal.at.returns-then-is_ordinary-clause-ok c).Then-is_ordinary in
    ok-map c.ordinary.result _ _
    (λ done. by-ordinary (shows_page c.args.back c.args.notes.now m s) (shows_back c.args.back c.ordinary.new.self c.ordinary.new.store) m.params c.args.page.now.penalty (plain_list s c.args.page.now.body) high
    (ordinary-done c.args.back _ c.args.notes.now m c.ordinary.new.self s c.ordinary.new.store c.requires.back c.requires.lists c.ordinary.ensures.keeps done)) c.ordinary.ensures.ok

pub returns-then-is_ordinary-clause-err : goal.returns-then-is_ordinary-clause-err
returns-then-is_ordinary-clause-err c =
    let m = c.args.self.now in
    let s = c.args.store.now in
    let high = is-high (goal.at.returns-then-is_ordinary-clause-err c).Then-is_ordinary in
    err-map c.ordinary.result _ _
    (λ f cut. by-ordinary (shows_page c.args.back c.args.notes.now m s) (IsCutShort f c.ordinary.new.self c.ordinary.new.store) m.params c.args.page.now.penalty (plain_list s c.args.page.now.body) high
    (ordinary-cut c.args.back c.args.notes.now m c.ordinary.new.self s c.ordinary.new.store f (ordinary m.params (plain_list s c.args.page.now.body)) cut)) c.ordinary.ensures.err

pub returns-then-is_ordinary-clause-keeps : goal.returns-then-is_ordinary-clause-keeps
returns-then-is_ordinary-clause-keeps c = ordinary-keeps _ _ _ _ _ _ _ c.requires.back c.requires.lists c.ordinary.ensures.keeps

pub returns-then-is_signal-clause-ok : goal.returns-then-is_signal-clause-ok
returns-then-is_signal-clause-ok c =
    let m = c.args.self.now in
    let s = c.args.store.now in
    let w = (goal.at.returns-then-is_signal-clause-ok c).After-is_signal in
    ok-map c.clear.result _ _ (by-clear (shows_page c.args.back c.args.notes.now m s) (shows_back c.args.back c.clear.new.self c.clear.new.store) m.params c.args.page.now.penalty (plain_list s c.args.page.now.body) (is-low w) (sym (is-clear w) ∙ c.if-is_signal.true)) c.clear.ensures.ok

pub returns-then-is_signal-clause-err : goal.returns-then-is_signal-clause-err
returns-then-is_signal-clause-err c =
    let m = c.args.self.now in
    let s = c.args.store.now in
    let w = (goal.at.returns-then-is_signal-clause-err c).After-is_signal in
    err-map c.clear.result _ _ (λ f. by-clear (shows_page c.args.back c.args.notes.now m s) (IsCutShort f c.clear.new.self c.clear.new.store) m.params c.args.page.now.penalty (plain_list s c.args.page.now.body) (is-low w) (sym (is-clear w) ∙ c.if-is_signal.true)) c.clear.ensures.err

pub returns-clause-ok : goal.returns-clause-ok
returns-clause-ok c =
    let m = c.args.self.now in
    let s = c.args.store.now in
    let fits : FitsSigned w64 c.args.page.now.penalty = search rules in
    let w = (goal.at.returns-clause-ok c).After-is_signal in
    ok-map c.float_or_note.result _ _ (by-float (shows_page c.args.back c.args.notes.now m s) (shows_back c.args.back c.float_or_note.new.self c.float_or_note.new.store) m.params c.args.page.now.penalty (plain_list s c.args.page.now.body) _ (is-low w) (sym (is-clear w) ∙ c.if-is_signal.false) (ap not (simp to_z-of_z at c.is_signal-vert.ensures))) c.float_or_note.ensures.ok

pub returns-clause-err : goal.returns-clause-err
returns-clause-err c =
    let m = c.args.self.now in
    let s = c.args.store.now in
    let fits : FitsSigned w64 c.args.page.now.penalty = search rules in
    let w = (goal.at.returns-clause-err c).After-is_signal in
    err-map c.float_or_note.result _ _ (λ f. by-float (shows_page c.args.back c.args.notes.now m s) (IsCutShort f c.float_or_note.new.self c.float_or_note.new.store) m.params c.args.page.now.penalty (plain_list s c.args.page.now.body) _ (is-low w) (sym (is-clear w) ∙ c.if-is_signal.false) (ap not (simp to_z-of_z at c.is_signal-vert.ensures))) c.float_or_note.ensures.err
