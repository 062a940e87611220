use Rattle.std.proofs.Common.{◌≡◌, ℕ, Bool, false, List, sym, ap, ◌∙◌, Some, w64, to_z, of_z}
use Rattle.std.proofs.lemmas.Int.{to_z-of_z}
use Rattle.tb_scaled.proofs.AmountLemmas.{amount_fits}
use Rattle.tb_pool.specs.Lists.{Lists}
use Rattle.tb_node.specs.declared.Node.{Node}
use Rattle.tb_float.specs.declared.Entry.{Entry}
use Rattle.tb_sheet.specs.Sheet.{PlainSent}
use Rattle.tb_output.specs.declared.texts.TextSize.{TextSize}
use Rattle.tb_output.specs.State.{Work}
use Rattle.tb_output.specs.Text.{puts_interline}
use Rattle.tb_output.specs.Machine.{MachineView}
use Rattle.tb_output.specs.FiringParts.{float_decided, note_placed, first_placed}
use Rattle.tb_output.specs.FiringWork.{shows_back, IsCutShort}
use Rattle.tb_output.proofs.FiringWork.ResultLemmas.{ok-map, err-map}
use Rattle.tb_output.proofs.FiringWork.WorkingLemmas.{does-same}
use Rattle.tb_output.proofs.InText.CurrentFirst.{float-first, note-first, none-first, right-first}
use Rattle.tb_output.proofs.Machine.place_first.Goals.{In-Some-Float, In-Some-Left, In-Some-Right, In-None}
use Rattle.tb_output.proofs.Machine.place_first.Goals as goal

-- of a work that the machine shows, this step places what comes first
abbrev PlacesFirst : ℕ → MachineView → Lists Node → Bool → TextSize → (Work → Work) → Type 0
PlacesFirst back m store vert z f = (before : List PlainSent) (w : Work) → shows_back back m store before w → f w ≡ first_placed m.params vert z w

float_is : (c : In-Some-Float) → PlacesFirst c.args.back c.args.self.now c.args.store.now c.args.vert c.args.size.now (float_decided c.args.self.now.params c.args.vert c.in-Some-Float.f (to_z w64 (of_z w64 c.args.size.now.page)))
float_is c =
    let there = sym c.in-Some-Float.ensures.value ∙ ap (λ (e : Entry). Some e) c.in-Some-Float.field-0-is in
    λ before w h. ap (λ n. float_decided c.args.self.now.params c.args.vert c.in-Some-Float.f n w) (to_z-of_z w64 _ (amount_fits _ c.requires.page)) ∙ float-first c.args.back c.args.self.now c.args.store.now c.args.vert c.args.size.now _ there before w h

note_is : (c : In-Some-Left) → PlacesFirst c.args.back c.args.self.now c.args.store.now c.args.vert c.args.size.now (note_placed c.args.self.now.params c.args.size.now c.in-Some-Left.m)
note_is c = note-first c.args.back c.args.self.now c.args.store.now c.args.vert c.args.size.now _ (sym c.in-Some-Left.ensures.value ∙ ap (λ (e : Entry). Some e) c.in-Some-Left.field-0-is)

right_is : (c : In-Some-Right) → PlacesFirst c.args.back c.args.self.now c.args.store.now c.args.vert c.args.size.now (puts_interline c.args.self.now.params false)
right_is c = right-first c.args.back c.args.self.now c.args.store.now c.args.vert c.args.size.now c.in-Some-Right.field-0-0 (sym c.in-Some-Right.ensures.value ∙ ap (λ (e : Entry). Some e) c.in-Some-Right.field-0-is)

none_is : (c : In-None) → PlacesFirst c.args.back c.args.self.now c.args.store.now c.args.vert c.args.size.now (puts_interline c.args.self.now.params false)
none_is c = none-first c.args.back c.args.self.now c.args.store.now c.args.vert c.args.size.now (sym c.in-None.ensures.value)

pub returns-in-Some-Float-clause-ok : goal.returns-in-Some-Float-clause-ok
returns-in-Some-Float-clause-ok c =
    let same = float_is (goal.at.returns-in-Some-Float-clause-ok c).In-Some-Float in
    ok-map c.place_float.result _ _ (does-same _ (shows_back c.args.back c.place_float.new.self c.place_float.new.store) _ _ same) c.place_float.ensures.ok

pub returns-in-Some-Float-clause-err : goal.returns-in-Some-Float-clause-err
returns-in-Some-Float-clause-err c =
    let same = float_is (goal.at.returns-in-Some-Float-clause-err c).In-Some-Float in
    err-map c.place_float.result _ _ (λ e. does-same _ (IsCutShort e c.place_float.new.self c.place_float.new.store) _ _ same) c.place_float.ensures.err

pub returns-in-Some-Left-clause-ok : goal.returns-in-Some-Left-clause-ok
returns-in-Some-Left-clause-ok c =
    let same = note_is (goal.at.returns-in-Some-Left-clause-ok c).In-Some-Left in
    ok-map c.place_margin.result _ _ (does-same _ (shows_back c.args.back c.place_margin.new.self c.place_margin.new.store) _ _ same) c.place_margin.ensures.ok

pub returns-in-Some-Left-clause-err : goal.returns-in-Some-Left-clause-err
returns-in-Some-Left-clause-err c =
    let same = note_is (goal.at.returns-in-Some-Left-clause-err c).In-Some-Left in
    err-map c.place_margin.result _ _ (λ e. does-same _ (IsCutShort e c.place_margin.new.self c.place_margin.new.store) _ _ same) c.place_margin.ensures.err

pub returns-in-Some-Right-clause-ok : goal.returns-in-Some-Right-clause-ok
returns-in-Some-Right-clause-ok c =
    let same = right_is (goal.at.returns-in-Some-Right-clause-ok c).In-Some-Right in
    ok-map c.put_interline.result _ _ (does-same _ (shows_back c.args.back c.args.self.now c.put_interline.new.store) _ _ same) c.put_interline.ensures.ok

pub returns-in-Some-Right-clause-err : goal.returns-in-Some-Right-clause-err
returns-in-Some-Right-clause-err c =
    let same = right_is (goal.at.returns-in-Some-Right-clause-err c).In-Some-Right in
    err-map c.put_interline.result _ _ (λ e. does-same _ (IsCutShort e c.args.self.now c.put_interline.new.store) _ _ same) c.put_interline.ensures.err

pub returns-in-None-clause-ok : goal.returns-in-None-clause-ok
returns-in-None-clause-ok c =
    let same = none_is (goal.at.returns-in-None-clause-ok c).In-None in
    ok-map c.put_interline-in-None.result _ _ (does-same _ (shows_back c.args.back c.args.self.now c.put_interline-in-None.new.store) _ _ same) c.put_interline-in-None.ensures.ok

pub returns-in-None-clause-err : goal.returns-in-None-clause-err
returns-in-None-clause-err c =
    let same = none_is (goal.at.returns-in-None-clause-err c).In-None in
    err-map c.put_interline-in-None.result _ _ (λ e. does-same _ (IsCutShort e c.args.self.now c.put_interline-in-None.new.store) _ _ same) c.put_interline-in-None.ensures.err
