-- A firing loses nothing: what is sent, put back and kept weighs as much as what was there.
use Rattle.std.proofs.Common.{add-zero, zero-add, sym, ◌≡◌, refl, ◌∙◌, ap, ℕ, pos, ◌+◌, Bool, true, false, List, [], ◌∷◌, ◌++◌, map, arith}
use Rattle.std.specs.Prelude.{ℤ, int_le, not, ◌||◌, ◌&&◌, if◌then◌else◌}
use Rattle.tb_scaled.specs.Glue.{filling_glue}
use Rattle.tb_scaled.specs.Scaled.{eject_penalty, max_dimen}
use Rattle.tb_node.specs.PlainNodes.{PlainNode, node_shape, made, blank_box, skip}
use Rattle.tb_break.specs.Split.{split_of}
use Rattle.tb_node.proofs.Weights.{Weight, nodes_weight, weight-append}
use Rattle.tb_param.specs.declared.Params.{Params}
use Rattle.tb_builder.specs.FiredPages.{Fired}
use Rattle.tb_builder.proofs.FiredPages.PageWeights.{boxes_weight}
use Rattle.tb_float.specs.declared.Part.{Part}
use Rattle.tb_float.specs.declared.Part.TheVariants as parts
use Rattle.tb_float.specs.Lists.{FloatLists, floats_of, IsWaiting, wide_part, wide_waiting}
use Rattle.tb_float.proofs.WaitingLemmas.{wide-waits}
use Rattle.tb_float.specs.Rooms.{column_room_of}
use Rattle.tb_column.specs.Column.{PlainColumn, Notes, standing_notes}
use Rattle.tb_sheet.specs.Sheet.{warned}
use Rattle.tb_sheet.specs.declared.Warn.TheVariants as warnings
use Rattle.tb_output.specs.State.{State, Work, begun, sends, with_floats, footnotes}
use Rattle.tb_output.specs.Columns
use Rattle.tb_output.specs.Text
use Rattle.tb_output.specs.Clear
use Rattle.tb_sheet.specs.Asked
use Rattle.tb_output.specs.Output
use Rattle.tb_laws.proofs.NothingLost.StateWeights.{Weighs, gives, keeps, weighs-then, all-added, floats_weight, lists_weight, left_weight, state_weight, sent_weight, work_weight, floats-append, Sound, Adds, then_kept, adds_if, unchanged, warns-adds}
use Rattle.tb_laws.proofs.NothingLost.FloatWeights.{next-adds, lists-adds, paired-with, lists-with}
use Rattle.tb_output.proofs.StepLaws.Moves.{Hand, nothing, of_text, of_column, places_next, PageMove, by_column, by_fill, takes_text, drops_notes, fills_text, keeps_front, gathers, gathers_wide, leaves_second, clears_again, goes-on}
use Rattle.tb_output.proofs.StepLaws.FiringTree.{ordinary-columns, clear_by-moves}
use Rattle.tb_laws.proofs.NothingLost.PutOutWeights.{column-weighs, text-taken, notes-dropped}
use Rattle.tb_laws.proofs.NothingLost.TextWeights.{put-weighs, front-light, puts-nothing, float_or_note-adds}
pub use Rattle.tb_laws.proofs.NothingLost.StateWeights.{Sound, class_numbers, BoxesFit, Paired, entries_weight, lists_weight, left_weight, state_weight, sheet_weight, sent_weight}

-- ---- a clear

deferred_again-adds : (v : Weight) (w : Work) → Adds v 0 w (with_floats (Clear.deferred_again w.state.floats) w)
deferred_again-adds v w =
    let l = w.state.floats in
    let a : floats_weight v (l.top ++ l.bottom ++ l.deferred) ≡ floats_weight v (l.top ++ l.bottom) + floats_weight v l.deferred = floats-append v (l.top ++ l.bottom) l.deferred in
    let b : floats_weight v (l.top ++ l.bottom) ≡ floats_weight v l.top + floats_weight v l.bottom = floats-append v l.top l.bottom in
    lists-adds v (Clear.deferred_again l) w (λ x. x) (omega arith)

-- the double floats go before those that wait
double_again-adds : (v : Weight) (p : Params) (w : Work) → Adds v 0 w (with_floats (Clear.double_again p w.state.floats) w)
double_again-adds v p w =
    lists-adds v (Clear.double_again p l) w (λ x. paired-with (wide_part p) (wide-waits p) (l.double ++ wide_waiting p l) bare x)
    (sums (lists_weight v (Clear.double_again p l)) (floats_weight v (floats_of (wide_part p) bare)) (lists_weight v bare) (floats_weight v (l.double ++ wide_waiting p l)) (floats_weight v l.double) (floats_weight v (wide_waiting p l)) (lists_weight v l)
    (lists-with v (wide_part p) (wide-waits p) (l.double ++ wide_waiting p l) bare) (ap (floats_weight v) (waiting-without (wide_part p) (wide-waits p))) (floats-append v l.double (wide_waiting p l)) lighter)
  where
    l : FloatLists
    l = w.state.floats

    bare : FloatLists
    bare = record l { double = [] }

    lighter : lists_weight v bare + floats_weight v l.double ≡ lists_weight v l
    lighter = omega arith

    waiting-without : (from : Part) → IsWaiting from → floats_of from bare ≡ floats_of from l
    waiting-without parts.Deferred h = refl
    waiting-without parts.Second h = refl
    waiting-without from h = absurd h

    sums : (a y b d x z c : ℕ) → a + y ≡ b + d → y ≡ z → d ≡ x + z → b + x ≡ c → a ≡ c
    sums a y b d x z c e g i j = omega arith

page-weighs : {p : Params} {h : Hand} {a : Work} {i : Hand} {b : Work} (v : Weight) → PageMove p h a i b → Weighs v h a i b
page-weighs {p} v (by_column m) = column-weighs v m
page-weighs {p} v (by_fill (places_next a f before rest w c e i)) = keeps v nothing w _ (next-adds v p a f before rest w e)
page-weighs {p} v (takes_text body w) = record { waits = refl; classes = refl; goes = λ r. r; light = λ l. tt; by = λ r l s. text-taken v p body w s }
page-weighs {p} v (drops_notes body w e) = record { waits = refl; classes = refl; goes = λ r. r; light = λ l. l; by = λ r l s. let d = notes-dropped v w e s in (d.0, ap (λ n. n + nodes_weight v body) d.1) }
page-weighs {p} v (fills_text body w) =
    let fill = made (skip filling_glue) ∷ [] in
    let e = weight-append v body fill ∙ add-zero (nodes_weight v body) in
    gives v (of_text body) (of_text (body ++ fill)) 0 w w (unchanged v w) (λ l. (sym (zero-add (nodes_weight v (body ++ fill)) ∙ e), e ∙ l))
page-weighs {p} v (keeps_front body w) = put-weighs v (of_text body) (Clear.cleared_front p body) w (λ l. front-light v (split_of (pos 0) p.splitmaxdepth (map node_shape body)).index body l)
page-weighs {p} v (gathers w) = keeps v nothing w _ (deferred_again-adds v w)
page-weighs {p} v (gathers_wide w t f) = keeps v nothing w _ (double_again-adds v p w)
page-weighs {p} v (leaves_second w t f) = keeps v nothing w _ (puts-nothing v (made blank_box ∷ Clear.clear_again) w refl)
page-weighs {p} v (clears_again w) = keeps v nothing w _ (puts-nothing v Clear.clear_again w refl)

-- the list of the page, if it weighs nothing
clear_by-adds : (v : Weight) (p : Params) (body : List PlainNode) (w : Work) (o : List Notes) → standing_notes (footnotes w.state) ≡ o → nodes_weight v body ≡ 0 → Adds v (nodes_weight v body) w (Clear.clear_by p body w o)
clear_by-adds v p body w o e light = all-added v (of_text body) w (Clear.clear_by p body w o) (goes-on (Weighs v) (λ h w. keeps v h w w (unchanged v w)) (weighs-then v) (λ h i a b m. page-weighs v m) (clear_by-moves p body w o e)) light

-- ---- a firing

ordinary-adds : (v : Weight) (p : Params) (body : List PlainNode) (w : Work) → Adds v (nodes_weight v body) w (Columns.ordinary p body w)
ordinary-adds v p body w = record { waits = x.waits; classes = x.classes; goes = λ r. x.goes r; by = λ r s. let d = text-taken v p body w s in let e = x.by r tt d.0 in (e.0, sym (add-zero (work_weight v (Columns.ordinary p body w))) ∙ e.1 ∙ d.1) }
  where
    c : PlainColumn
    c = Columns.text_of p w.state body

    x : Weighs v (of_column c) (Columns.without_column_floats w) nothing (Columns.ordinary p body w)
    x = goes-on (Weighs v) (λ h w. keeps v h w w (unchanged v w)) (weighs-then v) (λ h i a b m. page-weighs v m) (ordinary-columns p body w)

goal-adds : (v : Weight) (p : Params) (n : ℤ) (w : Work) → Adds v 0 w (Output.next_goal p n w)
goal-adds v p n w = adds_if v 0 w (Output.is_int n Asked.hold_penalty) (Output.with_goal max_dimen w) (Output.goal_by p room w) (goal max_dimen) (adds_if v 0 w (Output.is_crowded p room) (Output.leave_column w) (Output.with_goal room w) crowded (goal room))
  where
    room : ℤ
    room = column_room_of p w.state.floats

    goal : (g : ℤ) → Adds v 0 w (Output.with_goal g w)
    goal g = record { waits = refl; classes = refl; goes = λ r. r; by = λ r s. (record { box = s.box; bare = s.bare; columns = s.columns; entries = s.entries }, omega arith) }

    told : Work
    told = sends (warned (warnings.Floats w.state.number)) w

    blank : (t : Bool) → nodes_weight v (if t then Output.blank_column ++ Output.blank_column else Output.blank_column) ≡ 0
    blank true = refl
    blank false = refl

    crowded : Adds v 0 w (Output.leave_column w)
    crowded = then_kept v 0 w told (Output.leave_column w) (warns-adds v (warnings.Floats w.state.number) w) (puts-nothing v (if w.state.two_columns && not w.state.first_column then Output.blank_column ++ Output.blank_column else Output.blank_column) told (blank (w.state.two_columns && not w.state.first_column)))

-- the break is that of a clear, of a float or of a note
abbrev pub is_serving : ℤ → Bool
is_serving n = Output.is_int n Asked.clear_penalty || (Output.is_int n Asked.par_penalty || Output.is_int n Asked.vert_penalty)

-- what has to weigh nothing at a firing, by the penalty of its break: the page's list at a clear, a float or a note, and the held page if it is replaced
pub record Careful (v : Weight) (held : List PlainNode) (f : Fired) : Type 0 where
  pub list : int_le eject_penalty f.penalty ≡ false → is_serving f.penalty ≡ true → nodes_weight v f.body ≡ 0
  pub page : int_le eject_penalty f.penalty ≡ false → is_serving f.penalty ≡ false → nodes_weight v held ≡ 0

output-adds : (v : Weight) (p : Params) (f : Fired) (w : Work) → Careful v w.state.held_page f → Adds v (nodes_weight v f.body) w (Output.output_by p f w)
output-adds v p f w h = by_penalty (int_le eject_penalty f.penalty) (Output.is_int f.penalty Asked.clear_penalty) (Output.is_int f.penalty Asked.par_penalty) (Output.is_int f.penalty Asked.vert_penalty) h.list h.page
  where
    held : nodes_weight v w.state.held_page ≡ 0 → Adds v (nodes_weight v f.body) w (Output.hold f.body w)
    held e = record { waits = refl; classes = refl; goes = λ r. r; by = λ r s. (record { box = s.box; bare = s.bare; columns = s.columns; entries = s.entries }, omega (arith, e)) }

    cleared : nodes_weight v f.body ≡ 0 → Adds v (nodes_weight v f.body) w (Clear.clear p f.body w)
    cleared e = clear_by-adds v p f.body w (standing_notes (footnotes w.state)) refl e

    by_penalty : (t c x y : Bool) → (t ≡ false → (c || (x || y)) ≡ true → nodes_weight v f.body ≡ 0) → (t ≡ false → (c || (x || y)) ≡ false → nodes_weight v w.state.held_page ≡ 0) → Adds v (nodes_weight v f.body) w (if t then Columns.ordinary p f.body w else (if c then Clear.clear p f.body w else (if x then Text.float_or_note p false f.body w else (if y then Text.float_or_note p true f.body w else Output.hold f.body w))))
    by_penalty true c x y k l = ordinary-adds v p f.body w
    by_penalty false true x y k l = cleared (k refl refl)
    by_penalty false false true y k l = float_or_note-adds v p false f.body w (k refl refl)
    by_penalty false false false true k l = float_or_note-adds v p true f.body w (k refl refl)
    by_penalty false false false false k l = held (l refl refl)

-- after a firing that no limit stops the state is sound, and with what is sent weighs as the state before it and the page with what is held and left
pub out-weight : (v : Weight) (p : Params) (s : State) (f : Fired) → Sound (Output.after_page s f) → Careful v s.held_page f → (Output.out p s f).refused ≡ false → Sound (Output.out p s f).state × (state_weight v (Output.out p s f).state + sent_weight v (Output.out p s f).sent ≡ nodes_weight v f.body + boxes_weight v f.boxes + nodes_weight v f.held + nodes_weight v f.rest + (nodes_weight v s.held_page + lists_weight v s.floats + left_weight v s.left_column))
unfolding Output.out
out-weight v p s f sound h r = all (Output.next_goal p f.penalty b) x r
  where
    a : Work
    a = begun (Output.after_page s f)

    b : Work
    b = Output.output_by p f a

    x : Adds v (nodes_weight v f.body) a (Output.next_goal p f.penalty b)
    x = then_kept v (nodes_weight v f.body) a b (Output.next_goal p f.penalty b) (output-adds v p f a h) (goal-adds v p f.penalty b)

    all : (c : Work) → Adds v (nodes_weight v f.body) a c → c.refused ≡ false → Sound (Output.waiting_again f c).state × (state_weight v (Output.waiting_again f c).state + sent_weight v c.sent ≡ nodes_weight v f.body + boxes_weight v f.boxes + nodes_weight v f.held + nodes_weight v f.rest + (nodes_weight v s.held_page + lists_weight v s.floats + left_weight v s.left_column))
    all c y r =
        let k = y.by r sound in
        let g : work_weight v c ≡ work_weight v (begun (Output.after_page s f)) + nodes_weight v f.body = k.1 in
        let d : nodes_weight v c.state.waiting ≡ 0 = ap (nodes_weight v) y.waits in
        let e : nodes_weight v (f.held ++ c.put_back ++ f.rest) ≡ nodes_weight v (f.held ++ c.put_back) + nodes_weight v f.rest = weight-append v (f.held ++ c.put_back) f.rest in
        let i : nodes_weight v (f.held ++ c.put_back) ≡ nodes_weight v f.held + nodes_weight v c.put_back = weight-append v f.held c.put_back in
        (record { box = k.0.box; bare = k.0.bare; columns = k.0.columns; entries = k.0.entries }, omega arith)
