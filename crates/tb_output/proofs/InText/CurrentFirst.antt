-- What comes first of the current list, a float or a marginal note, and where the routine puts it.
use Rattle.std.proofs.Common.{◌≡◌, sym, ◌∙◌, ap, ℕ, ℤ, Bool, false, List, [], ◌∷◌, drop, Some, None}
use Rattle.std.specs.List.{slice_get}
use Rattle.tb_pool.specs.Lists.{Lists}
use Rattle.tb_node.specs.declared.Float.{Float}
use Rattle.tb_node.specs.declared.Margin.{Margin}
use Rattle.tb_node.specs.declared.Node.{Node}
use Rattle.tb_node.specs.declared.Where.{Where}
use Rattle.tb_param.specs.declared.Params.{Params}
use Rattle.tb_float.specs.declared.Entry.{Entry}
use Rattle.tb_float.specs.declared.Entry.TheVariants as entries
use Rattle.tb_sheet.specs.Sheet.{PlainSent}
use Rattle.tb_output.specs.declared.texts.TextSize.{TextSize}
use Rattle.tb_output.specs.State.{Work}
use Rattle.tb_output.specs.Text.{puts_interline, note_at, float_goes, first_goes}
use Rattle.tb_output.specs.Machine.{MachineView}
use Rattle.tb_output.specs.FiringParts.{float_placed, float_decided, note_placed, first_placed}
use Rattle.tb_output.specs.FiringWork.{shows_back}
use Rattle.tb_area.specs.Area.{current_place}

-- ---- the first of the current list

-- a float goes where the routine decides
pub decided-same : (l : ℕ) (m : MachineView) (store : Lists Node) (vert : Bool) (f : Float) (height : ℤ) (place : Where) → place ≡ current_place m.params m.pool.lists m.suppress height f
    → (before : List PlainSent) (w : Work) → shows_back l m store before w → float_placed m.params vert f place w ≡ float_decided m.params vert f height w
decided-same l m store vert f height place e before w h =
    ap (λ (p : Where). float_placed m.params vert f p w) (e ∙ (λ i. current_place m.params (h.0.state i).floats (h.0.state i).suppress height f))

first-float : (p : Params) (vert : Bool) (z : TextSize) (w : Work) (es : List Entry) (f : Float) → w.state.floats.current ≡ es → slice_get es 0 ≡ Some (entries.Float f) → float_decided p vert f z.page w ≡ first_placed p vert z w
first-float p vert z w [] f e h = let none : None ≡ Some (entries.Float f) = h in absurd cc
first-float p vert z w (x ∷ es) f e h =
    let some : Some x ≡ Some (entries.Float f) = h in
    let same : x ≡ entries.Float f = cc in
    let list : w.state.floats.current ≡ entries.Float f ∷ es = e ∙ ap (λ y. y ∷ es) same in
    ap (λ (ds : List Entry). float_goes p vert f (record w.state.floats { current = drop 1 ds }) w (current_place p w.state.floats w.state.suppress z.page f)) list
    ∙ ap (λ (ds : List Entry). first_goes p vert z.height z.depth z.page ds w) (sym list)

pub float-first : (l : ℕ) (m : MachineView) (store : Lists Node) (vert : Bool) (z : TextSize) (f : Float) → slice_get m.pool.lists.current 0 ≡ Some (entries.Float f)
    → (before : List PlainSent) (w : Work) → shows_back l m store before w → float_decided m.params vert f z.page w ≡ first_placed m.params vert z w
float-first l m store vert z f there before w h = first-float m.params vert z w m.pool.lists.current f (λ i. (sym h.0.state i).floats.current) there

first-note : (p : Params) (vert : Bool) (z : TextSize) (w : Work) (es : List Entry) (m : Margin) → w.state.floats.current ≡ es → slice_get es 0 ≡ Some (entries.Left m) → note_placed p z m w ≡ first_placed p vert z w
first-note p vert z w [] m e h = let none : None ≡ Some (entries.Left m) = h in absurd cc
first-note p vert z w (x ∷ []) m e h =
    let some : Some x ≡ Some (entries.Left m) = h in
    let same : x ≡ entries.Left m = cc in
    let list : w.state.floats.current ≡ entries.Left m ∷ [] = e ∙ ap (λ y. y ∷ []) same in
    ap (λ (ds : List Entry). note_at p z.height z.depth m (record w.state.floats { current = drop 2 ds }) w) list
    ∙ ap (λ (ds : List Entry). first_goes p vert z.height z.depth z.page ds w) (sym list)
first-note p vert z w (x ∷ y ∷ es) m e h =
    let some : Some x ≡ Some (entries.Left m) = h in
    let same : x ≡ entries.Left m = cc in
    let list : w.state.floats.current ≡ entries.Left m ∷ y ∷ es = e ∙ ap (λ d. d ∷ y ∷ es) same in
    ap (λ (ds : List Entry). note_at p z.height z.depth m (record w.state.floats { current = drop 2 ds }) w) list
    ∙ ap (λ (ds : List Entry). first_goes p vert z.height z.depth z.page ds w) (sym list)

pub note-first : (l : ℕ) (m : MachineView) (store : Lists Node) (vert : Bool) (z : TextSize) (note : Margin) → slice_get m.pool.lists.current 0 ≡ Some (entries.Left note)
    → (before : List PlainSent) (w : Work) → shows_back l m store before w → note_placed m.params z note w ≡ first_placed m.params vert z w
note-first l m store vert z note there before w h = first-note m.params vert z w m.pool.lists.current note (λ i. (sym h.0.state i).floats.current) there

-- neither a float nor a note comes first
first-none : (p : Params) (vert : Bool) (z : TextSize) (w : Work) (es : List Entry) → w.state.floats.current ≡ es → slice_get es 0 ≡ None → puts_interline p false w ≡ first_placed p vert z w
first-none p vert z w [] e h = ap (λ (ds : List Entry). first_goes p vert z.height z.depth z.page ds w) (sym e)
first-none p vert z w (x ∷ es) e h = let some : Some x ≡ None = h in absurd cc

pub none-first : (l : ℕ) (m : MachineView) (store : Lists Node) (vert : Bool) (z : TextSize) → slice_get m.pool.lists.current 0 ≡ None
    → (before : List PlainSent) (w : Work) → shows_back l m store before w → puts_interline m.params false w ≡ first_placed m.params vert z w
none-first l m store vert z none before w h = first-none m.params vert z w m.pool.lists.current (λ i. (sym h.0.state i).floats.current) none

first-right : (p : Params) (vert : Bool) (z : TextSize) (w : Work) (es : List Entry) (m : Margin) → w.state.floats.current ≡ es → slice_get es 0 ≡ Some (entries.Right m) → puts_interline p false w ≡ first_placed p vert z w
first-right p vert z w [] m e h = let none : None ≡ Some (entries.Right m) = h in absurd cc
first-right p vert z w (x ∷ es) m e h =
    let some : Some x ≡ Some (entries.Right m) = h in
    let same : x ≡ entries.Right m = cc in
    ap (λ (ds : List Entry). first_goes p vert z.height z.depth z.page ds w) (sym (e ∙ ap (λ y. y ∷ es) same))

pub right-first : (l : ℕ) (m : MachineView) (store : Lists Node) (vert : Bool) (z : TextSize) (note : Margin) → slice_get m.pool.lists.current 0 ≡ Some (entries.Right note)
    → (before : List PlainSent) (w : Work) → shows_back l m store before w → puts_interline m.params false w ≡ first_placed m.params vert z w
right-first l m store vert z note there before w h = first-right m.params vert z w m.pool.lists.current note (λ i. (sym h.0.state i).floats.current) there
