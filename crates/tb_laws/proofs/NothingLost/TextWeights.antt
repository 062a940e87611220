-- Floats and notes in the text: nothing is lost.
use Rattle.std.proofs.Common.{add-zero, take, drop, ℕ, length, sym, ◌∙◌, ◌≡◌, refl, ap, subst, ◌+◌, Bool, true, false, List, [], ◌∷◌, ◌++◌, map, Option, Some, None, arith}
use Rattle.std.specs.Prelude.{◌-◌, ℤ}
use Rattle.tb_scaled.specs.declared.Glue.{Glue}
use Rattle.tb_node.specs.declared.Float.{Float}
use Rattle.tb_node.specs.declared.Margin.{Margin}
use Rattle.tb_node.specs.declared.Where.{Where}
use Rattle.tb_node.specs.declared.Where.TheVariants as places
use Rattle.tb_node.specs.PlainNodes.{PlainNode, plain, pen}
use Rattle.tb_break.specs.Places.{last_or}
use Rattle.tb_node.proofs.Weights.{weight-split, Weight, nodes_weight, weight-append}
use Rattle.tb_param.specs.declared.Params.{Params}
use Rattle.tb_builder.proofs.FiredPages.PageWeights.{boxes_weight}
use Rattle.tb_float.specs.declared.Entry.{Entry}
use Rattle.tb_float.specs.declared.Entry.TheVariants as entries
use Rattle.tb_float.specs.Lists.{FloatLists}
use Rattle.tb_float.specs.Rooms.{column_height_of}
use Rattle.tb_margin.specs.declared.Placed.{Placed}
use Rattle.tb_column.specs.Column.{Notes}
use Rattle.tb_output.specs.State.{Work, placed, puts, records_also, with_floats, footnotes}
use Rattle.tb_output.specs.FloatMoves
use Rattle.tb_output.specs.Columns
use Rattle.tb_output.specs.Text
use Rattle.tb_output.proofs.StepLaws.FollowLemmas.{records-state}
use Rattle.tb_output.proofs.StepLaws.Moves.{Hand, nothing, of_text, of_float, of_note, IsInColumn, deferred_float, TextMove, goes_back, places_current, defers_current, takes_float, stands_here, takes_note, stands_beside, puts_penalty, warns, goes-on}
use Rattle.tb_output.proofs.StepLaws.FiringTree.{float_or_note-moves}
use Rattle.tb_laws.proofs.Closed.BareFeet.{emptied-bare}
use Rattle.tb_laws.proofs.NothingLost.StateWeights.{hand_weight, Light, Weighs, gives, keeps, weighs-then, all-added, entries_weight, lists_weight, work_weight, Paired, Sound, Adds, unchanged, puts-adds, records-adds, warns-adds}
use Rattle.tb_laws.proofs.NothingLost.FloatWeights.{Joins, placed-adds}
use Rattle.tb_laws.proofs.NothingLost.ColumnWeights.{notes_weight}
use Rattle.tb_laws.proofs.NothingLost.PutOutWeights.{takes-weighs, box-weight, emptied-weight, emptied-box}

-- ---- floats and notes in the text

penalty-weight : (v : Weight) (n : ℤ) (o : Option Glue) → nodes_weight v (Text.penalty_nodes n o) ≡ 0
penalty-weight v n None = refl
penalty-weight v n (Some g) = refl

-- nodes that weigh nothing are put back
pub puts-nothing : (v : Weight) (ns : List PlainNode) (w : Work) → nodes_weight v ns ≡ 0 → Adds v 0 w (puts ns w)
puts-nothing v ns w h = let x : Adds v (nodes_weight v ns) w (puts ns w) = puts-adds v ns w in rw h at x

between-weight : (v : Weight) (n : ℤ) (nobreak : Bool) (ns : List PlainNode) → nodes_weight v (Text.penalty_between n nobreak ns) ≡ 0
between-weight v n true ns = refl
between-weight v n false ns = penalty-weight v n (Text.glue_at_end (last_or (plain (pen n)) (map (λ m. m.kind) ns)))

interline-adds : (v : Weight) (p : Params) (nobreak : Bool) (w : Work) → Adds v 0 w (Text.puts_interline p nobreak w)
interline-adds v p nobreak w = puts-nothing v (Text.penalty_between p.interlinepenalty nobreak w.put_back) w (between-weight v p.interlinepenalty nobreak w.put_back)

here-weight : (v : Weight) (p : Params) (vert : Bool) (f : Float) → nodes_weight v (Text.here_nodes p vert f) ≡ v.float f.line
here-weight v p true f = omega arith
here-weight v p false f = omega arith

notes_nodes-weight : (v : Weight) (p : Params) (ns : List Notes) → nodes_weight v (Text.notes_nodes p ns) ≡ notes_weight v ns
notes_nodes-weight v p [] = refl
notes_nodes-weight v p (n ∷ ns) = let h : nodes_weight v (Text.notes_nodes p ns) ≡ notes_weight v ns = notes_nodes-weight v p ns in omega arith

-- the held page and what follows it go back, and the footnotes after them
list_back-adds : (v : Weight) (p : Params) (ns : List PlainNode) (w : Work) → Adds v (nodes_weight v ns) w (Text.list_back p (w.state.held_page ++ ns) w)
list_back-adds v p ns w = record { waits = refl; classes = refl; goes = λ r. r; by = λ r s. (record { box = emptied-box w.state.classes w.state.boxes s.box; bare = emptied-bare w.state.boxes; columns = s.columns; entries = s.entries }, weight s) }
  where
    weight : Sound w.state → work_weight v (Text.list_back p (w.state.held_page ++ ns) w) ≡ work_weight v w + nodes_weight v ns
    weight s =
        let notes = Text.notes_nodes p (footnotes w.state) in
        let a : nodes_weight v (w.put_back ++ (w.state.held_page ++ ns ++ notes)) ≡ nodes_weight v w.put_back + nodes_weight v (w.state.held_page ++ ns ++ notes) = weight-append v w.put_back (w.state.held_page ++ ns ++ notes) in
        let b : nodes_weight v (w.state.held_page ++ ns ++ notes) ≡ nodes_weight v (w.state.held_page ++ ns) + nodes_weight v notes = weight-append v (w.state.held_page ++ ns) notes in
        let c : nodes_weight v (w.state.held_page ++ ns) ≡ nodes_weight v w.state.held_page + nodes_weight v ns = weight-append v w.state.held_page ns in
        let d : nodes_weight v notes ≡ notes_weight v (footnotes w.state) = notes_nodes-weight v p (footnotes w.state) in
        let e : notes_weight v (footnotes w.state) ≡ boxes_weight v w.state.boxes = box-weight v w.state.classes w.state.boxes s.box in
        let f : boxes_weight v (Columns.emptied_boxes w.state.boxes) ≡ 0 = emptied-weight v w.state.boxes in
        omega arith

-- ---- each move

-- the first float of the current list leaves it
current-lighter : (v : Weight) (f : Float) (es : List Entry) (l : FloatLists) → l.current ≡ entries.Float f ∷ es → lists_weight v l ≡ lists_weight v (record l { current = es }) + v.float f.line
current-lighter v f es l e = let k : entries_weight v l.current ≡ v.float f.line + entries_weight v es = ap (entries_weight v) e in omega arith

in-column-joins : (place : Where) → IsInColumn place → Joins place
in-column-joins places.Top c = tt
in-column-joins places.Bottom c = tt
in-column-joins place c = absurd c

-- a float that leaves the current list goes to another
current-adds : (v : Weight) (p : Params) (place : Where) (t : Bool) (f : Float) (es : List Entry) (w : Work) → Joins place → w.state.floats.current ≡ entries.Float f ∷ es → Adds v 0 w (FloatMoves.place_float p place (deferred_float t f) (record w.state.floats { current = es }) w)
current-adds v p place true f es w j e = placed-adds v p place (Text.with_top f) (record w.state.floats { current = es }) w j (λ s. subst Paired e s) (current-lighter v f es w.state.floats e)
current-adds v p place false f es w j e = placed-adds v p place f (record w.state.floats { current = es }) w j (λ s. subst Paired e s) (current-lighter v f es w.state.floats e)

-- it comes into the hand
float-taken : (v : Weight) (p : Params) (f : Float) (es : List Entry) (w : Work) → w.state.floats.current ≡ entries.Float f ∷ es → Weighs v nothing w (of_float f) (FloatMoves.place_float p places.Here f (record w.state.floats { current = es }) w)
float-taken v p f es w e =
    let r = placed p f places.Here w.state.floats (column_height_of p w.state.floats) in
    let l = FloatMoves.joined_to places.Here f (record w.state.floats { current = es }) in
    let a = records_also r w in
    weighs-then v nothing nothing (of_float f) w a (with_floats l a) (keeps v nothing w a (records-adds v r w))
    (takes-weighs v (of_float f) l a tt (λ s. subst Paired (ap (λ t. t.floats.current) (records-state r w) ∙ e) s) (sym (ap (λ t. lists_weight v t.floats) (records-state r w) ∙ current-lighter v f es w.state.floats e)))

-- the two boxes of a note leave the current list side by side
note-taken : (v : Weight) (m : Margin) (es : List Entry) → Paired (entries.Left m ∷ es) → Paired (drop 1 es) × (entries_weight v (drop 1 es) ≡ entries_weight v es)
note-taken v m [] h = absurd h
note-taken v m (entries.Right n ∷ es) h = (h, refl)
note-taken v m (entries.Float f ∷ es) h = absurd h
note-taken v m (entries.Left n ∷ es) h = absurd h

note-weighs : (v : Weight) (m : Margin) (es : List Entry) (at : Placed) (w : Work) → w.state.floats.current ≡ entries.Left m ∷ es → Weighs v nothing w (of_note m at) (Text.with_note_bottom at.bottom (with_floats (record w.state.floats { current = drop 1 es }) w))
note-weighs v m es at w e = record { waits = refl; classes = refl; goes = λ r. r; light = λ u. tt; by = λ r u s. all s (note-taken v m es (subst Paired e s.entries)) }
  where
    all : Sound w.state → Paired (drop 1 es) × (entries_weight v (drop 1 es) ≡ entries_weight v es) → Sound (Text.with_note_bottom at.bottom (with_floats (record w.state.floats { current = drop 1 es }) w)).state × (work_weight v (Text.with_note_bottom at.bottom (with_floats (record w.state.floats { current = drop 1 es }) w)) + v.margin m.line ≡ work_weight v w + 0)
    all s h =
        let k : entries_weight v w.state.floats.current ≡ v.margin m.line + entries_weight v es = ap (entries_weight v) e in
        let g : entries_weight v (drop 1 es) ≡ entries_weight v es = h.1 in
        (record { box = s.box; bare = s.bare; columns = s.columns; entries = h.0 }, omega arith)

-- nodes that are in hand go back
pub put-weighs : (v : Weight) (h : Hand) (ns : List PlainNode) (w : Work) → (Light v h → nodes_weight v ns ≡ hand_weight v h) → Weighs v h w nothing (puts ns w)
put-weighs v h ns w e = gives v h nothing (nodes_weight v ns) w (puts ns w) (puts-adds v ns w) (λ l. (sym (add-zero (nodes_weight v ns) ∙ e l), tt))

-- a part of a list that weighs nothing weighs nothing
pub front-light : (v : Weight) (k : ℕ) (body : List PlainNode) → nodes_weight v body ≡ 0 → nodes_weight v (take k body) ≡ nodes_weight v body
front-light v k body h = none (nodes_weight v (take k body)) (nodes_weight v (drop k body)) (nodes_weight v body) (weight-split v k body) h
  where
    none : (a b c : ℕ) → a + b ≡ c → c ≡ 0 → a ≡ c
    none a b c e h = omega arith

text-weighs : {p : Params} {h : Hand} {a : Work} {i : Hand} {b : Work} (v : Weight) → TextMove p h a i b → Weighs v h a i b
text-weighs {p} v (goes_back body w) =
    let ns = Text.without_firing_box body in
    gives v (of_text body) nothing (nodes_weight v ns) w _ (list_back-adds v p ns w) (λ l. (sym (add-zero (nodes_weight v ns) ∙ front-light v (length body - 2) body l), tt))
text-weighs {p} v (places_current place f es height w c e i) = keeps v nothing w _ (current-adds v p place false f es w (in-column-joins place c) e)
text-weighs {p} v (defers_current t f es w e i) = keeps v nothing w _ (current-adds v p places.Deferred t f es w tt e)
text-weighs {p} v (takes_float f es w e) = float-taken v p f es w e
text-weighs {p} v (stands_here vert f w) = put-weighs v (of_float f) (Text.here_nodes p vert f) w (λ l. here-weight v p vert f)
text-weighs {p} v (takes_note height m es at w e i) = note-weighs v m es at w e
text-weighs {p} v (stands_beside depth m at w) = put-weighs v (of_note m at) (Text.note_nodes depth m at) w (λ l. omega arith)
text-weighs {p} v (puts_penalty nobreak h w) = keeps v h w _ (interline-adds v p nobreak w)
text-weighs {p} v (warns h e w) = keeps v h w _ (warns-adds v e w)

-- at a float or note, if the page's list weighs nothing
pub float_or_note-adds : (v : Weight) (p : Params) (vert : Bool) (body : List PlainNode) (w : Work) → nodes_weight v body ≡ 0 → Adds v (nodes_weight v body) w (Text.float_or_note p vert body w)
float_or_note-adds v p vert body w light = all-added v (of_text body) w (Text.float_or_note p vert body w) (goes-on (Weighs v) (λ h w. keeps v h w w (unchanged v w)) (weighs-then v) (λ h i a b m. text-weighs v m) (float_or_note-moves p vert body w)) light
