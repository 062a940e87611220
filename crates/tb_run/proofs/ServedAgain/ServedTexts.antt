-- A firing at a float or a marginal note leaves a state that can be served again.
use Rattle.std.proofs.Common.{◌≡◌, refl, sym, subst, ap, ℕ, suc, ◌+◌, ◌-◌, ◌≤◌, ℤ, pos, ◌≤ℤ◌, Bool, true, false, List, [], ◌∷◌, ◌++◌, length, map, arith}
use Rattle.std.specs.Prelude.{All, if◌then◌else◌, ◌+ℤ◌, ◌-ℤ◌}
use Rattle.std.specs.List.{AllByRecursion}
use Rattle.std.proofs.lemmas.Int.{ints}
use Rattle.std.proofs.lemmas.List.{length-map}
use Rattle.std.proofs.lemmas.List.Elements.{All-from_recursion}
use Rattle.tb_break.proofs.EachLemmas.{all-take}
use Rattle.tb_scaled.specs.Scaled.{max_ℤ}
use Rattle.tb_node.specs.declared.Float.{Float}
use Rattle.tb_node.specs.declared.Margin.{Margin}
use Rattle.tb_node.specs.declared.Side.{Side}
use Rattle.tb_node.specs.declared.Side.TheVariants as sides
use Rattle.tb_node.specs.declared.Where.{Where}
use Rattle.tb_node.specs.declared.Where.TheVariants as places
use Rattle.tb_node.specs.Shape.{Shape}
use Rattle.tb_node.specs.Fit.{IsExtent, IsSized, IsSizedPlain}
use Rattle.tb_node.specs.PlainNodes.{PlainNode, node_shape}
use Rattle.tb_node.specs.Sums.{size_of, last_depth}
use Rattle.tb_node.proofs.FitLemmas as fits
use Rattle.tb_param.specs.declared.Params.{Params}
use Rattle.tb_insert.specs.declared.Class.{Class}
use Rattle.tb_builder.specs.Contents.{node_count}
use Rattle.tb_builder.specs.SizedContents.{AreBoxesOf}
use Rattle.tb_builder.specs.Ownership.{ClassesFit}
use Rattle.tb_builder.proofs.Ranges.PageableLemmas.{count-append}
use Rattle.tb_float.specs.declared.Entry.{Entry}
use Rattle.tb_float.specs.declared.Entry.TheVariants as entries
use Rattle.tb_float.specs.Lists.{FloatLists}
use Rattle.tb_float.specs.Ranges.{IsWithin, IsSizedEntry, IsSizedMargin}
use Rattle.tb_float.specs.Rooms.{column_height_of}
use Rattle.tb_margin.specs.declared.Placed.{Placed}
use Rattle.tb_margin.specs.Margin.{note_height, note_depth, side_of, placed_note}
use Rattle.tb_area.specs.Area.{current_place}
use Rattle.tb_sheet.specs.Sheet.{warned}
use Rattle.tb_sheet.specs.declared.Warn.TheVariants as warnings
use Rattle.tb_output.specs.State.{Work, Recorded, placed, puts, sends, records_also, with_floats, footnotes, notes_in}
use Rattle.tb_output.specs.FloatMoves
use Rattle.tb_output.specs.Columns
use Rattle.tb_output.specs.Text
use Rattle.tb_output.proofs.StepLaws.FollowLemmas.{joined-current}
use Rattle.tb_steps.specs.Runnable.{AreRunnable}
use Rattle.tb_run.specs.ServedStates.{notes_taken}
use Rattle.tb_run.proofs.ServedAgain.BackNodes.{AreBack, AreText, back-append, text-back, interline-back, interline-few, here-back, here-few, note-back, count-take, notes-back, notes-few, emptied-sized, emptied-count}
use Rattle.tb_run.proofs.ServedAgain.EasedWorks.{placed-eases}
use Rattle.tb_run.proofs.ServedAgain.ServedFirings.{reach_where, Kept, kept-more, kept-if, kept-with, kept-sends, kept-puts, kept-puts_few, within-more}

-- ---- how far notes reach

-- the height of a text of this many nodes
pub text-height : (ns : List Shape) → All IsSized ns → length ns ≤ 4194305 → IsWithin 9007203549708288 (size_of ns -ℤ last_depth ns)
text-height ns sized few =
    let size = fits.size_within ns sized in
    let depth = fits.last_depth_extent ns sized in
    let sl = size.low in let sh = size.high in let dl = depth.low in let dh = depth.high in
    record { low = omega (arith, ints, sl, sh, dl, dh, few); high = omega (arith, ints, sl, sh, dl, dh, few) }

max-low : (a b : ℤ) → b ≤ℤ max_ℤ a b
max-low a b = grind (arith, ints)

max-either : (a b c : ℤ) → a ≤ℤ c → b ≤ℤ c → max_ℤ a b ≤ℤ c
max-either a b c h k = grind (arith, ints, h, k)

-- below a text of this height, and below notes that reach down to the bottom
reach-lower : (high bottom push h d : ℤ) (n : ℕ) → IsWithin 9007203549708288 high → IsWithin n bottom → 9007203549708288 ≤ n → IsExtent push → IsExtent h → IsExtent d
    → IsWithin (n + 4294967296) (high +ℤ max_ℤ (bottom -ℤ high +ℤ h) (pos 0) +ℤ d +ℤ push)
reach-lower high bottom push h d n at reach most ep eh ed =
    let low = max-low (bottom -ℤ high +ℤ h) (pos 0) in
    let hl = at.low in let hh = at.high in let rl = reach.low in let rh = reach.high in
    let pl = ep.low in let ph = ep.high in let el = eh.low in let eu = eh.high in let dl = ed.low in let du = ed.high in
    let up = max-either (bottom -ℤ high +ℤ h) (pos 0) (pos n +ℤ pos 1073741823 -ℤ high) (omega (arith, ints, rh, eu)) (omega (arith, ints, hh, most)) in
    record { low = omega (arith, ints, low, hl, pl, dl, most); high = omega (arith, ints, up, ph, du) }

side-height : (side : Side) (m : Margin) → IsSizedMargin m → IsExtent (note_height side m)
side-height sides.Left m h = h.left_height
side-height sides.Right m h = h.right_height

side-depth : (side : Side) (m : Margin) → IsSizedMargin m → IsExtent (note_depth side m)
side-depth sides.Left m h = h.left_depth
side-depth sides.Right m h = h.right_depth

-- if a note is placed
note-reach : (p : Params) (page : ℕ) (two first : Bool) (high bottom : ℤ) (m : Margin) (n : ℕ) → AreRunnable p → IsSizedMargin m → IsWithin 9007203549708288 high → IsWithin n bottom → 9007203549708288 ≤ n
    → IsWithin (n + 4294967296) (placed_note p page two first high bottom m).bottom
note-reach p page two first high bottom m n runs sized at reach most =
    let side = side_of p page two first in
    reach-lower high bottom p.marginparpush (note_height side m) (note_depth side m) n at reach most runs.output.marginparpush (side-height side m sized) (side-depth side m sized)

reach-least : (k : ℕ) → k ≤ 600005 → 9007203549708288 ≤ reach_where k
reach-least k h = omega (arith, h)

reach-step : (k j : ℕ) → k ≤ 600005 → suc j ≤ k → reach_where k + 4294967296 ≤ reach_where j
reach-step k j h l = omega (arith, h, l)

-- ---- a float is placed

record Bare (w c : Work) : Type 0 where
  back : c.put_back ≡ w.put_back
  held : c.state.held_page ≡ w.state.held_page
  boxes : c.state.boxes ≡ w.state.boxes

bare-if : (w : Work) (t : Bool) (c d : Work) → Bare w c → Bare w d → Bare w (if t then c else d)
bare-if w true c d h k = h
bare-if w false c d h k = k

records-bare : (r : Recorded) (w : Work) → Bare w (records_also r w)
records-bare r w = bare-if w w.refused w (record w { records = w.records ++ r ∷ [] }) (record { back = refl; held = refl; boxes = refl }) (record { back = refl; held = refl; boxes = refl })

placed-bare : (p : Params) (place : Where) (f : Float) (left : FloatLists) (w : Work) → Bare w (FloatMoves.place_float p place f left w)
placed-bare p place f left w =
    let r = records_also (placed p f place w.state.floats (column_height_of p w.state.floats)) w in
    let c : Work = if FloatMoves.is_placed place then r else w in
    let h = bare-if w (FloatMoves.is_placed place) r w (records-bare _ w) (record { back = refl; held = refl; boxes = refl }) in
    record { back = h.back; held = h.held; boxes = h.boxes }

module _ (cs : List Class) (left : ℕ) where
  -- the float leaves the current list
  kept-placed : (n : ℕ) (p : Params) (place : Where) (f g : Float) (es : List Entry) (w : Work) → w.state.floats.current ≡ entries.Float f ∷ es → Kept cs left n w → Kept cs left n (FloatMoves.place_float p place g (record w.state.floats { current = es }) w)
  kept-placed n p place f g es w e k =
      let rest : FloatLists = record w.state.floats { current = es } in
      let c = FloatMoves.place_float p place g rest w in
      let h = placed-bare p place g rest w in
      let now : c.state.floats.current ≡ es = joined-current place g rest in
      kept-with cs left n w c k h.back h.held h.boxes (placed-eases p place g rest w)
      (subst (AllByRecursion IsSizedEntry) (sym now) ((subst (AllByRecursion IsSizedEntry) e k.entries).1))
      (let a = ap notes_taken now in let b = ap notes_taken e in omega (arith, a, b))

  module _ (p : Params) (runs : AreRunnable p) where
    kept-interline : (nobreak : Bool) (n : ℕ) (w : Work) → Kept cs left n w → Kept cs left (n + 3) (Text.puts_interline p nobreak w)
    kept-interline nobreak n w k = kept-puts_few cs left n 3 (Text.penalty_between p.interlinepenalty nobreak w.put_back) w (interline-back cs p runs nobreak w.put_back) (interline-few cs p runs nobreak w.put_back) k

    kept-then : (nobreak : Bool) (n : ℕ) (w : Work) → Kept cs left n w → Kept cs left (n + 8) (Text.puts_interline p nobreak w)
    kept-then nobreak n w k = kept-more cs left (n + 3) (n + 8) (Text.puts_interline p nobreak w) (omega arith) (kept-interline nobreak n w k)

    kept-defer : (n : ℕ) (f : Float) (es : List Entry) (w : Work) → w.state.floats.current ≡ entries.Float f ∷ es → Kept cs left n w → Kept cs left n (Text.defer p f (record w.state.floats { current = es }) w)
    kept-defer n f es w e k =
        let rest : FloatLists = record w.state.floats { current = es } in
        let c = FloatMoves.place_float p places.Deferred (Text.with_top f) rest w in
        kept-if cs left n (Text.only_here f) (sends (warned (warnings.Ht f.name)) c) (FloatMoves.place_float p places.Deferred f rest w)
        (kept-sends cs left n (warned (warnings.Ht f.name)) c (kept-placed n p places.Deferred f (Text.with_top f) es w e k))
        (kept-placed n p places.Deferred f f es w e k)

    kept-float : (n : ℕ) (vert : Bool) (f : Float) (es : List Entry) (w : Work) (place : Where) → w.state.floats.current ≡ entries.Float f ∷ es → Kept cs left n w → Kept cs left (n + 8) (Text.float_goes p vert f (record w.state.floats { current = es }) w place)
    kept-float n vert f es w places.Here e k =
        let c = FloatMoves.place_float p places.Here f (record w.state.floats { current = es }) w in
        kept-more cs left (n + 3 + 5) (n + 8) (puts (Text.here_nodes p vert f) (Text.puts_interline p f.nobreak c)) (omega arith)
        (kept-puts_few cs left (n + 3) 5 (Text.here_nodes p vert f) (Text.puts_interline p f.nobreak c) (here-back cs p runs vert f) (here-few cs p runs vert f) (kept-interline f.nobreak n c (kept-placed n p places.Here f f es w e k)))
    kept-float n vert f es w places.Top e k = kept-then f.nobreak n (FloatMoves.place_float p places.Top f (record w.state.floats { current = es }) w) (kept-placed n p places.Top f f es w e k)
    kept-float n vert f es w places.Bottom e k = kept-then f.nobreak n (FloatMoves.place_float p places.Bottom f (record w.state.floats { current = es }) w) (kept-placed n p places.Bottom f f es w e k)
    kept-float n vert f es w place e k = kept-then f.nobreak n (Text.defer p f (record w.state.floats { current = es }) w) (kept-defer n f es w e k)

    -- ---- a note is placed

    -- one note less has no place
    kept-moved : (n : ℕ) (m : Margin) (at : Placed) (es : List Entry) (w : Work) → AllByRecursion IsSizedEntry es → suc (notes_taken es) ≤ notes_taken w.state.floats.current → IsWithin (reach_where (left + notes_taken w.state.floats.current) + 4294967296) at.bottom → Kept cs left n w
        → Kept cs left n (Text.with_note_bottom at.bottom (with_floats (record w.state.floats { current = es }) w))
    kept-moved n m at es w sized fewer reach k = record {
      back = k.back;
      held = k.held;
      boxes = k.boxes;
      classes = k.classes;
      entries = sized;
      notes = let a = k.notes in omega (arith, a, fewer);
      bottom = within-more (reach_where (left + notes_taken w.state.floats.current) + 4294967296) (reach_where (left + notes_taken es)) at.bottom (reach-step (left + notes_taken w.state.floats.current) (left + notes_taken es) k.notes (omega (arith, fewer))) reach;
      few = k.few;
    }

    kept-note : (n : ℕ) (high depth : ℤ) (m : Margin) (es : List Entry) (w : Work) → IsWithin 9007203549708288 high → IsSizedMargin m → AllByRecursion IsSizedEntry es → suc (notes_taken es) ≤ notes_taken w.state.floats.current → Kept cs left n w
        → Kept cs left (n + 8) (Text.note_at p high depth m (record w.state.floats { current = es }) w)
    kept-note n high depth m es w at margin sized fewer k =
        let to = placed_note p w.state.number w.state.two_columns w.state.first_column high w.state.note_bottom m in
        let a = Text.with_note_bottom to.bottom (with_floats (record w.state.floats { current = es }) w) in
        let b = Text.moved_warning m to a in
        let c = puts (Text.note_nodes depth m to) b in
        let total = left + notes_taken w.state.floats.current in
        let reach = note-reach p w.state.number w.state.two_columns w.state.first_column high w.state.note_bottom m (reach_where total) runs margin at k.bottom (reach-least total k.notes) in
        kept-more cs left (n + 3 + 3) (n + 8) (Text.puts_interline p m.nobreak c) (omega arith)
        (kept-interline m.nobreak (n + 3) c
        (kept-puts cs left n (Text.note_nodes depth m to) b (note-back cs depth m to)
        (let moved = kept-moved n m to es w sized fewer reach k in kept-if cs left n to.moved (sends (warned (warnings.Moved m.name to.shift)) a) a (kept-sends cs left n (warned (warnings.Moved m.name to.shift)) a moved) moved)))

    -- ---- the first of the current list

    kept-first : (n : ℕ) (vert : Bool) (high depth page_height : ℤ) (es : List Entry) (w : Work) → IsWithin 9007203549708288 high → w.state.floats.current ≡ es → AllByRecursion IsSizedEntry es → Kept cs left n w
        → Kept cs left (n + 8) (Text.first_goes p vert high depth page_height es w)
    kept-first n vert high depth page_height (entries.Float f ∷ es) w at e sized k = kept-float n vert f es w (current_place p w.state.floats w.state.suppress page_height f) e k
    kept-first n vert high depth page_height (entries.Left m ∷ []) w at e sized k = kept-note n high depth m [] w at sized.0 tt (let a = ap notes_taken e in omega (arith, a)) k
    kept-first n vert high depth page_height (entries.Left m ∷ x ∷ es) w at e sized k = kept-note n high depth m es w at sized.0 sized.1.1 (let a = ap notes_taken e in omega (arith, a)) k
    kept-first n vert high depth page_height (entries.Right m ∷ es) w at e sized k = kept-then false n w k
    kept-first n vert high depth page_height [] w at e sized k = kept-then false n w k

    -- ---- the list so far goes back

    kept-list : (n : ℕ) (more : List PlainNode) (w : Work) → AreText more → ClassesFit cs → AreBoxesOf cs w.state.boxes → Kept cs left n w → Kept cs left (n + node_count more + length cs) (Text.list_back p (w.state.held_page ++ more) w)
    kept-list n more w text fit of k =
        let ns = w.state.held_page ++ more in
        let notes = Text.notes_nodes p (footnotes w.state) in
        let same : notes ≡ Text.notes_nodes p (notes_in cs w.state.boxes) = ap (λ (x : List Class). Text.notes_nodes p (notes_in x w.state.boxes)) k.classes in
        let a : Work = record w { state = record w.state { held_page = []; boxes = Columns.emptied_boxes w.state.boxes } } in
        record {
          back =
              back-append cs w.put_back (ns ++ notes) k.back
              (back-append cs ns notes (back-append cs w.state.held_page more (text-back cs w.state.held_page k.held) (text-back cs more text)) (subst (AreBack cs) (sym same) (notes-back cs p runs w.state.boxes k.boxes)));
          held = tt;
          boxes = emptied-sized w.state.boxes;
          classes = k.classes;
          entries = k.entries;
          notes = k.notes;
          bottom = k.bottom;
          few =
              let f = k.few in
              let b = count-append w.state.held_page more in
              let c = count-append w.put_back (ns ++ notes) in
              let d = count-append ns notes in
              let e = emptied-count w.state.boxes in
              let few = notes-few p cs w.state.boxes fit of in
              let g = ap node_count same in
              omega (arith, f, b, c, d, e, few, g);
        }

    pub kept-text_firing : (n : ℕ) (vert : Bool) (body : List PlainNode) (w : Work) → AreText body → ClassesFit cs → AreBoxesOf cs w.state.boxes → AllByRecursion IsSizedPlain (w.state.held_page ++ Text.without_firing_box body)
        → length (w.state.held_page ++ Text.without_firing_box body) ≤ 4194305 → Kept cs left n w → Kept cs left (n + node_count body + length cs + 8) (Text.float_or_note p vert body w)
    kept-text_firing n vert body w text fit of sized few k =
        let more = Text.without_firing_box body in
        let ns = w.state.held_page ++ more in
        let shapes = map node_shape ns in
        let c = Text.list_back p ns w in
        let back = kept-list n more w (all-take _ _ body text) fit of k in
        let at = text-height shapes (All-from_recursion IsSized shapes (shapes-sized ns sized)) (let e = length-map {B = Shape} ns node_shape in omega (arith, e, few)) in
        kept-more cs left (n + node_count more + length cs + 8) _ _ (let f = count-take (length body - 2) body in omega (arith, f))
        (kept-first (n + node_count more + length cs) vert (size_of shapes -ℤ last_depth shapes) (last_depth shapes) _ w.state.floats.current c at refl k.entries back)
      where
        shapes-sized : (ns : List PlainNode) → AllByRecursion IsSizedPlain ns → AllByRecursion IsSized (map node_shape ns)
        shapes-sized [] h = tt
        shapes-sized (n ∷ ns) h = (h.0, shapes-sized ns h.1)
