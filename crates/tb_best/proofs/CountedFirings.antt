-- A firing does not look at the limit on nodes or into the left column that is kept, and at the counts of its state only for the limit
-- on pages and for the sides of marginal notes: with smaller counts it does the same, unless the limit was met.
use Rattle.std.proofs.Common.{◌≡◌, refl, sym, ◌∙◌, ap, subst, ◌⊎◌, inl, inr, ℕ, zero, suc, ◌+◌, ◌≤◌, ◌%◌, ℤ, Bool, true, false, List, [], ◌∷◌, ◌++◌, map, length, Option, Some, None, arith}
use Rattle.std.specs.Prelude.{pos, ◌+ℤ◌, ◌-ℤ◌, ◌==◌, not, ◌&&◌, ◌||◌, int_le, int_lt, if◌then◌else◌}
use Rattle.std.proofs.Math.Nat.{suc-mod}
use Rattle.std.proofs.lemmas.Int.{ints}
use Rattle.tb_scaled.specs.Scaled.{eject_penalty, max_dimen}
use Rattle.tb_scaled.specs.Glue.{filling_glue}
use Rattle.tb_node.specs.PlainNodes.{PlainNode, node_shape, skip, made, blank_box}
use Rattle.tb_node.specs.Sums.{size_of, last_depth}
use Rattle.tb_node.specs.declared.Float.{Float}
use Rattle.tb_node.specs.declared.Margin.{Margin}
use Rattle.tb_node.specs.declared.Side.TheVariants as side
use Rattle.tb_node.specs.declared.Where.{Where}
use Rattle.tb_node.specs.declared.Where.TheVariants as places
use Rattle.tb_param.specs.declared.Params.{Params}
use Rattle.tb_float.specs.declared.Part.{Part}
use Rattle.tb_float.specs.declared.Part.TheVariants as parts
use Rattle.tb_float.specs.declared.Entry.{Entry}
use Rattle.tb_float.specs.declared.Entry.TheVariants as entries
use Rattle.tb_float.specs.Lists.{FloatLists, wide_part, wide_waiting, with_wide_waiting, with_floats_of}
use Rattle.tb_float.specs.Rooms.{column_height_of, column_room_of}
use Rattle.tb_fpage.specs.Company.{Choice, company, chosen_floats, left_floats}
use Rattle.tb_area.specs.Area.{current_place, next_place, double_place}
use Rattle.tb_margin.specs.declared.Placed.{Placed}
use Rattle.tb_margin.specs.Margin.{is_on, placed_on, placed_note}
use Rattle.tb_column.specs.Column.{Notes, PlainColumn, standing_notes, enlarged_of, single_floats_column, wide_floats_column}
use Rattle.tb_sheet.specs.declared.Warn.TheVariants as warnings
use Rattle.tb_sheet.specs.Sheet.{PlainSheet, PlainSent, one, wide, shipped, warned, pair_sheet}
use Rattle.tb_sheet.specs.Asked.{clear_penalty, par_penalty, vert_penalty, hold_penalty}
use Rattle.tb_builder.specs.FiredPages.{Fired}
use Rattle.tb_output.specs.State.{State, Work, Recorded, begun, puts, sends, records_also, output, placed, footnotes, with_floats, has_floats}
use Rattle.tb_output.specs.FloatMoves.{is_placed, joined_to, still_deferred, place_float, place_waiting, place_next, place_double}
use Rattle.tb_output.specs.Pages.{ship_now, ship, wide_wanted, ship_wide, wide_pages_by, wide_pages, all_wide_pages, after_column, keep_left, left_or, without_double, fill_double, ship_pair, put_out_by, put_out, with_deferred}
use Rattle.tb_output.specs.Columns.{emptied_boxes, text_of, without_column_floats, put_out_text, single_wanted, put_out_company, float_columns_by, float_columns, all_float_columns, fill_column, ordinary}
use Rattle.tb_output.specs.Clear.{clear_again, cleared_front, deferred_again, double_again, clear_wide, clear_rest, clear_floats, without_notes, clear_by, clear}
use Rattle.tb_output.specs.Text.{without_firing_box, notes_height, list_back, here_nodes, puts_interline, only_here, with_top, defer, float_goes, note_nodes, moved_warning, with_note_bottom, note_goes, note_at, first_goes, float_or_note_in, float_or_note}
use Rattle.tb_output.specs.Output.{is_int, hold, output_by, with_goal, is_crowded, leave_column, goal_by, next_goal, after_page, waiting_again, out, blank_column}
use Rattle.tb_best.specs.Counts.{Counts, counts_of, AreNoGreater}
use Rattle.tb_best.specs.Sides.{note_among}
use Rattle.tb_best.proofs.LimitLemmas.{lim, current-lim, next-place-lim, text-column-lim, notes-nodes-lim}

-- what may be other in a second work
pub record Other : Type 0 where
  pub left : Option PlainColumn
  pub counts : Counts
  pub sent : List PlainSent
  pub records : List Recorded
  pub refused : Bool

-- the state with this limit on nodes, this left column and these counts
abbrev pub counted : ℤ → Option PlainColumn → Counts → State → State
counted m l c s = record s { params = lim s.params m; left_column = l; page = c.page; number = c.number; dead_cycles = c.dead_cycles }

-- the work with all this
abbrev pub swapped : ℤ → Other → Work → Work
swapped m k w = record w { state = counted m k.left k.counts w.state; sent = k.sent; records = k.records; refused = k.refused }

true-false : true ≡ false → ⊥
true-false h = cc

pub not-both : {X : Type 0} (t : Bool) → t ≡ true → t ≡ false → X
not-both t h k = absurd (true-false (sym h ∙ k))

one-more : (a b : ℕ) → a ≤ b → a + 1 ≤ b + 1
one-more a b h = omega (arith, h)

nothing-less : 0 ≤ 0
nothing-less = omega arith

-- ---- the sides of marginal notes

-- the parity of the number after this one
parity-after : (a b : ℕ) → a % 2 ≡ b % 2 → (a + 1) % 2 ≡ (b + 1) % 2
parity-after a b h =
    let one : (n : ℕ) → n + 1 ≡ suc n = λ n. omega arith in
    ap (λ n. n % 2) (one a) ∙ suc-mod a 2 ∙ ap (λ n. suc n % 2) h ∙ sym (suc-mod b 2) ∙ ap (λ n. n % 2) (sym (one b))

even-same : (a b : ℕ) (t : Bool) → (t ≡ true → a % 2 ≡ b % 2) → (t && (a % 2 == 0)) ≡ (t && (b % 2 == 0))
even-same a b true h = ap (λ n. n == 0) (h refl)
even-same a b false h = refl

-- a note goes to the same place on a page of either number
place-same : (p : Params) (c e : Counts) → (is_on p.mparswitch ≡ true → (c.number % 2) ≡ (e.number % 2)) → (two first : Bool) (high bottom : ℤ) (m : Margin) → placed_note p c.number two first high bottom m ≡ placed_note p e.number two first high bottom m
place-same p c e h two first high bottom m =
    ap (λ even. placed_on p high bottom m (if (if two then first else (if is_on p.reversemargin then not even else even)) then side.Left else side.Right)) (even-same c.number e.number (is_on p.mparswitch) h)

module _ (p : Params) (m : ℤ) (may : Bool) where
  -- the parameters with another limit on nodes
  abbrev q : Params
  q = lim p m

  -- a work with all that may be other
  abbrev other : Other → Work → Work
  other k w = swapped m k w

  -- the second work is not refused and has no greater counts, if the first is not refused
  abbrev pub Fits : Other → Work → Type 0
  Fits k w = (w.refused ≡ true) ⊎ ((k.refused ≡ false) × AreNoGreater may k.counts (counts_of w.state))

  -- the first work is the second, but for what may be other in it
  abbrev pub IsLike : Work → Work → Type 0
  IsLike x y = (k : Other) × Fits k y × (x ≡ other k y)

  -- a change of works by either limit keeps them alike
  abbrev Keeps : (Params → Work → Work) → Type 0
  Keeps f = (w : Work) (k : Other) → Fits k w → IsLike (f q (other k w)) (f p w)

  -- a note among these entries changes sides from page to page only if notes may
  abbrev pub MayChange : List Entry → Type 0
  MayChange es = note_among es ≡ true → is_on p.mparswitch ≡ true → may ≡ true

  -- it does so while no page was refused
  abbrev IsAllowed : Other → Work → Type 0
  IsAllowed k w = (k.refused ≡ false) × AreNoGreater may k.counts (counts_of w.state)

  -- and if the notes of the current list change sides only if they may
  abbrev KeepsAllowed : (Params → Work → Work) → Type 0
  KeepsAllowed f = (w : Work) (k : Other) → MayChange w.state.floats.current → IsAllowed k w → IsLike (f q (other k w)) (f p w)

  onto : (f : Params → Work → Work) → Keeps f → (x y : Work) → IsLike x y → IsLike (f q x) (f p y)
  onto f h x y a = let b = h y a.0 a.1 in (b.0, b.1, ap (f q) a.2 ∙ b.2)

  either : (t : Bool) (x y u v : Work) → IsLike x y → IsLike u v → IsLike (if t then x else u) (if t then y else v)
  either true x y u v h k = h
  either false x y u v h k = k

  -- two works by two tests
  by-both : (s t : Bool) (x y u v : Work) → IsLike x y → IsLike x v → IsLike u y → IsLike u v → IsLike (if s then x else u) (if t then y else v)
  by-both true true x y u v h i j l = h
  by-both true false x y u v h i j l = i
  by-both false true x y u v h i j l = j
  by-both false false x y u v h i j l = l

  floats-keep : (l : FloatLists) → Keeps (λ z w. with_floats l w)
  floats-keep l w k h = (k, h, refl)

  puts-keep : (ns : List PlainNode) → Keeps (λ z w. puts ns w)
  puts-keep ns w k h = (k, h, refl)

  records-other : (r o : Recorded) (w : Work) (k : Other) → Fits k w → IsLike (records_also r (other k w)) (records_also o w)
  records-other r o w k h =
      let more = record k { records = k.records ++ r ∷ [] } in
      by-both k.refused w.refused (other k w) w (other more w) (record w { records = w.records ++ o ∷ [] }) (k, h, refl) (k, h, refl) (more, h, refl) (more, h, refl)

  records-keep : (r : Recorded) → Keeps (λ z w. records_also r w)
  records-keep r w k h = records-other r r w k h

  sends-other : (e f : PlainSent) (w : Work) (k : Other) → Fits k w → IsLike (sends e (other k w)) (sends f w)
  sends-other e f w k h =
      let more = record k { sent = k.sent ++ e ∷ [] } in
      by-both k.refused w.refused (other k w) w (other more w) (record w { sent = w.sent ++ f ∷ [] }) (k, h, refl) (k, h, refl) (more, h, refl) (more, h, refl)

  sends-keep : (e : PlainSent) → Keeps (λ z w. sends e w)
  sends-keep e w k h = sends-other e e w k h

  -- ---- pages

  -- one more page
  abbrev counts_after : Counts → Counts
  counts_after c = record { page = c.page + 1; number = c.number + 1; dead_cycles = 0 }

  after-no-greater : (c e : Counts) → AreNoGreater may c e → AreNoGreater may (counts_after c) (counts_after e)
  after-no-greater c e h = record { pages = one-more c.page e.page h.pages; dead_cycles = nothing-less; sides = λ on. parity-after c.number e.number (h.sides on) }

  -- one more firing
  begun-no-greater : (c e : Counts) → AreNoGreater may c e → AreNoGreater may (record c { dead_cycles = c.dead_cycles + 1 }) (record e { dead_cycles = e.dead_cycles + 1 })
  begun-no-greater c e h = record { pages = h.pages; dead_cycles = one-more c.dead_cycles e.dead_cycles h.dead_cycles; sides = h.sides }

  -- one of two works by a test
  by-test : (t : Bool) (x u y : Work) → (t ≡ true → IsLike x y) → (t ≡ false → IsLike u y) → IsLike (if t then x else u) y
  by-test true x u y h i = h refl
  by-test false x u y h i = i refl

  within : {X : Type 0} (c e : ℕ) (limit : ℤ) → c ≤ e → int_lt limit (pos c) ≡ true → int_lt limit (pos e) ≡ false → X
  within c e limit h i j = let no : ⊥ = grind (arith, ints, h, i, j) in absurd no

  -- with counts that are no greater a page ships wherever one ships
  module _ (a b : PlainSheet) (w : Work) (k : Other) where
    abbrev after : Other
    after = record k { counts = counts_after k.counts }

    abbrev shown : PlainSent
    shown = shipped k.counts.number a

    abbrev told : Other
    told = record after { sent = k.sent ++ shown ∷ [] }

    abbrev limited : Other
    limited = record k { refused = true }

    abbrev stopped : Work
    stopped = record w { refused = true }

    abbrev next : Work
    next = record w { state = record w.state { page = w.state.page + 1; number = w.state.number + 1; dead_cycles = 0 } }

    abbrev at_limit : Bool
    at_limit = int_lt p.maxpages (pos k.counts.page)

    -- a work with whatever is other is like one that is refused
    abbrev IsLost : Work → Type 0
    IsLost y = (o : Other) → IsLike (other o w) y

    lost-now : (y : Work) → IsLost y → IsLike (ship_now a (other k w)) y
    lost-now y lost = by-test k.refused (other after w) (other told w) y (λ e. lost after) (λ e. lost told)

    lost-ship : (y : Work) → IsLost y → IsLike (ship q a (other k w)) y
    lost-ship y lost =
        by-test k.refused (other k w) (if at_limit then other limited w else ship_now a (other k w)) y (λ e. lost k)
        (λ e. by-test at_limit (other limited w) (ship_now a (other k w)) y (λ f. lost limited) (λ f. lost-now y lost))

    by-limit : (t : Bool) → int_lt p.maxpages (pos w.state.page) ≡ t → k.refused ≡ false → AreNoGreater may k.counts (counts_of w.state) → IsLike (ship q a (other k w)) (if t then stopped else ship_now b w)
    by-limit true e still less = lost-ship stopped (λ o. (o, inl refl, refl))
    by-limit false e still less =
        by-test k.refused (other k w) (if at_limit then other limited w else ship_now a (other k w)) (ship_now b w)
        (λ f. not-both k.refused f still)
        (λ f. by-test at_limit (other limited w) (ship_now a (other k w)) (ship_now b w)
        (λ i. within k.counts.page w.state.page p.maxpages less.pages i e)
        (λ i. sends-other shown (shipped w.state.number b) next after (inr (still, after-no-greater k.counts (counts_of w.state) less))))

    by-refused : (t : Bool) → w.refused ≡ t → Fits k w → IsLike (ship q a (other k w)) (if t then w else (if int_lt p.maxpages (pos w.state.page) then stopped else ship_now b w))
    by-refused true e fits = lost-ship w (λ o. (o, inl e, refl))
    by-refused false e (inl refused) = not-both w.refused refused e
    by-refused false e (inr (still, less)) = by-limit (int_lt p.maxpages (pos w.state.page)) refl still less

    ship-other : Fits k w → IsLike (ship q a (other k w)) (ship p b w)
    ship-other h = by-refused w.refused refl h

  float-keep : (place : Where) (f : Float) (left : FloatLists) → Keeps (λ z w. place_float z place f left w)
  float-keep place f left w k h =
      let r = placed q f place w.state.floats (column_height_of q w.state.floats) in
      let o = placed p f place w.state.floats (column_height_of p w.state.floats) in
      onto (λ z v. with_floats (joined_to place f left) v) (floats-keep (joined_to place f left))
      (if is_placed place then records_also r (other k w) else other k w) (if is_placed place then records_also o w else w)
      (either (is_placed place) (records_also r (other k w)) (records_also o w) (other k w) w (records-other r o w k h) (k, h, refl))

  waiting-keep : (from : Part) (place : Where) (f : Float) (before rest : List Float) → Keeps (λ z w. place_waiting from z place f before rest w)
  waiting-keep from place f before rest w k h =
      let left = with_floats_of from (before ++ rest) w.state.floats in
      either (is_placed place) (place_float q place f left (other k w)) (place_float p place f left w) (other k w) w (float-keep place f left w k h) (k, h, refl)

  next-keep : (fs before : List Float) → Keeps (λ z w. place_next z before fs w)
  next-keep [] before w k h = (k, h, refl)
  next-keep (f ∷ fs) before w k h =
      let place = next_place p w.state.floats w.state.suppress before f in
      subst (λ x. IsLike (place_next q (still_deferred x f before) fs (place_waiting parts.Deferred q x f before fs (other k w))) (place_next p (still_deferred place f before) fs (place_waiting parts.Deferred p place f before fs w)))
      (sym (next-place-lim p m w.state.floats w.state.suppress before f))
      (onto (λ z v. place_next z (still_deferred place f before) fs v) (next-keep fs (still_deferred place f before))
      (place_waiting parts.Deferred q place f before fs (other k w)) (place_waiting parts.Deferred p place f before fs w) (waiting-keep parts.Deferred place f before fs w k h))

  double-keep : (from : Part) (fs before : List Float) → Keeps (λ z w. place_double from z before fs w)
  double-keep from [] before w k h = (k, h, refl)
  double-keep from (f ∷ fs) before w k h =
      let place = double_place p w.state.floats w.state.suppress before f in
      onto (λ z v. place_double from z (still_deferred place f before) fs v) (double-keep from fs (still_deferred place f before))
      (place_waiting from q place f before fs (other k w)) (place_waiting from p place f before fs w) (waiting-keep from place f before fs w k h)

  ship-wide-keep : (cs : List Choice) → Keeps (λ z w. ship_wide z cs w)
  ship-wide-keep cs w k h =
      let sheet = wide (wide_floats_column p p.textheight (chosen_floats cs)) in
      ship-other sheet sheet (with_floats (with_wide_waiting p (left_floats cs) w.state.floats) w) k h

  wide-by : (clearing : Bool) (n : ℕ) → Keeps (λ z w. wide_pages z clearing n w) → (o : Option (List Choice)) → Keeps (λ z w. wide_pages_by (λ v. wide_pages z clearing n v) z w o)
  wide-by clearing n ih None w k h = (k, h, refl)
  wide-by clearing n ih (Some cs) w k h = onto (λ z v. wide_pages z clearing n v) ih (ship_wide q cs (other k w)) (ship_wide p cs w) (ship-wide-keep cs w k h)

  wide-keep : (clearing : Bool) (n : ℕ) → Keeps (λ z w. wide_pages z clearing n w)
  wide-keep clearing zero w k h = (k, h, refl)
  wide-keep clearing (suc n) w k h = wide-by clearing n (wide-keep clearing n) (company (wide_wanted p clearing) (wide_waiting p w.state.floats)) w k h

  all-wide-keep : (clearing : Bool) → Keeps (λ z w. all_wide_pages z clearing w)
  all-wide-keep clearing w k h = wide-keep clearing (length (wide_waiting p w.state.floats)) w k h

  fill-double-keep : Keeps (λ z w. fill_double z w)
  fill-double-keep w k h = double-keep (wide_part p) (wide_waiting p w.state.floats) [] w k h

  without-double-keep : Keeps (λ z w. without_double w)
  without-double-keep w k h = (record k { left = None }, h, refl)

  pair-keep : (column : PlainColumn) → Keeps (λ z w. ship_pair z column w)
  pair-keep column w k h =
      let a = pair_sheet p w.state.floats (left_or column k.left) column in
      let b = pair_sheet p w.state.floats (left_or column w.state.left_column) column in
      onto (λ z v. fill_double z v) fill-double-keep (all_wide_pages q false (without_double (ship q a (other k w)))) (all_wide_pages p false (without_double (ship p b w)))
      (onto (λ z v. all_wide_pages z false v) (all-wide-keep false) (without_double (ship q a (other k w))) (without_double (ship p b w))
      (onto (λ z v. without_double v) without-double-keep (ship q a (other k w)) (ship p b w) (ship-other a b w k h)))

  out-by-keep : (column : PlainColumn) → Keeps (λ z w. put_out_by z column w)
  out-by-keep column w k h =
      either (not w.state.two_columns) (ship q (one column) (other k w)) (ship p (one column) w)
      (if w.state.first_column then keep_left column (other k w) else ship_pair q column (other k w)) (if w.state.first_column then keep_left column w else ship_pair p column w)
      (ship-other (one column) (one column) w k h)
      (either w.state.first_column (keep_left column (other k w)) (keep_left column w) (ship_pair q column (other k w)) (ship_pair p column w) (record k { left = Some column }, h, refl) (pair-keep column w k h))

  put-out-keep : (column : PlainColumn) → Keeps (λ z w. put_out z column w)
  put-out-keep column w k h =
      onto (λ z v. after_column v) (λ v o i. (o, i, refl)) (put_out_by q column (records_also (output column) (other k w))) (put_out_by p column (records_also (output column) w))
      (onto (λ z v. put_out_by z column v) (out-by-keep column) (records_also (output column) (other k w)) (records_also (output column) w) (records-keep (output column) w k h))

  -- ---- columns

  text-keep : (body : List PlainNode) → Keeps (λ z w. put_out_text z body w)
  text-keep body w k h =
      subst (λ x. IsLike (put_out q x (without_column_floats (other k w))) (put_out_text p body w))
      (sym (text-column-lim p m w.state.floats body (standing_notes (footnotes w.state)) (enlarged_of w.state.shrink (footnotes w.state))))
      (put-out-keep (text_of p w.state body) (without_column_floats w) k h)

  columns-by : (clearing : Bool) (n : ℕ) → Keeps (λ z w. float_columns z clearing n w) → (o : Option (List Choice)) → Keeps (λ z w. float_columns_by (λ v. float_columns z clearing n v) z w o)
  columns-by clearing n ih None w k h = (k, h, refl)
  columns-by clearing n ih (Some cs) w k h =
      onto (λ z v. float_columns z clearing n v) ih (put_out_company q cs (other k w)) (put_out_company p cs w)
      (put-out-keep (single_floats_column p (column_height_of p w.state.floats) (chosen_floats cs)) (with_deferred (left_floats cs) w) k h)

  columns-keep : (clearing : Bool) (n : ℕ) → Keeps (λ z w. float_columns z clearing n w)
  columns-keep clearing zero w k h = (k, h, refl)
  columns-keep clearing (suc n) w k h = columns-by clearing n (columns-keep clearing n) (company (single_wanted p w.state.floats clearing) w.state.floats.deferred) w k h

  all-columns-keep : (clearing : Bool) → Keeps (λ z w. all_float_columns z clearing w)
  all-columns-keep clearing w k h = columns-keep clearing (length w.state.floats.deferred) w k h

  fill-keep : Keeps (λ z w. fill_column z w)
  fill-keep w k h = next-keep w.state.floats.deferred [] w k h

  ordinary-keep : (body : List PlainNode) → Keeps (λ z w. ordinary z body w)
  ordinary-keep body w k h =
      onto (λ z v. fill_column z v) fill-keep (all_float_columns q false (put_out_text q body (other k w))) (all_float_columns p false (put_out_text p body w))
      (onto (λ z v. all_float_columns z false v) (all-columns-keep false) (put_out_text q body (other k w)) (put_out_text p body w) (text-keep body w k h))

  -- ---- a clear

  clear-wide-keep : Keeps (λ z w. clear_wide z w)
  clear-wide-keep w k h =
      let l = double_again p w.state.floats in
      let ns = made blank_box ∷ clear_again in
      either (not w.state.two_columns) (other k w) w
      (if w.state.first_column then all_wide_pages q true (with_floats l (other k w)) else puts ns (other k w)) (if w.state.first_column then all_wide_pages p true (with_floats l w) else puts ns w)
      (k, h, refl)
      (either w.state.first_column (all_wide_pages q true (with_floats l (other k w))) (all_wide_pages p true (with_floats l w)) (puts ns (other k w)) (puts ns w)
      (all-wide-keep true (with_floats l w) k h) (k, h, refl))

  clear-rest-keep : Keeps (λ z w. clear_rest w)
  clear-rest-keep w k h =
      either (has_floats w.state.floats.deferred || has_floats w.state.floats.second) (puts clear_again (other k w)) (puts clear_again w) (other k w) w (k, h, refl) (k, h, refl)

  clear-floats-keep : (body : List PlainNode) → Keeps (λ z w. clear_floats z body w)
  clear-floats-keep body w k h =
      let v = with_floats (deferred_again w.state.floats) (puts (cleared_front p body) w) in
      onto (λ z u. clear_rest u) clear-rest-keep (clear_wide q (all_float_columns q true (other k v))) (clear_wide p (all_float_columns p true v))
      (onto (λ z u. clear_wide z u) clear-wide-keep (all_float_columns q true (other k v)) (all_float_columns p true v) (all-columns-keep true v k h))

  clear-by-keep : (body : List PlainNode) (ns : List Notes) → Keeps (λ z w. clear_by z body w ns)
  clear-by-keep body [] w k h = clear-floats-keep body (without_notes w) k h
  clear-by-keep body (n ∷ ns) w k h =
      let all = body ++ made (skip filling_glue) ∷ [] in
      onto (λ z v. puts clear_again v) (puts-keep clear_again) (put_out_text q all (other k w)) (put_out_text p all w) (text-keep all w k h)

  -- ---- a float or note

  interline-keep : (nobreak : Bool) → Keeps (λ z w. puts_interline z nobreak w)
  interline-keep nobreak w k h = (k, h, refl)

  defer-keep : (f : Float) (left : FloatLists) → Keeps (λ z w. defer z f left w)
  defer-keep f left w k h =
      let e = warned (warnings.Ht f.name) in
      either (only_here f) (sends e (place_float q places.Deferred (with_top f) left (other k w))) (sends e (place_float p places.Deferred (with_top f) left w))
      (place_float q places.Deferred f left (other k w)) (place_float p places.Deferred f left w)
      (onto (λ z v. sends e v) (sends-keep e) (place_float q places.Deferred (with_top f) left (other k w)) (place_float p places.Deferred (with_top f) left w) (float-keep places.Deferred (with_top f) left w k h))
      (float-keep places.Deferred f left w k h)

  interline-float : (place : Where) (f : Float) (left : FloatLists) → Keeps (λ z w. puts_interline z f.nobreak (place_float z place f left w))
  interline-float place f left w k h = onto (λ z v. puts_interline z f.nobreak v) (interline-keep f.nobreak) (place_float q place f left (other k w)) (place_float p place f left w) (float-keep place f left w k h)

  interline-defer : (f : Float) (left : FloatLists) → Keeps (λ z w. puts_interline z f.nobreak (defer z f left w))
  interline-defer f left w k h = onto (λ z v. puts_interline z f.nobreak v) (interline-keep f.nobreak) (defer q f left (other k w)) (defer p f left w) (defer-keep f left w k h)

  goes-keep : (vert : Bool) (f : Float) (left : FloatLists) (place : Where) → Keeps (λ z w. float_goes z vert f left w place)
  goes-keep vert f left places.Here w k h =
      onto (λ z v. puts (here_nodes z vert f) v) (puts-keep (here_nodes p vert f)) (puts_interline q f.nobreak (place_float q places.Here f left (other k w))) (puts_interline p f.nobreak (place_float p places.Here f left w))
      (interline-float places.Here f left w k h)
  goes-keep vert f left places.Top w k h = interline-float places.Top f left w k h
  goes-keep vert f left places.Bottom w k h = interline-float places.Bottom f left w k h
  goes-keep vert f left places.Page w k h = interline-defer f left w k h
  goes-keep vert f left places.Double w k h = interline-defer f left w k h
  goes-keep vert f left places.Deferred w k h = interline-defer f left w k h

  moved-keep : (n : Margin) (at : Placed) → Keeps (λ z w. moved_warning n at w)
  moved-keep n at w k h =
      let e = warned (warnings.Moved n.name at.shift) in
      either at.moved (sends e (other k w)) (sends e w) (other k w) w (sends-keep e w k h) (k, h, refl)

  note-keep : (depth : ℤ) (n : Margin) (left : FloatLists) (at : Placed) → Keeps (λ z w. note_goes z depth n left w at)
  note-keep depth n left at w k h =
      let v = with_note_bottom at.bottom (with_floats left w) in
      onto (λ z u. puts_interline z n.nobreak (puts (note_nodes depth n at) u)) (λ u o i. (o, i, refl)) (moved_warning n at (other k v)) (moved_warning n at v) (moved-keep n at v k h)

  note-at-keep : (height depth : ℤ) (n : Margin) (left : FloatLists) → (is_on p.mparswitch ≡ true → may ≡ true) → (w : Work) (k : Other) → IsAllowed k w → IsLike (note_at q height depth n left (other k w)) (note_at p height depth n left w)
  note-at-keep height depth n left keep w k (still, less) =
      let two = w.state.two_columns in
      let first = w.state.first_column in
      let at = placed_note p w.state.number two first height w.state.note_bottom n in
      subst (λ x. IsLike (note_goes q depth n left (other k w) x) (note_goes p depth n left w at)) (sym (place-same p k.counts (counts_of w.state) (λ on. less.sides (keep on)) two first height w.state.note_bottom n)) (note-keep depth n left at w k (inr (still, less)))

  first-keep : (vert : Bool) (height depth high : ℤ) (es : List Entry) → MayChange es → (w : Work) (k : Other) → IsAllowed k w → IsLike (first_goes q vert height depth high es (other k w)) (first_goes p vert height depth high es w)
  first-keep vert height depth high [] keep w k h = (k, inr h, refl)
  first-keep vert height depth high (entries.Float f ∷ fs) keep w k h =
      let left = record w.state.floats { current = fs } in
      let place = current_place p w.state.floats w.state.suppress high f in
      subst (λ x. IsLike (float_goes q vert f left (other k w) x) (float_goes p vert f left w place)) (sym (current-lim p m w.state.floats w.state.suppress high f)) (goes-keep vert f left place w k (inr h))
  first-keep vert height depth high (entries.Left n ∷ []) keep w k h = note-at-keep height depth n (record w.state.floats { current = [] }) (keep refl) w k h
  first-keep vert height depth high (entries.Left n ∷ e ∷ fs) keep w k h = note-at-keep height depth n (record w.state.floats { current = fs }) (keep refl) w k h
  first-keep vert height depth high (entries.Right n ∷ fs) keep w k h = (k, inr h, refl)

  -- the list so far goes back, with these insertions behind it
  abbrev back_with : List PlainNode → List PlainNode → Work → Work
  back_with ns notes w = puts (ns ++ notes) (record w { state = record w.state { held_page = []; boxes = emptied_boxes w.state.boxes } })

  float-note-keep : (vert : Bool) (ns : List PlainNode) → KeepsAllowed (λ z w. float_or_note_in z vert ns w)
  float-note-keep vert ns w k keep h =
      let shapes = map node_shape ns in
      let depth = last_depth shapes in
      let height = size_of shapes -ℤ depth in
      let high = height +ℤ depth +ℤ notes_height (footnotes w.state) in
      subst (λ ms. IsLike (first_goes q vert height depth high w.state.floats.current (back_with ns ms (other k w))) (first_goes p vert height depth high w.state.floats.current (list_back p ns w)))
      (sym (notes-nodes-lim p m (footnotes w.state)))
      (first-keep vert height depth high w.state.floats.current keep (list_back p ns w) k h)

  -- ---- a firing

  held-keep : (vert : Bool) (body : List PlainNode) → KeepsAllowed (λ z w. float_or_note z vert body w)
  held-keep vert body w k keep h = float-note-keep vert (w.state.held_page ++ without_firing_box body) w k keep h

  penalty-keep : (f : Fired) → KeepsAllowed (λ z w. output_by z f w)
  penalty-keep f w k keep h =
      let v = other k w in
      either (int_le eject_penalty f.penalty) (ordinary q f.body v) (ordinary p f.body w) _ _ (ordinary-keep f.body w k (inr h))
      (either (is_int f.penalty clear_penalty) (clear q f.body v) (clear p f.body w) _ _ (clear-by-keep f.body (standing_notes (footnotes w.state)) w k (inr h))
      (either (is_int f.penalty par_penalty) (float_or_note q false f.body v) (float_or_note p false f.body w) _ _ (held-keep false f.body w k keep h)
      (either (is_int f.penalty vert_penalty) (float_or_note q true f.body v) (float_or_note p true f.body w) (hold f.body v) (hold f.body w) (held-keep true f.body w k keep h) (k, inr h, refl))))

  leave-keep : Keeps (λ z w. leave_column w)
  leave-keep w k h =
      let e = warned (warnings.Floats k.counts.number) in
      let f = warned (warnings.Floats w.state.number) in
      onto (λ z v. puts (if w.state.two_columns && not w.state.first_column then blank_column ++ blank_column else blank_column) v)
      (λ v o i. (o, i, refl)) (sends e (other k w)) (sends f w) (sends-other e f w k h)

  goal-keep : (n : ℤ) → Keeps (λ z w. next_goal z n w)
  goal-keep n w k h =
      let v = other k w in
      let room = column_room_of p w.state.floats in
      either (is_int n hold_penalty) (with_goal max_dimen v) (with_goal max_dimen w) (goal_by q room v) (goal_by p room w) (k, h, refl)
      (either (is_crowded p room) (leave_column v) (leave_column w) (with_goal room v) (with_goal room w) (leave-keep w k h) (k, h, refl))

  -- a firing with another limit on nodes, another left column and counts that are no greater
  pub out-keep : (s : State) (f : Fired) (l : Option PlainColumn) (c : Counts) → MayChange s.floats.current → AreNoGreater may c (counts_of s) → IsLike (out q (counted m l c s) f) (out p s f)
  unfolding out
  out-keep s f l c keep h =
      let w = begun (after_page s f) in
      let k : Other = record { left = l; counts = record c { dead_cycles = c.dead_cycles + 1 }; sent = []; records = []; refused = false } in
      onto (λ z v. waiting_again f v) (λ v o i. (o, i, refl)) (next_goal q f.penalty (output_by q f (other k w))) (next_goal p f.penalty (output_by p f w))
      (onto (λ z v. next_goal z f.penalty v) (goal-keep f.penalty) (output_by q f (other k w)) (output_by p f w) (penalty-keep f w k keep (refl, begun-no-greater c (counts_of s) h)))
