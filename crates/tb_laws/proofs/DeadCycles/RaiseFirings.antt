-- A firing raises pages no more than its page and what is held did; at a clear without footnotes what the box of class 255 held is dropped.
use Rattle.std.proofs.Common.{◌≡◌, refl, sym, ◌∙◌, ap, subst, ℕ, zero, suc, ◌+◌, ◌*◌, ◌≤◌, ◌==◌, ℤ, Bool, true, false, List, [], ◌∷◌, ◌++◌, map, take, drop, length, Option, Some, None, arith}
use Rattle.std.specs.Prelude.{pos, ◌-◌, int_le, if◌then◌else◌}
use Rattle.std.proofs.lemmas.Bool.{eq-eqb, eqb-true, both_ways}
use Rattle.tb_scaled.specs.declared.Glue.{Glue}
use Rattle.tb_scaled.specs.Glue.{filling_glue}
use Rattle.tb_scaled.specs.Scaled.{eject_penalty}
use Rattle.tb_node.specs.declared.Float.{Float}
use Rattle.tb_node.specs.declared.Where.TheVariants as places
use Rattle.tb_node.specs.PlainNodes.{Leaf, PlainNode, made, skip, blank_box, node_shape}
use Rattle.tb_break.specs.Split.{split_of}
use Rattle.tb_param.specs.declared.Params.{Params}
use Rattle.tb_insert.specs.declared.Class.{Class}
use Rattle.tb_builder.specs.FiredPages.{Boxed, Fired, box_content}
use Rattle.tb_builder.proofs.FiredPages.PageWeights.{hits}
use Rattle.tb_float.specs.Lists.{FloatLists, with_floats_of, wide_part}
use Rattle.tb_area.specs.Area.{where_of}
use Rattle.tb_column.specs.Column.{Notes, standing_notes}
use Rattle.tb_sheet.specs.Sheet.{one, pair_sheet, warned}
use Rattle.tb_sheet.specs.Asked
use Rattle.tb_output.specs.State.{State, Work, output, begun, puts, footnotes, with_notes, notes_in}
use Rattle.tb_output.specs.Pages
use Rattle.tb_output.specs.Columns
use Rattle.tb_output.specs.Text
use Rattle.tb_output.specs.Clear
use Rattle.tb_output.specs.Output
use Rattle.tb_output.specs.Firing.{page_work}
use Rattle.tb_output.proofs.StepLaws.RefusedSteps.{by-any-ship, by-records, by-sends}
use Rattle.tb_output.proofs.StepLaws.ColumnSteps.{RecordLaw, no_law, ColumnStep, still, in_turn, records_one, ships_one, Stays, stays, sends-stays, ship_wide-step, place_float-step}
use Rattle.tb_output.proofs.StepLaws.Moves.{Hand, nothing, of_text, of_column, of_float, of_note, deferred_float, ColumnMove, records_column, ships_column, ships_pair, ships_wide, places_double, PageMove, by_column, by_fill, places_next, takes_text, drops_notes, fills_text, keeps_front, leaves_second, clears_again, TextMove, goes_back, places_current, defers_current, takes_float, stands_here, takes_note, stands_beside, puts_penalty, warns, Move, by_page, by_text, holds_page, leaves_blank, sets_goal, Moves, holds-on, widen}
use Rattle.tb_output.proofs.StepLaws.FiringTree.{page-moves, clear_floats-moves, goal-moves}
use Rattle.tb_laws.proofs.NothingLost.StateWeights.{BoxesFit, class_numbers}
use Rattle.tb_laws.proofs.DeadCycles.RaiseCounts.{list_raises, raises, content_raises, box_raises, state_raises, raises-append, raises-parts}

-- ---- the insertions that go back

-- what these insertions raise
abbrev notes_raises : List Notes → ℕ
notes_raises [] = 0
notes_raises (n ∷ ns) = (if n.class == 255 then list_raises n.inner else 0) + notes_raises ns

-- the class is there once at most
abbrev pub IsSingle : List Class → Type 0
IsSingle cs = hits 255 (class_numbers cs) ≤ 1

with-raises : (c : Class) (o : Option (List Leaf)) (ns : List Notes) → notes_raises (with_notes c o ns) ≡ (if c.number == 255 then content_raises o else 0) + notes_raises ns
with-raises c None ns = by_class (c.number == 255)
  where
    by_class : (t : Bool) → notes_raises ns ≡ (if t then 0 else 0) + notes_raises ns
    by_class true = omega arith
    by_class false = omega arith
with-raises c (Some ls) ns = refl

-- as many as the class is there
in-raises : (cs : List Class) (bs : List Boxed) → notes_raises (notes_in cs bs) ≡ hits 255 (class_numbers cs) * box_raises bs
in-raises [] bs = omega arith
in-raises (c ∷ cs) bs = with-raises c (box_content bs c.number) (notes_in cs bs) ∙ by_class (c.number == 255) refl (255 == c.number) refl (in-raises cs bs)
  where
    times : (x h b : ℕ) → x ≡ h * b → b + x ≡ suc h * b
    times x h b e = omega (arith, e)

    by_class : (t : Bool) → (c.number == 255) ≡ t → (u : Bool) → (255 == c.number) ≡ u → notes_raises (notes_in cs bs) ≡ hits 255 (class_numbers cs) * box_raises bs → (if t then content_raises (box_content bs c.number) else 0) + notes_raises (notes_in cs bs) ≡ (if u then suc (hits 255 (class_numbers cs)) else hits 255 (class_numbers cs)) * box_raises bs
    by_class true e true f h = ap (λ n. content_raises (box_content bs n) + notes_raises (notes_in cs bs)) (eqb-true c.number 255 e) ∙ times (notes_raises (notes_in cs bs)) (hits 255 (class_numbers cs)) (box_raises bs) h
    by_class true e false f h = absurd (both_ways (255 == c.number) f (eq-eqb 255 c.number (sym (eqb-true c.number 255 e))))
    by_class false e true f h = absurd (both_ways (c.number == 255) e (eq-eqb c.number 255 (sym (eqb-true 255 c.number f))))
    by_class false e false f h = omega (arith, h)

notes-raise : (cs : List Class) (bs : List Boxed) → IsSingle cs → notes_raises (notes_in cs bs) ≤ box_raises bs
notes-raise cs bs h = once (notes_raises (notes_in cs bs)) (hits 255 (class_numbers cs)) (box_raises bs) h (in-raises cs bs)
  where
    once : (x n b : ℕ) → n ≤ 1 → x ≡ n * b → x ≤ b
    once x zero b h e = omega (arith, e)
    once x (suc zero) b h e = omega (arith, e)
    once x (suc (suc n)) b h e = absurd (omega (arith, h))

emptied-raises : (bs : List Boxed) → box_raises (Columns.emptied_boxes bs) ≡ 0
emptied-raises [] = refl
emptied-raises (b ∷ bs) = by_number (b.number == 255) (emptied-raises bs)
  where
    by_number : (t : Bool) → box_raises (Columns.emptied_boxes bs) ≡ 0 → content_raises (if t then None else box_content (Columns.emptied_boxes bs) 255) ≡ 0
    by_number true h = refl
    by_number false h = h

-- each class is there once
pub fit-single : (cs : List Class) (bs : List Boxed) → BoxesFit cs bs → IsSingle cs
fit-single [] [] f = omega arith
fit-single [] (b ∷ bs) f = absurd f
fit-single (c ∷ cs) [] f = absurd f
fit-single (c ∷ cs) (b ∷ bs) f = by_number (255 == c.number) refl (fit-single cs bs f.2)
  where
    by_number : (t : Bool) → (255 == c.number) ≡ t → IsSingle cs → (if t then suc (hits 255 (class_numbers cs)) else hits 255 (class_numbers cs)) ≤ 1
    by_number true e h = let z : hits 255 (class_numbers cs) ≡ 0 = ap (λ n. hits n (class_numbers cs)) (eqb-true 255 c.number e) ∙ f.1 in omega arith
    by_number false e h = h

-- ---- a firing at work

-- the classes are as before
step-classes : {p : Params} {law : RecordLaw p} {a b : Work} → ColumnStep p law a b → b.state.classes ≡ a.state.classes
step-classes (still c f) = ap (λ x. x.classes) c
step-classes (in_turn x y) = step-classes y ∙ step-classes x
step-classes (records_one r w h) = by-records (λ v. v.state.classes ≡ w.state.classes) r w refl refl
step-classes {p} (ships_one sheet w) = by-any-ship (λ v. v.state.classes ≡ w.state.classes) p sheet w refl refl refl

abbrev hand_raises : Hand → ℕ
hand_raises (of_text body) = raises body
hand_raises h = 0

-- what is in hand, what goes back, the held page and the box
abbrev work_raises : Hand → Work → ℕ
work_raises h w = hand_raises h + raises w.put_back + raises w.state.held_page + box_raises w.state.boxes

-- these raise at most so much, and the class is there once at most
abbrev Within : ℕ → Hand → Work → Type 0
Within n h w = (work_raises h w ≤ n) × IsSingle w.state.classes

module _ (p : Params) (n : ℕ) where
  -- they are as before, and there is less in hand
  same : (h i : Hand) (a b : Work) → Stays a b → b.state.classes ≡ a.state.classes → hand_raises i ≤ hand_raises h → Within n h a → Within n i b
  same h i a b s c l x =
      (sums (hand_raises i) (hand_raises h) (raises b.put_back) (raises a.put_back) (raises b.state.held_page) (raises a.state.held_page) (box_raises b.state.boxes) (box_raises a.state.boxes) l (ap raises s.put_back) (ap raises s.held) (ap box_raises s.boxes) x.0, subst IsSingle (sym c) x.1)
    where
      sums : (i h u v x y e f : ℕ) → i ≤ h → u ≡ v → x ≡ y → e ≡ f → h + v + y + f ≤ n → i + u + x + e ≤ n
      sums i h u v x y e f a b c d l = omega arith

  step : (h i : Hand) (a b : Work) → ColumnStep p (no_law p) a b → hand_raises i ≤ hand_raises h → Within n h a → Within n i b
  step h i a b s l x = same h i a b (stays s) (step-classes s) l x

  -- nodes that raise nothing go back
  more : (h i : Hand) (ns : List PlainNode) (w : Work) → raises ns + hand_raises i ≤ hand_raises h → Within n h w → Within n i (puts ns w)
  more h i ns w l x = (sums (hand_raises i) (hand_raises h) (raises ns) (raises w.put_back) (raises (w.put_back ++ ns)) (raises w.state.held_page) (box_raises w.state.boxes) l (raises-append w.put_back ns) x.0, x.1)
    where
      sums : (i h a u v x e : ℕ) → a + i ≤ h → v ≡ u + a → h + u + x + e ≤ n → i + v + x + e ≤ n
      sums i h a u v x e b c d = omega arith

  column-within : {h : Hand} {a : Work} {i : Hand} {b : Work} → ColumnMove p h a i b → Within n h a → Within n i b
  column-within (records_column c w) x = step (of_column c) (of_column c) w _ (records_one (output c) w tt) (omega arith) x
  column-within (ships_column c w t) x = step (of_column c) nothing w _ (ships_one (one c) w) (omega arith) x
  column-within (ships_pair c w t f) x = let y = step (of_column c) nothing w _ (ships_one (pair_sheet p w.state.floats (Pages.left_or c w.state.left_column) c) w) (omega arith) x in (y.0, y.1)
  column-within (ships_wide clearing cs w e) x = step nothing nothing w _ (ship_wide-step p (no_law p) cs w) (omega arith) x
  column-within (places_double f before rest w two e i) x = step nothing nothing w _ (place_float-step p (no_law p) places.Double f (with_floats_of (wide_part p) (before ++ rest) w.state.floats) w tt) (omega arith) x
  column-within m x = (x.0, x.1)

  front-less : (k : ℕ) (ns : List PlainNode) → raises (take k ns) ≤ raises ns
  front-less k ns = let h : raises (take k ns) + raises (drop k ns) ≡ raises ns = raises-parts k ns in omega arith

  -- the box is void then
  emptied-within : (h i : Hand) (w : Work) (l : FloatLists) → hand_raises i ≤ hand_raises h → Within n h w → Within n i (record w { state = record w.state { floats = l; boxes = Columns.emptied_boxes w.state.boxes } })
  emptied-within h i w l e x = (sums (hand_raises i) (hand_raises h) (raises w.put_back) (raises w.state.held_page) (box_raises w.state.boxes) (box_raises (Columns.emptied_boxes w.state.boxes)) e (emptied-raises w.state.boxes) x.0, x.1)
    where
      sums : (i h u y e f : ℕ) → i ≤ h → f ≡ 0 → h + u + y + e ≤ n → i + u + y + f ≤ n
      sums i h u y e f a b d = omega arith

  page-within : {h : Hand} {a : Work} {i : Hand} {b : Work} → PageMove p h a i b → Within n h a → Within n i b
  page-within (by_column m) x = column-within m x
  page-within (by_fill (places_next a f before rest w c e i)) x = step nothing nothing w _ (place_float-step p (no_law p) (where_of a) f (record w.state.floats { deferred = before ++ rest }) w tt) (omega arith) x
  page-within (takes_text body w) x = emptied-within (of_text body) (of_column (Columns.text_of p w.state body)) w (record w.state.floats { here = []; top = []; bottom = [] }) (omega arith) x
  page-within (drops_notes body w e) x = emptied-within (of_text body) (of_text body) w w.state.floats (omega arith) x
  page-within (fills_text body w) x = (sums (raises body) (raises (body ++ made (skip filling_glue) ∷ [])) (raises w.put_back) (raises w.state.held_page) (box_raises w.state.boxes) (raises-append body (made (skip filling_glue) ∷ [])) x.0, x.1)
    where
      sums : (b c u y e : ℕ) → c ≡ b + 0 → b + u + y + e ≤ n → c + u + y + e ≤ n
      sums b c u y e i j = omega arith
  page-within (keeps_front body w) x = let h : raises (Clear.cleared_front p body) ≤ raises body = front-less (split_of (pos 0) p.splitmaxdepth (map node_shape body)).index body in more (of_text body) nothing (Clear.cleared_front p body) w (omega arith) x
  page-within (leaves_second w t f) x = more nothing nothing (made blank_box ∷ Clear.clear_again) w (omega arith) x
  page-within (clears_again w) x = more nothing nothing Clear.clear_again w (omega arith) x
  page-within m x = (x.0, x.1)

  -- ---- a float or note in the text

  notes-back : (ns : List Notes) → raises (Text.notes_nodes p ns) ≡ notes_raises ns
  notes-back [] = refl
  notes-back (m ∷ ns) = let h : raises (Text.notes_nodes p ns) ≡ notes_raises ns = notes-back ns in omega arith

  penalties-free : (q : ℤ) (o : Option Glue) → raises (Text.penalty_nodes q o) ≡ 0
  penalties-free q None = refl
  penalties-free q (Some g) = refl

  between-free : (nobreak : Bool) (ns : List PlainNode) → raises (Text.penalty_between p.interlinepenalty nobreak ns) ≡ 0
  between-free true ns = refl
  between-free false ns = penalties-free p.interlinepenalty _

  stands-free : (vert : Bool) (f : Float) → raises (Text.here_nodes p vert f) ≡ 0
  stands-free true f = refl
  stands-free false f = refl

  text-within : {h : Hand} {a : Work} {i : Hand} {b : Work} → TextMove p h a i b → Within n h a → Within n i b
  text-within (goes_back body w) x =
      let ns = w.state.held_page ++ Text.without_firing_box body in
      let notes = Text.notes_nodes p (footnotes w.state) in (
        sums (raises body) (raises (Text.without_firing_box body)) (raises w.put_back) (raises (w.put_back ++ (ns ++ notes))) (raises (ns ++ notes)) (raises ns) (raises notes) (notes_raises (footnotes w.state)) (raises w.state.held_page) (box_raises w.state.boxes) (box_raises (Columns.emptied_boxes w.state.boxes))
            (front-less (length body - 2) body) (raises-append w.put_back (ns ++ notes)) (raises-append ns notes) (raises-append w.state.held_page (Text.without_firing_box body)) (notes-back (footnotes w.state)) (notes-raise w.state.classes w.state.boxes x.1) (emptied-raises w.state.boxes) x.0,
        x.1,
      )
    where
      sums : (b t u v a m k k' y e f : ℕ) → t ≤ b → v ≡ u + a → a ≡ m + k → m ≡ y + t → k ≡ k' → k' ≤ e → f ≡ 0 → b + u + y + e ≤ n → 0 + v + 0 + f ≤ n
      sums b t u v a m k k' y e f i1 i2 i3 i4 i5 i6 i7 i8 = omega arith
  text-within (places_current place f es height w c e i) x = step nothing nothing w _ (place_float-step p (no_law p) place f (record w.state.floats { current = es }) w tt) (omega arith) x
  text-within (defers_current t f es w e i) x = step nothing nothing w _ (place_float-step p (no_law p) places.Deferred (deferred_float t f) (record w.state.floats { current = es }) w tt) (omega arith) x
  text-within (takes_float f es w e) x = step nothing (of_float f) w _ (place_float-step p (no_law p) places.Here f (record w.state.floats { current = es }) w tt) (omega arith) x
  text-within (stands_here vert f w) x = let h : raises (Text.here_nodes p vert f) ≡ 0 = stands-free vert f in more (of_float f) nothing (Text.here_nodes p vert f) w (omega arith) x
  text-within (takes_note height m es at w e i) x = (x.0, x.1)
  text-within (stands_beside depth m at w) x = more (of_note m at) nothing (Text.note_nodes depth m at) w (omega arith) x
  text-within (puts_penalty nobreak h w) x = let k : raises (Text.penalty_between p.interlinepenalty nobreak w.put_back) ≡ 0 = between-free nobreak w.put_back in more h h (Text.penalty_between p.interlinepenalty nobreak w.put_back) w (omega arith) x
  text-within (warns h e w) x = same h h w _ (sends-stays (warned e) w) (by-sends (λ v. v.state.classes ≡ w.state.classes) (warned e) w refl refl) (omega arith) x

  blank-free : (two : Bool) → raises (if two then Output.blank_column ++ Output.blank_column else Output.blank_column) ≡ 0
  blank-free true = refl
  blank-free false = refl

  firing-within : {h : Hand} {a : Work} {i : Hand} {b : Work} → Move p h a i b → Within n h a → Within n i b
  firing-within (by_page m) x = page-within m x
  firing-within (by_text m) x = text-within m x
  firing-within (holds_page body w) x = (sums (raises body) (raises w.put_back) (raises w.state.held_page) (box_raises w.state.boxes) x.0, x.1)
    where
      sums : (b u y e : ℕ) → b + u + y + e ≤ n → 0 + u + b + e ≤ n
      sums b u y e h = omega arith
  firing-within (leaves_blank two w) x = let h : raises (if two then Output.blank_column ++ Output.blank_column else Output.blank_column) ≡ 0 = blank-free two in more nothing nothing (if two then Output.blank_column ++ Output.blank_column else Output.blank_column) w (omega arith) x
  firing-within (sets_goal g w) x = (x.0, x.1)

  pub moves-within : {h : Hand} {a : Work} {i : Hand} {b : Work} → Moves (Move p) h a i b → Within n h a → Within n i b
  moves-within m x = holds-on (Within n) (λ h i a b m. firing-within m) m x

-- ---- the firing of a page

-- the page fires at a clear, and only what raises it is in its boxes
abbrev pub Drops : State → Fired → Type 0
Drops s f = (int_le eject_penalty f.penalty ≡ false) × (Output.is_int f.penalty Asked.clear_penalty ≡ true) × (standing_notes (footnotes (record s { boxes = f.boxes })) ≡ []) × (1 ≤ box_raises f.boxes)

module _ (p : Params) (s : State) (f : Fired) (single : IsSingle s.classes) (body : raises f.body ≡ 0) where
  abbrev start : Work
  start = begun (Output.after_page s f)

  after : (n : ℕ) (w : Work) → Within n nothing w → state_raises (Output.waiting_again f w).state ≤ raises f.held + raises f.rest + n
  after n w x =
      sums (raises f.held) (raises w.put_back) (raises f.rest) (raises ((f.held ++ w.put_back) ++ f.rest)) (raises (f.held ++ w.put_back)) (raises w.state.held_page) (box_raises w.state.boxes)
      (raises-append (f.held ++ w.put_back) f.rest) (raises-append f.held w.put_back) x.0
    where
      sums : (h u r a b y e : ℕ) → a ≡ b + r → b ≡ h + u → 0 + u + y + e ≤ n → a + y + e ≤ h + r + n
      sums h u r a b y e i j k = omega arith

  pub out-raises : state_raises (Output.out p s f).state ≤ raises f.held + raises f.rest + (raises s.held_page + box_raises f.boxes)
  unfolding Output.out page_work
  out-raises = after (raises s.held_page + box_raises f.boxes) (page_work p s f) (moves-within p (raises s.held_page + box_raises f.boxes) (page-moves p s f) (sums (raises f.body) (raises s.held_page) (box_raises f.boxes) body, single))
    where
      sums : (b y e : ℕ) → b ≡ 0 → b + 0 + y + e ≤ y + e
      sums b y e h = omega arith

  -- at such a clear the box's share goes
  pub dropped-raises : Drops s f → state_raises (Output.out p s f).state ≤ raises f.held + raises f.rest + raises s.held_page
  unfolding Output.out
  dropped-raises d = after (raises s.held_page) (Output.next_goal p f.penalty (Output.output_by p f start)) (moves-within p (raises s.held_page) (goal-moves p f.penalty (Output.output_by p f start)) (subst (Within (raises s.held_page) nothing) (sym is-clear) cleared))
    where
      void : Work
      void = Clear.without_notes start

      cleared : Within (raises s.held_page) nothing (Clear.clear_floats p f.body (Clear.without_notes start))
      cleared = moves-within p (raises s.held_page) (widen (λ h i a b m. by_page m) (clear_floats-moves p f.body (Clear.without_notes start))) (sums (raises f.body) (raises s.held_page) (box_raises (Columns.emptied_boxes f.boxes)) body (emptied-raises f.boxes), single)
        where
          sums : (b y e : ℕ) → b ≡ 0 → e ≡ 0 → b + 0 + y + e ≤ y
          sums b y e h i = omega arith

      by_tests : (t u : Bool) (ns : List Notes) → t ≡ false → u ≡ true → ns ≡ [] → (if t then Columns.ordinary p f.body start else (if u then Clear.clear_by p f.body start ns else (if Output.is_int f.penalty Asked.par_penalty then Text.float_or_note p false f.body start else (if Output.is_int f.penalty Asked.vert_penalty then Text.float_or_note p true f.body start else Output.hold f.body start)))) ≡ Clear.clear_floats p f.body (Clear.without_notes start)
      by_tests true u ns e g h = cc
      by_tests false false ns e g h = cc
      by_tests false true [] e g h = refl
      by_tests false true (x ∷ ns) e g h = cc

      is-clear : Output.output_by p f start ≡ Clear.clear_floats p f.body (Clear.without_notes start)
      is-clear = by_tests (int_le eject_penalty f.penalty) (Output.is_int f.penalty Asked.clear_penalty) (standing_notes (footnotes (record s { boxes = f.boxes }))) d.0 d.1 d.2
