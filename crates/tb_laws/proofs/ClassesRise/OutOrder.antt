-- The order of a class after a firing: of what waits, and of what the lists hold.
use Rattle.std.proofs.Common.{◌≡◌, refl, sym, ◌∙◌, ap, subst, ℕ, ◌||◌, ℤ, Bool, true, false, List, [], ◌∷◌, ◌++◌, map, take, drop, length, append_assoc, append-nil, arith}
use Rattle.std.specs.Prelude.{◌-◌, pos, int_lt, int_le, not, ◌&&◌, if◌then◌else◌}
use Rattle.std.proofs.lemmas.Int.{ints}
use Rattle.tb_break.proofs.EachLemmas.{all-join}
use Rattle.tb_scaled.specs.Scaled.{eject_penalty, max_dimen}
use Rattle.tb_scaled.specs.Glue.{filling_glue}
use Rattle.tb_node.specs.declared.Act.{Act}
use Rattle.tb_node.specs.declared.Act.TheVariants as acts
use Rattle.tb_node.specs.PlainNodes.{PlainNode, node_shape, made, blank_box, skip}
use Rattle.tb_break.specs.Split.{split_of}
use Rattle.tb_param.specs.declared.Params.{Params}
use Rattle.tb_builder.specs.FiredPages.{Fired}
use Rattle.tb_float.specs.Rooms.{column_room_of}
use Rattle.tb_sheet.specs.declared.Warn.TheVariants as warnings
use Rattle.tb_column.specs.Column.{Notes, standing_notes}
use Rattle.tb_sheet.specs.Sheet.{warned}
use Rattle.tb_output.specs.State.{State, Work, Recorded, begun, puts, sends, with_floats, footnotes, has_floats}
use Rattle.tb_output.specs.Pages
use Rattle.tb_output.specs.Columns
use Rattle.tb_output.specs.Text
use Rattle.tb_output.specs.Clear
use Rattle.tb_output.specs.Output
use Rattle.tb_sheet.specs.Asked
use Rattle.tb_laws.proofs.NothingLost.StateWeights.{Paired}
use Rattle.tb_laws.proofs.NothingLost.WorkWeights.{is_serving}
use Rattle.tb_laws.proofs.ClassesRise.ClassLines.{FloatKind, Side, alike, narrow, wider, is_of, IsReleased, class_lines, sent_lines, lines-append}
use Rattle.tb_output.proofs.StepLaws.ColumnSteps.{no_law, in_turn, place_next-step, all_wide_pages-step, put_out-step, float_columns-step, Stays, stays, sends-stays}
use Rattle.tb_output.proofs.StepLaws.FiringSteps.{first_goes-step, next_goal-step}
use Rattle.tb_output.proofs.StepLaws.WorkSteps.{firing-unrefused}
use Rattle.tb_laws.proofs.ClassesRise.FloatlessFeet.{HoldsFloatless, HoldFloatless, BoxesFloatless}
use Rattle.tb_laws.proofs.ClassesRise.PageLines.{deeds, deeds-append, take_lines, takes-append, none-front, AreEarly, AreEndless, early-none, early-join, lines-split}
use Rattle.tb_laws.proofs.ClassesRise.ClassOrder.{Order}
use Rattle.tb_laws.proofs.ClassesRise.FiringOrder.{AreLight, light-join, light-take, notes-light, notes-floatless, emptied-floatless, Ordered, Gone, ordinary-ordered, clear-ordered, warned-ordered, first-gone}

-- ---- what is still to be taken

-- a float so wide, as it is taken, is on this side
abbrev pub IsOnSide : Side → Bool → Type 0
IsOnSide alike wide = Unit {0}
IsOnSide narrow wide = wide ≡ false
IsOnSide wider wide = wide ≡ true

-- each float of the kind that is still to be taken is on the kind's side, with so many columns before these acts
abbrev pub Suits : FloatKind → Bool → List Act → Type 0
Suits k t [] = Unit {0}
Suits k t (acts.Take f ∷ ds) = (is_of k f.class f.line ≡ true → IsOnSide k.side (f.wide && t)) × Suits k t ds
Suits k t (acts.TakeMargin m ∷ ds) = Suits k t ds
Suits k t (acts.Suppress area ∷ ds) = Suits k t ds
Suits k t (acts.Page n ∷ ds) = Suits k t ds
Suits k t (acts.Head f ∷ ds) = (is_of k f.class f.line ≡ true → IsOnSide k.side true) × Suits k t ds
Suits k t (acts.Columns now ∷ ds) = Suits k now ds
Suits k t (acts.Set c ∷ ds) = Suits k t ds

-- ---- the invariant between firings

-- the class is in order, with what has shipped before, after these records; in what waits no float's box of the class comes after a penalty at which floats are served or cleared; and no footnote holds one
pub record InOrder (k : FloatKind) (Known : ℕ → Type 0) (past : List ℕ) (old : List Recorded) (s : State) : Type 0 where
  pub ordered : Order k Known (class_lines k s.held_page ++ class_lines k s.waiting) (take_lines k s.waiting) past old s.floats s.two_columns s.first_column s.left_column
  pub early : AreEarly k s.waiting
  pub suits : Suits k s.two_columns (deeds s.waiting)
  pub feet : HoldFloatless k s.waiting
  pub held : AreLight k s.held_page
  pub boxes : BoxesFloatless k s.boxes

-- the same of a firing at work, before what is put back and the rest of the page wait again
pub record Settled (k : FloatKind) (Known : ℕ → Type 0) (takes past : List ℕ) (old : List Recorded) (rest : List PlainNode) (w : Work) : Type 0 where
  pub ordered : Ordered k Known takes past old (class_lines k w.state.held_page ++ (class_lines k w.put_back ++ class_lines k rest)) w
  pub early : AreEarly k (w.put_back ++ rest)
  pub none_taken : take_lines k w.put_back ≡ []
  pub none_done : deeds w.put_back ≡ []
  pub feet : HoldFloatless k w.put_back
  pub held : AreLight k w.state.held_page
  pub boxes : BoxesFloatless k w.state.boxes

-- ---- what a clear puts back

pub record PutsNone (k : FloatKind) (a c : Work) : Type 0 where
  pub more : List PlainNode
  pub put : c.put_back ≡ a.put_back ++ more
  pub lines : class_lines k more ≡ []
  pub takes : take_lines k more ≡ []
  pub does : deeds more ≡ []
  pub feet : HoldFloatless k more
  pub held : c.state.held_page ≡ a.state.held_page
  pub boxes : BoxesFloatless k a.state.boxes → BoxesFloatless k c.state.boxes

nothing : (k : FloatKind) (a c : Work) → Stays a c → PutsNone k a c
nothing k a c s = record { more = []; put = s.put_back ∙ sym (append-nil a.put_back); lines = refl; takes = refl; does = refl; feet = tt; held = s.held; boxes = λ b. subst (BoxesFloatless k) (sym s.boxes) b }

some : (k : FloatKind) (ns : List PlainNode) (w : Work) → class_lines k ns ≡ [] → take_lines k ns ≡ [] → deeds ns ≡ [] → HoldFloatless k ns → PutsNone k w (puts ns w)
some k ns w l t d f = record { more = ns; put = refl; lines = l; takes = t; does = d; feet = f; held = refl; boxes = λ b. b }

after : (k : FloatKind) (a b c : Work) → PutsNone k a b → PutsNone k b c → PutsNone k a c
after k a b c x y = record {
  more = x.more ++ y.more;
  put = y.put ∙ ap (λ ns. ns ++ y.more) x.put ∙ append_assoc a.put_back x.more y.more;
  lines = lines-append k x.more y.more ∙ ap (λ l. l ++ class_lines k y.more) x.lines ∙ y.lines;
  takes = takes-append k x.more y.more ∙ ap (λ l. l ++ take_lines k y.more) x.takes ∙ y.takes;
  does = deeds-append x.more y.more ∙ ap (λ l. l ++ deeds y.more) x.does ∙ y.does;
  feet = all-join (λ (n : PlainNode). HoldsFloatless k n.kind) x.more y.more x.feet y.feet;
  held = y.held ∙ x.held;
  boxes = λ b. y.boxes (x.boxes b);
}

same : (k : FloatKind) (a b : Work) → b.put_back ≡ a.put_back → b.state.held_page ≡ a.state.held_page → b.state.boxes ≡ a.state.boxes → b.state.two_columns ≡ a.state.two_columns → PutsNone k a b
same k a b q h x c = nothing k a b (record { put_back = q; held = h; boxes = x; columns = c })

none_if : (k : FloatKind) (a : Work) (t : Bool) (b c : Work) → PutsNone k a b → PutsNone k a c → PutsNone k a (if t then b else c)
none_if k a true b c x y = x
none_if k a false b c x y = y

clear_again-none : (k : FloatKind) (w : Work) → PutsNone k w (puts Clear.clear_again w)
clear_again-none k w = some k Clear.clear_again w refl refl refl (tt, (tt, (tt, (tt, (tt, tt)))))

put_out_text-none : (k : FloatKind) (p : Params) (body : List PlainNode) (w : Work) → PutsNone k w (Columns.put_out_text p body w)
put_out_text-none k p body w =
    let v = Columns.without_column_floats w in
    let s = stays (put_out-step p (no_law p) (Columns.text_of p w.state body) v) in
    record { more = []; put = s.put_back ∙ sym (append-nil w.put_back); lines = refl; takes = refl; does = refl; feet = tt; held = s.held; boxes = λ b. subst (BoxesFloatless k) (sym s.boxes) (emptied-floatless k w.state.boxes) }

clear_wide-none : (k : FloatKind) (p : Params) (w : Work) → PutsNone k w (Clear.clear_wide p w)
clear_wide-none k p w =
    let a = with_floats (Clear.double_again p w.state.floats) w in
    none_if k w (not w.state.two_columns) w _ (same k w w refl refl refl refl)
    (none_if k w w.state.first_column (Pages.all_wide_pages p true a) (puts (made blank_box ∷ Clear.clear_again) w)
    (after k w a (Pages.all_wide_pages p true a) (same k w a refl refl refl refl) (nothing k a (Pages.all_wide_pages p true a) (stays (all_wide_pages-step p (no_law p) true a))))
    (some k (made blank_box ∷ Clear.clear_again) w refl refl refl (tt, (tt, (tt, (tt, (tt, (tt, tt))))))))

clear_floats-none : (k : FloatKind) (p : Params) (body : List PlainNode) (w : Work) → AreLight k body → class_lines k body ≡ [] → PutsNone k w (Clear.clear_floats p body w)
clear_floats-none k p body w light none =
    let i = (split_of (pos 0) p.splitmaxdepth (map node_shape body)).index in
    let z = puts (Clear.cleared_front p body) w in
    let a = with_floats (Clear.deferred_again w.state.floats) z in
    let b = Columns.all_float_columns p true a in
    let c = Clear.clear_wide p b in
    let front = light-take k i body light in
    after k w z (Clear.clear_rest c) (some k (Clear.cleared_front p body) w (none-front (class_lines k (take i body)) (class_lines k (drop i body)) (lines-split k i body ∙ none)) front.takes front.does front.feet)
    (after k z a (Clear.clear_rest c) (same k z a refl refl refl refl)
    (after k a b (Clear.clear_rest c) (nothing k a b (stays (float_columns-step p (no_law p) true (length a.state.floats.deferred) a)))
    (after k b c (Clear.clear_rest c) (clear_wide-none k p b)
    (none_if k c (has_floats c.state.floats.deferred || has_floats c.state.floats.second) (puts Clear.clear_again c) c (clear_again-none k c) (same k c c refl refl refl refl)))))

clear-none : (k : FloatKind) (p : Params) (body : List PlainNode) (w : Work) (o : List Notes) → AreLight k body → class_lines k body ≡ [] → PutsNone k w (Clear.clear_by p body w o)
clear-none k p body w [] light none =
    after k w (Clear.without_notes w) (Clear.clear_floats p body (Clear.without_notes w)) (record { more = []; put = sym (append-nil w.put_back); lines = refl; takes = refl; does = refl; feet = tt; held = refl; boxes = λ b. emptied-floatless k w.state.boxes })
    (clear_floats-none k p body (Clear.without_notes w) light none)
clear-none k p body w (n ∷ notes) light none =
    let a = Columns.put_out_text p (body ++ made (skip filling_glue) ∷ []) w in
    after k w a (puts Clear.clear_again a) (put_out_text-none k p (body ++ made (skip filling_glue) ∷ []) w) (clear_again-none k a)

-- ---- a firing, by its penalty

forced : (n : ℤ) → int_le eject_penalty n ≡ false → int_lt n eject_penalty ≡ true
forced n h = grind (arith, ints, h)

module _ (k : FloatKind) (Known : ℕ → Type 0) (takes past : List ℕ) (old : List Recorded) (p : Params) (r : IsReleased k p) (calm : int_le p.interlinepenalty eject_penalty ≡ false) (f : Fired) (w : Work) where
  -- how a firing begins
  pub record Begins : Type 0 where
    pub empty : w.put_back ≡ []
    pub held : AreLight k w.state.held_page
    pub boxes : BoxesFloatless k w.state.boxes
    pub pairs : Paired w.state.floats.current
    pub body : AreLight k f.body
    pub early : AreEarly k f.rest
    pub ended : int_lt f.penalty eject_penalty ≡ true → class_lines k f.rest ≡ []
    pub serving : int_le eject_penalty f.penalty ≡ false → is_serving f.penalty ≡ true → class_lines k f.body ≡ []
    pub holding : int_le eject_penalty f.penalty ≡ false → is_serving f.penalty ≡ false → class_lines k w.state.held_page ≡ []
    pub clearing : int_le eject_penalty f.penalty ≡ false → Output.is_int f.penalty Asked.clear_penalty ≡ true → class_lines k w.state.held_page ≡ []
    pub ordered : Ordered k Known takes past old (class_lines k w.state.held_page ++ (class_lines k f.body ++ class_lines k f.rest)) w

  module _ (b : Begins) where
    at_ordinary : (Columns.ordinary p f.body w).refused ≡ false → Settled k Known takes past old f.rest (Columns.ordinary p f.body w)
    at_ordinary ok =
        let z = Columns.without_column_floats w in
        let x = Columns.put_out_text p f.body w in
        let y = Columns.all_float_columns p false x in
        let c = Columns.ordinary p f.body w in
        let s = stays (in_turn (put_out-step p (no_law p) (Columns.text_of p w.state f.body) z) (in_turn (float_columns-step p (no_law p) false (length x.state.floats.deferred) x) (place_next-step p (no_law p) [] y.state.floats.deferred y))) in
        let none = s.put_back ∙ b.empty in
        record {
          ordered = subst (λ t. Ordered k Known takes past old t c) (ap (λ ns. class_lines k ns ++ class_lines k f.rest) (sym s.held) ∙ ap (λ ns. class_lines k c.state.held_page ++ (class_lines k ns ++ class_lines k f.rest)) (sym none))
              (ordinary-ordered k Known takes past old p r (class_lines k w.state.held_page) (class_lines k f.rest) f.body w (notes-floatless k w.state.classes w.state.boxes b.boxes) ok b.ordered);
          early = subst (λ ns. AreEarly k (ns ++ f.rest)) (sym none) b.early;
          none_taken = ap (take_lines k) none;
          none_done = ap (deeds) none;
          feet = subst (HoldFloatless k) (sym none) tt;
          held = subst (AreLight k) (sym s.held) b.held;
          boxes = subst (BoxesFloatless k) (sym s.boxes) (emptied-floatless k w.state.boxes);
        }

    at_clear : int_le eject_penalty f.penalty ≡ false → Output.is_int f.penalty Asked.clear_penalty ≡ true → class_lines k f.body ≡ [] → (Clear.clear p f.body w).refused ≡ false → Settled k Known takes past old f.rest (Clear.clear p f.body w)
    at_clear h e none ok =
        let c = Clear.clear p f.body w in
        let x = clear-none k p f.body w (standing_notes (footnotes w.state)) b.body none in
        let rest = b.ended (forced f.penalty h) in
        let held = ap (class_lines k) x.held ∙ b.clearing h e in
        let put = x.put ∙ ap (λ ns. ns ++ x.more) b.empty in
        let lines = ap (class_lines k) put ∙ x.lines in
        record {
          ordered = subst (λ t. Ordered k Known takes past old t c) (sym (ap (λ l. l ++ (class_lines k c.put_back ++ class_lines k f.rest)) held ∙ ap (λ l. l ++ class_lines k f.rest) lines ∙ rest))
              (clear-ordered k Known takes past old p r f.body w (standing_notes (footnotes w.state)) refl (notes-floatless k w.state.classes w.state.boxes b.boxes) none ok
              (subst (λ t. Ordered k Known takes past old t w) (ap (λ l. l ++ (class_lines k f.body ++ class_lines k f.rest)) (b.clearing h e) ∙ ap (λ l. l ++ class_lines k f.rest) none ∙ rest) b.ordered));
          early = early-none k (c.put_back ++ f.rest) (lines-append k c.put_back f.rest ∙ ap (λ l. l ++ class_lines k f.rest) lines ∙ rest);
          none_taken = ap (take_lines k) put ∙ x.takes;
          none_done = ap (deeds) put ∙ x.does;
          feet = subst (HoldFloatless k) (sym put) x.feet;
          held = subst (AreLight k) (sym x.held) b.held;
          boxes = x.boxes b.boxes;
        }

    module _ (vert : Bool) (h : int_le eject_penalty f.penalty ≡ false) (none : class_lines k f.body ≡ []) (ok : (Text.float_or_note p vert f.body w).refused ≡ false) where
      abbrev front : List PlainNode
      front = Text.without_firing_box f.body

      abbrev a : Work
      a = Text.list_back p (w.state.held_page ++ Text.without_firing_box f.body) w

      a_ok : a.refused ≡ false
      a_ok = firing-unrefused (first_goes-step p (no_law p) vert _ _ _ w.state.floats.current a) ok

      rest : class_lines k f.rest ≡ []
      rest = b.ended (forced f.penalty h)

      a_ordered : Ordered k Known takes past old (class_lines k w.state.held_page) a
      a_ordered = subst (λ t. Ordered k Known takes past old t w) (ap (λ l. class_lines k w.state.held_page ++ l) (ap (λ l. l ++ class_lines k f.rest) none ∙ rest) ∙ append-nil (class_lines k w.state.held_page)) b.ordered

      all : Gone k Known takes past old (class_lines k w.state.held_page) a (Text.float_or_note p vert f.body w) → Settled k Known takes past old f.rest (Text.float_or_note p vert f.body w)
      all g =
          let c = Text.float_or_note p vert f.body w in
          let held = w.state.held_page in
          let notes = Text.notes_nodes p (footnotes w.state) in
          let n = notes-light k p (footnotes w.state) (notes-floatless k w.state.classes w.state.boxes b.boxes) in
          let put = g.put ∙ ap (λ ns. (ns ++ ((held ++ front) ++ notes)) ++ g.more) b.empty in
          let front_none = none-front (class_lines k front) (class_lines k (drop (length f.body - 2) f.body)) (lines-split k (length f.body - 2) f.body ∙ none) in
          let back = lines-append k (held ++ front) notes ∙ ap (λ l. class_lines k (held ++ front) ++ l) n.1 ∙ append-nil (class_lines k (held ++ front)) ∙ lines-append k held front ∙ ap (λ l. class_lines k held ++ l) front_none ∙ append-nil (class_lines k held) in
          let lines = ap (class_lines k) put ∙ lines-append k ((held ++ front) ++ notes) g.more ∙ ap (λ l. l ++ class_lines k g.more) back in
          let light = subst (AreLight k) (sym put) (light-join k ((held ++ front) ++ notes) g.more (light-join k (held ++ front) notes (light-join k held front b.held (light-take k (length f.body - 2) f.body b.body)) n.0) g.light) in
          record {
            ordered = subst (λ t. Ordered k Known takes past old t c)
                (sym (ap (λ ns. class_lines k ns ++ (class_lines k c.put_back ++ class_lines k f.rest)) g.stays_held ∙ ap (λ l. l ++ class_lines k f.rest) lines ∙ ap (λ l. (class_lines k held ++ class_lines k g.more) ++ l) rest ∙ append-nil (class_lines k held ++ class_lines k g.more))) g.ordered;
            early = early-join k c.put_back f.rest light.endless b.early;
            none_taken = light.takes;
            none_done = light.does;
            feet = light.feet;
            held = subst (AreLight k) (sym g.stays_held) (record { takes = refl; does = refl; feet = tt; endless = tt });
            boxes = subst (BoxesFloatless k) (sym g.stays_boxes) (emptied-floatless k w.state.boxes);
          }

      at_serve : Settled k Known takes past old f.rest (Text.float_or_note p vert f.body w)
      at_serve = all (first-gone k Known takes past old p calm (class_lines k w.state.held_page) vert _ _ _ w.state.floats.current a refl b.pairs a_ok a_ordered)

    at_hold : int_le eject_penalty f.penalty ≡ false → is_serving f.penalty ≡ false → Settled k Known takes past old f.rest (Output.hold f.body w)
    at_hold h e = record {
      ordered = subst (λ t. Ordered k Known takes past old t w) (ap (λ l. l ++ (class_lines k f.body ++ class_lines k f.rest)) (b.holding h e) ∙ ap (λ ns. class_lines k f.body ++ (class_lines k ns ++ class_lines k f.rest)) (sym b.empty)) b.ordered;
      early = subst (λ ns. AreEarly k (ns ++ f.rest)) (sym b.empty) b.early;
      none_taken = ap (take_lines k) b.empty;
      none_done = ap (deeds) b.empty;
      feet = subst (HoldFloatless k) (sym b.empty) tt;
      held = b.body;
      boxes = b.boxes;
    }

    -- a firing settles, whatever its penalty is
    output-settled : (Output.output_by p f w).refused ≡ false → Settled k Known takes past old f.rest (Output.output_by p f w)
    output-settled ok = by_penalty (int_le eject_penalty f.penalty) (Output.is_int f.penalty Asked.clear_penalty) (Output.is_int f.penalty Asked.par_penalty) (Output.is_int f.penalty Asked.vert_penalty)
        at_ordinary (λ h e n. at_clear h e n) (λ vert h n ok. at_serve vert h n ok) (λ h e. at_hold h e) b.serving refl refl ok
      where
        by_penalty : (t c x y : Bool)
            → ((Columns.ordinary p f.body w).refused ≡ false → Settled k Known takes past old f.rest (Columns.ordinary p f.body w))
            → (t ≡ false → c ≡ true → class_lines k f.body ≡ [] → (Clear.clear p f.body w).refused ≡ false → Settled k Known takes past old f.rest (Clear.clear p f.body w))
            → ((vert : Bool) → t ≡ false → class_lines k f.body ≡ [] → (Text.float_or_note p vert f.body w).refused ≡ false → Settled k Known takes past old f.rest (Text.float_or_note p vert f.body w))
            → (t ≡ false → (c || (x || y)) ≡ false → Settled k Known takes past old f.rest (Output.hold f.body w))
            → (t ≡ false → (c || (x || y)) ≡ true → class_lines k f.body ≡ [])
            → int_le eject_penalty f.penalty ≡ t → Output.is_int f.penalty Asked.clear_penalty ≡ c
            → (if t then Columns.ordinary p f.body w else (if c then Clear.clear p f.body w else (if x then Text.float_or_note p false f.body w else (if y then Text.float_or_note p true f.body w else Output.hold f.body w)))).refused ≡ false
            → Settled k Known takes past old f.rest (if t then Columns.ordinary p f.body w else (if c then Clear.clear p f.body w else (if x then Text.float_or_note p false f.body w else (if y then Text.float_or_note p true f.body w else Output.hold f.body w))))
        by_penalty true c x y o l s h none t_is c_is ok = o ok
        by_penalty false true x y o l s h none t_is c_is ok = l refl refl (none refl refl) ok
        by_penalty false false true y o l s h none t_is c_is ok = s false refl (none refl refl) ok
        by_penalty false false false true o l s h none t_is c_is ok = s true refl (none refl refl) ok
        by_penalty false false false false o l s h none t_is c_is ok = h refl refl

-- ---- the goal of the next page

-- nodes without floats' boxes and such penalties go in between
lines-between : (k : FloatKind) (xs bs ys : List PlainNode) → class_lines k bs ≡ [] → class_lines k ((xs ++ bs) ++ ys) ≡ class_lines k (xs ++ ys)
lines-between k xs bs ys none =
    lines-append k (xs ++ bs) ys ∙ ap (λ l. l ++ class_lines k ys) (lines-append k xs bs ∙ ap (λ l. class_lines k xs ++ l) none ∙ append-nil (class_lines k xs)) ∙ sym (lines-append k xs ys)

early-between : (k : FloatKind) (xs bs ys : List PlainNode) → class_lines k bs ≡ [] → AreEndless bs → AreEarly k (xs ++ ys) → AreEarly k ((xs ++ bs) ++ ys)
early-between k [] bs ys none endless h = early-join k bs ys endless h
early-between k (x ∷ xs) bs ys none endless h = (λ e. lines-between k xs bs ys none ∙ h.0 e, early-between k xs bs ys none endless h.1)

module _ (k : FloatKind) (Known : ℕ → Type 0) (takes past : List ℕ) (old : List Recorded) (rest : List PlainNode) where
  blank-light : (t : Bool) → AreLight k (if t then Output.blank_column ++ Output.blank_column else Output.blank_column) × (class_lines k (if t then Output.blank_column ++ Output.blank_column else Output.blank_column) ≡ [])
  blank-light true = (record { takes = refl; does = refl; feet = (tt, (tt, (tt, (tt, tt)))); endless = (refl, (refl, (refl, (refl, tt)))) }, refl)
  blank-light false = (record { takes = refl; does = refl; feet = (tt, (tt, tt)); endless = (refl, (refl, tt)) }, refl)

  goal-kept : (g : ℤ) (w : Work) → Settled k Known takes past old rest w → Settled k Known takes past old rest (Output.with_goal g w)
  goal-kept g w s = record { ordered = s.ordered; early = s.early; none_taken = s.none_taken; none_done = s.none_done; feet = s.feet; held = s.held; boxes = s.boxes }

  told-kept : (p : Params) (w : Work) → w.refused ≡ false → Settled k Known takes past old rest w → Settled k Known takes past old rest (sends (warned (warnings.Floats w.state.number)) w)
  told-kept p w ok s =
      let c = sends (warned (warnings.Floats w.state.number)) w in
      let x = sends-stays (warned (warnings.Floats w.state.number)) w in
      record {
        ordered = subst (λ t. Ordered k Known takes past old t c) (ap (λ ns. class_lines k ns ++ (class_lines k w.put_back ++ class_lines k rest)) (sym x.held) ∙ ap (λ ns. class_lines k c.state.held_page ++ (class_lines k ns ++ class_lines k rest)) (sym x.put_back))
            (warned-ordered k Known takes past old (class_lines k w.state.held_page ++ (class_lines k w.put_back ++ class_lines k rest)) (warnings.Floats w.state.number) w ok s.ordered);
        early = subst (λ ns. AreEarly k (ns ++ rest)) (sym x.put_back) s.early;
        none_taken = ap (take_lines k) x.put_back ∙ s.none_taken;
        none_done = ap (deeds) x.put_back ∙ s.none_done;
        feet = subst (HoldFloatless k) (sym x.put_back) s.feet;
        held = subst (AreLight k) (sym x.held) s.held;
        boxes = subst (BoxesFloatless k) (sym x.boxes) s.boxes;
      }

  blank-kept : (bs : List PlainNode) (w : Work) → AreLight k bs → class_lines k bs ≡ [] → Settled k Known takes past old rest w → Settled k Known takes past old rest (puts bs w)
  blank-kept bs w light none s = record {
    ordered = subst (λ t. Ordered k Known takes past old t w) (ap (λ l. class_lines k w.state.held_page ++ (l ++ class_lines k rest)) (sym (lines-append k w.put_back bs ∙ ap (λ l. class_lines k w.put_back ++ l) none ∙ append-nil (class_lines k w.put_back)))) s.ordered;
    early = early-between k w.put_back bs rest none light.endless s.early;
    none_taken = takes-append k w.put_back bs ∙ ap (λ l. l ++ take_lines k bs) s.none_taken ∙ light.takes;
    none_done = deeds-append w.put_back bs ∙ ap (λ l. l ++ deeds bs) s.none_done ∙ light.does;
    feet = all-join (λ (n : PlainNode). HoldsFloatless k n.kind) w.put_back bs s.feet light.feet;
    held = s.held;
    boxes = s.boxes;
  }

  goal-settled : (p : Params) (n : ℤ) (w : Work) → w.refused ≡ false → Settled k Known takes past old rest w → Settled k Known takes past old rest (Output.next_goal p n w)
  goal-settled p n w ok s = by_hold (Output.is_int n Asked.hold_penalty)
    where
      room : ℤ
      room = column_room_of p w.state.floats

      blank : Bool
      blank = w.state.two_columns && not w.state.first_column

      crowded : Settled k Known takes past old rest (Output.leave_column w)
      crowded =
          let x = blank-light (w.state.two_columns && not w.state.first_column) in
          blank-kept (if w.state.two_columns && not w.state.first_column then Output.blank_column ++ Output.blank_column else Output.blank_column) (sends (warned (warnings.Floats w.state.number)) w) x.0 x.1 (told-kept p w ok s)

      by_room : (t : Bool) → Settled k Known takes past old rest (if t then Output.leave_column w else Output.with_goal (column_room_of p w.state.floats) w)
      by_room true = crowded
      by_room false = goal-kept (column_room_of p w.state.floats) w s

      by_hold : (t : Bool) → Settled k Known takes past old rest (if t then Output.with_goal max_dimen w else Output.goal_by p (column_room_of p w.state.floats) w)
      by_hold true = goal-kept max_dimen w s
      by_hold false = by_room (Output.is_crowded p (column_room_of p w.state.floats))

-- ---- a firing

-- what a firing needs of the state in which its page fired, and of that page
pub record FiresInOrder (k : FloatKind) (Known : ℕ → Type 0) (past : List ℕ) (old : List Recorded) (s : State) (f : Fired) : Type 0 where
  pub ordered : Order k Known (class_lines k s.held_page ++ (class_lines k f.body ++ class_lines k f.rest)) (take_lines k f.rest) past old s.floats s.two_columns s.first_column s.left_column
  pub held : AreLight k s.held_page
  pub boxes : BoxesFloatless k f.boxes
  pub pairs : Paired s.floats.current
  pub body : AreLight k f.body
  pub early : AreEarly k f.rest
  pub ended : int_lt f.penalty eject_penalty ≡ true → class_lines k f.rest ≡ []
  pub serving : int_le eject_penalty f.penalty ≡ false → is_serving f.penalty ≡ true → class_lines k f.body ≡ []
  pub holding : int_le eject_penalty f.penalty ≡ false → is_serving f.penalty ≡ false → class_lines k s.held_page ≡ []
  pub clearing : int_le eject_penalty f.penalty ≡ false → Output.is_int f.penalty Asked.clear_penalty ≡ true → class_lines k s.held_page ≡ []
  pub again : AreLight k f.held
  pub again_lines : class_lines k f.held ≡ []
  pub rest_feet : HoldFloatless k f.rest
  pub suits : Suits k s.two_columns (deeds f.rest)

-- after a firing that no limit stops the class is in order
pub out-order : (k : FloatKind) (Known : ℕ → Type 0) (past : List ℕ) (old : List Recorded) (p : Params) → IsReleased k p → int_le p.interlinepenalty eject_penalty ≡ false → (s : State) (f : Fired) → FiresInOrder k Known past old s f → (Output.out p s f).refused ≡ false → (Output.out p s f).state.two_columns ≡ s.two_columns
    → InOrder k Known (past ++ sent_lines k (Output.out p s f).sent) (old ++ (Output.out p s f).records) (Output.out p s f).state
unfolding Output.out
out-order k Known past old p r calm s f h ok columns = all (Output.next_goal p f.penalty (Output.output_by p f (begun (Output.after_page s f)))) (goal-settled k Known (take_lines k f.rest) past old f.rest p f.penalty (Output.output_by p f (begun (Output.after_page s f))) b_ok (output-settled k Known (take_lines k f.rest) past old p r calm f (begun (Output.after_page s f)) begins b_ok)) columns
  where
    b_ok : (Output.output_by p f (begun (Output.after_page s f))).refused ≡ false
    b_ok = firing-unrefused (next_goal-step p (no_law p) f.penalty (Output.output_by p f (begun (Output.after_page s f)))) ok

    begins : Begins k Known (take_lines k f.rest) past old p r calm f (begun (Output.after_page s f))
    begins = record {
      empty = refl;
      held = h.held;
      boxes = h.boxes;
      pairs = h.pairs;
      body = h.body;
      early = h.early;
      ended = h.ended;
      serving = h.serving;
      holding = h.holding;
      clearing = h.clearing;
      ordered = subst (λ x. Order k Known (class_lines k s.held_page ++ (class_lines k f.body ++ class_lines k f.rest)) (take_lines k f.rest) x (old ++ []) s.floats s.two_columns s.first_column s.left_column) (sym (append-nil past))
          (subst (λ x. Order k Known (class_lines k s.held_page ++ (class_lines k f.body ++ class_lines k f.rest)) (take_lines k f.rest) past x s.floats s.two_columns s.first_column s.left_column) (sym (append-nil old)) h.ordered);
    }

    suits_after : (c : Work) → deeds c.put_back ≡ [] → c.state.two_columns ≡ s.two_columns → Suits k c.state.two_columns (deeds (f.held ++ c.put_back ++ f.rest))
    suits_after c none same =
        subst (λ t. Suits k t (deeds (f.held ++ c.put_back ++ f.rest))) (sym same)
        (subst (Suits k s.two_columns) (sym (deeds-append (f.held ++ c.put_back) f.rest ∙ ap (λ l. l ++ deeds f.rest) (deeds-append f.held c.put_back ∙ ap (λ l. l ++ deeds c.put_back) h.again.does ∙ none))) h.suits)

    all : (c : Work) → Settled k Known (take_lines k f.rest) past old f.rest c → c.state.two_columns ≡ s.two_columns → InOrder k Known (past ++ sent_lines k c.sent) (old ++ c.records) (Output.waiting_again f c).state
    all c s same =
        let lines = lines-append k (f.held ++ c.put_back) f.rest ∙ ap (λ l. l ++ class_lines k f.rest) (lines-append k f.held c.put_back ∙ ap (λ l. l ++ class_lines k c.put_back) h.again_lines) in
        let takes = takes-append k (f.held ++ c.put_back) f.rest ∙ ap (λ l. l ++ take_lines k f.rest) (takes-append k f.held c.put_back ∙ ap (λ l. l ++ take_lines k c.put_back) h.again.takes ∙ s.none_taken) in
        record {
          ordered = subst (λ x. Order k Known (class_lines k c.state.held_page ++ x) (take_lines k (f.held ++ c.put_back ++ f.rest)) (past ++ sent_lines k c.sent) (old ++ c.records) c.state.floats c.state.two_columns c.state.first_column c.state.left_column) (sym lines)
              (subst (λ x. Order k Known (class_lines k c.state.held_page ++ (class_lines k c.put_back ++ class_lines k f.rest)) x (past ++ sent_lines k c.sent) (old ++ c.records) c.state.floats c.state.two_columns c.state.first_column c.state.left_column) (sym takes) s.ordered);
          early = subst (AreEarly k) (sym (append_assoc f.held c.put_back f.rest)) (early-join k f.held (c.put_back ++ f.rest) h.again.endless s.early);
          suits = suits_after c s.none_done same;
          feet = all-join (λ (n : PlainNode). HoldsFloatless k n.kind) (f.held ++ c.put_back) f.rest (all-join (λ (n : PlainNode). HoldsFloatless k n.kind) f.held c.put_back h.again.feet s.feet) h.rest_feet;
          held = s.held;
          boxes = s.boxes;
        }
