-- A firing shows the boxes and rules of its page's list in their order, in what it sends and in the column that is kept.
use Rattle.std.proofs.Common.{◌≡◌, refl, sym, ◌∙◌, ap, subst, ℕ, ℤ, Bool, true, false, List, [], ◌∷◌, ◌++◌, Option, Some, None, append-nil, append_assoc}
use Rattle.std.specs.Prelude.{if◌then◌else◌}
use Rattle.tb_node.specs.declared.Float.{Float}
use Rattle.tb_node.specs.declared.Where.{Where}
use Rattle.tb_node.specs.declared.Where.TheVariants as places
use Rattle.tb_scaled.specs.Glue.{filling_glue}
use Rattle.tb_node.specs.PlainNodes.{PlainNode, made, skip}
use Rattle.tb_param.specs.declared.Params.{Params}
use Rattle.tb_float.specs.Lists.{FloatLists, with_wide_waiting}
use Rattle.tb_float.specs.Rooms.{column_height_of}
use Rattle.tb_fpage.specs.Company.{chosen_floats, left_floats}
use Rattle.tb_column.specs.Column.{Notes, PlainColumn, standing_notes, enlarged_of, single_floats_column, wide_floats_column, floats_above, pair_rule}
use Rattle.tb_sheet.specs.Sheet.{PlainSheet, one, wide, PlainSent, warned, shipped, pair_sheet}
use Rattle.tb_sheet.specs.declared.Warn.{Warn}
use Rattle.tb_area.specs.Area.{where_of}
use Rattle.tb_output.specs.State.{Work, Recorded, placed, output, sends, records_also, with_floats, footnotes}
use Rattle.tb_output.specs.FloatMoves
use Rattle.tb_output.specs.Pages
use Rattle.tb_output.specs.Columns
use Rattle.tb_output.specs.Text
use Rattle.tb_output.specs.Output
use Rattle.tb_output.specs.Clear
use Rattle.tb_output.proofs.StepLaws.RefusedSteps.{by-sends, by-ship}
use Rattle.tb_output.proofs.StepLaws.Moves.{Hand, nothing, of_text, of_column, of_float, of_note, ColumnMove, takes_company, records_column, ships_column, keeps_left, ships_pair, ends_column, ships_wide, places_double, places_next, PageMove, by_column, by_fill, takes_text, drops_notes, fills_text, TextMove, places_current, defers_current, takes_float, puts_penalty, warns, Move, by_page, by_text, Moves, goes-on, widen}
use Rattle.tb_output.proofs.StepLaws.FiringTree.{ordinary-columns, clear_by-moves, float_or_note-moves, goal-moves}
use Rattle.tb_laws.proofs.NothingLost.StateWeights.{ColumnsFit, first-left, one-left}
use Rattle.tb_laws.proofs.Closed.Closings.{never}
use Rattle.tb_column.proofs.Within.{Within, itself, within-same, within-within, both-within, within-front, within-end}
use Rattle.tb_column.proofs.PrintedLines.{prints, left_prints, AllPlain, LeftPlain, above-plain, text-plain, text-prints, floats-plain, plain-both}
use Rattle.tb_sheet.proofs.PrintedSheets.{sheet_prints, sent_prints, sent-append, SheetPlain, SentPlain, sent-plain}

-- what is sent and the column that is kept
abbrev pub shown : Work → List ℕ
shown w = sent_prints w.sent ++ left_prints w.state.left_column

-- the columns of a work fit
abbrev pub Fits : Work → Type 0
Fits w = ColumnsFit w.state.two_columns w.state.first_column w.state.left_column

-- what is sent and the column that is kept have no insertions and acts
abbrev pub WorkPlain : Work → Type 0
WorkPlain w = SentPlain w.sent × LeftPlain w.state.left_column

-- if the second is not refused, the first is not; and the second shows what the first does and these lines after it; its columns fit, and it has no insertions and acts, if the first is so
pub record Prints (t : List ℕ) (a c : Work) : Type 0 where
  pub goes : c.refused ≡ false → a.refused ≡ false
  pub fit : Fits a → Fits c
  pub shows : c.refused ≡ false → Fits a → Within (shown a ++ t) (shown c)
  pub plain : WorkPlain a → WorkPlain c

-- fewer lines
pub fewer : (t u : List ℕ) (a c : Work) → Within t u → Prints u a c → Prints t a c
fewer t u a c w x = record { goes = x.goes; fit = x.fit; shows = λ r h. within-within (shown a ++ t) (shown a ++ u) (shown c) (both-within (shown a) (shown a) t u (itself (shown a)) w) (x.shows r h); plain = x.plain }

-- ---- with a column in hand

-- what is shown, and then the column in hand
abbrev beside : Hand → List ℕ → List ℕ
beside nothing l = l
beside (of_text body) l = l
beside (of_column c) l = l ++ prints c.nodes
beside (of_float f) l = l
beside (of_note m at) l = l

abbrev HandPlain : Hand → Type 0
HandPlain nothing = Unit {0}
HandPlain (of_text body) = AllPlain body
HandPlain (of_column c) = AllPlain c.nodes
HandPlain (of_float f) = Unit {0}
HandPlain (of_note m at) = Unit {0}

-- the same between two moves
record Shows (h : Hand) (a : Work) (i : Hand) (c : Work) : Type 0 where
  goes : c.refused ≡ false → a.refused ≡ false
  fit : Fits a → Fits c
  hand : HandPlain h → HandPlain i
  shows : c.refused ≡ false → Fits a → Within (beside h (shown a)) (beside i (shown c))
  plain : HandPlain h → WorkPlain a → WorkPlain c

then_shows : (h i j : Hand) (a b c : Work) → Shows h a i b → Shows i b j c → Shows h a j c
then_shows h i j a b c x y = record {
  goes = λ r. x.goes (y.goes r);
  fit = λ k. y.fit (x.fit k);
  hand = λ k. y.hand (x.hand k);
  shows = λ r k. within-within (beside h (shown a)) (beside i (shown b)) (beside j (shown c)) (x.shows (y.goes r) k) (y.shows r (x.fit k));
  plain = λ k w. y.plain (x.hand k) (x.plain k w);
}

-- the same is sent, kept and refused
alike : (h i : Hand) (a c : Work) → c.refused ≡ a.refused → c.sent ≡ a.sent → c.state.left_column ≡ a.state.left_column → (Fits a → Fits c) → (HandPlain h → HandPlain i) → Within (beside h (shown a)) (beside i (shown a)) → Shows h a i c
alike h i a c r e l f k w = record {
  goes = λ g. sym r ∙ g;
  fit = f;
  hand = k;
  shows = λ g j. subst (λ m. Within (beside h (shown a)) (beside i m)) (sym (λ n. sent_prints (e n) ++ left_prints (l n))) w;
  plain = λ g j. (subst SentPlain (sym e) j.0, subst LeftPlain (sym l) j.1);
}

rests-shows : (h : Hand) (w : Work) → Shows h w h w
rests-shows h w = alike h h w w refl refl refl (λ k. k) (λ k. k) (itself (beside h (shown w)))

-- what is recorded is not shown
records-shows : (h i : Hand) (r : Recorded) (w c : Work) → c.refused ≡ (records_also r w).refused → c.sent ≡ (records_also r w).sent → c.state.left_column ≡ (records_also r w).state.left_column → (Fits (records_also r w) → Fits c) → (HandPlain h → HandPlain i) → Within (beside h (shown w)) (beside i (shown w)) → Shows h w i c
records-shows h i r w c d e l f k b = by_refused w.refused d e l f
  where
    by_refused : (t : Bool) → c.refused ≡ (if t then w else record w { records = w.records ++ r ∷ [] }).refused → c.sent ≡ (if t then w else record w { records = w.records ++ r ∷ [] }).sent → c.state.left_column ≡ (if t then w else record w { records = w.records ++ r ∷ [] }).state.left_column → (Fits (if t then w else record w { records = w.records ++ r ∷ [] }) → Fits c) → Shows h w i c
    by_refused true d e l f = alike h i w c d e l f k b
    by_refused false d e l f = alike h i w c d e l f k b

-- a float goes to a place
placed-shows : (p : Params) (i : Hand) (place : Where) (f : Float) (left : FloatLists) (w : Work) → (Unit {0} → HandPlain i) → Within (shown w) (beside i (shown w)) → Shows nothing w i (FloatMoves.place_float p place f left w)
placed-shows p i place f left w k b = by_record (FloatMoves.is_placed place)
  where
    by_record : (t : Bool) → Shows nothing w i (with_floats (FloatMoves.joined_to place f left) (if t then records_also (placed p f place w.state.floats (column_height_of p w.state.floats)) w else w))
    by_record true = records-shows nothing i (placed p f place w.state.floats (column_height_of p w.state.floats)) w _ refl refl refl (λ k. k) k b
    by_record false = alike nothing i w _ refl refl refl (λ k. k) k b

-- a warning, whatever is in hand
warns-shows : (h : Hand) (e : Warn) (w : Work) → Shows h w h (sends (warned e) w)
warns-shows h e w =
    by-sends (Shows h w h) (warned e) w (rests-shows h w)
    (record { goes = λ g. g; fit = λ g. g; hand = λ g. g; shows = λ g j. subst (λ m. Within (beside h (shown w)) (beside h m)) (sym told) (itself (beside h (shown w))); plain = λ g j. (sent-plain w.sent (warned e ∷ []) j.0 tt, j.1) })
  where
    told : shown (record w { sent = w.sent ++ warned e ∷ [] }) ≡ shown w
    told = ap (λ l. l ++ left_prints w.state.left_column) (sent-append w.sent (warned e ∷ []) ∙ append-nil (sent_prints w.sent))

-- ---- a page

-- a page is shipped, unless the work is refused
record Shipped (sheet : PlainSheet) (a c : Work) : Type 0 where
  goes : c.refused ≡ false → a.refused ≡ false
  sends_it : c.refused ≡ false → (n : ℕ) × (c.sent ≡ a.sent ++ shipped n sheet ∷ [])
  plain : SheetPlain sheet → SentPlain a.sent → SentPlain c.sent
  left : c.state.left_column ≡ a.state.left_column
  fit : Fits a → Fits c

ship-shipped : (p : Params) (sheet : PlainSheet) (w : Work) → Shipped sheet w (Pages.ship p sheet w)
ship-shipped p sheet w =
    by-ship (Shipped sheet w) p sheet w (λ e. record { goes = λ h. h; sends_it = λ h. never (sym h ∙ e); plain = λ s h. h; left = refl; fit = λ h. h })
    (λ e. record { goes = λ h. never (sym h); sends_it = λ h. never (sym h); plain = λ s h. h; left = refl; fit = λ h. h })
    (λ e i. record { goes = λ h. h; sends_it = λ h. (w.state.number, refl); plain = λ s h. sent-plain w.sent (shipped w.state.number sheet ∷ []) h (s, tt); left = refl; fit = λ h. h })

-- what was sent with one page more
page-more : (es fs : List PlainSent) (n : ℕ) (sheet : PlainSheet) → fs ≡ es ++ shipped n sheet ∷ [] → sent_prints fs ≡ sent_prints es ++ sheet_prints sheet
page-more es fs n sheet e = ap sent_prints e ∙ sent-append es (shipped n sheet ∷ []) ∙ ap (λ l. sent_prints es ++ l) (append-nil (sheet_prints sheet))

-- a page of floats
page-shows : (sheet : PlainSheet) (a c : Work) → SheetPlain sheet → Shipped sheet a c → Shows nothing a nothing c
page-shows sheet a c s x = record {
  goes = x.goes;
  fit = x.fit;
  hand = λ k. k;
  shows = λ r h. subst (Within (shown a)) (sym (λ i. page-more a.sent c.sent (x.sends_it r).0 sheet (x.sends_it r).1 i ++ left_prints (x.left i)))
      (both-within (sent_prints a.sent) (sent_prints a.sent ++ sheet_prints sheet) (left_prints a.state.left_column) (left_prints a.state.left_column) (within-front (sent_prints a.sent) (sheet_prints sheet)) (itself (left_prints a.state.left_column)));
  plain = λ k h. (x.plain s h.0, subst LeftPlain (sym x.left) h.1);
}

-- ---- a column

-- a column that is a page
one-shows : (c : PlainColumn) (w d : Work) → w.state.two_columns ≡ false → Shipped (one c) w d → Shows (of_column c) w nothing d
one-shows c w d t x = record {
  goes = x.goes;
  fit = x.fit;
  hand = λ s. tt;
  shows = λ r h. within-same (shown w ++ prints c.nodes) (shown d) (all r (no-left h));
  plain = λ s h. (x.plain s h.0, subst LeftPlain (sym x.left) h.1);
}
  where
    no-left : Fits w → w.state.left_column ≡ None
    no-left h = one-left w.state.first_column w.state.left_column (subst (λ z. ColumnsFit z w.state.first_column w.state.left_column) t h)

    all : d.refused ≡ false → w.state.left_column ≡ None → shown w ++ prints c.nodes ≡ shown d
    all r e = ap (λ o. (sent_prints w.sent ++ left_prints o) ++ prints c.nodes) e ∙ ap (λ l. l ++ prints c.nodes) (append-nil (sent_prints w.sent))
        ∙ sym (page-more w.sent d.sent (x.sends_it r).0 (one c) (x.sends_it r).1) ∙ sym (append-nil (sent_prints d.sent)) ∙ ap (λ o. sent_prints d.sent ++ left_prints o) (sym (x.left ∙ e))

-- a first column that is kept
keep-shows : (c : PlainColumn) (w : Work) → w.state.two_columns ≡ true → w.state.first_column ≡ true → Shows (of_column c) w nothing (Pages.keep_left c w)
keep-shows c w t f = record {
  goes = λ h. h;
  fit = λ h. subst (λ x. ColumnsFit x false (Some c)) (sym t) tt;
  hand = λ s. tt;
  shows = λ r h. within-same (shown w ++ prints c.nodes) (sent_prints w.sent ++ prints c.nodes) (ap (λ o. (sent_prints w.sent ++ left_prints o) ++ prints c.nodes) (no-left h) ∙ ap (λ l. l ++ prints c.nodes) (append-nil (sent_prints w.sent)));
  plain = λ s h. (h.0, s);
}
  where
    no-left : Fits w → w.state.left_column ≡ None
    no-left h = first-left w.state.two_columns w.state.left_column (subst (λ z. ColumnsFit w.state.two_columns z w.state.left_column) f h)

-- a pair of columns
pair-shows : (p : Params) (c : PlainColumn) (w d : Work) → w.state.two_columns ≡ true → w.state.first_column ≡ false → Shipped (pair_sheet p w.state.floats (Pages.left_or c w.state.left_column) c) w d → Shows (of_column c) w nothing (Pages.without_double d)
pair-shows p c w d t f x = record {
  goes = x.goes;
  fit = λ h. tt;
  hand = λ s. tt;
  shows = λ r h. subst (Within (shown w ++ prints c.nodes)) (all r) (inside (prints (floats_above places.Double p.dblfloatsep (pair_rule p w.state.floats) p.dbltextfloatsep w.state.floats.double)) (has-left w.state.left_column (fits h)));
  plain = λ s h. (x.plain (above-plain places.Double p.dblfloatsep (pair_rule p w.state.floats) p.dbltextfloatsep w.state.floats.double, left-plain s w.state.left_column h.1, s) h.0, tt);
}
  where
    fits : Fits w → ColumnsFit true false w.state.left_column
    fits fit = subst (λ z. ColumnsFit z false w.state.left_column) t (subst (λ z. ColumnsFit w.state.two_columns z w.state.left_column) f fit)

    has-left : (o : Option PlainColumn) → ColumnsFit true false o → left_prints o ≡ prints (Pages.left_or c o).nodes
    has-left None h = absurd h
    has-left (Some l) h = refl

    left-plain : AllPlain c.nodes → (o : Option PlainColumn) → LeftPlain o → AllPlain (Pages.left_or c o).nodes
    left-plain s None h = s
    left-plain s (Some l) h = h

    inside : (tops : List ℕ) → left_prints w.state.left_column ≡ prints (Pages.left_or c w.state.left_column).nodes → Within (shown w ++ prints c.nodes) ((sent_prints w.sent ++ (tops ++ prints (Pages.left_or c w.state.left_column).nodes ++ prints c.nodes)) ++ [])
    inside tops e =
        let left = left_prints w.state.left_column in
        let last = prints (Pages.left_or c w.state.left_column).nodes in
        let here = prints c.nodes in
        let a : Within left (tops ++ last) = subst (λ l. Within left (tops ++ l)) e (within-end tops left) in
        let b : Within (left ++ here) (tops ++ last ++ here) = both-within left (tops ++ last) here here a (itself here) in
        let d : Within (sent_prints w.sent ++ (left ++ here)) (sent_prints w.sent ++ (tops ++ last ++ here)) = both-within (sent_prints w.sent) (sent_prints w.sent) (left ++ here) (tops ++ last ++ here) (itself (sent_prints w.sent)) b in
        subst (Within (shown w ++ here)) (sym (append-nil (sent_prints w.sent ++ (tops ++ last ++ here)))) (subst (λ l. Within l (sent_prints w.sent ++ (tops ++ last ++ here))) (sym (append_assoc (sent_prints w.sent) left here)) d)

    all : d.refused ≡ false → (sent_prints w.sent ++ (prints (floats_above places.Double p.dblfloatsep (pair_rule p w.state.floats) p.dbltextfloatsep w.state.floats.double) ++ prints (Pages.left_or c w.state.left_column).nodes ++ prints c.nodes)) ++ [] ≡ shown (Pages.without_double d)
    all r = sym (ap (λ l. l ++ []) (page-more w.sent d.sent (x.sends_it r).0 (pair_sheet p w.state.floats (Pages.left_or c w.state.left_column) c) (x.sends_it r).1))

-- ---- each move

module _ (p : Params) where
  column-shows : {h : Hand} {a : Work} {i : Hand} {b : Work} → ColumnMove p h a i b → Shows h a i b
  column-shows (takes_company clearing cs w e) =
      let height = column_height_of p w.state.floats in
      let c = single_floats_column p height (chosen_floats cs) in
      alike nothing (of_column c) w _ refl refl refl (λ k. k) (λ k. floats-plain height p.fptop p.fpsep p.fpbot (chosen_floats cs)) (within-front (shown w) (prints c.nodes))
  column-shows (records_column c w) = records-shows (of_column c) (of_column c) (output c) w _ refl refl refl (λ k. k) (λ k. k) (itself (shown w ++ prints c.nodes))
  column-shows (ships_column c w t) = one-shows c w _ t (ship-shipped p (one c) w)
  column-shows (keeps_left c w t f) = keep-shows c w t f
  column-shows (ships_pair c w t f) = pair-shows p c w _ t f (ship-shipped p _ w)
  column-shows (ends_column w) = alike nothing nothing w _ refl refl refl (λ k. k) (λ k. k) (itself (shown w))
  column-shows (ships_wide clearing cs w e) =
      let x = ship-shipped p (wide (wide_floats_column p p.textheight (chosen_floats cs))) (with_floats (with_wide_waiting p (left_floats cs) w.state.floats) w) in
      page-shows (wide (wide_floats_column p p.textheight (chosen_floats cs))) w _ (floats-plain p.textheight p.dblfptop p.dblfpsep p.dblfpbot (chosen_floats cs)) (record { goes = x.goes; sends_it = x.sends_it; plain = x.plain; left = x.left; fit = x.fit })
  column-shows (places_double f before rest w two e i) = placed-shows p nothing places.Double f _ w (λ k. k) (itself (shown w))

  page-shown : {h : Hand} {a : Work} {i : Hand} {b : Work} → PageMove p h a i b → Shows h a i b
  page-shown (by_column m) = column-shows m
  page-shown (by_fill (places_next a f before rest w c e i)) = placed-shows p nothing (where_of a) f _ w (λ k. k) (itself (shown w))
  page-shown (takes_text body w) =
      let c = Columns.text_of p w.state body in
      alike (of_text body) (of_column c) w _ refl refl refl (λ k. k) (λ s. text-plain p w.state.floats body (standing_notes (footnotes w.state)) (enlarged_of w.state.shrink (footnotes w.state)) s) (within-front (shown w) (prints c.nodes))
  page-shown (drops_notes body w e) = alike (of_text body) (of_text body) w _ refl refl refl (λ k. k) (λ k. k) (itself (shown w))
  page-shown (fills_text body w) = alike (of_text body) (of_text _) w w refl refl refl (λ k. k) (λ s. plain-both body (made (skip filling_glue) ∷ []) s (tt, tt)) (itself (shown w))
  page-shown {h = h} {a = a} {i = i} {b = b} m = alike h i a b refl refl refl (λ k. k) (λ k. tt) (itself (shown a))

  text-shows : {h : Hand} {a : Work} {i : Hand} {b : Work} → TextMove p h a i b → Shows h a i b
  text-shows (places_current place f es height w c e i) = placed-shows p nothing place f _ w (λ k. k) (itself (shown w))
  text-shows (defers_current t f es w e i) = placed-shows p nothing places.Deferred _ _ w (λ k. k) (itself (shown w))
  text-shows (takes_float f es w e) = placed-shows p (of_float f) places.Here f _ w (λ k. k) (itself (shown w))
  text-shows (puts_penalty nobreak h w) = alike h h w _ refl refl refl (λ k. k) (λ k. k) (itself (beside h (shown w)))
  text-shows (warns h e w) = warns-shows h e w
  text-shows {h = h} {a = a} {i = i} {b = b} m = alike h i a b refl refl refl (λ k. k) (λ k. tt) (itself (shown a))

  firing-shows : {h : Hand} {a : Work} {i : Hand} {b : Work} → Move p h a i b → Shows h a i b
  firing-shows (by_page m) = page-shown m
  firing-shows (by_text m) = text-shows m
  firing-shows {h = h} {a = a} {i = i} {b = b} m = alike h i a b refl refl refl (λ k. k) (λ k. tt) (itself (shown a))

  -- ---- what the parts of a firing show

  -- with a column in hand
  columns-print : {c : PlainColumn} {a b : Work} → Moves (PageMove p) (of_column c) a nothing b → AllPlain c.nodes → Prints (prints c.nodes) a b
  columns-print {c} {a} {b} x s =
      let y : Shows (of_column c) a nothing b = goes-on Shows rests-shows then_shows (λ h i a b m. page-shown m) x in
      record { goes = y.goes; fit = y.fit; shows = y.shows; plain = λ k. y.plain s k }

  -- with no column in hand
  moves-print : {h : Hand} {a b : Work} → Moves (Move p) h a nothing b → ((l : List ℕ) → beside h l ≡ l) → HandPlain h → Prints [] a b
  moves-print {h} {a} {b} x e s =
      let y : Shows h a nothing b = goes-on Shows rests-shows then_shows (λ h i a b m. firing-shows m) x in
      record { goes = y.goes; fit = y.fit; shows = λ r k. subst (λ l. Within l (shown b)) (e (shown a) ∙ sym (append-nil (shown a))) (y.shows r k); plain = λ k. y.plain s k }

  pub ordinary-prints : (body : List PlainNode) (w : Work) → AllPlain body → Prints (prints body) w (Columns.ordinary p body w)
  ordinary-prints body w s =
      let c = Columns.text_of p w.state body in
      let x = columns-print (ordinary-columns p body w) (text-plain p w.state.floats body (standing_notes (footnotes w.state)) (enlarged_of w.state.shrink (footnotes w.state)) s) in
      fewer (prints body) (prints c.nodes) w (Columns.ordinary p body w) (text-prints p w.state.floats body (standing_notes (footnotes w.state)) (enlarged_of w.state.shrink (footnotes w.state))) (record { goes = x.goes; fit = x.fit; shows = x.shows; plain = x.plain })

  pub clear_by-prints : (body : List PlainNode) (w : Work) (o : List Notes) → standing_notes (footnotes w.state) ≡ o → AllPlain body → Prints [] w (Clear.clear_by p body w o)
  clear_by-prints body w o e s = moves-print (widen (λ h i a b m. by_page m) (clear_by-moves p body w o e)) (λ l. refl) s

  pub float_or_note-prints : (vert : Bool) (body : List PlainNode) (w : Work) → AllPlain body → Prints [] w (Text.float_or_note p vert body w)
  float_or_note-prints vert body w s = moves-print (widen (λ h i a b m. by_text m) (float_or_note-moves p vert body w)) (λ l. refl) s

  pub goal-prints : (n : ℤ) (w : Work) → Prints [] w (Output.next_goal p n w)
  goal-prints n w = moves-print (goal-moves p n w) (λ l. refl) tt
