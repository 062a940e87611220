-- What putting out a column leads to: a page, or the first of two columns that is kept.
use Rattle.std.proofs.Common.{◌≡◌, refl, sym, ◌∙◌, ap, subst, ℕ, zero, suc, ◌+◌, ◌≤◌, inl, inr, ◌⊎◌, Bool, true, false, List, [], ◌∷◌, ◌++◌, length, Option, Some, None, arith}
use Rattle.std.specs.Prelude.{not, if◌then◌else◌}
use Rattle.tb_node.specs.declared.Float.{Float}
use Rattle.tb_node.specs.declared.Where.{Where}
use Rattle.tb_node.specs.declared.Where.TheVariants as places
use Rattle.tb_node.specs.PlainNodes.{PlainNode}
use Rattle.tb_param.specs.declared.Params.{Params}
use Rattle.tb_float.specs.declared.Part.{Part}
use Rattle.tb_float.specs.Lists.{FloatLists, with_floats_of, wide_part, wide_waiting, with_wide_waiting}
use Rattle.tb_float.specs.Rooms.{column_height_of}
use Rattle.tb_fpage.specs.declared.Wanted.{Wanted}
use Rattle.tb_fpage.specs.Company.{Choice, company, chosen_floats, left_floats}
use Rattle.tb_area.specs.Area
use Rattle.tb_column.specs.Column.{PlainColumn, single_floats_column}
use Rattle.tb_sheet.specs.Sheet.{PlainSheet, one, pair_sheet}
use Rattle.tb_output.specs.State.{State, Work, Recorded, placed, output, records_also, with_floats}
use Rattle.tb_output.specs.FloatMoves
use Rattle.tb_output.specs.Pages
use Rattle.tb_output.specs.Columns
use Rattle.tb_output.proofs.StepLaws.RefusedSteps.{by-records, by-any-ship, by-ship}
use Rattle.tb_output.proofs.StepLaws.FollowLemmas.{waiting_floats, AllWait, Follows, follows-then, follows-undoubled, follows-next, follows-put_out, follows-company, follows-float_columns, follows-pair_rest}
use Rattle.tb_output.proofs.StepLaws.Moves.{Hand, FillMove, places_next, goes-on}
use Rattle.tb_output.proofs.StepLaws.FiringTree.{fill_column-moves}

-- ---- a page that is shipped

pub ship-cycles : (p : Params) (sheet : PlainSheet) (w : Work) → (Pages.ship p sheet w).refused ≡ false → (Pages.ship p sheet w).state.dead_cycles ≡ 0
ship-cycles p sheet w =
    by-ship (λ v. v.refused ≡ false → v.state.dead_cycles ≡ 0) p sheet w (λ r h. let no : ⊥ = grind (arith, r, h) in absurd no) (λ r h. let no : ⊥ = grind (arith, h) in absurd no) (λ r e h. refl)

pub ship-lists : (p : Params) (sheet : PlainSheet) (w : Work) → ((Pages.ship p sheet w).state.floats ≡ w.state.floats) × ((Pages.ship p sheet w).state.first_column ≡ w.state.first_column)
ship-lists p sheet w = by-any-ship (λ v. (v.state.floats ≡ w.state.floats) × (v.state.first_column ≡ w.state.first_column)) p sheet w (refl, refl) (refl, refl) (refl, refl)

pub stays-zero : (a b : ℕ) → a ≡ 0 → (b ≡ a) ⊎ (b ≡ 0) → b ≡ 0
stays-zero a b h (inl e) = e ∙ h
stays-zero a b h (inr e) = e

-- ---- the column that is made next stays the same one

abbrev pub SameColumn : Work → Work → Type 0
SameColumn a b = b.state.first_column ≡ a.state.first_column

records-column : (r : Recorded) (w : Work) → ((records_also r w).state ≡ w.state) × ((records_also r w).refused ≡ w.refused)
records-column r w = by-records (λ v. (v.state ≡ w.state) × (v.refused ≡ w.refused)) r w (refl, refl) (refl, refl)

placed-column : (p : Params) (place : Where) (f : Float) (left : FloatLists) (w : Work) → SameColumn w (FloatMoves.place_float p place f left w)
placed-column p place f left w = by_record (FloatMoves.is_placed place)
  where
    r : Recorded
    r = placed p f place w.state.floats (column_height_of p w.state.floats)

    by_record : (t : Bool) → SameColumn w (with_floats (FloatMoves.joined_to place f left) (if t then records_also r w else w))
    by_record true = ap (λ s. s.first_column) (records-column r w).0
    by_record false = refl

waiting-column : (from : Part) (p : Params) (place : Where) (f : Float) (before rest : List Float) (w : Work) → SameColumn w (FloatMoves.place_waiting from p place f before rest w)
waiting-column from p place f before rest w = by_place (FloatMoves.is_placed place)
  where
    by_place : (t : Bool) → SameColumn w (if t then FloatMoves.place_float p place f (with_floats_of from (before ++ rest) w.state.floats) w else w)
    by_place true = placed-column p place f (with_floats_of from (before ++ rest) w.state.floats) w
    by_place false = refl

double-column : (from : Part) (p : Params) (before fs : List Float) (w : Work) → SameColumn w (FloatMoves.place_double from p before fs w)
double-column from p before [] w = refl
double-column from p before (f ∷ rest) w =
    let place = Area.double_place p w.state.floats w.state.suppress before f in
    let w' = FloatMoves.place_waiting from p place f before rest w in
    double-column from p (FloatMoves.still_deferred place f before) rest w' ∙ waiting-column from p place f before rest w

wide_by-column : (p : Params) (again : Work → Work) → ((w : Work) → SameColumn w (again w)) → (w : Work) (o : Option (List Choice)) → SameColumn w (Pages.wide_pages_by again p w o)
wide_by-column p again h w None = refl
wide_by-column p again h w (Some cs) = h (Pages.ship_wide p cs w) ∙ (ship-lists p _ (with_floats (with_wide_waiting p (left_floats cs) w.state.floats) w)).1

pub wide-column : (p : Params) (clearing : Bool) (n : ℕ) (w : Work) → SameColumn w (Pages.wide_pages p clearing n w)
wide-column p clearing zero w = refl
wide-column p clearing (suc n) w = wide_by-column p (λ w'. Pages.wide_pages p clearing n w') (λ w'. wide-column p clearing n w') w (company (Pages.wide_wanted p clearing) (wide_waiting p w.state.floats))

-- ---- floats of the next column leave the double ones alone

abbrev pub NotDouble : Where → Type 0
NotDouble places.Here = Unit {0}
NotDouble places.Top = Unit {0}
NotDouble places.Bottom = Unit {0}
NotDouble places.Page = Unit {0}
NotDouble places.Double = ⊥
NotDouble places.Deferred = Unit {0}

pub area-single : (a : Area.AreaPlace) → NotDouble (Area.where_of a)
area-single Area.at_top = tt
area-single Area.at_bottom = tt
area-single Area.deferred = tt

pub joined-single : (place : Where) (f : Float) (l : FloatLists) → NotDouble place → (FloatMoves.joined_to place f l).double ≡ l.double
joined-single places.Double f l h = absurd h
joined-single place f l h = refl

-- ---- what filling a column leaves as it is

record FillKeeps (a b : Work) : Type 0 where
  column : SameColumn a b
  double : b.state.floats.double ≡ a.state.floats.double
  cycles : b.state.dead_cycles ≡ a.state.dead_cycles

fill-keeps : {p : Params} {h : Hand} {a : Work} {i : Hand} {b : Work} → FillMove p h a i b → FillKeeps a b
fill-keeps {p} (places_next a f before rest w c e i) = by_record (FloatMoves.is_placed (Area.where_of a))
  where
    l : FloatLists
    l = record w.state.floats { deferred = before ++ rest }

    r : Recorded
    r = placed p f (Area.where_of a) w.state.floats (column_height_of p w.state.floats)

    by_record : (t : Bool) → FillKeeps w (with_floats (FloatMoves.joined_to (Area.where_of a) f l) (if t then records_also r w else w))
    by_record true = let k = (records-column r w).0 in record { column = ap (λ s. s.first_column) k; double = joined-single (Area.where_of a) f l (area-single a); cycles = ap (λ s. s.dead_cycles) k }
    by_record false = record { column = refl; double = joined-single (Area.where_of a) f l (area-single a); cycles = refl }

filled-keeps : (p : Params) (w : Work) → FillKeeps w (Columns.fill_column p w)
filled-keeps p w = goes-on (λ h a i b. FillKeeps a b) (λ h w. record { column = refl; double = refl; cycles = refl }) (λ h i j a b c x y. record { column = y.column ∙ x.column; double = y.double ∙ x.double; cycles = y.cycles ∙ x.cycles }) (λ h i a b m. fill-keeps m) (fill_column-moves p w)

-- ---- a column is put out

-- the last column of a page ships it
abbrev pub IsLast : State → Type 0
IsLast s = (s.two_columns ≡ false) ⊎ (s.first_column ≡ false)

module _ (P : Float → Type 0) (p : Params) where
  pair-cycles : (c : PlainColumn) (w : Work) → w.state.two_columns ≡ true → (Pages.ship_pair p c w).refused ≡ false → (Pages.ship_pair p c w).state.dead_cycles ≡ 0
  pair-cycles c w t h =
      let a = Pages.ship p (pair_sheet p w.state.floats (Pages.left_or c w.state.left_column) c) w in
      let x : Follows P (Pages.without_double (Pages.ship p (pair_sheet p w.state.floats (Pages.left_or c w.state.left_column) c) w)) (Pages.ship_pair p c w) = follows-pair_rest P p c w t in
      stays-zero a.state.dead_cycles (Pages.ship_pair p c w).state.dead_cycles (ship-cycles p _ w (x.goes h)) (x.cycles h)

  -- the double floats leave with the pair, and a first column begins
  pair-first : (c : PlainColumn) (w : Work) → w.state.two_columns ≡ true → ((Pages.ship_pair p c w).state.first_column ≡ true) × (waiting_floats (Pages.ship_pair p c w).state.floats + length w.state.floats.double ≤ waiting_floats w.state.floats)
  pair-first c w t =
      let a = Pages.ship p (pair_sheet p w.state.floats (Pages.left_or c w.state.left_column) c) w in
      let b = Pages.without_double a in
      let d = Pages.all_wide_pages p false b in
      let x : Follows P (Pages.without_double (Pages.ship p (pair_sheet p w.state.floats (Pages.left_or c w.state.left_column) c) w)) (Pages.ship_pair p c w) = follows-pair_rest P p c w t in
      let u : waiting_floats (Pages.without_double (Pages.ship p (pair_sheet p w.state.floats (Pages.left_or c w.state.left_column) c) w)).state.floats + length (Pages.ship p (pair_sheet p w.state.floats (Pages.left_or c w.state.left_column) c) w).state.floats.double ≤ waiting_floats (Pages.ship p (pair_sheet p w.state.floats (Pages.left_or c w.state.left_column) c) w).state.floats = (follows-undoubled P a).1 in
      let l = (ship-lists p (pair_sheet p w.state.floats (Pages.left_or c w.state.left_column) c) w).0 in (
        double-column (wide_part p) p [] (wide_waiting p d.state.floats) d ∙ wide-column p false (length (wide_waiting p b.state.floats)) b,
        sums (waiting_floats w.state.floats) (waiting_floats a.state.floats) (waiting_floats b.state.floats) (waiting_floats (Pages.ship_pair p c w).state.floats) (length w.state.floats.double) (length a.state.floats.double) (ap waiting_floats l) (ap (λ k. length k.double) l) u x.floats,
      )
    where
      sums : (w a b r d e : ℕ) → a ≡ w → e ≡ d → b + e ≤ a → r ≤ b → r + d ≤ w
      sums w a b r d e h i j k = omega arith

  by-cycles : (c : PlainColumn) (a : Work) → IsLast a.state → (Pages.put_out_by p c a).refused ≡ false → (Pages.put_out_by p c a).state.dead_cycles ≡ 0
  by-cycles c a l = by_columns a.state.two_columns a.state.first_column refl l
    where
      by_columns : (t f : Bool) → a.state.two_columns ≡ t → (t ≡ false) ⊎ (f ≡ false) → (if not t then Pages.ship p (one c) a else (if f then Pages.keep_left c a else Pages.ship_pair p c a)).refused ≡ false → (if not t then Pages.ship p (one c) a else (if f then Pages.keep_left c a else Pages.ship_pair p c a)).state.dead_cycles ≡ 0
      by_columns false f t l h = ship-cycles p (one c) a h
      by_columns true false t l h = pair-cycles c a t h
      by_columns true true t (inl e) h = let no : ⊥ = grind (arith, e) in absurd no
      by_columns true true t (inr e) h = let no : ⊥ = grind (arith, e) in absurd no

  pub last-ships : (c : PlainColumn) (w : Work) → IsLast w.state → (Pages.put_out p c w).refused ≡ false → (Pages.put_out p c w).state.dead_cycles ≡ 0
  last-ships c w l h = by-cycles c (records_also (output c) w) (subst IsLast (sym (records-column (output c) w).0) l) h

  -- the first of two columns is kept
  pub record IsKept (w b : Work) : Type 0 where
    pub first : b.state.first_column ≡ false
    pub floats : b.state.floats ≡ w.state.floats
    pub cycles : b.state.dead_cycles ≡ w.state.dead_cycles

  by-kept : (c : PlainColumn) (a : Work) → a.state.two_columns ≡ true → a.state.first_column ≡ true → IsKept a (Pages.put_out_by p c a)
  by-kept c a t f = by_columns a.state.two_columns a.state.first_column t f
    where
      by_columns : (x y : Bool) → x ≡ true → y ≡ true → IsKept a (if not x then Pages.ship p (one c) a else (if y then Pages.keep_left c a else Pages.ship_pair p c a))
      by_columns false y h k = let no : ⊥ = grind (arith, h) in absurd no
      by_columns true false h k = let no : ⊥ = grind (arith, k) in absurd no
      by_columns true true h k = record { first = refl; floats = refl; cycles = refl }

  pub first-kept : (c : PlainColumn) (w : Work) → w.state.two_columns ≡ true → w.state.first_column ≡ true → IsKept w (Pages.put_out p c w)
  first-kept c w t f =
      let e = (records-column (output c) w).0 in
      let k = by-kept c (records_also (output c) w) (ap (λ s. s.two_columns) e ∙ t) (ap (λ s. s.first_column) e ∙ f) in
      record { first = k.first; floats = k.floats ∙ ap (λ s. s.floats) e; cycles = k.cycles ∙ ap (λ s. s.dead_cycles) e }

  -- the second takes the double floats with it, and a first column begins
  pub record IsPaired (w b : Work) : Type 0 where
    pub first : b.state.first_column ≡ true
    pub floats : waiting_floats b.state.floats + length w.state.floats.double ≤ waiting_floats w.state.floats

  by-paired : (c : PlainColumn) (a : Work) → a.state.two_columns ≡ true → a.state.first_column ≡ false → IsPaired a (Pages.put_out_by p c a)
  by-paired c a t f = by_columns a.state.two_columns a.state.first_column t f
    where
      by_columns : (x y : Bool) → x ≡ true → y ≡ false → IsPaired a (if not x then Pages.ship p (one c) a else (if y then Pages.keep_left c a else Pages.ship_pair p c a))
      by_columns false y h k = let no : ⊥ = grind (arith, h) in absurd no
      by_columns true true h k = let no : ⊥ = grind (arith, k) in absurd no
      by_columns true false h k = record { first = (pair-first c a t).0; floats = (pair-first c a t).1 }

  pub second-pairs : (c : PlainColumn) (w : Work) → w.state.two_columns ≡ true → w.state.first_column ≡ false → IsPaired w (Pages.put_out p c w)
  second-pairs c w t f =
      let e = (records-column (output c) w).0 in
      let k = by-paired c (records_also (output c) w) (ap (λ s. s.two_columns) e ∙ t) (ap (λ s. s.first_column) e ∙ f) in
      record { first = k.first; floats = subst (λ (l : FloatLists). waiting_floats (Pages.put_out p c w).state.floats + length l.double ≤ waiting_floats l) (ap (λ s. s.floats) e) k.floats }

  -- ---- columns of floats

  -- none is made, or one and those after it
  abbrev pub Columned : Bool → Work → Work → Type 0
  Columned clearing w r = (r ≡ w) ⊎ ((cs : List Choice) × (company (Columns.single_wanted p w.state.floats clearing) w.state.floats.deferred ≡ Some cs) × Follows P (Columns.put_out_company p cs w) r)

  columned-by : (clearing : Bool) (n : ℕ) (w : Work) (o : Option (List Choice)) → company (Columns.single_wanted p w.state.floats clearing) w.state.floats.deferred ≡ o → Columned clearing w (Columns.float_columns_by (λ w'. Columns.float_columns p clearing n w') p w o)
  columned-by clearing n w None e = inl refl
  columned-by clearing n w (Some cs) e = inr (cs, e, follows-float_columns P p clearing n (Columns.put_out_company p cs w))

  pub columned : (clearing : Bool) (n : ℕ) (w : Work) → Columned clearing w (Columns.float_columns p clearing n w)
  columned clearing zero w = inl refl
  columned clearing (suc n) w = columned-by clearing n w (company (Columns.single_wanted p w.state.floats clearing) w.state.floats.deferred) refl

  -- none is made, and there is no company; or one, and then none or one and those after it
  abbrev pub AllColumned : Bool → Work → Work → Type 0
  AllColumned clearing w r =
      ((company (Columns.single_wanted p w.state.floats clearing) w.state.floats.deferred ≡ None) × (r ≡ w))
      ⊎ ((cs : List Choice) × (company (Columns.single_wanted p w.state.floats clearing) w.state.floats.deferred ≡ Some cs) × Columned clearing (Columns.put_out_company p cs w) r)

  no-company : (z : Wanted) (fs : List Float) → length fs ≤ 0 → company z fs ≡ None
  no-company z [] h = refl
  no-company z (f ∷ fs) h = let no : ⊥ = omega arith in absurd no

  all-columned-by : (clearing : Bool) (n : ℕ) (w : Work) (o : Option (List Choice)) → company (Columns.single_wanted p w.state.floats clearing) w.state.floats.deferred ≡ o → AllColumned clearing w (Columns.float_columns_by (λ w'. Columns.float_columns p clearing n w') p w o)
  all-columned-by clearing n w None e = inl (e, refl)
  all-columned-by clearing n w (Some cs) e = inr (cs, e, columned clearing n (Columns.put_out_company p cs w))

  all-columned-in : (clearing : Bool) (n : ℕ) (w : Work) → length w.state.floats.deferred ≤ n → AllColumned clearing w (Columns.float_columns p clearing n w)
  all-columned-in clearing zero w h = inl (no-company (Columns.single_wanted p w.state.floats clearing) w.state.floats.deferred h, refl)
  all-columned-in clearing (suc n) w h = all-columned-by clearing n w (company (Columns.single_wanted p w.state.floats clearing) w.state.floats.deferred) refl

  pub all-columned : (clearing : Bool) (w : Work) → AllColumned clearing w (Columns.all_float_columns p clearing w)
  all-columned clearing w = all-columned-in clearing (length w.state.floats.deferred) w (omega arith)

  -- ---- an ordinary firing

  -- the text column takes the floats of its areas
  pub text-follows : (w : Work) → waiting_floats (Columns.without_column_floats w).state.floats + (length w.state.floats.top + length w.state.floats.bottom) ≡ waiting_floats w.state.floats
  text-follows w = omega arith

  -- the text column goes, with the floats of its areas
  taken-follows : (w : Work) → AllWait P w.state.floats → AllWait P (Columns.without_column_floats w).state.floats
  taken-follows w h = record { top = tt; bottom = tt; deferred = h.deferred; double = h.double; second = h.second }

  -- after an ordinary firing of a page's last column the page is out, and if no column of floats came, a first column begins without the floats of the areas
  pub record LastOut (w b : Work) : Type 0 where
    pub goes : b.refused ≡ false → w.refused ≡ false
    pub cycles : b.refused ≡ false → b.state.dead_cycles ≡ 0
    pub fewer : (waiting_floats b.state.floats + 1 ≤ waiting_floats w.state.floats) ⊎ ((w.state.two_columns ≡ true → b.state.first_column ≡ true) × (waiting_floats b.state.floats + (length w.state.floats.top + length w.state.floats.bottom) ≤ waiting_floats w.state.floats) × (w.state.two_columns ≡ true → waiting_floats b.state.floats + (length w.state.floats.top + length w.state.floats.bottom + length w.state.floats.double) ≤ waiting_floats w.state.floats))

  -- of the first of two columns: a page is out and a float went, or the column is kept and the double floats stay
  pub record FirstOut (w b : Work) : Type 0 where
    pub goes : b.refused ≡ false → w.refused ≡ false
    pub by : b.refused ≡ false → ((b.state.dead_cycles ≡ 0) × (waiting_floats b.state.floats + 1 ≤ waiting_floats w.state.floats)) ⊎ ((b.state.first_column ≡ false) × (b.state.floats.double ≡ w.state.floats.double) × (waiting_floats b.state.floats + (length w.state.floats.top + length w.state.floats.bottom) ≤ waiting_floats w.state.floats) × (b.state.dead_cycles ≡ w.state.dead_cycles))

  -- what both do to the rest of the work
  pub record TextOut (w b : Work) : Type 0 where
    pub columns : b.state.two_columns ≡ w.state.two_columns
    pub boxes : b.state.boxes ≡ Columns.emptied_boxes w.state.boxes
    pub back : b.put_back ≡ w.put_back
    pub current : b.state.floats.current ≡ w.state.floats.current
    pub floats : waiting_floats b.state.floats ≤ waiting_floats w.state.floats
    pub all : AllWait P w.state.floats → AllWait P b.state.floats

  pub text-out : (body : List PlainNode) (w b : Work) → Follows P (Columns.put_out_text p body w) b → TextOut w b
  text-out body w b y =
      let v = Columns.without_column_floats w in
      let x : Follows P (Columns.without_column_floats w) (Columns.put_out_text p body w) = follows-put_out P p (Columns.text_of p w.state body) v in
      let z : Follows P (Columns.without_column_floats w) b = follows-then P v (Columns.put_out_text p body w) b x y in
      let e : waiting_floats (Columns.without_column_floats w).state.floats + (length w.state.floats.top + length w.state.floats.bottom) ≡ waiting_floats w.state.floats = text-follows w in
      record {
        columns = z.columns;
        boxes = z.boxes;
        back = z.back;
        current = z.current;
        floats = sums (waiting_floats w.state.floats) (waiting_floats v.state.floats) (waiting_floats b.state.floats) (length w.state.floats.top + length w.state.floats.bottom) e z.floats;
        all = λ h. z.all (taken-follows w h);
      }
    where
      sums : (w v b n : ℕ) → v + n ≡ w → b ≤ v → b ≤ w
      sums w v b n h k = omega arith

  ordinary-rest : (body : List PlainNode) (w : Work) → Follows P (Columns.put_out_text p body w) (Columns.ordinary p body w)
  ordinary-rest body w =
      let a = Columns.put_out_text p body w in
      let b = Columns.all_float_columns p false a in
      follows-then P a b (Columns.ordinary p body w) (follows-float_columns P p false (length a.state.floats.deferred) a) (follows-next P p [] b.state.floats.deferred b refl)

  pub ordinary-out : (body : List PlainNode) (w : Work) → TextOut w (Columns.ordinary p body w)
  ordinary-out body w = text-out body w (Columns.ordinary p body w) (ordinary-rest body w)

  counted : (w v a b n : ℕ) → v + n ≡ w → a ≤ v → b ≤ a → b + n ≤ w
  counted w v a b n h k i = omega arith

  counted-more : (w v a b n d : ℕ) → v + n ≡ w → a + d ≤ v → b ≤ a → b + (n + d) ≤ w
  counted-more w v a b n d h k i = omega arith

  counted-less : (w v a b c n : ℕ) → v + n ≡ w → a ≤ v → b + 1 ≤ a → c ≤ b → c + 1 ≤ w
  counted-less w v a b c n h k i j = omega arith

  -- the steps of an ordinary firing
  module _ (body : List PlainNode) (w : Work) where
    -- the floats of the areas are taken away
    abbrev bare : Work
    bare = Columns.without_column_floats w

    abbrev text : PlainColumn
    text = Columns.text_of p w.state body

    -- the text column with them is out
    abbrev out : Work
    out = Columns.put_out_text p body w

    -- columns of floats are out
    abbrev columns_out : Work
    columns_out = Columns.all_float_columns p false out

    -- floats are placed for the next column
    abbrev fired : Work
    fired = Columns.ordinary p body w

    -- how many floats the areas held
    abbrev areas : ℕ
    areas = length w.state.floats.top + length w.state.floats.bottom

    -- what follows what
    goes-out : Follows P bare out
    goes-out = follows-put_out P p text bare

    rest-goes : Follows P out fired
    rest-goes = ordinary-rest body w

    floats-placed : Follows P columns_out fired
    floats-placed = follows-next P p [] columns_out.state.floats.deferred columns_out refl

    firing-goes : fired.refused ≡ false → w.refused ≡ false
    firing-goes h = goes-out.goes (rest-goes.goes h)

    -- the floats of the areas no longer wait
    areas-go : waiting_floats fired.state.floats + areas ≤ waiting_floats w.state.floats
    areas-go = counted (waiting_floats w.state.floats) (waiting_floats bare.state.floats) (waiting_floats out.state.floats) (waiting_floats fired.state.floats) areas (text-follows w) goes-out.floats rest-goes.floats

    -- nor does one more, if a column of floats came
    one-goes : (cs : List Choice) → company (Columns.single_wanted p out.state.floats false) out.state.floats.deferred ≡ Some cs → Follows P (Columns.put_out_company p cs out) columns_out → waiting_floats fired.state.floats + 1 ≤ waiting_floats w.state.floats
    one-goes cs is g = counted-less (waiting_floats w.state.floats) (waiting_floats bare.state.floats) (waiting_floats out.state.floats) (waiting_floats (Columns.put_out_company p cs out).state.floats) (waiting_floats fired.state.floats) areas (text-follows w) goes-out.floats (follows-company P p false out cs is).1 (follows-then P (Columns.put_out_company p cs out) columns_out fired g floats-placed).floats

    -- without such a column the next one is that after the text
    same-column : columns_out ≡ out → fired.state.first_column ≡ out.state.first_column
    same-column h = (filled-keeps p columns_out).column ∙ ap (λ (z : Work). z.state.first_column) h

    pub last-out : IsLast w.state → LastOut w fired
    last-out l =
        record {
          goes = firing-goes;
          cycles = λ h. stays-zero out.state.dead_cycles fired.state.dead_cycles (last-ships text bare l (rest-goes.goes h)) (rest-goes.cycles h);
          fewer = by_columns (columned false (length out.state.floats.deferred) out);
        }
      where
        second : w.state.two_columns ≡ true → w.state.first_column ≡ false
        second t = by_last l
          where
            by_last : IsLast w.state → w.state.first_column ≡ false
            by_last (inl k) = let no : ⊥ = grind (arith, k, t) in absurd no
            by_last (inr k) = k

        with_double : w.state.two_columns ≡ true → waiting_floats fired.state.floats + (areas + length w.state.floats.double) ≤ waiting_floats w.state.floats
        with_double t = counted-more (waiting_floats w.state.floats) (waiting_floats bare.state.floats) (waiting_floats out.state.floats) (waiting_floats fired.state.floats) areas (length w.state.floats.double) (text-follows w) (second-pairs text bare t (second t)).floats rest-goes.floats

        by_columns : Columned false out columns_out → (waiting_floats fired.state.floats + 1 ≤ waiting_floats w.state.floats) ⊎ ((w.state.two_columns ≡ true → fired.state.first_column ≡ true) × (waiting_floats fired.state.floats + areas ≤ waiting_floats w.state.floats) × (w.state.two_columns ≡ true → waiting_floats fired.state.floats + (areas + length w.state.floats.double) ≤ waiting_floats w.state.floats))
        by_columns (inl h) = inr (λ t. same-column h ∙ (second-pairs text bare t (second t)).first, areas-go, with_double)
        by_columns (inr h) = inl (one-goes h.0 h.1 h.2)

    pub first-out : w.state.two_columns ≡ true → w.state.first_column ≡ true → FirstOut w fired
    first-out t f = record { goes = firing-goes; by = λ h. by_columns h (columned false (length out.state.floats.deferred) out) }
      where
        k : IsKept bare out
        k = first-kept text bare t f

        ships : (cs : List Choice) → Follows P (Columns.put_out_company p cs out) columns_out → fired.refused ≡ false → fired.state.dead_cycles ≡ 0
        ships cs g h =
            let z : Follows P (Columns.put_out_company p cs out) fired = follows-then P (Columns.put_out_company p cs out) columns_out fired g floats-placed in
            stays-zero (Columns.put_out_company p cs out).state.dead_cycles fired.state.dead_cycles (last-ships (single_floats_column p (column_height_of p out.state.floats) (chosen_floats cs)) (Pages.with_deferred (left_floats cs) out) (inr k.first) (z.goes h)) (z.cycles h)

        by_columns : fired.refused ≡ false → Columned false out columns_out → ((fired.state.dead_cycles ≡ 0) × (waiting_floats fired.state.floats + 1 ≤ waiting_floats w.state.floats)) ⊎ ((fired.state.first_column ≡ false) × (fired.state.floats.double ≡ w.state.floats.double) × (waiting_floats fired.state.floats + areas ≤ waiting_floats w.state.floats) × (fired.state.dead_cycles ≡ w.state.dead_cycles))
        by_columns r (inl h) = inr (
          same-column h ∙ k.first,
          (filled-keeps p columns_out).double ∙ ap (λ (z : Work). z.state.floats.double) h ∙ ap (λ (l : FloatLists). l.double) k.floats,
          areas-go,
          (filled-keeps p columns_out).cycles ∙ ap (λ (z : Work). z.state.dead_cycles) h ∙ k.cycles,
        )
        by_columns r (inr h) = inl (ships h.0 h.2 r, one-goes h.0 h.1 h.2)
