-- What a clear without footnotes leads to: empty lists, a page, or a blank second column and a further clear.
use Rattle.std.proofs.Common.{◌≡◌, refl, sym, ◌∙◌, ap, subst, ℕ, zero, suc, ℤ, ◌+◌, ◌≤◌, inl, inr, ◌⊎◌, Bool, true, false, List, [], ◌∷◌, ◌++◌, length, Option, Some, None, length-append, arith}
use Rattle.std.specs.Prelude.{int_le, not, ◌&&◌, ◌||◌, if◌then◌else◌}
use Rattle.std.specs.Bool.{beq}
use Rattle.std.specs.List.{AllByRecursion}
use Rattle.std.proofs.lemmas.Int.{ints}
use Rattle.std.proofs.lemmas.Bool.{or_from, both_ways}
use Rattle.tb_break.proofs.EachLemmas.{all-join}
use Rattle.tb_node.specs.declared.Float.{Float}
use Rattle.tb_node.specs.PlainNodes.{PlainNode, made, blank_box}
use Rattle.tb_param.specs.declared.Params.{Params}
use Rattle.tb_param.specs.Release.{has_second}
use Rattle.tb_float.specs.declared.Part.{Part}
use Rattle.tb_float.specs.declared.Part.TheVariants as parts
use Rattle.tb_float.specs.Lists.{FloatLists, floats_of, IsWaiting, wide_part, wide_waiting, with_wide_waiting}
use Rattle.tb_float.specs.Rooms.{column_height_of}
use Rattle.tb_float.proofs.WaitingLemmas.{wide-waits}
use Rattle.tb_fpage.specs.Company.{Choice, suits, company, chosen_floats, left_floats}
use Rattle.tb_fpage.proofs.FirstLemmas.{none-suits}
use Rattle.tb_sheet.specs.Sheet.{wide}
use Rattle.tb_column.specs.Column.{wide_floats_column}
use Rattle.tb_output.specs.State.{State, Work, puts, with_floats, has_floats}
use Rattle.tb_output.specs.Pages
use Rattle.tb_output.specs.Columns
use Rattle.tb_output.specs.Clear
use Rattle.tb_output.proofs.StepLaws.FollowLemmas.{waiting_floats, AllWait, Follows, follows-same, follows-then, follows-wide_pages, follows-float_columns, part-count, part-current, part-all, all-part}
use Rattle.tb_laws.proofs.DeadCycles.ColumnOutcomes.{ship-cycles, stays-zero}

-- no float waits
pub record NoneWait (l : FloatLists) : Type 0 where
  pub top : l.top ≡ []
  pub bottom : l.bottom ≡ []
  pub deferred : l.deferred ≡ []
  pub double : l.double ≡ []
  pub second : l.second ≡ []

no-length : (fs : List Float) → length fs ≤ 0 → fs ≡ []
no-length [] h = refl
no-length (f ∷ fs) h = let no : ⊥ = omega arith in absurd no

-- none, if there are at most 0
pub none-left : (l : FloatLists) → waiting_floats l ≤ 0 → NoneWait l
none-left l h = record { top = no-length l.top (omega arith); bottom = no-length l.bottom (omega arith); deferred = no-length l.deferred (omega arith); double = no-length l.double (omega arith); second = no-length l.second (omega arith) }

-- no float is higher than a page
abbrev pub Fits : Params → Float → Type 0
Fits p f = int_le f.height p.textheight ≡ true

abbrev pub Single : Float → Type 0
Single f = f.wide ≡ false

abbrev pub Wide : Float → Type 0
Wide f = f.wide ≡ true

-- the floats that do not wait for a page of their own are single
pub record Narrow (l : FloatLists) : Type 0 where
  pub top : AllByRecursion Single l.top
  pub bottom : AllByRecursion Single l.bottom
  pub deferred : AllByRecursion Single l.deferred

-- what is known of the floats that wait: none is higher than a page, the double ones are wide, and in one column all are single and none is double; the second list has wide floats, the others then have single ones, and in release 2015 it is empty
pub record WaitsWell (p : Params) (s : State) : Type 0 where
  pub fit : AllWait (Fits p) s.floats
  pub wide : AllByRecursion Wide s.floats.double
  pub second : AllByRecursion Wide s.floats.second
  pub none : has_second p ≡ false → s.floats.second ≡ []
  pub narrow : has_second p ≡ true → Narrow s.floats
  pub single : s.two_columns ≡ false → AllWait Single s.floats × (s.floats.double ≡ [])

-- ---- what a clear puts back after its front

-- a blank second column, and a clear after it
abbrev pub halves : Bool → Work → Work
halves t w = if t then puts (made blank_box ∷ Clear.clear_again) w else w

-- a further clear
abbrev pub more : Bool → Work → Work
more t w = if t then puts Clear.clear_again w else w

-- the floats of the areas wait again, and the front is put back
abbrev pub gathered : Params → List PlainNode → Work → Work
gathered p body w = with_floats (Clear.deferred_again w.state.floats) (puts (Clear.cleared_front p body) w)

-- ---- if no company is made, nothing waits

pub append-none : {X : Type 0} (xs ys : List X) → xs ++ ys ≡ [] → (xs ≡ []) × (ys ≡ [])
append-none [] ys h = (refl, h)
append-none (x ∷ xs) ys h = cc

no-double : (p : Params) (l : FloatLists) → l.double ≡ [] → column_height_of p l ≡ p.textheight
no-double p l e = at l.double e
  where
    at : (fs : List Float) → fs ≡ [] → column_height_of p (record l { double = fs }) ≡ p.textheight
    at [] e = grind (arith, ints)
    at (f ∷ fs) e = cc

-- a single float, and a wide one, suit when floats are cleared
suits-single : (p : Params) (l : FloatLists) (f : Float) → l.double ≡ [] → Fits p f → Single f → suits (Columns.single_wanted p l true) f ≡ true
suits-single p l f d h s = by_tests f.places.p f.wide s (subst (λ (z : ℤ). int_le f.height z ≡ true) (sym (no-double p l d)) h)
  where
    by_tests : (a b : Bool) → b ≡ false → int_le f.height (column_height_of p l) ≡ true → ((a || true) && beq b false && int_le f.height (column_height_of p l)) ≡ true
    by_tests true false s h = h
    by_tests false false s h = h
    by_tests a true s h = let no : ⊥ = grind (arith, s) in absurd no

suits-wide : (p : Params) (f : Float) → Fits p f → Wide f → suits (Pages.wide_wanted p true) f ≡ true
suits-wide p f h s = by_tests f.places.p f.wide s h
  where
    by_tests : (a b : Bool) → b ≡ true → int_le f.height p.textheight ≡ true → ((a || true) && beq b true && int_le f.height p.textheight) ≡ true
    by_tests true true s h = h
    by_tests false true s h = h
    by_tests a false s h = let no : ⊥ = grind (arith, s) in absurd no

pub no-singles : (p : Params) (l : FloatLists) (fs : List Float) → l.double ≡ [] → AllByRecursion (Fits p) fs → AllByRecursion Single fs → company (Columns.single_wanted p l true) fs ≡ None → fs ≡ []
no-singles p l [] d h s e = refl
no-singles p l (f ∷ fs) d h s e = absurd (both_ways (suits (Columns.single_wanted p l true) f) (none-suits (Columns.single_wanted p l true) f fs refl e) (suits-single p l f d h.0 s.0))

no-mixed : (p : Params) (l : FloatLists) (fs : List Float) → AllByRecursion (Fits p) l.double → AllByRecursion Wide l.double → AllByRecursion (Fits p) fs → company (Columns.single_wanted p l true) fs ≡ None → company (Pages.wide_wanted p true) (l.double ++ fs) ≡ None → (l.double ≡ []) × (fs ≡ [])
no-mixed p l fs a b h e k = by_double l.double refl a b k
  where
    by_wide : (t : Bool) (f : Float) (gs : List Float) → f.wide ≡ t → l.double ≡ [] → Fits p f → company (Columns.single_wanted p l true) (f ∷ gs) ≡ None → company (Pages.wide_wanted p true) (f ∷ gs) ≡ None → ⊥
    by_wide false f gs w d x e k = both_ways (suits (Columns.single_wanted p l true) f) (none-suits (Columns.single_wanted p l true) f gs refl e) (suits-single p l f d x w)
    by_wide true f gs w d x e k = both_ways (suits (Pages.wide_wanted p true) f) (none-suits (Pages.wide_wanted p true) f gs refl k) (suits-wide p f x w)

    by_floats : (gs : List Float) → AllByRecursion (Fits p) gs → l.double ≡ [] → company (Columns.single_wanted p l true) gs ≡ None → company (Pages.wide_wanted p true) gs ≡ None → gs ≡ []
    by_floats [] h d e k = refl
    by_floats (f ∷ gs) h d e k = absurd (by_wide f.wide f gs refl d h.0 e k)

    by_double : (ds : List Float) → l.double ≡ ds → AllByRecursion (Fits p) ds → AllByRecursion Wide ds → company (Pages.wide_wanted p true) (ds ++ fs) ≡ None → (l.double ≡ []) × (fs ≡ [])
    by_double [] d a b k = (d, by_floats fs h d e k)
    by_double (f ∷ ds) d a b k = absurd (both_ways (suits (Pages.wide_wanted p true) f) (none-suits (Pages.wide_wanted p true) f (ds ++ fs) refl k) (suits-wide p f a.0 b.0))

no-wides : (p : Params) (fs : List Float) → AllByRecursion (Fits p) fs → AllByRecursion Wide fs → company (Pages.wide_wanted p true) fs ≡ None → fs ≡ []
no-wides p [] h s e = refl
no-wides p (f ∷ fs) h s e = absurd (both_ways (suits (Pages.wide_wanted p true) f) (none-suits (Pages.wide_wanted p true) f fs refl e) (suits-wide p f h.0 s.0))

-- no float is wide and single
pub no-both : (fs : List Float) → AllByRecursion Wide fs → AllByRecursion Single fs → fs ≡ []
no-both [] h k = refl
no-both (f ∷ fs) h k = absurd (both_ways f.wide k.0 h.0)

-- with no company of single floats and none of wide ones, nothing waits
pub no-floats : (p : Params) (l : FloatLists) → AllByRecursion (Fits p) l.double → AllByRecursion Wide l.double → AllByRecursion (Fits p) l.deferred → AllByRecursion (Fits p) l.second → AllByRecursion Wide l.second → (has_second p ≡ false → l.second ≡ []) → (has_second p ≡ true → AllByRecursion Single l.deferred) → company (Columns.single_wanted p l true) l.deferred ≡ None → company (Pages.wide_wanted p true) (l.double ++ wide_waiting p l) ≡ None → (l.double ≡ []) × (l.deferred ≡ []) × (l.second ≡ [])
no-floats p l a b h i j none narrow e k = by_release (has_second p) refl k
  where
    in_two : has_second p ≡ true → (l.double ≡ []) × (l.second ≡ []) → (l.double ≡ []) × (l.deferred ≡ []) × (l.second ≡ [])
    in_two r d = (d.0, no-singles p l l.deferred d.0 h (narrow r) e, d.1)

    in_one : has_second p ≡ false → (l.double ≡ []) × (l.deferred ≡ []) → (l.double ≡ []) × (l.deferred ≡ []) × (l.second ≡ [])
    in_one r d = (d.0, d.1, none r)

    by_release : (t : Bool) → has_second p ≡ t → company (Pages.wide_wanted p true) (l.double ++ floats_of (if t then parts.Second else parts.Deferred) l) ≡ None → (l.double ≡ []) × (l.deferred ≡ []) × (l.second ≡ [])
    by_release true r k = in_two r (append-none l.double l.second (no-wides p (l.double ++ l.second) (all-join (Fits p) l.double l.second a i) (all-join Wide l.double l.second b j) k))
    by_release false r k = in_one r (no-mixed p l l.deferred a b h e k)

-- the double floats are in no list of those that wait
undoubled : (from : Part) → IsWaiting from → (l : FloatLists) → floats_of from (record l { double = [] }) ≡ floats_of from l
undoubled parts.Deferred q l = refl
undoubled parts.Second q l = refl
undoubled from q l = absurd q

-- ---- steps that put something back

module _ (P : Float → Type 0) (p : Params) where
  follows-puts : (ns : List PlainNode) (a b : Work) → Follows P a b → Follows P (puts ns a) (puts ns b)
  follows-puts ns a b x = record { goes = x.goes; columns = x.columns; boxes = x.boxes; back = ap (λ l. l ++ ns) x.back; page = x.page; current = x.current; floats = x.floats; all = x.all; cycles = x.cycles }

  pub follows-halves : (t : Bool) (a b : Work) → Follows P a b → Follows P (halves t a) (halves t b)
  follows-halves true a b x = follows-puts (made blank_box ∷ Clear.clear_again) a b x
  follows-halves false a b x = x

  pub follows-more : (t : Bool) (a b : Work) → Follows P a b → Follows P (more t a) (more t b)
  follows-more true a b x = follows-puts Clear.clear_again a b x
  follows-more false a b x = x

  -- the floats of the areas wait again, as many as before
  pub gathered-all : (l : FloatLists) → AllWait P l → AllWait P (Clear.deferred_again l)
  gathered-all l h = record { top = tt; bottom = tt; deferred = all-join P (l.top ++ l.bottom) l.deferred (all-join P l.top l.bottom h.top h.bottom) h.deferred; double = h.double; second = h.second }

  abbrev undouble : FloatLists → FloatLists
  undouble l = record l { double = [] }

  double-all : (l : FloatLists) → AllWait P l → AllWait P (Clear.double_again p l)
  double-all l h = all-part P (wide_part p) (wide-waits p) (l.double ++ wide_waiting p l) (undouble l) (record { top = h.top; bottom = h.bottom; deferred = h.deferred; double = tt; second = h.second }) (all-join P l.double (wide_waiting p l) h.double (part-all P (wide_part p) (wide-waits p) l h))

  double-count : (l : FloatLists) → waiting_floats (Clear.double_again p l) ≤ waiting_floats l
  double-count l =
      let c : waiting_floats (Clear.double_again p l) + length (wide_waiting p (undouble l)) ≡ waiting_floats (undouble l) + length (l.double ++ wide_waiting p l) = part-count P (wide_part p) (wide-waits p) (l.double ++ wide_waiting p l) (undouble l) in
      let e : length (wide_waiting p (undouble l)) ≡ length (wide_waiting p l) = ap length (undoubled (wide_part p) (wide-waits p) l) in
      let h : length (l.double ++ wide_waiting p l) ≡ length l.double + length (wide_waiting p l) = length-append l.double (wide_waiting p l) in
      let i : waiting_floats (undouble l) + length l.double ≡ waiting_floats l = omega arith in
      sums (waiting_floats (Clear.double_again p l)) (length (wide_waiting p (undouble l))) (waiting_floats (undouble l)) (length (l.double ++ wide_waiting p l)) (length (wide_waiting p l)) (length l.double) (waiting_floats l) c e h i
    where
      sums : (x a u b c d y : ℕ) → x + a ≡ u + b → a ≡ c → b ≡ d + c → u + d ≡ y → x ≤ y
      sums x a u b c d y h k m n = omega arith

  pub double-follows : (a : Work) → Follows P a (with_floats (Clear.double_again p a.state.floats) a)
  double-follows a = record { goes = λ r. r; columns = refl; boxes = refl; back = refl; page = refl; current = part-current (wide_part p) (wide-waits p) (a.state.floats.double ++ wide_waiting p a.state.floats) (undouble a.state.floats); floats = double-count a.state.floats; all = λ h. double-all a.state.floats h; cycles = λ r. inl refl }

  -- ---- wide pages of a clear

  abbrev pub AllWidened : Work → Work → Type 0
  AllWidened w r =
      ((company (Pages.wide_wanted p true) (wide_waiting p w.state.floats) ≡ None) × (r ≡ w))
      ⊎ ((cs : List Choice) × (company (Pages.wide_wanted p true) (wide_waiting p w.state.floats) ≡ Some cs) × Follows P (Pages.ship_wide p cs w) r)

  no-wide : (fs : List Float) → length fs ≤ 0 → company (Pages.wide_wanted p true) fs ≡ None
  no-wide [] h = refl
  no-wide (f ∷ fs) h = let no : ⊥ = omega arith in absurd no

  all-widened-by : (n : ℕ) (w : Work) (o : Option (List Choice)) → company (Pages.wide_wanted p true) (wide_waiting p w.state.floats) ≡ o → AllWidened w (Pages.wide_pages_by (λ w'. Pages.wide_pages p true n w') p w o)
  all-widened-by n w None e = inl (e, refl)
  all-widened-by n w (Some cs) e = inr (cs, e, follows-wide_pages P p true n (Pages.ship_wide p cs w))

  all-widened-in : (n : ℕ) (w : Work) → length (wide_waiting p w.state.floats) ≤ n → AllWidened w (Pages.wide_pages p true n w)
  all-widened-in zero w h = inl (no-wide (wide_waiting p w.state.floats) h, refl)
  all-widened-in (suc n) w h = all-widened-by n w (company (Pages.wide_wanted p true) (wide_waiting p w.state.floats)) refl

  pub all-widened : (w : Work) → AllWidened w (Pages.all_wide_pages p true w)
  all-widened w = all-widened-in (length (wide_waiting p w.state.floats)) w (omega arith)

  pub wide-cycles : (cs : List Choice) (w : Work) → (Pages.ship_wide p cs w).refused ≡ false → (Pages.ship_wide p cs w).state.dead_cycles ≡ 0
  wide-cycles cs w h = ship-cycles p (wide (wide_floats_column p p.textheight (chosen_floats cs))) (with_floats (with_wide_waiting p (left_floats cs) w.state.floats) w) h

  -- ---- the end of a clear, after its columns of floats

  abbrev pub tail : Work → Work
  tail a = Clear.clear_rest (Clear.clear_wide p a)

  -- at a second column it leaves a blank column and a clear, and if floats are left a further clear
  pub record IsTail (a b : Work) : Type 0 where
    pub half : Bool
    pub rest : Bool
    pub follows : Follows P (more rest (halves half a)) b
    pub left : (has_floats b.state.floats.deferred || has_floats b.state.floats.second) ≡ rest
    pub second : half ≡ (a.state.two_columns && not a.state.first_column)
    pub kept : half ≡ true → b.state ≡ a.state

  rest-tail : (a c : Work) (t : Bool) → Follows P (halves t a) c → t ≡ (a.state.two_columns && not a.state.first_column) → (t ≡ true → c.state ≡ a.state) → IsTail a (Clear.clear_rest c)
  rest-tail a c t x s k = by_left (has_floats c.state.floats.deferred || has_floats c.state.floats.second) refl
    where
      by_left : (u : Bool) → (has_floats c.state.floats.deferred || has_floats c.state.floats.second) ≡ u → IsTail a (if u then puts Clear.clear_again c else c)
      by_left true e = record { half = t; rest = true; follows = follows-puts Clear.clear_again (halves t a) c x; left = e; second = s; kept = k }
      by_left false e = record { half = t; rest = false; follows = x; left = e; second = s; kept = k }

  not-half : (t f : Bool) (a : Work) → a.state.two_columns ≡ t → a.state.first_column ≡ f → (t && not f) ≡ false → false ≡ (a.state.two_columns && not a.state.first_column)
  not-half t f a h k e = grind (arith, h, k, e)

  is-half : (a : Work) → a.state.two_columns ≡ true → a.state.first_column ≡ false → true ≡ (a.state.two_columns && not a.state.first_column)
  is-half a h k = grind (arith, h, k)

  pub is-tail : (a : Work) → IsTail a (tail a)
  is-tail a = by_columns a.state.two_columns a.state.first_column refl refl
    where
      d : Work
      d = with_floats (Clear.double_again p a.state.floats) a

      no_half : (c : Work) → false ≡ true → c.state ≡ a.state
      no_half c h = cc

      by_columns : (t f : Bool) → a.state.two_columns ≡ t → a.state.first_column ≡ f → IsTail a (Clear.clear_rest (if not t then a else (if f then Pages.all_wide_pages p true d else puts (made blank_box ∷ Clear.clear_again) a)))
      by_columns false f t k = rest-tail a a false (follows-same P a) (not-half false f a t k refl) (λ h. refl)
      by_columns true true t k = rest-tail a (Pages.all_wide_pages p true d) false (follows-then P a d (Pages.all_wide_pages p true d) (double-follows a) (follows-wide_pages P p true (length (wide_waiting p d.state.floats)) d)) (not-half true true a t k refl) (no_half (Pages.all_wide_pages p true d))
      by_columns true false t k = rest-tail a (puts (made blank_box ∷ Clear.clear_again) a) true (follows-same P (puts (made blank_box ∷ Clear.clear_again) a)) (is-half a t k) (λ h. refl)

  -- what a clear without footnotes leads to
  abbrev pub How : Work → Work → Bool → Bool → Type 0
  How w b half rest =
      ((half ≡ false) × (rest ≡ false) × NoneWait b.state.floats × ((w.state.two_columns ≡ false) ⊎ (w.state.first_column ≡ true)))
      ⊎ (((half ≡ true) × (w.state.two_columns ≡ true) × (b.state.first_column ≡ false) × (b.state.floats.top ≡ []) × (b.state.floats.bottom ≡ []) × (b.state.floats.double ≡ w.state.floats.double) × (w.state.first_column ≡ true → waiting_floats b.state.floats + 1 ≤ waiting_floats w.state.floats))
      ⊎ ((b.refused ≡ false → b.state.dead_cycles ≡ 0) × (waiting_floats b.state.floats + 1 ≤ waiting_floats w.state.floats) × (half ≡ true → waiting_floats b.state.floats + 2 ≤ waiting_floats w.state.floats)))

  pub record ClearOut (body : List PlainNode) (w b : Work) : Type 0 where
    pub half : Bool
    pub rest : Bool
    pub follows : Follows P (more rest (halves half (gathered p body w))) b
    pub left : (has_floats b.state.floats.deferred || has_floats b.state.floats.second) ≡ rest
    pub how : How w b half rest

  -- ---- the cases

  pub gathered-count : (body : List PlainNode) (w : Work) → waiting_floats (gathered p body w).state.floats ≡ waiting_floats w.state.floats
  gathered-count body w =
      let h : length (w.state.floats.top ++ w.state.floats.bottom ++ w.state.floats.deferred) ≡ length (w.state.floats.top ++ w.state.floats.bottom) + length w.state.floats.deferred = length-append (w.state.floats.top ++ w.state.floats.bottom) w.state.floats.deferred in
      let k : length (w.state.floats.top ++ w.state.floats.bottom) ≡ length w.state.floats.top + length w.state.floats.bottom = length-append w.state.floats.top w.state.floats.bottom in
      omega arith

  pub halved-state : (t u : Bool) (a : Work) → (more t (halves u a)).state ≡ a.state
  halved-state true true a = refl
  halved-state true false a = refl
  halved-state false true a = refl
  halved-state false false a = refl

  pub halved-refused : (t u : Bool) (a : Work) → (more t (halves u a)).refused ≡ a.refused
  halved-refused true true a = refl
  halved-refused true false a = refl
  halved-refused false true a = refl
  halved-refused false false a = refl

  -- if the columns of floats shipped, so did the clear
  pub tail-cycles : (k a b : Work) (t : IsTail a b) → Follows P k a → (k.refused ≡ false → k.state.dead_cycles ≡ 0) → b.refused ≡ false → b.state.dead_cycles ≡ 0
  tail-cycles k a b t x h r =
      let q : a.refused ≡ false = sym (halved-refused t.rest t.half a) ∙ t.follows.goes r in
      let z : a.state.dead_cycles ≡ 0 = stays-zero k.state.dead_cycles a.state.dead_cycles (h (x.goes q)) (x.cycles q) in
      stays-zero (more t.rest (halves t.half a)).state.dead_cycles b.state.dead_cycles (ap (λ s. s.dead_cycles) (halved-state t.rest t.half a) ∙ z) (t.follows.cycles r)

  pub tail-floats : (a b : Work) (t : IsTail a b) → waiting_floats b.state.floats ≤ waiting_floats a.state.floats
  tail-floats a b t = subst (λ (s : State). waiting_floats b.state.floats ≤ waiting_floats s.floats) (halved-state t.rest t.half a) t.follows.floats

  pub nothing-rest : (a b : Work) (t : IsTail a b) → NoneWait b.state.floats → t.rest ≡ false
  nothing-rest a b t h = sym t.left ∙ or_from (has_floats b.state.floats.deferred) (has_floats b.state.floats.second) (ap has_floats h.deferred) (ap has_floats h.second)

  -- what holds of all floats that wait holds after a clear
  pub clear-all : (body : List PlainNode) (w : Work) → AllWait P w.state.floats → AllWait P (Clear.clear_floats p body w).state.floats
  clear-all body w h =
      let c = gathered p body w in
      let d = Columns.all_float_columns p true c in
      let t = is-tail d in
      t.follows.all (subst (λ (s : State). AllWait P s.floats) (sym (halved-state t.rest t.half d)) ((follows-float_columns P p true (length c.state.floats.deferred) c).all (gathered-all w.state.floats h)))
