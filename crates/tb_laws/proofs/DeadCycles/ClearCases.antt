-- What a clear without footnotes leads to, in one column, at a second column and at a first one.
use Rattle.std.proofs.Common.{◌≡◌, refl, sym, ◌∙◌, ap, subst, ℕ, ◌+◌, ◌≤◌, inl, inr, ◌⊎◌, Bool, true, false, List, [], ◌∷◌, ◌++◌, length, Some, None, arith}
use Rattle.std.specs.Prelude.{not, ◌&&◌, ◌||◌, if◌then◌else◌}
use Rattle.std.specs.List.{AllByRecursion}
use Rattle.std.proofs.lemmas.Bool.{and_left, both_ways}
use Rattle.tb_break.proofs.EachLemmas.{all-join}
use Rattle.tb_node.specs.declared.Float.{Float}
use Rattle.tb_node.specs.PlainNodes.{PlainNode, made, blank_box}
use Rattle.tb_param.specs.declared.Params.{Params}
use Rattle.tb_float.specs.Lists.{wide_part, wide_waiting}
use Rattle.tb_float.specs.Rooms.{column_height_of}
use Rattle.tb_float.proofs.WaitingLemmas.{floats-with, wide-waits}
use Rattle.tb_fpage.specs.Company.{Choice, company, chosen_floats, left_floats}
use Rattle.tb_column.specs.Column.{single_floats_column}
use Rattle.tb_output.specs.State.{State, Work, puts, with_floats, has_floats}
use Rattle.tb_output.specs.Pages
use Rattle.tb_output.specs.Columns
use Rattle.tb_output.specs.Clear
use Rattle.tb_output.proofs.StepLaws.FollowLemmas.{waiting_floats, AllWait, Follows, follows-same, follows-then, follows-wide, follows-company, follows-float_columns}
use Rattle.tb_laws.proofs.DeadCycles.ColumnOutcomes.{stays-zero, IsLast, last-ships, IsKept, first-kept, second-pairs, Columned, AllColumned, all-columned}
use Rattle.tb_laws.proofs.DeadCycles.ClearOutcomes.{NoneWait, Fits, Single, Narrow, WaitsWell, halves, more, gathered, append-none, no-singles, no-both, no-floats, follows-halves, follows-more, gathered-all, double-follows, AllWidened, all-widened, wide-cycles, tail, IsTail, is-tail, How, ClearOut, gathered-count, none-left, tail-cycles, tail-floats, nothing-rest}

module _ (p : Params) (body : List PlainNode) (w : Work) (good : WaitsWell p w.state) where
  abbrev P : Float → Type 0
  P = Fits p

  abbrev a0 : Work
  a0 = gathered p body w

  abbrev a : Work
  a = Columns.all_float_columns p true a0

  abbrev b : Work
  b = tail P p a

  t : IsTail P p a b
  t = is-tail P p a

  x : Follows P a0 a
  x = follows-float_columns P p true (length a0.state.floats.deferred) a0

  same : waiting_floats a0.state.floats ≡ waiting_floats w.state.floats
  same = gathered-count P p body w

  -- the column of a company, put out
  abbrev put : List Choice → Work → Work
  put cs v = Columns.put_out_company p cs v

  put-ships : (cs : List Choice) (v : Work) → IsLast v.state → (put cs v).refused ≡ false → (put cs v).state.dead_cycles ≡ 0
  put-ships cs v l h = last-ships P p (single_floats_column p (column_height_of p v.state.floats) (chosen_floats cs)) (Pages.with_deferred (left_floats cs) v) l h

  -- nothing waited
  emptied : waiting_floats w.state.floats ≡ 0 → t.half ≡ false → (w.state.two_columns ≡ false) ⊎ (w.state.first_column ≡ true) → How P p w b t.half t.rest
  emptied h k c =
      let n : NoneWait b.state.floats = none-left b.state.floats (sums (waiting_floats w.state.floats) (waiting_floats a0.state.floats) (waiting_floats a.state.floats) (waiting_floats b.state.floats) h same x.floats (tail-floats P p a b t)) in
      inl (k, nothing-rest P p a b t n, n, c)
    where
      sums : (w g a b : ℕ) → w ≡ 0 → g ≡ w → a ≤ g → b ≤ a → b ≤ 0
      sums w g a b h i j k = omega arith

  nothing-waits : NoneWait w.state.floats → waiting_floats w.state.floats ≡ 0
  nothing-waits n = rw (n.top, n.bottom, n.deferred, n.double, n.second) refl

  -- the floats that wait again are none, so none waited
  gathered-none : (a0.state.floats.double ≡ []) × (a0.state.floats.deferred ≡ []) × (a0.state.floats.second ≡ []) → NoneWait w.state.floats
  gathered-none h =
      let i = append-none (w.state.floats.top ++ w.state.floats.bottom) w.state.floats.deferred h.1 in
      let j = append-none w.state.floats.top w.state.floats.bottom i.0 in
      record { top = j.0; bottom = j.1; deferred = i.1; double = h.0; second = h.2 }

  deferred-fit : AllByRecursion P a0.state.floats.deferred
  deferred-fit = (gathered-all P p w.state.floats good.fit).deferred

  narrow-again : Narrow w.state.floats → AllByRecursion Single a0.state.floats.deferred
  narrow-again h = all-join Single (w.state.floats.top ++ w.state.floats.bottom) w.state.floats.deferred (all-join Single w.state.floats.top w.state.floats.bottom h.top h.bottom) h.deferred

  -- a column of floats is put out, and none after it or others
  after-put : (cs : List Choice) → Columned P p true (put cs a0) a → Follows P (put cs a0) a
  after-put cs (inl e) = subst (λ (z : Work). Follows P (put cs a0) z) (sym e) (follows-same P (put cs a0))
  after-put cs (inr h) = follows-then P (put cs a0) (put h.0 (put cs a0)) a (follows-company P p true (put cs a0) h.0 h.1).0 h.2

  fewer : (n : ℕ) (v : Work) → waiting_floats v.state.floats + n ≤ waiting_floats a0.state.floats → Follows P v a → waiting_floats b.state.floats + n ≤ waiting_floats w.state.floats
  fewer n v h y = sums (waiting_floats w.state.floats) (waiting_floats a0.state.floats) (waiting_floats v.state.floats) (waiting_floats a.state.floats) (waiting_floats b.state.floats) same h y.floats (tail-floats P p a b t)
    where
      sums : (w g v a b : ℕ) → g ≡ w → v + n ≤ g → a ≤ v → b ≤ a → b + n ≤ w
      sums w g v a b i j k l = omega arith

  two-fewer : (cs : List Choice) → company (Columns.single_wanted p a0.state.floats true) a0.state.floats.deferred ≡ Some cs → (ds : List Choice) → company (Columns.single_wanted p (put cs a0).state.floats true) (put cs a0).state.floats.deferred ≡ Some ds → waiting_floats (put ds (put cs a0)).state.floats + 2 ≤ waiting_floats a0.state.floats
  two-fewer cs e ds f = sums (waiting_floats a0.state.floats) (waiting_floats (put cs a0).state.floats) (waiting_floats (put ds (put cs a0)).state.floats) (follows-company P p true a0 cs e).1 (follows-company P p true (put cs a0) ds f).1
    where
      sums : (x y z : ℕ) → y + 1 ≤ x → z + 1 ≤ y → z + 2 ≤ x
      sums x y z h k = omega arith

  not-true-false : {X : Type 0} (u : Bool) → u ≡ false → u ≡ true → X
  not-true-false u h k = absurd (both_ways u h k)

  half-by : (u : Bool) → (a.state.two_columns && not a.state.first_column) ≡ u → t.half ≡ u
  half-by u h = t.second ∙ h

  two-of : (u : Bool) → w.state.two_columns ≡ u → a.state.two_columns ≡ u
  two-of u h = x.columns ∙ h

  and-second : (u v : Bool) → v ≡ true → (u && not v) ≡ false
  and-second u v h = grind (arith, h)

  and-both : (u v : Bool) → u ≡ true → v ≡ false → (u && not v) ≡ true
  and-both u v h k = grind (arith, h, k)

  -- in one column
  one-column : w.state.two_columns ≡ false → AllColumned P p true a0 a → How P p w b t.half t.rest
  one-column o (inl h) =
      let s : AllWait Single w.state.floats × (w.state.floats.double ≡ []) = good.single o in
      let f : a0.state.floats.deferred ≡ [] = no-singles p a0.state.floats a0.state.floats.deferred s.1 deferred-fit (gathered-all Single p w.state.floats s.0).deferred h.0 in
      emptied (nothing-waits (gathered-none (s.1, f, no-both w.state.floats.second good.second s.0.second))) (half-by false (and_left a.state.two_columns (not a.state.first_column) (two-of false o))) (inl o)
  one-column o (inr h) =
      let y : Follows P (put h.0 a0) a = after-put h.0 h.2 in
      inr (inr (tail-cycles P p (put h.0 a0) a b t y (put-ships h.0 a0 (inl o)), fewer 1 (put h.0 a0) (follows-company P p true a0 h.0 h.1).1 y, λ k. not-true-false t.half (half-by false (and_left a.state.two_columns (not a.state.first_column) (two-of false o))) k))

  -- the column after a company's
  put-first : (cs : List Choice) → w.state.two_columns ≡ true → w.state.first_column ≡ false → (put cs a0).state.first_column ≡ true
  put-first cs o f = (second-pairs P p (single_floats_column p (column_height_of p a0.state.floats) (chosen_floats cs)) (Pages.with_deferred (left_floats cs) a0) o f).first

  put-kept : (cs : List Choice) → w.state.two_columns ≡ true → w.state.first_column ≡ true → IsKept P p (Pages.with_deferred (left_floats cs) a0) (put cs a0)
  put-kept cs o f = first-kept P p (single_floats_column p (column_height_of p a0.state.floats) (chosen_floats cs)) (Pages.with_deferred (left_floats cs) a0) o f

  -- at a second column
  second-column : w.state.two_columns ≡ true → w.state.first_column ≡ false → AllColumned P p true a0 a → How P p w b t.half t.rest
  second-column o f (inl h) =
      let first : a.state.first_column ≡ false = ap (λ (z : Work). z.state.first_column) h.1 ∙ f in
      let half : t.half ≡ true = half-by true (and-both a.state.two_columns a.state.first_column (two-of true o) first) in
      let k : b.state ≡ a0.state = t.kept half ∙ ap (λ (z : Work). z.state) h.1 in
      inr (inl (half, o, ap (λ s. s.first_column) k ∙ f, ap (λ s. s.floats.top) k, ap (λ s. s.floats.bottom) k, ap (λ s. s.floats.double) k, λ i. not-true-false w.state.first_column f i))
  second-column o f (inr h) =
      let y : Follows P (put h.0 a0) a = after-put h.0 h.2 in
      inr (inr (tail-cycles P p (put h.0 a0) a b t y (put-ships h.0 a0 (inr f)), fewer 1 (put h.0 a0) (follows-company P p true a0 h.0 h.1).1 y, by_more h.2))
    where
      by_more : Columned P p true (put h.0 a0) a → t.half ≡ true → waiting_floats b.state.floats + 2 ≤ waiting_floats w.state.floats
      by_more (inl e) k = not-true-false t.half (half-by false (and-second a.state.two_columns a.state.first_column (ap (λ (z : Work). z.state.first_column) e ∙ put-first h.0 o f))) k
      by_more (inr i) k = fewer 2 (put i.0 (put h.0 a0)) (two-fewer h.0 h.1 i.0 i.1) i.2

  -- at a first column, where wide pages come
  abbrev wide-done : Work
  wide-done = Pages.all_wide_pages p true (with_floats (Clear.double_again p a0.state.floats) a0)

  rest-same : (c : Work) → ((Clear.clear_rest c).state ≡ c.state) × ((Clear.clear_rest c).refused ≡ c.refused)
  rest-same c = by_left (has_floats c.state.floats.deferred || has_floats c.state.floats.second)
    where
      by_left : (u : Bool) → ((if u then puts Clear.clear_again c else c).state ≡ c.state) × ((if u then puts Clear.clear_again c else c).refused ≡ c.refused)
      by_left true = (refl, refl)
      by_left false = (refl, refl)

  wide-tail : w.state.two_columns ≡ true → w.state.first_column ≡ true → tail P p a0 ≡ Clear.clear_rest wide-done
  wide-tail o f = by_columns w.state.two_columns w.state.first_column o f
    where
      by_columns : (u v : Bool) → u ≡ true → v ≡ true → Clear.clear_rest (if not u then a0 else (if v then wide-done else puts (made blank_box ∷ Clear.clear_again) a0)) ≡ Clear.clear_rest wide-done
      by_columns false v h k = let no : ⊥ = grind (arith, h) in absurd no
      by_columns true false h k = let no : ⊥ = grind (arith, k) in absurd no
      by_columns true true h k = refl

  widened : company (Columns.single_wanted p a0.state.floats true) a0.state.floats.deferred ≡ None → NoneWait w.state.floats ⊎ ((wide-done.refused ≡ false → wide-done.state.dead_cycles ≡ 0) × (waiting_floats wide-done.state.floats + 1 ≤ waiting_floats w.state.floats))
  widened n = by_wide (all-widened P p d)
    where
      d : Work
      d = with_floats (Clear.double_again p a0.state.floats) a0

      sums : (w g d s r : ℕ) → g ≡ w → d ≤ g → s + 1 ≤ d → r ≤ s → r + 1 ≤ w
      sums w g d s r h i j k = omega arith

      by_wide : AllWidened P p d wide-done → NoneWait w.state.floats ⊎ ((wide-done.refused ≡ false → wide-done.state.dead_cycles ≡ 0) × (waiting_floats wide-done.state.floats + 1 ≤ waiting_floats w.state.floats))
      by_wide (inl h) = inl (gathered-none (no-floats p a0.state.floats good.fit.double good.wide deferred-fit good.fit.second good.second good.none (λ r. narrow-again (good.narrow r)) n (subst (λ fs. company (Pages.wide_wanted p true) fs ≡ None) (floats-with (wide_part p) (wide-waits p) (a0.state.floats.double ++ wide_waiting p a0.state.floats) (record a0.state.floats { double = [] })) h.0)))
      by_wide (inr h) =
          let y : Follows P (Pages.ship_wide p h.0 d) wide-done = h.2 in
          inr (
            λ r. stays-zero (Pages.ship_wide p h.0 d).state.dead_cycles wide-done.state.dead_cycles (wide-cycles P p h.0 d (y.goes r)) (y.cycles r),
            sums (waiting_floats w.state.floats) (waiting_floats a0.state.floats) (waiting_floats d.state.floats) (waiting_floats (Pages.ship_wide p h.0 d).state.floats) (waiting_floats wide-done.state.floats) same (double-follows P p a0).floats (follows-wide P p true d h.0 h.1).1 y.floats,
          )

  first-column : w.state.two_columns ≡ true → w.state.first_column ≡ true → AllColumned P p true a0 a → How P p w b t.half t.rest
  first-column o f (inl h) = by_wide (widened h.0)
    where
      first : a.state.first_column ≡ true
      first = ap (λ (z : Work). z.state.first_column) h.1 ∙ f

      half : t.half ≡ false
      half = half-by false (and-second a.state.two_columns a.state.first_column first)

      is : b ≡ Clear.clear_rest wide-done
      is = ap (λ (z : Work). tail P p z) h.1 ∙ wide-tail o f

      state : b.state ≡ wide-done.state
      state = ap (λ (z : Work). z.state) is ∙ (rest-same wide-done).0

      refused : b.refused ≡ wide-done.refused
      refused = ap (λ (z : Work). z.refused) is ∙ (rest-same wide-done).1

      by_wide : NoneWait w.state.floats ⊎ ((wide-done.refused ≡ false → wide-done.state.dead_cycles ≡ 0) × (waiting_floats wide-done.state.floats + 1 ≤ waiting_floats w.state.floats)) → How P p w b t.half t.rest
      by_wide (inl n) = emptied (nothing-waits n) half (inr f)
      by_wide (inr z) = inr (inr (λ r. ap (λ s. s.dead_cycles) state ∙ z.0 (sym refused ∙ r), subst (λ (s : State). waiting_floats s.floats + 1 ≤ waiting_floats w.state.floats) (sym state) z.1, λ k. not-true-false t.half half k))
  first-column o f (inr h) =
      by_more h.2
    where
      k : IsKept P p (Pages.with_deferred (left_floats h.0) a0) (put h.0 a0)
      k = put-kept h.0 o f

      y : Follows P (put h.0 a0) a
      y = after-put h.0 h.2

      by_more : Columned P p true (put h.0 a0) a → How P p w b t.half t.rest
      by_more (inl e) =
          let first : a.state.first_column ≡ false = ap (λ (z : Work). z.state.first_column) e ∙ k.first in
          let half : t.half ≡ true = half-by true (and-both a.state.two_columns a.state.first_column (two-of true o) first) in
          let i : b.state ≡ (put h.0 a0).state = t.kept half ∙ ap (λ (z : Work). z.state) e in
          let j : b.state.floats ≡ (Pages.with_deferred (left_floats h.0) a0).state.floats = ap (λ s. s.floats) i ∙ k.floats in
          inr (inl (half, o, ap (λ s. s.first_column) i ∙ k.first, ap (λ l. l.top) j, ap (λ l. l.bottom) j, ap (λ l. l.double) j, λ z. fewer 1 (put h.0 a0) (follows-company P p true a0 h.0 h.1).1 y))
      by_more (inr i) =
          let two : waiting_floats b.state.floats + 2 ≤ waiting_floats w.state.floats = fewer 2 (put i.0 (put h.0 a0)) (two-fewer h.0 h.1 i.0 i.1) i.2 in
          inr (inr (tail-cycles P p (put i.0 (put h.0 a0)) a b t i.2 (put-ships i.0 (put h.0 a0) (inr k.first)), omega arith, λ z. two))

  by-columns : (u v : Bool) → w.state.two_columns ≡ u → w.state.first_column ≡ v → How P p w b t.half t.rest
  by-columns false v o f = one-column o (all-columned P p true a0)
  by-columns true false o f = second-column o f (all-columned P p true a0)
  by-columns true true o f = first-column o f (all-columned P p true a0)

  -- a clear without footnotes empties the lists, or a page and a float go, or a second column is left blank
  pub clear-out : ClearOut P p body w (Clear.clear_floats p body w)
  clear-out = record {
    half = t.half;
    rest = t.rest;
    follows = follows-then P (more t.rest (halves t.half a0)) (more t.rest (halves t.half a)) b (follows-more P p t.rest (halves t.half a0) (halves t.half a) (follows-halves P p t.half a0 a x)) t.follows;
    left = t.left;
    how = by-columns w.state.two_columns w.state.first_column refl refl;
  }
