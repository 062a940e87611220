-- A clear without footnotes puts back a further clear, or leaves all lists empty.
use Rattle.std.proofs.Common.{◌≡◌, refl, sym, ◌∙◌, ap, subst, ◌⊎◌, inl, inr, Bool, true, false, List, [], ◌∷◌, ◌++◌, None, arith, append_assoc}
use Rattle.std.specs.Prelude.{not, ◌||◌, if◌then◌else◌}
use Rattle.std.specs.List.{AllByRecursion}
use Rattle.tb_node.specs.declared.Float.{Float}
use Rattle.tb_node.specs.PlainNodes.{PlainNode, made, blank_box}
use Rattle.tb_param.specs.declared.Params.{Params}
use Rattle.tb_float.specs.Lists.{FloatLists, no_floats, wide_part, wide_waiting}
use Rattle.tb_float.proofs.WaitingLemmas.{wide-waits}
use Rattle.tb_output.specs.State.{Work, puts, with_floats, has_floats}
use Rattle.tb_output.specs.Pages
use Rattle.tb_output.specs.Columns
use Rattle.tb_output.specs.Clear
use Rattle.tb_laws.proofs.NothingLost.StateWeights.{ColumnsFit, first-left, one-left}
use Rattle.tb_laws.proofs.Closed.Closings.{Ways, never, Token, Closes, Quiet, quiet-between, tokens, tokens-append}
use Rattle.tb_laws.proofs.Closed.SparedLists.{Single, Spares, spared, waiting-spares, all_columns-spares, all_wide-spares, waiting-double, all_wide-double}

-- ---- a clear that is put back

-- if nothing came after a clear, nothing is asked before it
pub again-closes : (z : Ways) (o : Bool) (xs : List Token) → Closes z 0 true xs → Closes z 0 o (tokens Clear.clear_again ++ xs)
again-closes z o xs h = h

-- what is put back ends in a clear, or in quiet nodes after one
abbrev pub Pending : List PlainNode → Type 0
Pending ns = (z : Ways) (xs : List Token) → Closes z 0 true xs → Closes z 0 false (tokens ns ++ xs)

pub tokens-parts : (ms ns : List PlainNode) (xs : List Token) → tokens (ms ++ ns) ++ xs ≡ tokens ms ++ (tokens ns ++ xs)
tokens-parts ms ns xs = ap (λ l. l ++ xs) (tokens-append ms ns) ∙ append_assoc (tokens ms) (tokens ns) xs

pub again-pending : (ms : List PlainNode) → AllByRecursion Quiet (tokens ms) → Pending (ms ++ Clear.clear_again)
again-pending ms q z xs h = subst (Closes z 0 false) (sym (tokens-parts ms Clear.clear_again xs)) (quiet-between z 0 false (tokens ms) (tokens Clear.clear_again ++ xs) q (again-closes z false xs h))

more-pending : (ms : List PlainNode) → Pending ms → Pending (ms ++ Clear.clear_again)
more-pending ms k z xs h = subst (Closes z 0 false) (sym (tokens-parts ms Clear.clear_again xs)) (k z (tokens Clear.clear_again ++ xs) (again-closes z true xs h))

blank-pending : (ms : List PlainNode) → AllByRecursion Quiet (tokens ms) → Pending (ms ++ made blank_box ∷ Clear.clear_again)
blank-pending ms q z xs h = subst (Closes z 0 false) (sym (tokens-parts ms (made blank_box ∷ Clear.clear_again) xs)) (quiet-between z 0 false (tokens ms) (tokens (made blank_box ∷ Clear.clear_again) ++ xs) q h)

-- ---- the clear

-- all lists are empty, no column is kept, and the insertion boxes and the held page are as before
pub record Emptied (w c : Work) : Type 0 where
  pub lists : c.state.floats ≡ no_floats
  pub left : c.state.left_column ≡ None
  pub boxes : c.state.boxes ≡ w.state.boxes
  pub page : c.state.held_page ≡ w.state.held_page

empty-lists : (l : FloatLists) → l.current ≡ [] → l.here ≡ [] → l.top ≡ [] → l.bottom ≡ [] → l.deferred ≡ [] → l.double ≡ [] → l.second ≡ [] → l ≡ no_floats
empty-lists l a b c d e f g = λ i. record { current = a i; here = b i; top = c i; bottom = d i; deferred = e i; double = f i; second = g i }

-- a list that is tested and has no floats
pub no-float : (fs : List Float) → has_floats fs ≡ false → fs ≡ []
no-float [] e = refl
no-float (f ∷ fs) e = let no : ⊥ = grind (arith, e) in absurd no

neither : (fs gs : List Float) → (has_floats fs || has_floats gs) ≡ false → (has_floats fs ≡ false) × (has_floats gs ≡ false)
neither [] gs e = (refl, e)
neither (f ∷ fs) gs e = never (sym e)

-- when the double floats wait again, none is above two columns
again-double : (p : Params) (l : FloatLists) → (Clear.double_again p l).double ≡ []
again-double p l = waiting-double (wide_part p) (wide-waits p) (l.double ++ wide_waiting p l) (record l { double = [] })

-- the clear of a state with no float in current, here, top and bottom: before its last step
record Half (w c : Work) (front : List PlainNode) : Type 0 where
  current : c.state.floats.current ≡ []
  here : c.state.floats.here ≡ []
  top : c.state.floats.top ≡ []
  bottom : c.state.floats.bottom ≡ []
  boxes : c.state.boxes ≡ w.state.boxes
  page : c.state.held_page ≡ w.state.held_page
  columns : c.state.two_columns ≡ w.state.two_columns
  single : Single c.state
  outcome : Pending c.put_back ⊎ ((c.put_back ≡ front) × (c.state.floats.double ≡ []) × (c.state.left_column ≡ None))

-- what it comes to
pub record Cleared (w c : Work) (front : List PlainNode) : Type 0 where
  pub current : c.state.floats.current ≡ []
  pub here : c.state.floats.here ≡ []
  pub columns : c.state.two_columns ≡ w.state.two_columns
  pub single : Single c.state
  pub outcome : Pending c.put_back ⊎ ((c.put_back ≡ front) × Emptied w c)

module _ (p : Params) (front : List PlainNode) (quiet_front : AllByRecursion Quiet (tokens front)) (w : Work) (current : w.state.floats.current ≡ []) (here : w.state.floats.here ≡ []) (back : w.put_back ≡ []) (single : Single w.state) (fit : ColumnsFit w.state.two_columns w.state.first_column w.state.left_column) where
  module _ (b : Work) (x : Spares (with_floats (Clear.deferred_again w.state.floats) (puts front w)) b) where
    put : b.put_back ≡ front
    put = x.put_back ∙ ap (λ l. l ++ front) back

    settled : b.state.floats.double ≡ [] → b.state.left_column ≡ None → Half w b front
    settled d l = record { current = x.current ∙ current; here = x.here ∙ here; top = x.top; bottom = x.bottom; boxes = x.boxes; page = x.page; columns = x.columns; single = λ e. d; outcome = inr (put, d, l) }

    fits : ColumnsFit b.state.two_columns b.state.first_column b.state.left_column
    fits = x.fit fit

    doubled : b.state.two_columns ≡ false → b.state.floats.double ≡ []
    doubled = x.single single

    at_second : b.state.two_columns ≡ true → Half w (puts (made blank_box ∷ Clear.clear_again) b) front
    at_second t = record { current = x.current ∙ current; here = x.here ∙ here; top = x.top; bottom = x.bottom; boxes = x.boxes; page = x.page; columns = x.columns; single = λ e. never (sym e ∙ t); outcome = inl (subst (λ l. Pending (l ++ made blank_box ∷ Clear.clear_again)) (sym put) (blank-pending front quiet_front)) }

    at_first : b.state.left_column ≡ None → Half w (Pages.all_wide_pages p true (with_floats (Clear.double_again p b.state.floats) b)) front
    at_first l =
        let a = with_floats (Clear.double_again p b.state.floats) b in
        let b0 = with_floats (record b.state.floats { double = [] }) b in
        let u : Spares b0 a = waiting-spares (wide_part p) (wide-waits p) (b.state.floats.double ++ wide_waiting p b.state.floats) b0 in
        let y : Spares b0 (Pages.all_wide_pages p true a) = spared b0 a (Pages.all_wide_pages p true a) u (all_wide-spares p true a) in
        let k = all_wide-double p true a in
        let no-double : a.state.floats.double ≡ [] = again-double p b.state.floats in
        record { current = y.current ∙ x.current ∙ current; here = y.here ∙ x.here ∙ here; top = y.top ∙ x.top; bottom = y.bottom ∙ x.bottom; boxes = y.boxes ∙ x.boxes; page = y.page ∙ x.page; columns = y.columns ∙ x.columns; single = λ e. k.0 ∙ no-double; outcome = inr (y.put_back ∙ put, k.0 ∙ no-double, k.1 ∙ l) }

    wide-half : Half w (Clear.clear_wide p b) front
    wide-half = by_columns b.state.two_columns b.state.first_column refl refl
      where
        by_columns : (t f : Bool) → b.state.two_columns ≡ t → b.state.first_column ≡ f → Half w (if not t then b else (if f then Pages.all_wide_pages p true (with_floats (Clear.double_again p b.state.floats) b) else puts (made blank_box ∷ Clear.clear_again) b)) front
        by_columns false f e g = settled (doubled e) (one-left b.state.first_column b.state.left_column (subst (λ t. ColumnsFit t b.state.first_column b.state.left_column) e fits))
        by_columns true true e g = at_first (first-left b.state.two_columns b.state.left_column (subst (λ f. ColumnsFit b.state.two_columns f b.state.left_column) g fits))
        by_columns true false e g = at_second e

  rest-cleared : (c : Work) → Half w c front → Cleared w (Clear.clear_rest c) front
  rest-cleared c x = by_floats (has_floats c.state.floats.deferred || has_floats c.state.floats.second) refl x.outcome
    where
      by_floats : (t : Bool) → (has_floats c.state.floats.deferred || has_floats c.state.floats.second) ≡ t → Pending c.put_back ⊎ ((c.put_back ≡ front) × (c.state.floats.double ≡ []) × (c.state.left_column ≡ None)) → Cleared w (if t then puts Clear.clear_again c else c) front
      by_floats true e (inl k) = record { current = x.current; here = x.here; columns = x.columns; single = x.single; outcome = inl (more-pending c.put_back k) }
      by_floats true e (inr k) = record { current = x.current; here = x.here; columns = x.columns; single = x.single; outcome = inl (subst (λ l. Pending (l ++ Clear.clear_again)) (sym k.0) (again-pending front quiet_front)) }
      by_floats false e (inl k) = record { current = x.current; here = x.here; columns = x.columns; single = x.single; outcome = inl k }
      by_floats false e (inr k) = record { current = x.current; here = x.here; columns = x.columns; single = x.single; outcome = inr (k.0, record { lists = empty-lists c.state.floats x.current x.here x.top x.bottom (no-float c.state.floats.deferred (neither c.state.floats.deferred c.state.floats.second e).0) k.1 (no-float c.state.floats.second (neither c.state.floats.deferred c.state.floats.second e).1); left = k.2; boxes = x.boxes; page = x.page }) }

pub clear_floats-cleared : (p : Params) (body : List PlainNode) (w : Work) → AllByRecursion Quiet (tokens (Clear.cleared_front p body)) → w.state.floats.current ≡ [] → w.state.floats.here ≡ [] → w.put_back ≡ [] → Single w.state → ColumnsFit w.state.two_columns w.state.first_column w.state.left_column → Cleared w (Clear.clear_floats p body w) (Clear.cleared_front p body)
clear_floats-cleared p body w q current here back single fit =
    let front = Clear.cleared_front p body in
    let a = with_floats (Clear.deferred_again w.state.floats) (puts front w) in
    let b = Columns.all_float_columns p true a in
    rest-cleared p front q w current here back single fit (Clear.clear_wide p b) (wide-half p front q w current here back single fit b (all_columns-spares p true a))
