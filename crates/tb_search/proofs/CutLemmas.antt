-- A break is put in before the next item.
use Rattle.std.proofs.Common.{◌≡◌, refl, sym, ◌∙◌, ap, subst, ◌⊎◌, inl, inr, ℕ, zero, suc, ◌+◌, ◌-◌, ◌<◌, ◌≤◌, ℤ, true, false, List, [], ◌∷◌, ◌++◌, map, length, get_or, arith}
use Rattle.std.specs.Prelude.{pos, ◌+ℤ◌, ◌<ℤ◌, reverse}
use Rattle.std.proofs.lemmas.List.{length-map, reverse-append}
use Rattle.tb_builder.specs.Reach.{holds_box}
use Rattle.tb_output.specs.State.{State}
use Rattle.tb_rate.specs.Places.{place_penalties}
use Rattle.tb_best.specs.PlanDemerits.{reach_in, unlimited_step}
use Rattle.tb_best.specs.ItemsAhead.{Ahead, all_ahead, forced, state_with}
use Rattle.tb_best.proofs.CutPages.{cut-fires}
use Rattle.tb_search.specs.declared.branch.Branch.{Branch}
use Rattle.tb_search.specs.declared.branch.Filled.{Filled}
use Rattle.tb_search.specs.declared.branch.Filled.TheVariants as filled
use Rattle.tb_search.specs.declared.table.Start.{Start}
use Rattle.tb_search.specs.declared.table.Table.{Table}
use Rattle.tb_search.specs.Branches.{shown, next_of, break_before, IsPast, HasTaken}
use Rattle.tb_search.specs.FilledBranches.{IsRefusal, IsQuiet, HasFired, FillsTo}
use Rattle.tb_search.specs.AheadInCode.{items_ahead}
use Rattle.tb_search.specs.Searched.{over}
use Rattle.tb_search.specs.Starts.{IsReached, IsTable}
use Rattle.tb_search.specs.Continues.{IsSearchedBy, IsSearchedAsGoodBy, IsLater, IsCutSearched}
use Rattle.tb_search.proofs.AheadLemmas.{next_ahead, flag-of-next, number-of-next}
use Rattle.tb_search.proofs.LaterLemmas.{later-itself}
use Rattle.tb_search.proofs.ReachedWays.{shown-cut}
use Rattle.tb_search.proofs.SearchSteps.{over-searched, refused-searched, fired-searched, cut-searched, cut-quiet, fired-refused}

-- what was taken from a copy was taken from the first
pub taken-copy : (b c e : Branch) → shown c ≡ shown b → c.ahead ≡ b.ahead → HasTaken (break_before c.ahead ++ next_of c.ahead) c e → HasTaken (break_before b.ahead ++ next_of b.ahead) b e
taken-copy b c e state ahead h = record {
  state = h.state ∙ (λ i. state_with (break_before (ahead i) ++ next_of (ahead i)) (state i));
  ahead = subst (λ o. IsPast o e.ahead) ahead h.ahead;
  plain = h.plain;
}

-- there is a flag for each item ahead
pub flags-counted : (t : Table) → IsTable t → length t.is_place.items ≡ length (all_ahead t.galley.now)
flags-counted t h = ap length h.places ∙ length-map (all_ahead t.galley.now) (λ (c : Ahead). c.is_place)

-- an element of a list does not depend on what stands for one that is missing
pub get-any : {X : Type 0} (xs : List X) (k : ℕ) (d e : X) → k < length xs → get_or xs k e ≡ get_or xs k d
get-any [] k d e h = let none : ⊥ = omega (arith, h) in absurd none
get-any (x ∷ xs) zero d e h = refl
get-any (x ∷ xs) (suc k) d e h = get-any xs k d e (omega (arith, h))

-- if something is ahead, one item is the next
pub of-next : (t : Table) (left : ℕ) (x : Start) (u : Table) → 0 < left → IsCutSearched u (shown x.branch) (items_ahead t.galley.now (suc (left - 1))) x.way.demerits (reverse x.way.breaks.items)
    → IsCutSearched u (shown x.branch) (items_ahead t.galley.now left) x.way.demerits (reverse x.way.breaks.items)
of-next t left x u some h =
    let e : suc (left - 1) ≡ left = omega (arith, some) in
    subst (λ n. IsCutSearched u (shown x.branch) (items_ahead t.galley.now n) x.way.demerits (reverse x.way.breaks.items)) e h

-- the flag of the next item
pub next-flag : (t : Table) (number k : ℕ) → IsTable t → number + suc k ≡ length (all_ahead t.galley.now) → get_or t.is_place.items number false ≡ (next_ahead t.galley.now k).is_place
next-flag t number k h e =
    let n : number ≡ length (all_ahead t.galley.now) - suc k = omega (arith, e) in
    ap (λ xs. get_or xs number false) h.places
    ∙ ap (λ m. get_or (map (λ (c : Ahead). c.is_place) (all_ahead t.galley.now)) m false) n
    ∙ flag-of-next t.galley.now k (omega (arith, e))

module _ (t : Table) (k : ℕ) (x : Start) (some : suc k ≤ length (all_ahead t.galley.now)) where
  abbrev c : Ahead
  c = next_ahead t.galley.now k

  abbrev s : State
  s = shown x.branch

  abbrev cut_state : State
  cut_state = state_with (forced c ∷ c.nodes) s

  -- no break may be put in there
  pub not-place : (u : Table) → c.is_place ≡ false → IsCutSearched u s (items_ahead t.galley.now (suc k)) x.way.demerits (reverse x.way.breaks.items)
  not-place u is-not = cut-searched u t.galley.now k s x.way.demerits (reverse x.way.breaks.items) some (λ place box. let false-is : ⊥ = grind (arith, is-not, place) in absurd false-is)

  -- it has no box
  pub no-box : (u : Table) → holds_box s.waiting ≡ false → IsCutSearched u s (items_ahead t.galley.now (suc k)) x.way.demerits (reverse x.way.breaks.items)
  no-box u is-not = cut-searched u t.galley.now k s x.way.demerits (reverse x.way.breaks.items) some (λ place box. let false-is : ⊥ = grind (arith, is-not, box) in absurd false-is)

  -- the break costs too much
  pub cut-over : t.bound <ℤ (x.way.demerits +ℤ pos 1000) → IsCutSearched t s (items_ahead t.galley.now (suc k)) x.way.demerits (reverse x.way.breaks.items)
  cut-over h = cut-searched t t.galley.now k s x.way.demerits (reverse x.way.breaks.items) some (λ place box. over cut_state (items_ahead t.galley.now k) (x.way.demerits +ℤ pos 1000) (c.number ∷ reverse x.way.breaks.items) h)

  module _ (reached : IsReached t.galley.now (suc k) x) (place : c.is_place ≡ true) (page : Branch) (taken : HasTaken (break_before x.branch.ahead ++ next_of x.branch.ahead) x.branch page) where
    shown-is : shown page ≡ cut_state
    shown-is = shown-cut t.galley.now k x page some reached place taken

    -- the page fired, and the state after it is searched
    pub cut-fired : (u : Table) (after : Branch) (a : ℤ) → IsLater t u → HasFired (place_penalties t.galley.now.items) a page after
        → IsSearchedAsGoodBy u (shown after) (items_ahead t.galley.now k) ((x.way.demerits +ℤ pos 1000) +ℤ a) (c.number ∷ reverse x.way.breaks.items)
        → IsCutSearched u s (items_ahead t.galley.now (suc k)) x.way.demerits (reverse x.way.breaks.items)
    cut-fired u after a later fired h =
        cut-searched u t.galley.now k s x.way.demerits (reverse x.way.breaks.items) some
        (λ _ box.
        subst (λ z. IsSearchedBy u z (items_ahead t.galley.now k) (x.way.demerits +ℤ pos 1000) (c.number ∷ reverse x.way.breaks.items)) shown-is
        (fired-searched t u later page after (items_ahead t.galley.now k) a (x.way.demerits +ℤ pos 1000) (c.number ∷ reverse x.way.breaks.items) fired h))

    -- the page fired, and costs too much
    pub cut-paid-over : (after : Branch) (a : ℤ) → HasFired (place_penalties t.galley.now.items) a page after → t.bound <ℤ ((x.way.demerits +ℤ pos 1000) +ℤ a)
        → IsCutSearched t s (items_ahead t.galley.now (suc k)) x.way.demerits (reverse x.way.breaks.items)
    cut-paid-over after a fired h =
        cut-fired t after a (later-itself t) fired
        (over-searched t t (later-itself t) (shown after) (items_ahead t.galley.now k) ((x.way.demerits +ℤ pos 1000) +ℤ a) (c.number ∷ reverse x.way.breaks.items) h)

    -- no run goes on after the break
    pub cut-refused : IsRefusal (unlimited_step (shown page)) → IsCutSearched t s (items_ahead t.galley.now (suc k)) x.way.demerits (reverse x.way.breaks.items)
    cut-refused h =
        cut-searched t t.galley.now k s x.way.demerits (reverse x.way.breaks.items) some
        (λ _ box.
        refused-searched t t (later-itself t) cut_state (items_ahead t.galley.now k) (x.way.demerits +ℤ pos 1000) (c.number ∷ reverse x.way.breaks.items)
        (fired-refused cut_state (cut-fires s c box) (subst (λ z. IsRefusal (unlimited_step z)) shown-is h)))

    -- a page fires where a break is put in
    pub cut-not-quiet : IsQuiet (shown page) → IsCutSearched t s (items_ahead t.galley.now (suc k)) x.way.demerits (reverse x.way.breaks.items)
    cut-not-quiet h =
        cut-searched t t.galley.now k s x.way.demerits (reverse x.way.breaks.items) some
        (λ _ box.
        cut-quiet (IsSearchedBy t cut_state (items_ahead t.galley.now k) (x.way.demerits +ℤ pos 1000) (c.number ∷ reverse x.way.breaks.items)) s c box
        (subst (λ z. (reach_in z).fires ≡ false) shown-is h.quiet))

    -- the page did not fire
    pub cut-unfired : (f : Filled) (after : Branch) → (f ≡ filled.Quiet) ⊎ ((f ≡ filled.Full) ⊎ (f ≡ filled.Refused)) → FillsTo (place_penalties t.galley.now.items) page f after
        → IsCutSearched t s (items_ahead t.galley.now (suc k)) x.way.demerits (reverse x.way.breaks.items)
    cut-unfired f after (inl e) h = cut-not-quiet (subst (λ r. FillsTo (place_penalties t.galley.now.items) page r after) e h)
    cut-unfired f after (inr (inl e)) h = let full = subst (λ r. FillsTo (place_penalties t.galley.now.items) page r after) e h in cut-refused full.step
    cut-unfired f after (inr (inr e)) h = let refused = subst (λ r. FillsTo (place_penalties t.galley.now.items) page r after) e h in cut-refused refused.step

-- ---- a break in code

-- a break before the next item, which has this number, and the item wait behind what waited in a state
pub record IsCutBefore (t : Table) (left number : ℕ) (x : Start) (page : Branch) : Type 0 where
  pub some : suc (left - 1) ≤ length (all_ahead t.galley.now)
  pub reached : IsReached t.galley.now (suc (left - 1)) x
  pub place : (next_ahead t.galley.now (left - 1)).is_place ≡ true
  pub numbered : (next_ahead t.galley.now (left - 1)).number ≡ number
  pub taken : HasTaken (break_before x.branch.ahead ++ next_of x.branch.ahead) x.branch page

-- so it is after a break was put into a copy
pub cut-before : (t : Table) (left number : ℕ) (x : Start) (c e : Branch) → IsTable t → 0 < left → left ≤ length (all_ahead t.galley.now) → number + left ≡ length (all_ahead t.galley.now)
    → get_or t.is_place.items number false ≡ true → IsReached t.galley.now left x → shown c ≡ shown x.branch → c.ahead ≡ x.branch.ahead
    → HasTaken (break_before c.ahead ++ next_of c.ahead) c e → IsCutBefore t left number x e
cut-before t left number x c e table some inside count flag reached state ahead taken =
    let within : suc (left - 1) ≤ length (all_ahead t.galley.now) = omega (arith, some, inside) in
    let next : left ≡ suc (left - 1) = omega (arith, some) in
    let counted : number + suc (left - 1) ≡ length (all_ahead t.galley.now) = omega (arith, some, count) in
    let difference : length (all_ahead t.galley.now) - suc (left - 1) ≡ number = omega (arith, counted) in
    record {
      some = within;
      reached = subst (λ n. IsReached t.galley.now n x) next reached;
      place = sym (next-flag t number (left - 1) table counted) ∙ flag;
      numbered = number-of-next t.galley.now (left - 1) within ∙ difference;
      taken = taken-copy x.branch c e state ahead taken;
    }

-- breaks with one more behind them, read from the last
pub read-back : (bs old : List ℕ) (n m : ℕ) → bs ≡ old ++ m ∷ [] → n ≡ m → reverse bs ≡ n ∷ reverse old
read-back bs old n m h e = ap reverse h ∙ reverse-append old (m ∷ []) ∙ ap (λ k. k ∷ reverse old) (sym e)
