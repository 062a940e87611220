-- One part of the search: what it shows of the state from which it goes on.
use Rattle.std.proofs.Common.{◌≡◌, refl, sym, subst, inl, inr, ℕ, suc, ◌≤◌, ℤ, Bool, true, false, List, [], ◌∷◌, length, arith}
use Rattle.std.proofs.Common.{Result, Ok, Err}
use Rattle.std.specs.Prelude.{pos, ◌+ℤ◌, ◌<ℤ◌, reverse, OnOk}
use Rattle.tb_galley.specs.declared.Galley.{Galley}
use Rattle.tb_builder.specs.Reach.{holds_box}
use Rattle.tb_output.specs.State.{State}
use Rattle.tb_rate.specs.Places.{place_penalties}
use Rattle.tb_best.specs.PlanDemerits.{reach_in, unlimited_step}
use Rattle.tb_best.specs.ItemsAhead.{Ahead, all_ahead, forced, state_with}
use Rattle.tb_best.specs.ClosedTables.{rows_know, IsNoBetter}
use Rattle.tb_best.proofs.CutPages.{cut-fires}
use Rattle.tb_search.specs.declared.branch.Branch.{Branch}
use Rattle.tb_search.specs.declared.table.Table.{Table}
use Rattle.tb_search.specs.declared.table.Way.{Way}
use Rattle.tb_search.specs.Branches.{shown}
use Rattle.tb_search.specs.FilledBranches.{IsRefusal, IsRefused, IsQuiet, IsFull, HasFired}
use Rattle.tb_search.specs.AheadInCode.{items_ahead}
use Rattle.tb_search.specs.Searched.{over, waits, stuck, fills, takes, ended}
use Rattle.tb_search.specs.Starts.{rows_of, MayTake}
use Rattle.tb_search.specs.KeptStarts.{IsNoWorseWay, HasRowAsGood}
use Rattle.tb_search.specs.Continues.{IsSearchedBy, IsSearchedAsGoodBy, IsLater, HasSearched, IsCutSearched}
use Rattle.tb_search.proofs.AheadLemmas.{none-ahead, next-is, next_ahead}
use Rattle.tb_search.proofs.SearchedLemmas.{as-good-itself, refused-ends}
use Rattle.tb_search.proofs.LaterLemmas.{still-searched}

-- a state that is searched stands for itself
pub as-searched : (u : Table) (s : State) (cs : List Ahead) (d : ℤ) (breaks : List ℕ) → IsSearchedBy u s cs d breaks → IsSearchedAsGoodBy u s cs d breaks
as-searched u s cs d breaks h = (s, as-good-itself u.galley.now s, h)

module _ (t u : Table) (later : IsLater t u) where
  abbrev g : Galley
  g = t.galley.now

  -- what is so by the first table's galley is so by the second's
  in-galley : (P : Galley → Type 0) → P g → P u.galley.now
  in-galley P = subst (λ a. P a.now) (sym later.galley)

  -- more demerits than the bound
  pub over-searched : (s : State) (cs : List Ahead) (d : ℤ) (breaks : List ℕ) → t.bound <ℤ d → IsSearchedAsGoodBy u s cs d breaks
  over-searched s cs d breaks h = as-searched u s cs d breaks (over s cs d breaks (subst (λ b. b <ℤ d) (sym later.bound) h))

  -- no run goes on
  pub refused-searched : (s : State) (cs : List Ahead) (d : ℤ) (breaks : List ℕ) → IsRefused s → IsSearchedBy u s cs d breaks
  refused-searched s cs d breaks h = stuck s cs d breaks h

  -- the state was kept
  pub kept-searched : (left : ℕ) (s : State) (w : Way) → HasRowAsGood u left s w → IsSearchedAsGoodBy u s (items_ahead g left) w.demerits (reverse w.breaks.items)
  kept-searched left s w h =
      (h.0, h.1, waits h.0 (items_ahead g left) w.demerits (reverse w.breaks.items) (subst (λ a. rows_know (rows_of u) h.0 (items_ahead a.now left) w.demerits (reverse w.breaks.items)) later.galley h.2))

  -- the run ended well
  pub end-searched : (s : State) (w : Way) → IsQuiet s → IsNoWorseWay u.best w → IsSearchedBy u s (items_ahead g 0) w.demerits (reverse w.breaks.items)
  end-searched s w h k =
      subst (λ cs. IsSearchedBy u s cs w.demerits (reverse w.breaks.items)) (sym (none-ahead g))
      (ended s w.demerits (reverse w.breaks.items) h.quiet (λ es rs left e. k))

  -- nothing is ahead, and the run does not end well
  pub no-end-searched : (s : State) (d : ℤ) (breaks : List ℕ) → MayTake s → IsRefusal (unlimited_step s) → IsSearchedBy u s (items_ahead g 0) d breaks
  no-end-searched s d breaks (inl quiet) h =
      subst (λ cs. IsSearchedBy u s cs d breaks) (sym (none-ahead g))
      (ended s d breaks quiet
      (λ es rs left. refused-ends (IsNoBetter u.best.demerits (reverse u.best.breaks.items) d breaks) (unlimited_step s) es rs left h))
  no-end-searched s d breaks (inr refused) h = refused-searched s (items_ahead g 0) d breaks refused

  -- a page fired, and the state after it is searched
  pub fired-searched : (b c : Branch) (cs : List Ahead) (a d : ℤ) (breaks : List ℕ) → HasFired (place_penalties g.items) a b c → IsSearchedAsGoodBy u (shown c) cs (d +ℤ a) breaks → IsSearchedBy u (shown b) cs d breaks
  fired-searched b c cs a d breaks first h =
      let k = in-galley (λ x. HasFired (place_penalties x.items) a b c) first in
      fills (shown b) (shown c) h.0 cs d breaks k.events k.records k.fires k.step h.1 (subst (λ e. IsSearchedBy u h.0 cs (d +ℤ e) breaks) k.demerits h.2)

  -- an item was taken, and the state after it is searched
  pub taken-searched : (middle : Table) (left : ℕ) (s : State) (d : ℤ) (breaks : List ℕ) → suc left ≤ length (all_ahead g) → MayTake s → HasSearched [] middle u → IsCutSearched middle s (items_ahead g (suc left)) d breaks
      → IsSearchedBy u (state_with (next_ahead g left).nodes s) (items_ahead g left) d breaks → IsSearchedBy u s (items_ahead g (suc left)) d breaks
  taken-searched middle left s d breaks some (inr refused) on cut h = refused-searched s (items_ahead g (suc left)) d breaks refused
  taken-searched middle left s d breaks some (inl quiet) on cut h =
      let put_in = subst (λ cs. IsCutSearched middle s cs d breaks) (next-is g left some) cut in
      subst (λ cs. IsSearchedBy u s cs d breaks) (sym (next-is g left some))
      (takes s (next_ahead g left) (items_ahead g left) d breaks quiet
      (λ place box.
      still-searched middle u on (state_with (forced (next_ahead g left) ∷ (next_ahead g left).nodes) s) (items_ahead g left) (d +ℤ pos 1000) ((next_ahead g left).number ∷ breaks) (put_in place box))
      h)

-- ---- breaks

-- the ways with a break before the next item, by that item
pub cut-searched : (u : Table) (g : Galley) (left : ℕ) (s : State) (d : ℤ) (breaks : List ℕ) → suc left ≤ length (all_ahead g)
    → ((next_ahead g left).is_place ≡ true → holds_box s.waiting ≡ true
    → IsSearchedBy u (state_with (forced (next_ahead g left) ∷ (next_ahead g left).nodes) s) (items_ahead g left) (d +ℤ pos 1000) ((next_ahead g left).number ∷ breaks))
    → IsCutSearched u s (items_ahead g (suc left)) d breaks
cut-searched u g left s d breaks some h = subst (λ cs. IsCutSearched u s cs d breaks) (sym (next-is g left some)) h

-- a page with a break put in and a box fires
pub cut-quiet : (X : Type 0) (s : State) (c : Ahead) → holds_box s.waiting ≡ true → (reach_in (state_with (forced c ∷ c.nodes) s)).fires ≡ false → X
cut-quiet X s c box quiet = let fires = cut-fires s c box in let no : ⊥ = grind (arith, fires, quiet) in absurd no

-- if a page fires, no run goes on from there whatever comes behind
pub fired-refused : (s : State) → (reach_in s).fires ≡ true → IsRefusal (unlimited_step s) → IsRefused s
fired-refused s fires h = record { step = h; later = inl fires }

-- a run does not go on or end well here; perhaps items may be taken
pub full-may : (s : State) → IsFull s → MayTake s
full-may s h = by (reach_in s).fires refl
  where
    by : (b : Bool) → (reach_in s).fires ≡ b → MayTake s
    by true e = inr (fired-refused s e h.step)
    by false e = inl e

-- ---- results

-- of a result what two facts of it show
pub if-both : {X E : Type 0} (r : Result X E) (P Q R : Type 0) → OnOk r P → OnOk r Q → (P → Q → R) → OnOk r R
if-both (Ok x) P Q R p q f = f p q
if-both (Err e) P Q R p q f = tt
