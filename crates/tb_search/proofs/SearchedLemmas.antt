-- What stays searched, and that a search to the end has the best plan.
use Rattle.std.proofs.Common.{◌≡◌, refl, sym, ◌∙◌, ap, subst, ◌⊎◌, inl, inr, ℕ, ◌*◌, ℤ, Bool, true, false, List, [], ◌∷◌, ◌++◌, append_assoc, Some, arith}
use Rattle.std.specs.Prelude.{pos, ◌+ℤ◌, ◌≤ℤ◌, ◌<ℤ◌, reverse}
use Rattle.std.proofs.lemmas.Int.{ints}
use Rattle.tb_node.specs.PlainNodes.{PlainNode}
use Rattle.tb_galley.specs.declared.Galley.{Galley}
use Rattle.tb_builder.specs.Reach.{holds_box}
use Rattle.tb_output.specs.State.{State, Recorded}
use Rattle.tb_items.specs.RunEvents.{RunEvent}
use Rattle.tb_steps.specs.Run.{done, Step, ends, goes_on}
use Rattle.tb_plans.specs.Plans.{IsPlan}
use Rattle.tb_rate.specs.Places.{place_penalties}
use Rattle.tb_best.specs.PlanDemerits.{reach_in, unlimited_step, step_demerits, plan_demerits}
use Rattle.tb_best.specs.BestPlan.{IsBest}
use Rattle.tb_best.specs.Sides.{sides_of, AheadKeep}
use Rattle.tb_best.proofs.SideItems.{items-keep}
use Rattle.tb_best.specs.ItemsAhead.{Ahead, all_ahead, empty_start, forced, state_with}
use Rattle.tb_best.specs.ClosedTables.{Row, rows_know, IsAsGood, IsNoBetter}
use Rattle.tb_best.specs.PageTables.{with_page}
use Rattle.tb_best.proofs.Paths.{marked, Path, finished, taken, cut, filled}
use Rattle.tb_best.proofs.PlanMarks.{breaks_after}
use Rattle.tb_best.proofs.ClosedLemmas.{way-low, in-cut, in-fill, nothing-more, as-good-way}
use Rattle.tb_best.proofs.BestLemmas.{ways-best}
use Rattle.tb_search.specs.FilledBranches.{IsRefusal, IsRefused}
use Rattle.tb_search.specs.Searched.{IsSearched, over, waits, stuck, fills, takes, stands, ended}
use Rattle.tb_search.proofs.OrderLemmas.{no-better-through, no-better-after, no-better-with}

pub as-good-itself : (g : Galley) (t : State) → IsAsGood g t t
as-good-itself g t fuel behind d keep h = (d, h, omega (arith, ints))

pub as-good-through : (g : Galley) (s t u : State) → IsAsGood g s t → IsAsGood g t u → IsAsGood g s u
as-good-through g s t u h k fuel behind d keep e =
    let a = h fuel behind d keep e in
    let b = k fuel behind a.0 keep a.1 in
    (b.0, b.1, no-more b.0 a.0 d b.2 a.2)
  where
    no-more : (x y z : ℤ) → x ≤ℤ y → y ≤ℤ z → x ≤ℤ z
    no-more x y z i j = omega (arith, ints, i, j)

-- ---- a state that was reached in a way that is no better

no-better-over : (bound d e : ℤ) (bs cs : List ℕ) → bound <ℤ d → IsNoBetter d bs e cs → bound <ℤ e
no-better-over bound d e bs cs h (inl k) = grind (arith, ints, h, k)
no-better-over bound d e bs cs h (inr k) = let i = k.0 in grind (arith, ints, h, i)

module _ (g : Galley) (bound total : ℤ) (best : List ℕ) (waiting : List Row) where
  rows-worse : (rows : List Row) (s : State) (cs : List Ahead) (d e : ℤ) (breaks others : List ℕ) → rows_know rows s cs d breaks → IsNoBetter d breaks e others → rows_know rows s cs e others
  rows-worse [] s cs d e breaks others h k = h
  rows-worse (r ∷ rs) s cs d e breaks others (inl h) k = inl (h.0, h.1, no-better-through r.demerits d e r.breaks breaks others h.2 k)
  rows-worse (r ∷ rs) s cs d e breaks others (inr h) k = inr (rows-worse rs s cs d e breaks others h k)

  pub searched-worse : (s : State) (cs : List Ahead) (d : ℤ) (breaks : List ℕ) → IsSearched g bound total best waiting s cs d breaks → (e : ℤ) (others : List ℕ) → IsNoBetter d breaks e others → IsSearched g bound total best waiting s cs e others
  searched-worse _ _ _ _ (over s cs d breaks h) e others k = over s cs e others (no-better-over bound d e breaks others h k)
  searched-worse _ _ _ _ (waits s cs d breaks h) e others k = waits s cs e others (rows-worse waiting s cs d e breaks others h k)
  searched-worse _ _ _ _ (stuck s cs d breaks h) e others k = stuck s cs e others h
  searched-worse _ _ _ _ (fills s t u cs d breaks es rs fires is good h) e others k =
      fills s t u cs e others es rs fires is good
      (searched-worse u cs (with_page g d s es rs t) breaks h (with_page g e s es rs t) others (no-better-after d e (step_demerits (place_penalties g.items) s (goes_on es rs t)) breaks others k))
  searched-worse _ _ _ _ (takes s c cs d breaks quiet put h) e others k =
      takes s c cs e others quiet
      (λ place box. searched-worse (state_with (forced c ∷ c.nodes) s) cs (d +ℤ pos 1000) (c.number ∷ breaks) (put place box) (e +ℤ pos 1000) (c.number ∷ others) (no-better-with (d +ℤ pos 1000) (e +ℤ pos 1000) c.number breaks others (no-better-after d e (pos 1000) breaks others k)))
      (searched-worse (state_with c.nodes s) cs d breaks h e others k)
  searched-worse _ _ _ _ (stands s t cs d breaks good h) e others k = stands s t cs e others good (searched-worse t cs d breaks h e others k)
  searched-worse _ _ _ _ (ended s d breaks quiet h) e others k = ended s e others quiet (λ es rs left is. no-better-through total d e best breaks others (h es rs left is) k)

-- ---- later tables

module _ (g : Galley) (bound total after : ℤ) (best later : List ℕ) (better : IsNoBetter after later total best) (waiting rows : List Row)
    (all : (s : State) (cs : List Ahead) (d : ℤ) (breaks : List ℕ) → rows_know waiting s cs d breaks → IsSearched g bound after later rows s cs d breaks) where
  -- if the rows that waited are searched, so is what was searched up to them
  pub searched-later : (s : State) (cs : List Ahead) (d : ℤ) (breaks : List ℕ) → IsSearched g bound total best waiting s cs d breaks → IsSearched g bound after later rows s cs d breaks
  searched-later _ _ _ _ (over s cs d breaks h) = over s cs d breaks h
  searched-later _ _ _ _ (waits s cs d breaks h) = all s cs d breaks h
  searched-later _ _ _ _ (stuck s cs d breaks h) = stuck s cs d breaks h
  searched-later _ _ _ _ (fills s t u cs d breaks es rs fires is good h) = fills s t u cs d breaks es rs fires is good (searched-later u cs (with_page g d s es rs t) breaks h)
  searched-later _ _ _ _ (takes s c cs d breaks quiet put h) =
      takes s c cs d breaks quiet
      (λ place box. searched-later (state_with (forced c ∷ c.nodes) s) cs (d +ℤ pos 1000) (c.number ∷ breaks) (put place box))
      (searched-later (state_with c.nodes s) cs d breaks h)
  searched-later _ _ _ _ (stands s t cs d breaks good h) = stands s t cs d breaks good (searched-later t cs d breaks h)
  searched-later _ _ _ _ (ended s d breaks quiet h) = ended s d breaks quiet (λ es rs left is. no-better-through after total d later best breaks better (h es rs left is))

-- ---- a refused state

more-more : (s : State) (ns ms : List PlainNode) → state_with ms (state_with ns s) ≡ state_with (ns ++ ms) s
more-more s ns ms = ap (λ ws. record s { waiting = ws }) (append_assoc s.waiting ns ms)

not-fires : (s : State) (X : Type 0) → (reach_in s).fires ≡ true → (reach_in s).fires ≡ false → X
not-fires s X h k = let no : ⊥ = grind (arith, h, k) in absurd no

-- a page fires, or from it no run goes on whatever comes behind
pub refused-with : (s : State) (ns : List PlainNode) → (reach_in s).fires ≡ false → IsRefused s → IsRefused (state_with ns s)
refused-with s ns quiet h = by h.later
  where
    by : ((reach_in s).fires ≡ true) ⊎ ((more : List PlainNode) → IsRefusal (unlimited_step (state_with more s))) → IsRefused (state_with ns s)
    by (inl fires) = not-fires s (IsRefused (state_with ns s)) fires quiet
    by (inr later) = record { step = later ns; later = inr (λ more. subst (λ t. IsRefusal (unlimited_step t)) (sym (more-more s ns more)) (later (ns ++ more))) }

refused-goes-on : (X : Type 0) (x : Step) (es : List RunEvent) (rs : List Recorded) (t : State) → IsRefusal x → x ≡ goes_on es rs t → X
refused-goes-on X x es rs t h e = absurd (subst IsRefusal e h)

pub refused-ends : (X : Type 0) (x : Step) (es : List RunEvent) (rs : List Recorded) (left : List PlainNode) → IsRefusal x → x ≡ ends es rs (done left) → X
refused-ends X x es rs left h e = absurd (subst IsRefusal e h left refl)

-- ---- a search to its end

-- the state that a step goes on in, or this one
abbrev after-or : State → Step → State
after-or s (ends es rs e) = s
after-or s (goes_on es rs t) = t

module _ (g : Galley) (bound total : ℤ) (best : List ℕ) (high : total ≤ℤ bound) where
  abbrev Ways : ℕ → State → List Ahead → List Bool → ℤ → Type 0
  Ways = Path (place_penalties g.items)

  -- a way from a state that was reached at these demerits and with these breaks ends no better than the best
  abbrev EndsNoBetter : ℤ → List ℕ → List Ahead → List Bool → ℤ → Type 0
  EndsNoBetter a breaks cs ms d = IsNoBetter total best (a +ℤ (d +ℤ pos (1000 * marked ms))) (breaks_after breaks cs ms)

  -- so do all ways
  abbrev AllEnd : State → List Ahead → ℤ → List ℕ → Type 0
  AllEnd s cs a breaks = (k : ℕ) (ms : List Bool) (d : ℤ) → Ways k s cs ms d → EndsNoBetter a breaks cs ms d

  over-low : (a d : ℤ) → bound <ℤ a → pos 0 ≤ℤ d → total <ℤ (a +ℤ d)
  over-low a d h k = grind (arith, ints, high, h, k)

  -- no way leads from a state from which no run goes on
  refused-way : {X : Type 0} (k : ℕ) (s : State) (cs : List Ahead) (ms : List Bool) (d : ℤ) → Ways k s cs ms d → IsRefused s → X
  refused-way _ _ _ _ _ (finished k s es rs left quiet e) h = refused-ends _ (unlimited_step s) es rs left h.step e
  refused-way _ _ _ _ _ (taken k s c cs ms d quiet w) h = refused-way k (state_with c.nodes s) cs ms d w (refused-with s c.nodes quiet h)
  refused-way _ _ _ _ _ (cut k s c cs ms d quiet place box w) h = refused-way k (state_with (forced c ∷ c.nodes) s) cs ms d w (refused-with s (forced c ∷ c.nodes) quiet h)
  refused-way _ _ _ _ _ (filled k s cs ms d es rs t fires e w) h = refused-goes-on _ (unlimited_step s) es rs t h.step e

  -- a page is filled
  filled-way : (k : ℕ) (s : State) (cs : List Ahead) (ms : List Bool) (d : ℤ) → Ways k s cs ms d → (a : ℤ) (breaks : List ℕ) (t : State) (es : List RunEvent) (rs : List Recorded) → (reach_in s).fires ≡ true → unlimited_step s ≡ goes_on es rs t
      → AllEnd t cs (with_page g a s es rs t) breaks → EndsNoBetter a breaks cs ms d
  filled-way _ _ _ _ _ (finished k s _ _ left quiet i) a breaks t es rs fires e rest = not-fires s _ fires quiet
  filled-way _ _ _ _ _ (taken k s c cs ms d quiet w) a breaks t es rs fires e rest = not-fires s _ fires quiet
  filled-way _ _ _ _ _ (cut k s c cs ms d quiet place box w) a breaks t es rs fires e rest = not-fires s _ fires quiet
  filled-way _ _ _ _ _ (filled k s cs ms d os qs v _ i w) a breaks t es rs fires e rest =
      let same = sym e ∙ i in
      let r = step_demerits (place_penalties g.items) s (goes_on es rs t) in
      subst (λ x. IsNoBetter total best (a +ℤ ((x +ℤ d) +ℤ pos (1000 * marked ms))) (breaks_after breaks cs ms)) (ap (λ x. step_demerits (place_penalties g.items) s x) same)
      (subst (λ x. IsNoBetter total best x (breaks_after breaks cs ms)) (in-fill a r d (pos (1000 * marked ms)))
      (rest k ms d (subst (λ u. Ways k u cs ms d) (sym (ap (after-or s) same)) w)))

  -- an item is taken, or a break is put in and the item is taken
  taken-way : (k : ℕ) (s : State) (c : Ahead) (cs : List Ahead) (ms : List Bool) (d : ℤ) → Ways k s (c ∷ cs) ms d → (a : ℤ) (breaks : List ℕ) → (reach_in s).fires ≡ false
      → (c.is_place ≡ true → holds_box s.waiting ≡ true → AllEnd (state_with (forced c ∷ c.nodes) s) cs (a +ℤ pos 1000) (c.number ∷ breaks)) → AllEnd (state_with c.nodes s) cs a breaks → EndsNoBetter a breaks (c ∷ cs) ms d
  taken-way _ _ _ _ _ _ (taken k s c cs ms d quiet w) a breaks still put rest = rest k ms d w
  taken-way _ _ _ _ _ _ (cut k s c cs ms d quiet place box w) a breaks still put rest =
      subst (λ x. IsNoBetter total best x (breaks_after (c.number ∷ breaks) cs ms)) (in-cut total a d (marked ms)) (put place box k ms d w)
  taken-way _ _ c cs _ _ (filled k s _ ms d es rs t fires e w) a breaks still put rest = not-fires s _ fires still

  -- the run ends
  ended-way : (k : ℕ) (s : State) (ms : List Bool) (d : ℤ) → Ways k s [] ms d → (a : ℤ) (breaks : List ℕ) → (reach_in s).fires ≡ false
      → ((es : List RunEvent) (rs : List Recorded) (left : List PlainNode) → unlimited_step s ≡ ends es rs (done left) → IsNoBetter total best a breaks) → EndsNoBetter a breaks [] ms d
  ended-way _ _ _ _ (finished k s es rs left quiet e) a breaks still h = subst (λ x. IsNoBetter total best x breaks) (nothing-more a) (h es rs left e)
  ended-way _ _ _ _ (filled k s _ ms d es rs t fires e w) a breaks still h = not-fires s _ fires still

  -- no way from a state that is searched ends better
  no-better-way : (s : State) (cs : List Ahead) (a : ℤ) (breaks : List ℕ) → AheadKeep (sides_of g) cs → IsSearched g bound total best [] s cs a breaks → AllEnd s cs a breaks
  no-better-way _ _ _ _ keep (over s cs a breaks h) k ms d way = inl (over-low a (d +ℤ pos (1000 * marked ms)) h (way-low (place_penalties g.items) k s cs ms d way))
  no-better-way _ _ _ _ keep (waits s cs a breaks h) k ms d way = absurd h
  no-better-way _ _ _ _ keep (stuck s cs a breaks h) k ms d way = refused-way k s cs ms d way h
  no-better-way _ _ _ _ keep (fills s t u cs a breaks es rs fires is good h) k ms d way =
      filled-way k s cs ms d way a breaks t es rs fires is
      (λ l others e w. as-good-way g total best l t u cs others e (with_page g a s es rs t) breaks w keep good (λ marks f v. no-better-way u cs (with_page g a s es rs t) breaks keep h l marks f v))
  no-better-way _ _ _ _ keep (takes s c cs a breaks quiet put h) k ms d way =
      taken-way k s c cs ms d way a breaks quiet (λ place box. no-better-way (state_with (forced c ∷ c.nodes) s) cs (a +ℤ pos 1000) (c.number ∷ breaks) keep.1 (put place box)) (no-better-way (state_with c.nodes s) cs a breaks keep.1 h)
  no-better-way _ _ _ _ keep (stands s t cs a breaks good h) k ms d way = as-good-way g total best k s t cs ms d a breaks way keep good (λ others e w. no-better-way t cs a breaks keep h k others e w)
  no-better-way _ _ _ _ keep (ended s a breaks quiet h) k ms d way = ended-way k s ms d way a breaks quiet h

-- if nothing waits any more and the beginning is searched, the best way is the best plan
pub searched-best : (g : Galley) (bound total : ℤ) (plan : List ℕ) → total ≤ℤ bound → IsPlan g plan → plan_demerits g plan ≡ Some total → IsSearched g bound total (reverse plan) [] (empty_start g) (all_ahead g) (pos 0) [] → IsBest g plan total
searched-best g bound total plan high is sum h = ways-best g plan total is sum (no-better-way g bound total (reverse plan) high (empty_start g) (all_ahead g) (pos 0) [] (items-keep g) h)
