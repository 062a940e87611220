-- No way from a table that is closed ends better than the best of it.
use Rattle.std.proofs.Common.{◌≡◌, refl, sym, ap, subst, ◌⊎◌, inl, inr, ℕ, zero, suc, ◌+◌, ◌*◌, ◌<◌, ℤ, Bool, true, false, List, ◌∷◌, Option, Some, None, arith}
use Rattle.std.specs.Prelude.{pos, negsuc, ◌+ℤ◌, ◌-ℤ◌, ◌*ℤ◌, ◌≤ℤ◌, ◌<ℤ◌, int_lt, int_le, if◌then◌else◌}
use Rattle.std.proofs.lemmas.Int.{ints}
use Rattle.tb_scaled.specs.Scaled.{awful_bad, inf_bad, eject_penalty, min_ℤ}
use Rattle.tb_galley.specs.declared.Galley.{Galley}
use Rattle.tb_param.specs.declared.Params.{Params}
use Rattle.tb_output.specs.State.{State}
use Rattle.tb_builder.specs.declared.Try.{Try}
use Rattle.tb_steps.specs.Run.{Step, ends, goes_on}
use Rattle.tb_rate.specs.declared.PlacePenalty.{PlacePenalty}
use Rattle.tb_rate.specs.Places.{place_penalties}
use Rattle.tb_rate.specs.Rating.{square, points_left, base, with_penalty, rated_badness, rated_penalty, rated, rating}
use Rattle.tb_rate.specs.Tries.{last_champion, first_number}
use Rattle.tb_rate.specs.RatedRun.{floats_waiting, insertions_first, demerits_if}
use Rattle.tb_best.specs.PlanDemerits.{step_demerits}
use Rattle.tb_best.specs.ItemsAhead.{Ahead, forced, state_with}
use Rattle.tb_best.specs.ClosedTables.{Table, IsNoBetter, IsAsGood, IsClosed}
use Rattle.tb_best.specs.Sides.{sides_of, AheadKeep}
use Rattle.tb_best.proofs.SideItems.{planned-keep}
use Rattle.tb_best.proofs.Paths.{planned, marked, Path, finished, taken, cut, filled, run-paths, path-runs, path-marks}
use Rattle.tb_best.proofs.PlanMarks.{breaks_after}

-- ---- demerits are never below 0

square-low : (v : ℤ) → pos 0 ≤ℤ square v
square-low (pos n) = omega (arith, ints)
square-low (negsuc n) = omega (arith, ints)

base-by : (t : Try) (b : ℤ) (u v : Bool) → pos 0 ≤ℤ (if u then pos 1000000000 else (if v then pos 100000000 +ℤ pos 1000 *ℤ square (points_left t) else square (pos 10 +ℤ b)))
base-by t b true v = omega (arith, ints)
base-by t b false true = let h = square-low (points_left t) in more (square (points_left t)) h
  where
    more : (q : ℤ) → pos 0 ≤ℤ q → pos 0 ≤ℤ (pos 100000000 +ℤ pos 1000 *ℤ q)
    more q h = omega (arith, ints, h)
base-by t b false false = square-low (pos 10 +ℤ b)

base-low : (t : Try) (b : ℤ) → pos 0 ≤ℤ base t b
base-low t b = base-by t b (int_le awful_bad t.cost) (int_le inf_bad (pos 10 +ℤ b))

sum-low : (d s : ℤ) → pos 0 ≤ℤ d → pos 0 ≤ℤ s → pos 0 ≤ℤ (d +ℤ s)
sum-low d s h k = grind (arith, ints, h, k)

less-low : (d s : ℤ) → pos 0 ≤ℤ d → pos 0 ≤ℤ (d -ℤ min_ℤ s d)
less-low d s h = grind (arith, ints, h)

penalty-by : (d q : ℤ) (t : Bool) → pos 0 ≤ℤ d → pos 0 ≤ℤ (if t then d +ℤ square q else d -ℤ min_ℤ (square q) d)
penalty-by d q true h = sum-low d (square q) h (square-low q)
penalty-by d q false h = less-low d (square q) h

rated-low : (p : Params) (places : List PlacePenalty) (page : ℕ) (t : Try) (waiting held : ℕ) → pos 0 ≤ℤ (rated p places page t waiting held).demerits
rated-low p places page t waiting held =
    let b = rated_badness p t in
    let q = rated_penalty places t in
    sum-low (with_penalty (base t b) q) (pos (10000 * (waiting + held))) (penalty-by (base t b) q (int_lt (pos 0) q) (base-low t b)) (omega (arith, ints))

rating-by : (p : Params) (places : List PlacePenalty) (page : ℕ) (t : Try) (waiting held : ℕ) (u : Bool) → pos 0 ≤ℤ demerits_if (if u then None else Some (rated p places page t waiting held))
rating-by p places page t waiting held true = omega (arith, ints)
rating-by p places page t waiting held false = rated-low p places page t waiting held

rating-low : (p : Params) (places : List PlacePenalty) (page : ℕ) (o : Option Try) (waiting held : ℕ) → pos 0 ≤ℤ demerits_if (rating p places page o waiting held)
rating-low p places page None waiting held = omega (arith, ints)
rating-low p places page (Some t) waiting held = rating-by p places page t waiting held (int_lt t.penalty eject_penalty)

pub step-low : (places : List PlacePenalty) (s : State) (x : Step) → pos 0 ≤ℤ step_demerits places s x
step-low places s (ends es rs e) = omega (arith, ints)
step-low places s (goes_on es rs t) = rating-low t.params places (first_number t.number es) (last_champion es) (floats_waiting t.floats) (insertions_first t.waiting)

-- ---- the sum of a way

pub nothing-more : (a : ℤ) → a ≡ (a +ℤ (pos 0 +ℤ pos (1000 * 0)))
nothing-more a = grind (arith, ints)

pub in-cut : (total a d : ℤ) (m : ℕ) → ((a +ℤ pos 1000) +ℤ (d +ℤ pos (1000 * m))) ≡ (a +ℤ (d +ℤ pos (1000 * suc m)))
in-cut total a d m = omega (arith, ints)

pub in-fill : (a r d c : ℤ) → ((a +ℤ r) +ℤ (d +ℤ c)) ≡ (a +ℤ ((r +ℤ d) +ℤ c))
in-fill a r d c = omega (arith, ints)

past : (total a b c d : ℤ) → total <ℤ a → pos 0 ≤ℤ b → (a +ℤ b) ≡ c → total <ℤ c
past total a b c d h k e = grind (arith, ints, h, k, e)

one-more : (d : ℤ) (m : ℕ) → pos 0 ≤ℤ (d +ℤ pos (1000 * m)) → pos 0 ≤ℤ (d +ℤ pos (1000 * suc m))
one-more d m h = omega (arith, ints, h)

module _ (places : List PlacePenalty) where
  pub way-low : (k : ℕ) (s : State) (cs : List Ahead) (ms : List Bool) (d : ℤ) → Path places k s cs ms d → pos 0 ≤ℤ (d +ℤ pos (1000 * marked ms))
  way-low _ _ _ _ _ (finished k s es rs left quiet e) = omega (arith, ints)
  way-low _ _ _ _ _ (taken k s c cs ms d quiet h) = way-low k (state_with c.nodes s) cs ms d h
  way-low _ _ _ _ _ (cut k s c cs ms d quiet place box h) = one-more d (marked ms) (way-low k (state_with (forced c ∷ c.nodes) s) cs ms d h)
  way-low _ _ _ _ _ (filled k s cs ms d es rs t fires e h) =
      let i = way-low k t cs ms d h in
      let j = step-low places s (goes_on es rs t) in
      subst (λ x. pos 0 ≤ℤ x) (sym (zero-more (step_demerits places s (goes_on es rs t)) d (pos (1000 * marked ms)))) (sum-low (step_demerits places s (goes_on es rs t)) (d +ℤ pos (1000 * marked ms)) j i)
    where
      zero-more : (r d c : ℤ) → ((r +ℤ d) +ℤ c) ≡ (r +ℤ (d +ℤ c))
      zero-more r d c = omega (arith, ints)

-- ---- no way ends better

-- a way with fewer demerits, or with as many and the same breaks, is no better either
no-worse : (total x y : ℤ) (best breaks others : List ℕ) → (x <ℤ y) ⊎ ((x ≡ y) × (breaks ≡ others)) → IsNoBetter total best x breaks → IsNoBetter total best y others
no-worse total x y best breaks others (inl h) (inl k) = inl (grind (arith, ints, h, k))
no-worse total x y best breaks others (inl h) (inr k) = let e = k.0 in inl (grind (arith, ints, h, e))
no-worse total x y best breaks others (inr h) k = subst (λ l. IsNoBetter total best y l) h.1 (subst (λ z. IsNoBetter total best z breaks) h.0 k)

less-or-same : (a b : ℤ) (t : Bool) → int_lt a b ≡ t → a ≤ℤ b → (a <ℤ b) ⊎ (a ≡ b)
less-or-same a b true e h = inl (grind (arith, ints, e))
less-or-same a b false e h = inr (grind (arith, ints, e, h))

in-fewer : (a e d : ℤ) (m n : ℕ) → m < n → e ≤ℤ d → (a +ℤ (e +ℤ pos (1000 * m))) <ℤ (a +ℤ (d +ℤ pos (1000 * n)))
in-fewer a e d m n h k = omega (arith, ints, h, k)

in-less : (a e d : ℤ) (m n : ℕ) → m ≡ n → e <ℤ d → (a +ℤ (e +ℤ pos (1000 * m))) <ℤ (a +ℤ (d +ℤ pos (1000 * n)))
in-less a e d m n h k = omega (arith, ints, h, k)

in-same : (a e d : ℤ) (m n : ℕ) → m ≡ n → e ≡ d → (a +ℤ (e +ℤ pos (1000 * m))) ≡ (a +ℤ (d +ℤ pos (1000 * n)))
in-same a e d m n h k = omega (arith, ints, h, k)

-- with fewer demerits or breaks a way is no worse
merged : (a e d : ℤ) (breaks : List ℕ) (cs : List Ahead) (less ms : List Bool) → (less ≡ ms) ⊎ (marked less < marked ms) → e ≤ℤ d
    → ((a +ℤ (e +ℤ pos (1000 * marked less))) <ℤ (a +ℤ (d +ℤ pos (1000 * marked ms)))) ⊎ (((a +ℤ (e +ℤ pos (1000 * marked less))) ≡ (a +ℤ (d +ℤ pos (1000 * marked ms)))) × (breaks_after breaks cs less ≡ breaks_after breaks cs ms))
merged a e d breaks cs less ms (inr h) k = inl (in-fewer a e d (marked less) (marked ms) h k)
merged a e d breaks cs less ms (inl h) k = by (less-or-same e d (int_lt e d) refl k)
  where
    by : (e <ℤ d) ⊎ (e ≡ d)
        → ((a +ℤ (e +ℤ pos (1000 * marked less))) <ℤ (a +ℤ (d +ℤ pos (1000 * marked ms)))) ⊎ (((a +ℤ (e +ℤ pos (1000 * marked less))) ≡ (a +ℤ (d +ℤ pos (1000 * marked ms)))) × (breaks_after breaks cs less ≡ breaks_after breaks cs ms))
    by (inl i) = inl (in-less a e d (marked less) (marked ms) (ap marked h) i)
    by (inr i) = inr (in-same a e d (marked less) (marked ms) (ap marked h) i, ap (breaks_after breaks cs) h)

module _ (g : Galley) (total : ℤ) (best : List ℕ) where
  -- a way from a state ends no better, if none from one that is as good does
  pub as-good-way : (k : ℕ) (t u : State) (cs : List Ahead) (ms : List Bool) (d a : ℤ) (breaks : List ℕ) → Path (place_penalties g.items) k t cs ms d → AheadKeep (sides_of g) cs → IsAsGood g t u
      → ((others : List Bool) (e : ℤ) → Path (place_penalties g.items) k u cs others e → IsNoBetter total best (a +ℤ (e +ℤ pos (1000 * marked others))) (breaks_after breaks cs others))
      → IsNoBetter total best (a +ℤ (d +ℤ pos (1000 * marked ms))) (breaks_after breaks cs ms)
  as-good-way k t u cs ms d a breaks way keep good claim =
      let run = good k (planned ms cs) d (planned-keep (sides_of g) ms cs keep) (path-runs (place_penalties g.items) k t cs ms d way) in
      let other = run-paths (place_penalties g.items) k u cs ms run.0 (path-marks (place_penalties g.items) k t cs ms d way) run.1 in
      no-worse total (a +ℤ (run.0 +ℤ pos (1000 * marked other.0))) (a +ℤ (d +ℤ pos (1000 * marked ms))) best (breaks_after breaks cs other.0) (breaks_after breaks cs ms)
      (merged a run.0 d breaks cs other.0 ms other.2 run.2)
      (claim other.0 run.0 other.1)

module _ (g : Galley) (total : ℤ) (best : List ℕ) (Known : Table) (closed : IsClosed g total best Known) where
  abbrev Ways : ℕ → State → List Ahead → List Bool → ℤ → Type 0
  Ways = Path (place_penalties g.items)

  -- no way with this fuel from what the table knows ends better
  abbrev Claim : ℕ → Type 0
  Claim k = (s : State) (cs : List Ahead) (ms : List Bool) (d a : ℤ) (breaks : List ℕ) → AheadKeep (sides_of g) cs → Ways k s cs ms d → Known s cs a breaks → IsNoBetter total best (a +ℤ (d +ℤ pos (1000 * marked ms))) (breaks_after breaks cs ms)

  abbrev Earlier : ℕ → Type 0
  Earlier zero = Unit {0}
  Earlier (suc k) = Claim k

  ways-with : (k : ℕ) → Earlier k → (s : State) (cs : List Ahead) (ms : List Bool) (d : ℤ) → AheadKeep (sides_of g) cs → Ways k s cs ms d → (a : ℤ) (breaks : List ℕ) → Known s cs a breaks
      → IsNoBetter total best (a +ℤ (d +ℤ pos (1000 * marked ms))) (breaks_after breaks cs ms)
  ways-with _ later _ _ _ _ keep (finished k s es rs left quiet e) a breaks known = subst (λ x. IsNoBetter total best x breaks) (nothing-more a) (closed.finishes s a breaks es rs left known quiet e)
  ways-with _ later _ _ _ _ keep (taken k s c cs ms d quiet h) a breaks known = ways-with k later (state_with c.nodes s) cs ms d keep.1 h a breaks (closed.takes s c cs a breaks known quiet)
  ways-with _ later _ _ _ _ keep (cut k s c cs ms d quiet place box h) a breaks known =
      by (closed.cuts s c cs a breaks known quiet place box) (λ x. ways-with k later (state_with (forced c ∷ c.nodes) s) cs ms d keep.1 h (a +ℤ pos 1000) (c.number ∷ breaks) x)
      (way-low (place_penalties g.items) k (state_with (forced c ∷ c.nodes) s) cs ms d h)
    where
      by : {X : Type 0} → X ⊎ (total <ℤ (a +ℤ pos 1000)) → (X → IsNoBetter total best ((a +ℤ pos 1000) +ℤ (d +ℤ pos (1000 * marked ms))) (breaks_after (c.number ∷ breaks) cs ms)) → pos 0 ≤ℤ (d +ℤ pos (1000 * marked ms))
          → IsNoBetter total best (a +ℤ (d +ℤ pos (1000 * suc (marked ms)))) (breaks_after (c.number ∷ breaks) cs ms)
      by (inl x) next i = subst (λ x. IsNoBetter total best x (breaks_after (c.number ∷ breaks) cs ms)) (in-cut total a d (marked ms)) (next x)
      by (inr y) next i = inl (past total (a +ℤ pos 1000) (d +ℤ pos (1000 * marked ms)) (a +ℤ (d +ℤ pos (1000 * suc (marked ms)))) d y i (in-cut total a d (marked ms)))
  ways-with _ later _ _ _ _ keep (filled k s cs ms d es rs t fires e h) a breaks known =
      by (step_demerits (place_penalties g.items) s (goes_on es rs t)) (closed.fills s t cs a breaks es rs known fires e)
      (λ x. as-good-way g total best k t x.0 cs ms d (a +ℤ step_demerits (place_penalties g.items) s (goes_on es rs t)) breaks h keep x.1 (λ others e w. later x.0 cs others e (a +ℤ step_demerits (place_penalties g.items) s (goes_on es rs t)) breaks keep w x.2))
      (way-low (place_penalties g.items) k t cs ms d h)
    where
      by : {X : Type 0} (r : ℤ) → X ⊎ (total <ℤ (a +ℤ r)) → (X → IsNoBetter total best ((a +ℤ r) +ℤ (d +ℤ pos (1000 * marked ms))) (breaks_after breaks cs ms)) → pos 0 ≤ℤ (d +ℤ pos (1000 * marked ms))
          → IsNoBetter total best (a +ℤ ((r +ℤ d) +ℤ pos (1000 * marked ms))) (breaks_after breaks cs ms)
      by r (inl x) next i = subst (λ x. IsNoBetter total best x (breaks_after breaks cs ms)) (in-fill a r d (pos (1000 * marked ms))) (next x)
      by r (inr y) next i = inl (past total (a +ℤ r) (d +ℤ pos (1000 * marked ms)) (a +ℤ ((r +ℤ d) +ℤ pos (1000 * marked ms))) d y i (in-fill a r d (pos (1000 * marked ms))))

  all-claims : (k : ℕ) → Claim k
  all-claims zero s cs ms d a breaks keep way known = ways-with zero tt s cs ms d keep way a breaks known
  all-claims (suc k) s cs ms d a breaks keep way known = ways-with (suc k) (all-claims k) s cs ms d keep way a breaks known

  -- no way from what the table knows ends better
  pub closed-ways : (k : ℕ) (s : State) (cs : List Ahead) (ms : List Bool) (d a : ℤ) (breaks : List ℕ) → AheadKeep (sides_of g) cs → Ways k s cs ms d → Known s cs a breaks
      → IsNoBetter total best (a +ℤ (d +ℤ pos (1000 * marked ms))) (breaks_after breaks cs ms)
  closed-ways k s cs ms d a breaks keep way known = all-claims k s cs ms d a breaks keep way known
