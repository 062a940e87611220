-- Each firing that goes on lowers what is left of the firings, so the fuel of a run is never used up.
use Rattle.std.proofs.Common.{◌≡◌, refl, sym, subst, ◌∙◌, ap, ℕ, zero, suc, pos, ◌≤ℤ◌, ◌+◌, ◌*◌, ◌-◌, ◌<◌, ◌≤◌, inl, inr, ◌⊎◌, true, false, List, arith}
use Rattle.std.specs.Prelude.{ℤ, pred, nat_abs, int_lt}
use Rattle.std.proofs.lemmas.Int.{ints}
use Rattle.std.proofs.lemmas.Nat.{mul-le}
use Rattle.tb_node.specs.declared.Act.{Act}
use Rattle.tb_param.specs.declared.Params.{Params}
use Rattle.tb_builder.specs.Reach.{Reached}
use Rattle.tb_sheet.specs.declared.Warn.{Warn}
use Rattle.tb_output.specs.State.{State, Recorded, begun}
use Rattle.tb_output.specs.Output.{after_page}
use Rattle.tb_output.proofs.KeptParams.{out-keeps-params}
use Rattle.tb_laws.proofs.StepLaws.TurnLemmas.{Turned, out-turned}
use Rattle.tb_laws.specs.Firings.{HasReason}
use Rattle.tb_items.specs.RunEvents.{RunEvent}
use Rattle.tb_steps.specs.Run.{Run, End, dead_cycles, Step, ends, goes_on, step, run_by, run_after, run_from, firings_left}
use Rattle.tb_steps.proofs.RunTree.{ActMove, PageMoves, fired_at, served_at, StepIs, step-is, takes_float, fires_on, meets_cycle_limit}
use Rattle.tb_steps.proofs.RunFolds.{nothing_shown, PageLaw, page-holds}

not-below : (a b : ℤ) → int_lt a b ≡ false → b ≤ℤ a
not-below a b h = grind (arith, ints, h)

-- ---- acts

-- the pages and the dead cycles are as before, and so are their limits, which no item sets
abbrev pub SameCounts : State → State → Type 0
SameCounts s t = (t.page ≡ s.page) × (t.dead_cycles ≡ s.dead_cycles) × (t.params.maxpages ≡ s.params.maxpages) × (t.params.maxdeadcycles ≡ s.params.maxdeadcycles)

act-counts : {s t : State} {a : Act} {ws : List Warn} {rs : List Recorded} → ActMove s.params s a t ws rs → SameCounts s t
act-counts (takes_float f r) = (refl, refl, refl, refl)
act-counts m = (refl, refl, refl, refl)

abbrev counting : State → PageLaw
counting o = record {
  shows = nothing_shown;
  holds = λ rs s. SameCounts o s;
  tries = λ line b least rs s h. (tt, h);
  acts = λ s t a ws records rs m h. let x = act-counts m in (tt, (x.0 ∙ h.0, x.1 ∙ h.1, x.2 ∙ h.2, x.3 ∙ h.3));
}

pub page-counts : {rs qs : List Reached} {s t : State} {es : List RunEvent} {records : List Recorded} → PageMoves rs s es records qs t → SameCounts s t
page-counts {s = s} x = (page-holds (counting s) x (refl, refl, refl, refl)).1

-- ---- what is left of the firings

-- of m pages and d firings without a page, after q pages and c firings
abbrev pub left_of : ℕ → ℕ → ℕ → ℕ → ℕ
left_of m d q c = (m - q) * (d + 1) + (d - c)

left-firing : (m d q c : ℕ) → c < d → left_of m d q (c + 1) < left_of m d q c
left-firing m d q c h = omega arith

left-page : (m d q r c e : ℕ) → q < r → r ≤ m → left_of m d r e < left_of m d q c
left-page m d q r c e h k =
    let less : (m - r + 1) * (d + 1) ≤ (m - q) * (d + 1) = mul-le (m - r + 1) (d + 1) (m - q) (d + 1) (omega arith) (omega arith) in
    let more : (m - r + 1) * (d + 1) ≡ (m - r) * (d + 1) + (d + 1) = omega arith in
    omega arith

-- the step goes on from a later page, or the same with one more dead cycle, and with the same limit on these
abbrev pub Turns : State → Step → Type 0
Turns s (ends es rs e) = Unit {0}
Turns s (goes_on es rs t) = (1 ≤ t.page) × (firings_left t < firings_left s) × (t.params.maxdeadcycles ≡ s.params.maxdeadcycles)

pred-less : (a b : ℕ) → 1 ≤ a → a < b → pred a < pred b
pred-less zero b h k = let no : ⊥ = omega arith in absurd no
pred-less (suc a) zero h k = let no : ⊥ = omega arith in absurd no
pred-less (suc a) (suc b) h k = omega arith

pred-most : (b m : ℕ) → b ≤ m + 1 → pred b ≤ m
pred-most zero m h = omega arith
pred-most (suc b) m h = omega arith

below-abs : (c : ℕ) (d : ℤ) → int_lt (pos c) d ≡ true → c < nat_abs d
below-abs c d h = grind (arith, ints, h)

turned-left : (p : Params) (s t : State) → 1 ≤ s.page → s.dead_cycles < nat_abs p.maxdeadcycles → ((t.page ≡ s.page × t.dead_cycles ≡ s.dead_cycles + 1) ⊎ (s.page < t.page × t.page ≤ nat_abs p.maxpages + 1 × t.dead_cycles ≡ 0))
    → (1 ≤ t.page) × (left_of (nat_abs p.maxpages) (nat_abs p.maxdeadcycles) (pred t.page) t.dead_cycles < left_of (nat_abs p.maxpages) (nat_abs p.maxdeadcycles) (pred s.page) s.dead_cycles)
turned-left p s t h k (inl e) = (grind (arith, e, h), rw (e.0, e.1) (left-firing (nat_abs p.maxpages) (nat_abs p.maxdeadcycles) (pred s.page) s.dead_cycles k))
turned-left p s t h k (inr e) = (grind (arith, e, h), left-page (nat_abs p.maxpages) (nat_abs p.maxdeadcycles) (pred s.page) (pred t.page) s.dead_cycles t.dead_cycles (pred-less s.page t.page h e.0) (pred-most t.page (nat_abs p.maxpages) e.1))

-- each step that goes on lowers what is left
pub steps-turn : {s : State} {x : Step} → StepIs s x → 1 ≤ s.page → Turns s x
steps-turn {s = s} (fires_on {t = t} x f r) h =
    let k : SameCounts s t = page-counts x in
    let p = t.params in
    let u = (served_at s t).state in
    let turned : Turned p (begun (after_page t (fired_at s t))) (served_at s t) = out-turned p t (fired_at s t) in
    let kept : u.params ≡ p = out-keeps-params p t (fired_at s t) in
    let less = turned-left p s u h (grind (arith, k, below-abs t.dead_cycles p.maxdeadcycles f.cycles)) (grind (arith, k, turned.by r)) in (
      less.0,
      subst (λ n. firings_left u < left_of (nat_abs n) (nat_abs s.params.maxdeadcycles) (pred s.page) s.dead_cycles) k.2
          (subst (λ n. firings_left u < left_of (nat_abs p.maxpages) (nat_abs n) (pred s.page) s.dead_cycles) k.3
          (subst (λ q. left_of (nat_abs q.maxpages) (nat_abs q.maxdeadcycles) (pred u.page) u.dead_cycles < left_of (nat_abs p.maxpages) (nat_abs p.maxdeadcycles) (pred s.page) s.dead_cycles) (sym kept) less.1)),
      ap (λ q. q.maxdeadcycles) kept ∙ k.3,
    )
steps-turn m h = tt

pub step-turns : (s : State) → 1 ≤ s.page → Turns s (step s)
step-turns s h = steps-turn (step-is s) h

-- ---- the fuel

by-same : (s : State) (f g : State → Run) → ((t : State) → 1 ≤ t.page → firings_left t < firings_left s → f t ≡ g t) → (t : Step) → Turns s t → run_by f t ≡ run_by g t
by-same s f g h (ends es rs e) k = refl
by-same s f g h (goes_on es rs t) k = ap (run_after es rs) (h t k.0 k.1)

-- two runs with more fuel than firings are left are one
pub same-run : (k m : ℕ) (s : State) → 1 ≤ s.page → firings_left s < k → firings_left s < m → run_from k s ≡ run_from m s
unfolding run_from
same-run zero m s h a b = let no : ⊥ = omega arith in absurd no
same-run (suc k) zero s h a b = let no : ⊥ = omega arith in absurd no
same-run (suc k) (suc m) s h a b =
    by-same s (λ t. run_from k t) (λ t. run_from m t) (λ t i l. same-run k m t i (omega arith) (omega arith)) (step s) (step-turns s h)

abbrev pub StepHasReason : Params → Step → Type 0
StepHasReason p (ends es rs e) = HasReason p e
StepHasReason p (goes_on es rs s) = Unit {0}

step-reason : {s : State} {x : Step} → StepIs s x → StepHasReason s.params x
step-reason {s = s} (meets_cycle_limit {t = t} x e c) = subst (λ n. n ≤ℤ pos t.dead_cycles) (page-counts x).3 (not-below (pos t.dead_cycles) t.params.maxdeadcycles c)
step-reason m = tt

-- the reason is one by another limit that is the same
same-reason : (p q : Params) → q.maxdeadcycles ≡ p.maxdeadcycles → (e : End) → HasReason q e → HasReason p e
same-reason p q same (dead_cycles n) r = subst (λ m. m ≤ℤ pos n) same r
same-reason p q same e r = tt

by-reason : (s : State) (f : State → Run) → ((t : State) → 1 ≤ t.page → firings_left t < firings_left s → HasReason t.params (f t).end) → (t : Step) → Turns s t → StepHasReason s.params t → HasReason s.params (run_by f t).end
by-reason s f h (ends es rs e) k r = r
by-reason s f h (goes_on es rs t) k r = same-reason s.params t.params k.2 (f t).end (h t k.0 k.1)

-- so a run with more fuel than firings are left never comes to the end of it
pub run-reason : (k : ℕ) (s : State) → 1 ≤ s.page → firings_left s < k → HasReason s.params (run_from k s).end
unfolding run_from
run-reason zero s h a = let no : ⊥ = omega arith in absurd no
run-reason (suc k) s h a =
    by-reason s (λ t. run_from k t) (λ t i l. run-reason k t i (omega arith)) (step s) (step-turns s h) (step-reason (step-is s))
