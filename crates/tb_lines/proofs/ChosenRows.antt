-- Each row of the table is the last of the best offers, so the table names the least solution.
use Rattle.std.proofs.Common.{◌≡◌, refl, sym, ◌∙◌, ap, subst, ◌⊎◌, inl, inr, ℕ, zero, suc, ◌<◌, ℤ, Bool, true, false, Option, None, Some, arith}
use Rattle.std.specs.Prelude.{◌≤ℤ◌, ◌<ℤ◌, int_le, if◌then◌else◌}
use Rattle.std.proofs.lemmas.Int.{ints}
use Rattle.std.proofs.lemmas.Bool.Decides.{nat_tests}
use Rattle.tb_lines.specs.declared.table.Best.{Best}
use Rattle.tb_lines.specs.Table.{with_offer, best_among}
use Rattle.tb_lines.proofs.BestWays.{IsUpTo}

-- ---- the best of some offers

-- the start, or a break before i
abbrev pub IsBefore : Option ℕ → ℕ → Type 0
IsBefore None i = Unit {0}
IsBefore (Some k) i = k < i

-- the last of least cost among the offers before i
abbrev pub ChosenAmong : (Option ℕ → Option ℤ) → ℕ → Option Best → Type 0
ChosenAmong offers i None = (q : Option ℕ) (d : ℤ) → IsBefore q i → offers q ≡ Some d → ⊥
ChosenAmong offers i (Some b) =
    (offers b.from ≡ Some b.total) × IsBefore b.from i
    × ((q : Option ℕ) (d : ℤ) → IsBefore q i → offers q ≡ Some d → (b.total <ℤ d) ⊎ ((b.total ≡ d) × IsUpTo q b.from))

-- the start alone
start_chosen : (offers : Option ℕ → Option ℤ) (x : Option ℤ) → offers None ≡ x → ChosenAmong offers 0 (with_offer None None x)
start_chosen offers None e = λ q d. only q d
  where
    only : (q : Option ℕ) (d : ℤ) → IsBefore q 0 → offers q ≡ Some d → ⊥
    only None d b h = absurd (cc)
    only (Some k) d b h = omega arith
start_chosen offers (Some x) e = (e, tt, λ q d. only q d)
  where
    only : (q : Option ℕ) (d : ℤ) → IsBefore q 0 → offers q ≡ Some d → (x <ℤ d) ⊎ ((x ≡ d) × IsUpTo q None)
    only None d b h = inr (cc, tt)
    only (Some k) d b h = absurd (omega arith)

-- before i, or i itself
data Place (q : Option ℕ) (i : ℕ) : Type 0 where
  earlier : IsBefore q i → Place q i
  same : q ≡ Some i → Place q i

place_of : (q : Option ℕ) (i : ℕ) → IsBefore q (suc i) → Place q i
place_of None i b = earlier tt
place_of (Some k) i b = which k i b (grind (arith, nat_tests))
  where
    which : (k i : ℕ) → k < suc i → (k < i) ⊎ (k ≡ i) → Place (Some k) i
    which k i b (inl l) = earlier l
    which k i b (inr e) = same (ap Some e)

wider : (q : Option ℕ) (i : ℕ) → IsBefore q i → IsBefore q (suc i)
wider None i b = tt
wider (Some k) i b = omega arith

up_to_of_before : (q : Option ℕ) (i : ℕ) → IsBefore q i → IsUpTo q (Some i)
up_to_of_before None i b = tt
up_to_of_before (Some k) i b = omega arith

-- no offer of i changes nothing
none_more : (offers : Option ℕ → Option ℤ) (i : ℕ) (b : Option Best) → ChosenAmong offers i b → offers (Some i) ≡ None → ChosenAmong offers (suc i) b
none_more offers i None c e = λ q d less h. elim (place_of q i less) [ earlier l ↦ c q d l h | same s ↦ let r : offers (Some i) ≡ Some d = ap offers (sym s) ∙ h in absurd (cc) ]
none_more offers i (Some b) c e = (c.0, wider b.from i c.1, λ q d less h. elim (place_of q i less) [ earlier l ↦ c.2 q d l h | same s ↦ let r : offers (Some i) ≡ Some d = ap offers (sym s) ∙ h in absurd (cc) ])

-- the first offer
first_more : (offers : Option ℕ → Option ℤ) (i : ℕ) (x : ℤ) → ChosenAmong offers i None → offers (Some i) ≡ Some x → ChosenAmong offers (suc i) (Some (record { total = x; from = Some i }))
first_more offers i x c e = (
  e,
  omega arith,
  λ q d less h. elim (place_of q i less) [
    | earlier l ↦ absurd (c q d l h)
    | same s ↦ let r : offers (Some i) ≡ Some d = ap offers (sym s) ∙ h in let P : Option ℕ → Type 0 = λ p. (x ≡ d) × IsUpTo p (Some i) in inr (subst P (sym s) (cc, omega arith))
  ],
)

-- an offer that is no worse, and one that is
better_more : (offers : Option ℕ → Option ℤ) (i : ℕ) (x : ℤ) (b : Best) → ChosenAmong offers i (Some b) → offers (Some i) ≡ Some x → (t : Bool) → int_le x b.total ≡ t
    → ChosenAmong offers (suc i) (if t then Some (record { total = x; from = Some i }) else Some b)
better_more offers i x b c e true le = (
  e,
  omega arith,
  λ q d less h. elim (place_of q i less) [
    | earlier l ↦ compared x b.total d q le l (c.2 q d l h)
    | same s ↦ let r : offers (Some i) ≡ Some d = ap offers (sym s) ∙ h in let P : Option ℕ → Type 0 = λ p. (x ≡ d) × IsUpTo p (Some i) in inr (subst P (sym s) (cc, omega arith))
  ],
)
  where
    compared : (x t d : ℤ) (q : Option ℕ) → int_le x t ≡ true → IsBefore q i → {P : Type 0} → (t <ℤ d) ⊎ ((t ≡ d) × P) → (x <ℤ d) ⊎ ((x ≡ d) × IsUpTo q (Some i))
    compared x t d q le l (inl m) = inl (grind (arith, ints))
    compared x t d q le l (inr m) = let m' : t ≡ d = m.0 in elim (split x d (grind (arith, ints))) [ inl a ↦ inl a | inr a ↦ inr (a, up_to_of_before q i l) ]
      where
        split : (x d : ℤ) → x ≤ℤ d → (x <ℤ d) ⊎ (x ≡ d)
        split x d h = grind (arith, ints)
better_more offers i x b c e false gt = (
  c.0,
  wider b.from i c.1,
  λ q d less h. elim (place_of q i less) [
    | earlier l ↦ c.2 q d l h
    | same s ↦ let r : offers (Some i) ≡ Some d = ap offers (sym s) ∙ h in let r' : x ≡ d = cc in inl (grind (arith, ints))
  ],
)

offer_more : (offers : Option ℕ → Option ℤ) (i : ℕ) (b : Option Best) (x : Option ℤ) → ChosenAmong offers i b → offers (Some i) ≡ x → ChosenAmong offers (suc i) (with_offer b (Some i) x)
offer_more offers i b None c e = none_more offers i b c e
offer_more offers i None (Some x) c e = first_more offers i x c e
offer_more offers i (Some b) (Some x) c e = better_more offers i x b c e (int_le x b.total) refl

pub best_among-chosen : (offers : Option ℕ → Option ℤ) (i : ℕ) → ChosenAmong offers i (best_among offers i)
best_among-chosen offers zero = start_chosen offers (offers None) refl
best_among-chosen offers (suc i) = offer_more offers i (best_among offers i) (offers (Some i)) (best_among-chosen offers i) refl
