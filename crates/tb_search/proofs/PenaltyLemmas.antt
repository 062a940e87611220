-- The penalties at the places of a galley, found by their lines.
use Rattle.std.proofs.Common.{◌≡◌, sym, ◌∙◌, ap, ℕ, zero, suc, ◌<◌, ◌≤◌, ◌==◌, false, List, [], ◌∷◌, length, drop, get_or, arith}
use Rattle.std.specs.Prelude.{if◌then◌else◌}
use Rattle.tb_rate.specs.declared.PlacePenalty.{PlacePenalty}
use Rattle.tb_rate.specs.Places.{own_penalty}
use Rattle.tb_search.specs.Penalties.{RiseFrom}

-- all lines rise if those from here on do
abbrev pub AllRiseIf : ℕ → ℕ → List PlacePenalty → Type 0
AllRiseIf least i qs = RiseFrom least (drop i qs) → RiseFrom 0 qs

-- none is left
pub all-rise : (least i : ℕ) (qs : List PlacePenalty) → length qs ≤ i → AllRiseIf least i qs → RiseFrom 0 qs
all-rise least i qs h all = all (none-left least i qs h)
  where
    none-left : (least i : ℕ) (qs : List PlacePenalty) → length qs ≤ i → RiseFrom least (drop i qs)
    none-left least zero [] h = tt
    none-left least (suc i) [] h = tt
    none-left least zero (q ∷ qs) h = absurd (omega (arith, h))
    none-left least (suc i) (q ∷ qs) h = none-left least i qs (omega (arith, h))

-- a line among rising ones is not below the first one
above-first : (n k : ℕ) (qs : List PlacePenalty) (d : PlacePenalty) → RiseFrom n qs → k < length qs → n ≤ (get_or qs k d).line
above-first n k [] d rise h = absurd (omega (arith, h))
above-first n zero (q ∷ qs) d rise h = rise.0
above-first n (suc k) (q ∷ qs) d rise h = let low = rise.0 in let more = above-first (suc q.line) k qs d rise.1 (omega (arith, h)) in omega (arith, low, more)

-- a place before the line says nothing of it
before-line : (q : PlacePenalty) (qs : List PlacePenalty) (line : ℕ) → q.line < line → own_penalty qs line ≡ own_penalty (q ∷ qs) line
before-line q qs line h = let other : (q.line == line) ≡ false = grind (arith, h) in ap (λ t. if t then q.penalty else own_penalty qs line) (sym other)

-- so do places up to one that is before the line
pub passed : (n k : ℕ) (qs : List PlacePenalty) (line : ℕ) (d : PlacePenalty) → RiseFrom n qs → k < length qs → (get_or qs k d).line < line → own_penalty (drop (suc k) qs) line ≡ own_penalty qs line
passed n k [] line d rise h before = absurd (omega (arith, h))
passed n zero (q ∷ qs) line d rise h before = before-line q qs line before
passed n (suc k) (q ∷ qs) line d rise h before =
    let more = above-first (suc q.line) k qs d rise.1 (omega (arith, h)) in
    passed (suc q.line) k qs line d rise.1 (omega (arith, h)) before ∙ before-line q qs line (omega (arith, more, before))
