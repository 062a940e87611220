-- A byte before the digits at the end of an array.
use Rattle.std.proofs.Common.{◌≡◌, ◌∙◌, ◌+◌, ◌-◌, ◌<◌, ◌≤◌, ℕ, List, ◌∷◌, arith, ap, refl, length, drop, take, take_all, length-drop, append-nil, ◌++◌}
use Rattle.std.specs.Prelude.{slice_set}
use Rattle.std.proofs.lemmas.List.{drop-set, drop_all}

-- what is in an array from the digits' start on, if they end it
pub at_end : (now old digits : List ℕ) (n s : ℕ) → length old ≡ n → drop s now ≡ digits ++ drop n old → drop s now ≡ digits
at_end now old digits n s long written = written ∙ ap (λ rest. digits ++ rest) (drop_all n old (omega (arith, long))) ∙ append-nil digits

-- with a byte put before them, the byte and the digits are at the end
pub led : (now digits : List ℕ) (n s byte : ℕ) → length now ≡ n → 0 < s → s ≤ n → drop s now ≡ digits
    → drop (s - 1) (slice_set now (s - 1) byte) ≡ byte ∷ digits
led now digits n s byte long some within is =
    let e : s - 1 + 1 ≡ s = omega arith in
    let inside : s - 1 < length now = omega arith in
    rw (drop-set now (s - 1) byte inside, e, is) refl

-- what an array has from a place on is all that is there
pub whole-end : (now : List ℕ) (n s : ℕ) → length now ≡ n → take (n - s) (drop s now) ≡ drop s now
whole-end now n s long =
    let count : length (drop s now) ≡ n - s = length-drop s now ∙ ap (λ m. m - s) long in
    take_all (n - s) (drop s now) (omega (arith, count))
