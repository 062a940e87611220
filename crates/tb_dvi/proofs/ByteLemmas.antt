-- Bytes that are written one by one.
use Rattle.std.proofs.Common.{◌≡◌, refl, ◌∙◌, ap, ℕ, zero, suc, ◌+◌, ◌-◌, ◌≤◌, List, [], ◌∷◌, ◌++◌, replicate, append_assoc, arith}
use Rattle.tb_text.specs.Fronts.{PutsFront}

replicate-end : (k b : ℕ) → replicate k b ++ b ∷ [] ≡ replicate (suc k) b
replicate-end zero b = refl
replicate-end (suc k) b = ap (λ t. b ∷ t) (replicate-end k b)

pub fills : (old : List ℕ) (k b : ℕ) → (old ++ replicate k b) ++ b ∷ [] ≡ old ++ replicate (k + 1) b
fills old k b =
    let one : suc k ≡ k + 1 = omega arith in
    append_assoc old (replicate k b) (b ∷ []) ∙ ap (λ t. old ++ t) (replicate-end k b) ∙ ap (λ n. old ++ replicate n b) one

replicate-two : (k m b : ℕ) → replicate k b ++ replicate m b ≡ replicate (k + m) b
replicate-two zero m b = let e : m ≡ 0 + m = omega arith in ap (λ n. replicate n b) e
replicate-two (suc k) m b = let e : suc (k + m) ≡ suc k + m = omega arith in ap (λ t. b ∷ t) (replicate-two k m b) ∙ ap (λ n. replicate n b) e

-- k bytes of n are there
pub fills-some : (old after : List ℕ) (k n b : ℕ) → k ≤ n → after ≡ old ++ replicate k b → PutsFront old (replicate n b) after
fills-some old after k n b few e =
    let all : k + (n - k) ≡ n = omega (arith, few) in
    record { put = replicate k b; left = replicate (n - k) b; front = replicate-two k (n - k) b ∙ ap (λ m. replicate m b) all; appended = e }
