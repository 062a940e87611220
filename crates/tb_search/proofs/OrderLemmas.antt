-- The order of ways.
use Rattle.std.proofs.Common.{◌≡◌, refl, sym, ap, ◌∙◌, ◌≢◌, ℕ, suc, ◌+◌, ◌<◌, ◌≤◌, ◌-◌, ◌==◌, Bool, true, false, true≢false, List, [], ◌∷◌, length, get_or, drop, ◌⊎◌, inl, inr, add-one, arith}
use Rattle.std.specs.Prelude.{ℤ, ◌+ℤ◌, nat_lt, reverse, ◌&&◌, ◌||◌}
use Rattle.std.proofs.lemmas.Bool.Decides.{nat_tests}
use Rattle.std.proofs.lemmas.Int.{ints}
use Rattle.std.proofs.lemmas.List.{length-reverse, get_or-reverse, length-drop}
use Rattle.std.proofs.Math.Seq.{drop-cons}
use Rattle.tb_lines.specs.LeastSolution.{is_greater}
use Rattle.tb_best.specs.ClosedTables.{IsNoBetter}

-- ---- breaks that are read from the last

-- the break that comes after so many, read from the last
abbrev from_last : List ℕ → ℕ → ℕ
from_last xs k = get_or xs (length xs - 1 - k) 0

-- what is left after so many begins with it
next-last : (xs : List ℕ) (k : ℕ) → k < length xs → drop k (reverse xs) ≡ from_last xs k ∷ drop (suc k) (reverse xs)
next-last xs k h =
    let n = length-reverse xs in
    drop-cons (reverse xs) k 0 (omega (arith, n)) ∙ ap (λ x. x ∷ drop (suc k) (reverse xs)) (get_or-reverse xs k 0 h)

by-first : (xs ys : List ℕ) (k : ℕ) → k < length xs → k < length ys
    → is_greater (drop k (reverse xs)) (drop k (reverse ys)) ≡ (nat_lt (from_last ys k) (from_last xs k) || ((from_last xs k == from_last ys k) && is_greater (drop (suc k) (reverse xs)) (drop (suc k) (reverse ys))))
by-first xs ys k a b = λ i. is_greater (next-last xs k a i) (next-last ys k b i)

if-other : (x y : ℕ) (rest : Bool) → x ≢ y → (nat_lt y x || ((x == y) && rest)) ≡ nat_lt y x
if-other x y false ne = grind (arith, nat_tests)
if-other x y true ne = grind (arith, nat_tests)

if-same : (x y : ℕ) (rest : Bool) → x ≡ y → (nat_lt y x || ((x == y) && rest)) ≡ rest
if-same x y false e = grind (arith, nat_tests)
if-same x y true e = grind (arith, nat_tests)

-- the first that differs decides
pub other-decides : (xs ys : List ℕ) (k : ℕ) → k < length xs → k < length ys → from_last xs k ≢ from_last ys k → is_greater (drop k (reverse xs)) (drop k (reverse ys)) ≡ nat_lt (from_last ys k) (from_last xs k)
other-decides xs ys k a b ne = by-first xs ys k a b ∙ if-other (from_last xs k) (from_last ys k) (is_greater (drop (suc k) (reverse xs)) (drop (suc k) (reverse ys))) ne

-- an equal one is passed
pub same-passed : (xs ys : List ℕ) (k : ℕ) → k < length xs → k < length ys → from_last xs k ≡ from_last ys k
    → is_greater (drop (k + 1) (reverse xs)) (drop (k + 1) (reverse ys)) ≡ is_greater (drop k (reverse xs)) (drop k (reverse ys))
same-passed xs ys k a b e = rw add-one (sym (by-first xs ys k a b ∙ if-same (from_last xs k) (from_last ys k) (is_greater (drop (suc k) (reverse xs)) (drop (suc k) (reverse ys))) e))

-- of two of which one begins the other, the longer is greater
longer : (xs ys : List ℕ) → length xs ≡ 0 ⊎ length ys ≡ 0 → is_greater xs ys ≡ nat_lt (length ys) (length xs)
longer [] ys h = grind (arith, nat_tests)
longer (x ∷ xs) [] h = grind (arith, nat_tests)
longer (x ∷ xs) (y ∷ ys) (inl h) = absurd (omega (arith, h))
longer (x ∷ xs) (y ∷ ys) (inr h) = absurd (omega (arith, h))

left-of : (xs : List ℕ) (k : ℕ) → length (drop k (reverse xs)) ≡ length xs - k
left-of xs k = length-drop k (reverse xs) ∙ ap (λ n. n - k) (length-reverse xs)

less-same : (m n k : ℕ) → k ≤ m → k ≤ n → nat_lt (m - k) (n - k) ≡ nat_lt m n
less-same m n k a b = grind (arith, nat_tests)

pub longer-decides : (xs ys : List ℕ) (k : ℕ) → k ≤ length xs → k ≤ length ys → (length xs ≤ k) ⊎ (length ys ≤ k) → is_greater (drop k (reverse xs)) (drop k (reverse ys)) ≡ nat_lt (length ys) (length xs)
longer-decides xs ys k a b h =
    longer (drop k (reverse xs)) (drop k (reverse ys)) (by h)
    ∙ (λ i. nat_lt (left-of ys k i) (left-of xs k i))
    ∙ less-same (length ys) (length xs) k b a
  where
    by : (length xs ≤ k) ⊎ (length ys ≤ k) → length (drop k (reverse xs)) ≡ 0 ⊎ length (drop k (reverse ys)) ≡ 0
    by (inl e) = inl (left-of xs k ∙ omega arith)
    by (inr e) = inr (left-of ys k ∙ omega arith)

-- ---- the order of ways

greater_fails : (a b : ℕ) (g : Bool) → b ≤ a → (a ≡ b → g ≡ false) → (nat_lt a b || ((b == a) && g)) ≡ false
greater_fails a b false le h = grind (arith, nat_tests)
greater_fails a b true le h = let ne : a ≢ b = λ e. true≢false (h e) in grind (arith, nat_tests)

not-first : (x y : ℕ) (g : Bool) → (nat_lt y x || ((x == y) && g)) ≡ false → (x ≤ y) × (x ≡ y → g ≡ false)
not-first x y false h = (grind (arith, nat_tests, h), λ e. refl)
not-first x y true h = (grind (arith, nat_tests, h), λ e. absurd (let no : ⊥ = grind (arith, nat_tests, h, e) in no))

is-first : (x y : ℕ) (g : Bool) → (nat_lt y x || ((x == y) && g)) ≡ true → (y ≤ x) × (x ≡ y → g ≡ true)
is-first x y true h = (grind (arith, nat_tests, h), λ e. refl)
is-first x y false h = (grind (arith, nat_tests, h), λ e. absurd (let no : ⊥ = grind (arith, nat_tests, h, e) in no))

-- at most one of two is greater than the other
pub not-both : (xs ys : List ℕ) → is_greater xs ys ≡ true → is_greater ys xs ≡ false
not-both [] ys h = let no : ⊥ = grind (arith, h) in absurd no
not-both (x ∷ xs) [] h = refl
not-both (x ∷ xs) (y ∷ ys) h =
    let first = is-first x y (is_greater xs ys) h in
    greater_fails x y (is_greater ys xs) first.0 (λ e. not-both xs ys (first.1 e))

not-greater-than : (xs ys zs : List ℕ) → is_greater xs ys ≡ false → is_greater ys zs ≡ false → is_greater xs zs ≡ false
not-greater-than [] ys zs h k = refl
not-greater-than (x ∷ xs) [] zs h k = let no : ⊥ = grind (arith, h) in absurd no
not-greater-than (x ∷ xs) (y ∷ ys) [] h k = let no : ⊥ = grind (arith, k) in absurd no
not-greater-than (x ∷ xs) (y ∷ ys) (z ∷ zs) h k =
    let a = not-first x y (is_greater xs ys) h in
    let b = not-first y z (is_greater ys zs) k in
    let le = a.0 in
    let less = b.0 in
    greater_fails z x (is_greater xs zs) (grind (arith, le, less)) (λ e. not-greater-than xs ys zs (a.1 (grind (arith, le, less, e))) (b.1 (grind (arith, le, less, e))))

-- no way is better than itself
not-greater-same : (xs : List ℕ) → is_greater xs xs ≡ false
not-greater-same [] = refl
not-greater-same (x ∷ xs) = ap (λ b. b) (if-same x x (is_greater xs xs) refl) ∙ not-greater-same xs

pub no-better-same : (d : ℤ) (breaks : List ℕ) → IsNoBetter d breaks d breaks
no-better-same d breaks = inr (refl, not-greater-same breaks)

-- what is no better than one that is no better is no better
pub no-better-through : (a b c : ℤ) (xs ys zs : List ℕ) → IsNoBetter a xs b ys → IsNoBetter b ys c zs → IsNoBetter a xs c zs
no-better-through a b c xs ys zs (inl h) (inl k) = inl (omega (arith, ints, h, k))
no-better-through a b c xs ys zs (inl h) (inr k) = inl (let e = k.0 in omega (arith, ints, h, e))
no-better-through a b c xs ys zs (inr h) (inl k) = inl (let e = h.0 in omega (arith, ints, e, k))
no-better-through a b c xs ys zs (inr h) (inr k) = inr (k.0 ∙ h.0, not-greater-than zs ys xs k.1 h.1)

-- the same page after both ways
pub no-better-after : (a b e : ℤ) (xs ys : List ℕ) → IsNoBetter a xs b ys → IsNoBetter (a +ℤ e) xs (b +ℤ e) ys
no-better-after a b e xs ys (inl h) = inl (omega (arith, ints, h))
no-better-after a b e xs ys (inr h) = inr (ap (λ d. d +ℤ e) h.0, h.1)

-- the same break after both ways
pub no-better-with : (a b : ℤ) (n : ℕ) (xs ys : List ℕ) → IsNoBetter a xs b ys → IsNoBetter a (n ∷ xs) b (n ∷ ys)
no-better-with a b n xs ys (inl h) = inl h
no-better-with a b n xs ys (inr h) = inr (h.0, if-same n n (is_greater ys xs) refl ∙ h.1)
