-- Lists of lines: if as many are shown as are in the text and in feet, and the text is within what is shown, the text
-- is shown in its order, and the feet once.
use Rattle.std.proofs.Common.{◌≡◌, refl, sym, ◌∙◌, ap, ℕ, ◌+◌, ◌≤◌, inl, inr, Bool, true, false, List, [], ◌∷◌, length, filter, IsPermutation, arith, length-append}
use Rattle.std.specs.Prelude.{not, ◌==◌, ◌||◌, if◌then◌else◌}
use Rattle.std.specs.List.{AllByRecursion}
use Rattle.std.proofs.lemmas.List.Elements.{filter-append}
use Rattle.std.proofs.lemmas.Bool.{or_left, or_right}
use Rattle.tb_column.proofs.Within.{Within, within-equal}
use Rattle.tb_laws.specs.Laws.{is_in}
use Rattle.tb_laws.proofs.OnceEach.CountLemmas.{count, count-append, permutation-from-counts}
use Rattle.tb_laws.proofs.OnceEach.ShippedCounts.{Measure}
use Rattle.tb_laws.proofs.OnceEach.ShippedLines.{AllOut}

-- ---- tests on lists of lines

-- how often a line is in a list
abbrev pub counted : ℕ → Measure
counted n = record { of = λ xs. count n xs; nothing = refl; adds = count-append n }

-- how often it is among those that pass a test
abbrev counted_if : (ℕ → Bool) → ℕ → Measure
counted_if f n = record { of = λ xs. count n (filter f xs); nothing = refl; adds = λ xs ys. ap (count n) (filter-append f xs ys) ∙ count-append n (filter f xs) (filter f ys) }

-- how many pass a test
abbrev passing : (ℕ → Bool) → Measure
passing f = record { of = λ xs. length (filter f xs); nothing = refl; adds = λ xs ys. ap length (filter-append f xs ys) ∙ length-append (filter f xs) (filter f ys) }

all-pass : (f : ℕ → Bool) (xs : List ℕ) → AllByRecursion (λ x. f x ≡ true) xs → filter f xs ≡ xs
all-pass f [] h = refl
all-pass f (x ∷ xs) h = by_test (f x) h.0 (all-pass f xs h.1)
  where
    by_test : (t : Bool) → t ≡ true → filter f xs ≡ xs → (if t then x ∷ filter f xs else filter f xs) ≡ x ∷ xs
    by_test true e k = ap (λ l. x ∷ l) k
    by_test false e k = let no : ⊥ = grind (arith, e) in absurd no

none-passes : (f : ℕ → Bool) (xs : List ℕ) → AllByRecursion (λ x. f x ≡ false) xs → filter f xs ≡ []
none-passes f [] h = refl
none-passes f (x ∷ xs) h = by_test (f x) h.0 (none-passes f xs h.1)
  where
    by_test : (t : Bool) → t ≡ false → filter f xs ≡ [] → (if t then x ∷ filter f xs else filter f xs) ≡ []
    by_test true e k = let no : ⊥ = grind (arith, e) in absurd no
    by_test false e k = k

-- what passes is within what passes
within-passing : (f : ℕ → Bool) (xs ys : List ℕ) → AllByRecursion (λ x. f x ≡ true) xs → Within xs ys → Within xs (filter f ys)
within-passing f [] ys a h = tt
within-passing f (x ∷ xs) [] a h = absurd h
within-passing f (x ∷ xs) (y ∷ ys) a (inl h) = by_test (f y) (ap f (sym h.0) ∙ a.0) (h.0, within-passing f xs ys a.1 h.1)
  where
    by_test : (t : Bool) → t ≡ true → (x ≡ y) × Within xs (filter f ys) → Within (x ∷ xs) (if t then y ∷ filter f ys else filter f ys)
    by_test true e k = inl k
    by_test false e k = let no : ⊥ = grind (arith, e) in absurd no
within-passing f (x ∷ xs) (y ∷ ys) a (inr h) = by_test (f y) (within-passing f (x ∷ xs) ys a h)
  where
    by_test : (t : Bool) → Within (x ∷ xs) (filter f ys) → Within (x ∷ xs) (if t then y ∷ filter f ys else filter f ys)
    by_test true k = inr k
    by_test false k = k

-- ---- the text and the feet

outs-pass : (fs ts : List ℕ) → AllOut fs ts → AllByRecursion (λ t. not (is_in fs t) ≡ true) ts
outs-pass fs [] o = tt
outs-pass fs (t ∷ ts) o = (ap not o.0, outs-pass fs ts o.1)

in-itself : (fs gs : List ℕ) → ((x : ℕ) → is_in gs x ≡ true → is_in fs x ≡ true) → AllByRecursion (λ x. is_in fs x ≡ true) gs
in-itself fs [] h = tt
in-itself fs (g ∷ gs) h = (h g (here g (is_in gs g)), in-itself fs gs (λ x k. h x (or_right (g == x) (is_in gs x) k)))
  where
    here : (n : ℕ) (b : Bool) → ((n == n) || b) ≡ true
    here n b = or_left (n == n) b (grind arith)

feet-fail : (fs gs : List ℕ) → AllByRecursion (λ x. is_in fs x ≡ true) gs → AllByRecursion (λ x. not (is_in fs x) ≡ false) gs
feet-fail fs [] h = tt
feet-fail fs (g ∷ gs) h = (ap not h.0, feet-fail fs gs h.1)

module _ (fs ts shown : List ℕ) (out : AllOut fs ts) (boxes : (m : Measure) → m.of shown ≡ m.of ts + m.of fs) (within : Within ts shown) where
  -- not on a line of a foot
  abbrev outside : ℕ → Bool
  outside n = not (is_in fs n)

  feet_inside : AllByRecursion (λ x. is_in fs x ≡ true) fs
  feet_inside = in-itself fs fs (λ x h. h)

  text_passes : filter outside ts ≡ ts
  text_passes = all-pass outside ts (outs-pass fs ts out)

  -- the text is within what is shown outside feet, which is no longer
  text_within : Within ts (filter outside shown)
  text_within = within-passing outside ts shown (outs-pass fs ts out) within

  no_more : length (filter outside shown) ≤ length ts
  no_more =
      let a : length (filter outside shown) ≡ length (filter outside ts) + length (filter outside fs) = boxes (passing outside) in
      let b : length (filter outside ts) ≡ length ts = ap length text_passes in
      let c : length (filter outside fs) ≡ 0 = ap length (none-passes outside fs (feet-fail fs fs feet_inside)) in
      omega arith

  foot_counts : (n : ℕ) → count n (filter (is_in fs) shown) ≡ count n fs
  foot_counts n =
      let a : count n (filter (is_in fs) shown) ≡ count n (filter (is_in fs) ts) + count n (filter (is_in fs) fs) = boxes (counted_if (is_in fs) n) in
      let b : count n (filter (is_in fs) ts) ≡ 0 = ap (count n) (none-passes (is_in fs) ts out) in
      let c : count n (filter (is_in fs) fs) ≡ count n fs = ap (count n) (all-pass (is_in fs) fs feet_inside) in
      omega arith

  pub text-once : filter (λ n. not (is_in fs n)) shown ≡ ts
  text-once = sym (within-equal ts (filter outside shown) text_within no_more)

  pub feet-once : IsPermutation (filter (is_in fs) shown) fs
  feet-once = permutation-from-counts (filter (is_in fs) shown) fs foot_counts
