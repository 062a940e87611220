-- What classes take of a goal: a height counts at most ten times, and each class box only once.
use Rattle.std.proofs.Common.{◌≡◌, refl, sym, subst, ◌∙◌, ap, ℕ, zero, suc, ◌+◌, ◌*◌, ◌/◌, ◌<◌, ◌≤◌, ℤ, pos, negsuc, ◌-ℤ◌, Bool, true, false, List, [], ◌∷◌, length, arith}
use Rattle.std.specs.Prelude.{neg_ℤ, ◌*ℤ◌, int_div, unsigned_abs, ◌==◌, ◌||◌, nat_lt, if◌then◌else◌}
use Rattle.std.proofs.Math.Nat.{div-mul-le_self}
use Rattle.std.proofs.lemmas.Bool.Decides.{nat_tests}
use Rattle.std.proofs.lemmas.Int.{ints, unsigned_abs-mul}
use Rattle.std.proofs.lemmas.Nat.{mul-le}
use Rattle.std.proofs.lemmas.Bool.{or_parts, eqb-true}
use Rattle.tb_scaled.specs.Scaled.{is_zero}
use Rattle.tb_node.proofs.FitLemmas.{IsWithin}
use Rattle.tb_insert.specs.declared.Class.{Class}
use Rattle.tb_insert.specs.Account.{scaled_by}
use Rattle.tb_insert.proofs.AccountLemmas.{same_number}
use Rattle.tb_builder.specs.FiredPages.{Boxed, content_of, box_content}
use Rattle.tb_builder.specs.Contents.{box_count}
use Rattle.tb_builder.specs.Ownership.{has_class, ClassesFit}
use Rattle.tb_builder.specs.Pageable.{IsFactor}

-- ---- a scaled height

pub abs_of : (b : ℕ) (z : ℤ) → IsWithin b z → unsigned_abs z ≤ b
abs_of b (pos a) h = omega (arith, ints)
abs_of b (negsuc a) h = omega (arith, ints)

pub of_abs : (b : ℕ) (z : ℤ) → unsigned_abs z ≤ b → IsWithin b z
of_abs b (pos a) h = record { low = omega (arith, ints); high = omega (arith, ints) }
of_abs b (negsuc a) h = record { low = omega (arith, ints); high = omega (arith, ints) }

factor_abs : (f : ℤ) → IsFactor f → unsigned_abs f ≤ 10000
factor_abs (pos a) h = omega (arith, ints)
factor_abs (negsuc a) h = omega (arith, ints)

neg_abs : (n : ℕ) → unsigned_abs (neg_ℤ (pos n)) ≡ n
neg_abs zero = refl
neg_abs (suc n) = refl

thousandth_abs : (v : ℤ) → unsigned_abs (int_div v (pos 1000)) * 1000 ≤ unsigned_abs v
thousandth_abs (pos a) = div-mul-le_self a 1000
thousandth_abs (negsuc a) = subst (λ k. k * 1000 ≤ suc a) (sym (neg_abs (suc a / 1000))) (div-mul-le_self (suc a) 1000)

scaled_abs : (f v : ℤ) → IsFactor f → unsigned_abs (scaled_by f v) ≤ 10 * unsigned_abs v
scaled_abs f v h = by_test (is_zero (f -ℤ pos 1000))
  where
    by_test : (t : Bool) → unsigned_abs (if t then v else int_div v (pos 1000) *ℤ f) ≤ 10 * unsigned_abs v
    by_test true = omega arith
    by_test false =
        let share = thousandth_abs v in
        let times = mul-le (unsigned_abs (int_div v (pos 1000))) (unsigned_abs f) (unsigned_abs (int_div v (pos 1000))) 10000 (omega arith) (factor_abs f h) in
        omega (arith, share, times, unsigned_abs-mul (int_div v (pos 1000)) f)

-- a height counts at most ten times
pub scaled_within : (b : ℕ) (f v : ℤ) → IsFactor f → IsWithin b v → IsWithin (10 * b) (scaled_by f v)
scaled_within b f v h w = of_abs (10 * b) (scaled_by f v) (let a = scaled_abs f v h in let c = abs_of b v w in omega (arith, a, c))

-- ---- the number of classes

abbrev one : Bool → ℕ
one true = 1
one false = 0

-- how many classes have this number, and how many a smaller one
abbrev times : ℕ → List Class → ℕ
times k [] = 0
times k (c ∷ cs) = one (c.number == k) + times k cs

abbrev below : ℕ → List Class → ℕ
below k [] = 0
below k (c ∷ cs) = one (nat_lt c.number k) + below k cs

never : (k : ℕ) (cs : List Class) → has_class cs k ≡ false → times k cs ≡ 0
never k [] h = refl
never k (c ∷ cs) h = by_test (c.number == k) (never k cs) h
  where
    by_test : (t : Bool) → (has_class cs k ≡ false → times k cs ≡ 0) → (t || has_class cs k) ≡ false → one t + times k cs ≡ 0
    by_test true later e = cc
    by_test false later e = let r = later e in omega (arith, r)

once : (k : ℕ) (cs : List Class) → ClassesFit cs → times k cs ≤ 1
once k [] h = omega arith
once k (c ∷ cs) h = by_test (c.number == k) refl (once k cs h.3)
  where
    by_test : (t : Bool) → (c.number == k) ≡ t → times k cs ≤ 1 → one t + times k cs ≤ 1
    by_test true e later = let none = never k cs (subst (λ n. has_class cs n ≡ false) (eqb-true c.number k e) h.0) in omega (arith, none)
    by_test false e later = omega (arith, later)

one_more : (m k : ℕ) → one (nat_lt m (suc k)) ≤ one (nat_lt m k) + one (m == k)
one_more m k = grind (arith, nat_tests)

below-more : (k : ℕ) (cs : List Class) → below (suc k) cs ≤ below k cs + times k cs
below-more k [] = omega arith
below-more k (c ∷ cs) = let a = one_more c.number k in let b = below-more k cs in omega (arith, a, b)

below-none : (cs : List Class) → below 0 cs ≡ 0
below-none [] = refl
below-none (c ∷ cs) = let a : one (nat_lt c.number 0) ≡ 0 = grind (arith, nat_tests) in let b = below-none cs in omega (arith, a, b)

below-few : (k : ℕ) (cs : List Class) → ClassesFit cs → below k cs ≤ k
below-few zero cs h = let a = below-none cs in omega (arith, a)
below-few (suc k) cs h = let a = below-more k cs in let b = below-few k cs h in let c = once k cs h in omega (arith, a, b, c)

all_below : (cs : List Class) → ClassesFit cs → length cs ≤ below 256 cs
all_below [] h = omega arith
all_below (c ∷ cs) h =
    let small : c.number < 256 = h.1 in
    let a : one (nat_lt c.number 256) ≡ 1 = grind (arith, nat_tests) in
    let b = all_below cs h.3 in
    omega (arith, a, b)

-- a builder has at most 256 classes
pub few_classes : (cs : List Class) → ClassesFit cs → length cs ≤ 256
few_classes cs h = let a = all_below cs h in let b = below-few 256 cs h in omega (arith, a, b)

-- ---- the nodes in the boxes of classes

abbrev pub in_box : List Boxed → ℕ → ℕ
in_box bs k = length (content_of (box_content bs k))

abbrev pub in_boxes : List Boxed → List Class → ℕ
in_boxes bs [] = 0
in_boxes bs (c ∷ cs) = in_box bs c.number + in_boxes bs cs

boxless : (cs : List Class) → in_boxes [] cs ≡ 0
boxless [] = refl
boxless (c ∷ cs) = let h = boxless cs in omega (arith, h)

-- a box of another number
other_box : (b : Boxed) (bs : List Boxed) (cs : List Class) → has_class cs b.number ≡ false → in_boxes (b ∷ bs) cs ≡ in_boxes bs cs
other_box b bs [] h = refl
other_box b bs (c ∷ cs) h =
    let apart : (b.number == c.number) ≡ false = same_number b.number c.number ∙ (or_parts (c.number == b.number) (has_class cs b.number) h).0 in
    let here : in_box (b ∷ bs) c.number ≡ in_box bs c.number = ap (λ t. length (content_of (if t then b.content else box_content bs c.number))) apart in
    let later = other_box b bs cs (or_parts (c.number == b.number) (has_class cs b.number) h).1 in
    omega (arith, here, later)

one_box : (b : Boxed) (bs : List Boxed) (cs : List Class) → ClassesFit cs → in_boxes (b ∷ bs) cs ≤ length (content_of b.content) + in_boxes bs cs
one_box b bs [] h = omega arith
one_box b bs (c ∷ cs) h = by_test (b.number == c.number) refl (one_box b bs cs h.3)
  where
    by_test : (t : Bool) → (b.number == c.number) ≡ t → in_boxes (b ∷ bs) cs ≤ length (content_of b.content) + in_boxes bs cs
        → length (content_of (if t then b.content else box_content bs c.number)) + in_boxes (b ∷ bs) cs ≤ length (content_of b.content) + (in_box bs c.number + in_boxes bs cs)
    by_test true e later =
        let same = other_box b bs cs (subst (λ n. has_class cs n ≡ false) (sym (eqb-true b.number c.number e)) h.0) in
        omega (arith, same)
    by_test false e later = omega (arith, later)

-- each box counts once
pub boxes_once : (bs : List Boxed) (cs : List Class) → ClassesFit cs → in_boxes bs cs ≤ box_count bs
boxes_once [] cs h = let a = boxless cs in omega (arith, a)
boxes_once (b ∷ bs) cs h = let a = one_box b bs cs h in let r = boxes_once bs cs h in omega (arith, a, r)
