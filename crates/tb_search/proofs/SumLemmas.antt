-- Sums of demerits fit, and tests of them.
use Rattle.std.proofs.Common.{◌≡◌, sym, ◌∙◌, ap, subst, ℤ, true, false, FitsSigned, to_z, of_z, arith}
use Rattle.std.specs.Prelude.{pos, ◌+ℤ◌, ◌-ℤ◌, ◌≤ℤ◌, ◌<ℤ◌, int_le, int_lt}
use Rattle.std.specs.Int.{w128}
use Rattle.std.proofs.lemmas.Int.{ints, to_z-of_z}

-- demerits within this range fit
pub demerits-fit : (a : ℤ) → pos 0 ≤ℤ a → a ≤ℤ pos 2000000000000000000000000000 → FitsSigned w128 a
demerits-fit a h k = omega (arith, ints, h, k)

-- the value of a number that fits
abbrev pub held : ℤ → ℤ
held a = to_z w128 (of_z w128 a)

-- a number in the range of plans is itself in 128 bits
pub in-range : (d : ℤ) → pos 0 ≤ℤ d → d ≤ℤ pos 1000000000000000000000000000 → held d ≡ d
in-range d low high = to_z-of_z w128 d (demerits-fit d low (omega (arith, ints, high)))

module _ (a b : ℤ) (low : pos 0 ≤ℤ a) (high : a ≤ℤ (b +ℤ pos 1000000000000)) (range : b ≤ℤ pos 1000000000000000000000000000) where
  pub fits-so-far : FitsSigned w128 a
  fits-so-far = omega (arith, ints, low, high, range)

  pub bound-fits : FitsSigned w128 b
  bound-fits = omega (arith, ints, low, high, range)

  both-held : int_le a b ≡ int_le (held a) (held b)
  both-held = λ i. int_le (sym (to_z-of_z w128 a fits-so-far) i) (sym (to_z-of_z w128 b bound-fits) i)

  pub within-bound : int_le (held a) (held b) ≡ true → a ≤ℤ b
  within-bound e = let t = both-held ∙ e in grind (arith, ints, t)

  pub above-bound : int_le (held a) (held b) ≡ false → b <ℤ a
  above-bound e = let t = both-held ∙ e in grind (arith, ints, t)

module _ (a d : ℤ) (low : pos 0 ≤ℤ a) (high : a ≤ℤ pos 1000000000000000000000000000) (more : pos 0 ≤ℤ d) (few : d ≤ℤ pos 1000000000000) where
  fits-first : FitsSigned w128 a
  fits-first = omega (arith, ints, low, high)

  fits-second : FitsSigned w128 d
  fits-second = omega (arith, ints, more, few)

  fits-both : FitsSigned w128 (a +ℤ d)
  fits-both = omega (arith, ints, low, high, more, few)

  pub sum-fits : FitsSigned w128 (held a +ℤ held d)
  sum-fits = subst (FitsSigned w128) (λ i. sym (to_z-of_z w128 a fits-first) i +ℤ sym (to_z-of_z w128 d fits-second) i) fits-both

  pub sum-is : held (held a +ℤ held d) ≡ (a +ℤ d)
  sum-is = to_z-of_z w128 (held a +ℤ held d) sum-fits ∙ (λ i. to_z-of_z w128 a fits-first i +ℤ to_z-of_z w128 d fits-second i)

-- within the bound, and so within the range
pub within-range : (a b c : ℤ) → a ≤ℤ b → b ≤ℤ c → a ≤ℤ c
within-range a b c h k = omega (arith, ints, h, k)

-- demerits of a page are less than this
pub page-few : (d : ℤ) → d ≤ℤ pos 352689971456 → d ≤ℤ pos 1000000000000
page-few d h = omega (arith, ints, h)

-- ---- the cost of a break

module _ (a b : ℤ) (low : pos 0 ≤ℤ a) (high : a ≤ℤ b) (range : b ≤ℤ pos 1000000000000000000000000000) where
  cost-first : FitsSigned w128 a
  cost-first = omega (arith, ints, low, high, range)

  cost-bound : FitsSigned w128 b
  cost-bound = omega (arith, ints, low, high, range)

  cost-both : FitsSigned w128 (a +ℤ pos 1000)
  cost-both = omega (arith, ints, low, high, range)

  pub cost-fits : FitsSigned w128 (held a +ℤ pos 1000)
  cost-fits = subst (λ x. FitsSigned w128 (x +ℤ pos 1000)) (sym (to_z-of_z w128 a cost-first)) cost-both

  pub cost-is : held (held a +ℤ pos 1000) ≡ (a +ℤ pos 1000)
  cost-is = to_z-of_z w128 (held a +ℤ pos 1000) cost-fits ∙ ap (λ x. x +ℤ pos 1000) (to_z-of_z w128 a cost-first)

  cost-test : int_lt b (a +ℤ pos 1000) ≡ int_lt (held b) (held (held a +ℤ pos 1000))
  cost-test = λ i. int_lt (sym (to_z-of_z w128 b cost-bound) i) (sym cost-is i)

  pub cost-above : int_lt (held b) (held (held a +ℤ pos 1000)) ≡ true → b <ℤ (a +ℤ pos 1000)
  cost-above e = let t = cost-test ∙ e in grind (arith, ints, t)

  pub cost-within : int_lt (held b) (held (held a +ℤ pos 1000)) ≡ false → (a +ℤ pos 1000) ≤ℤ b
  cost-within e = let t = cost-test ∙ e in grind (arith, ints, t)

  -- what the bound leaves behind a break
  rest-both : (a +ℤ pos 1000) ≤ℤ b → FitsSigned w128 (b -ℤ (a +ℤ pos 1000))
  rest-both h = omega (arith, ints, low, h, range)

  pub rest-fits : (a +ℤ pos 1000) ≤ℤ b → FitsSigned w128 (held b -ℤ held (held a +ℤ pos 1000))
  rest-fits h = subst (FitsSigned w128) (λ i. sym (to_z-of_z w128 b cost-bound) i -ℤ sym cost-is i) (rest-both h)

  pub rest-is : (a +ℤ pos 1000) ≤ℤ b → held (held b -ℤ held (held a +ℤ pos 1000)) ≡ (b -ℤ (a +ℤ pos 1000))
  rest-is h = to_z-of_z w128 (held b -ℤ held (held a +ℤ pos 1000)) (rest-fits h) ∙ (λ i. to_z-of_z w128 b cost-bound i -ℤ cost-is i)

-- ---- the cost of a break, and then that of a page

module _ (a b d : ℤ) (low : pos 0 ≤ℤ a) (high : (a +ℤ pos 1000) ≤ℤ b) (range : b ≤ℤ pos 1000000000000000000000000000) (more : pos 0 ≤ℤ d) (few : d ≤ℤ pos 352689971456) where
  before-paid : a ≤ℤ b
  before-paid = omega (arith, ints, high)

  paid-low : pos 0 ≤ℤ (a +ℤ pos 1000)
  paid-low = omega (arith, ints, low)

  paid-range : (a +ℤ pos 1000) ≤ℤ pos 1000000000000000000000000000
  paid-range = omega (arith, ints, high, range)

  paid-is : held (held a +ℤ pos 1000) ≡ held (a +ℤ pos 1000)
  paid-is = cost-is a b low before-paid range ∙ sym (to_z-of_z w128 (a +ℤ pos 1000) (cost-both a b low before-paid range))

  pub paid-fits : FitsSigned w128 (held (held a +ℤ pos 1000) +ℤ held d)
  paid-fits = subst (λ x. FitsSigned w128 (x +ℤ held d)) (sym paid-is) (sum-fits (a +ℤ pos 1000) d paid-low paid-range more (page-few d few))

  pub paid-sum : held (held (held a +ℤ pos 1000) +ℤ held d) ≡ ((a +ℤ pos 1000) +ℤ d)
  paid-sum = ap (λ x. held (x +ℤ held d)) paid-is ∙ sum-is (a +ℤ pos 1000) d paid-low paid-range more (page-few d few)

  sum-high : ((a +ℤ pos 1000) +ℤ d) ≤ℤ (b +ℤ pos 1000000000000)
  sum-high = omega (arith, ints, high, few)

  pub paid-high : held (held (held a +ℤ pos 1000) +ℤ held d) ≤ℤ (b +ℤ pos 1000000000000)
  paid-high = subst (λ x. x ≤ℤ (b +ℤ pos 1000000000000)) (sym paid-sum) sum-high

  paid-held : held (held (held a +ℤ pos 1000) +ℤ held d) ≡ held (held (held (held a +ℤ pos 1000) +ℤ held d))
  paid-held = sym (to_z-of_z w128 _ (demerits-fit _ (subst (λ x. pos 0 ≤ℤ x) (sym paid-sum) (omega (arith, ints, low, more))) (subst (λ x. x ≤ℤ pos 2000000000000000000000000000) (sym paid-sum) (omega (arith, ints, high, few, range)))))

  pub paid-above : int_lt (held b) (held (held (held (held a +ℤ pos 1000) +ℤ held d))) ≡ true → b <ℤ ((a +ℤ pos 1000) +ℤ d)
  paid-above e =
      let t : int_lt b ((a +ℤ pos 1000) +ℤ d) ≡ true = (λ i. int_lt (sym (to_z-of_z w128 b (cost-bound a b low before-paid range)) i) ((sym paid-sum ∙ paid-held) i)) ∙ e in
      grind (arith, ints, t)

-- ---- what one way has more than another with the cost of a break

module _ (a x : ℤ) (low : pos 0 ≤ℤ a) (high : a ≤ℤ pos 1000000000000000000000000000) (low_x : pos 0 ≤ℤ x) (high_x : x ≤ℤ pos 1000000000000000000000000000) where
  first-fits : FitsSigned w128 a
  first-fits = omega (arith, ints, low, high)

  second-fits : FitsSigned w128 x
  second-fits = omega (arith, ints, low_x, high_x)

  paid-fits-too : FitsSigned w128 (held a +ℤ pos 1000)
  paid-fits-too = subst (λ y. FitsSigned w128 (y +ℤ pos 1000)) (sym (to_z-of_z w128 a first-fits)) (omega (arith, ints, low, high))

  paid-is-too : held (held a +ℤ pos 1000) ≡ (a +ℤ pos 1000)
  paid-is-too = to_z-of_z w128 (held a +ℤ pos 1000) paid-fits-too ∙ ap (λ y. y +ℤ pos 1000) (to_z-of_z w128 a first-fits)

  less-fits : FitsSigned w128 (held x -ℤ held (held a +ℤ pos 1000))
  less-fits = subst (FitsSigned w128) (λ i. sym (to_z-of_z w128 x second-fits) i -ℤ sym paid-is-too i) (omega (arith, ints, low, high, low_x, high_x))

  pub less-is : held (held x -ℤ held (held a +ℤ pos 1000)) ≡ (x -ℤ (a +ℤ pos 1000))
  less-is = to_z-of_z w128 (held x -ℤ held (held a +ℤ pos 1000)) less-fits ∙ (λ i. to_z-of_z w128 x second-fits i -ℤ paid-is-too i)
