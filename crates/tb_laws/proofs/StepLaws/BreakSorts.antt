-- What is so of a break's sort, by the tests that the routine makes of its penalty.
use Rattle.std.proofs.Common.{◌≡◌, refl, ℤ, Bool, true, false, arith}
use Rattle.std.specs.Prelude.{int_le, ◌||◌, if◌then◌else◌}
use Rattle.std.proofs.lemmas.Int.{ints}
use Rattle.tb_scaled.specs.Scaled.{eject_penalty}
use Rattle.tb_output.specs.Output.{is_int}
use Rattle.tb_sheet.specs.Asked.{clear_penalty, par_penalty, vert_penalty, hold_penalty}
use Rattle.tb_laws.proofs.Closed.Sorts.{Sort, pen_sort, light, pause, hold, serve, clear, odd}

abbrev tests : Bool → Bool → Bool → Bool → Bool → Sort
tests t e c x z = if t then (if e then pause else (if c then clear else (if x then serve else (if z then hold else odd)))) else light

-- an ordinary break
pub at-ordinary : (R : Type 0) (P : Sort → Type 0) (q : ℤ) → int_le eject_penalty q ≡ true → (P light → R) → (P pause → R) → P (pen_sort q) → R
at-ordinary R P q h at_light at_pause r = by_tests (int_le q eject_penalty) (is_int q eject_penalty) (is_int q clear_penalty) (is_int q par_penalty || is_int q vert_penalty) (is_int q hold_penalty) (λ k. grind (arith, ints, h, k)) r
  where
    by_tests : (t e c x z : Bool) → (t ≡ true → e ≡ true) → P (tests t e c x z) → R
    by_tests true true c x z u r = at_pause r
    by_tests true false c x z u r = let no : ⊥ = grind (arith, u refl) in absurd no
    by_tests false e c x z u r = at_light r

-- a clear
pub at-clear : (R : Type 0) (P : Sort → Type 0) (q : ℤ) → int_le eject_penalty q ≡ false → is_int q clear_penalty ≡ true → (P clear → R) → P (pen_sort q) → R
at-clear R P q h k at_it r = by_tests (int_le q eject_penalty) (is_int q eject_penalty) (is_int q clear_penalty) (is_int q par_penalty || is_int q vert_penalty) (is_int q hold_penalty) (grind (arith, ints, h)) (grind (arith, ints, h)) k r
  where
    by_tests : (t e c x z : Bool) → t ≡ true → e ≡ false → c ≡ true → P (tests t e c x z) → R
    by_tests true false true x z u v k r = at_it r
    by_tests true false false x z u v k r = let no : ⊥ = grind (arith, k) in absurd no
    by_tests true true c x z u v k r = let no : ⊥ = grind (arith, v) in absurd no
    by_tests false e c x z u v k r = let no : ⊥ = grind (arith, u) in absurd no

-- the firing for a float or note
pub at-serve : (R : Type 0) (P : Sort → Type 0) (q : ℤ) → int_le eject_penalty q ≡ false → is_int q clear_penalty ≡ false → (is_int q par_penalty || is_int q vert_penalty) ≡ true → (P serve → R) → P (pen_sort q) → R
at-serve R P q h k l at_it r = by_tests (int_le q eject_penalty) (is_int q eject_penalty) (is_int q clear_penalty) (is_int q par_penalty || is_int q vert_penalty) (is_int q hold_penalty) (grind (arith, ints, h)) (grind (arith, ints, h)) k l r
  where
    by_tests : (t e c x z : Bool) → t ≡ true → e ≡ false → c ≡ false → x ≡ true → P (tests t e c x z) → R
    by_tests true false false true z u v k l r = at_it r
    by_tests true false false false z u v k l r = let no : ⊥ = grind (arith, l) in absurd no
    by_tests true false true x z u v k l r = let no : ⊥ = grind (arith, k) in absurd no
    by_tests true true c x z u v k l r = let no : ⊥ = grind (arith, v) in absurd no
    by_tests false e c x z u v k l r = let no : ⊥ = grind (arith, u) in absurd no

-- the page before a float or note, and any other forced break
pub at-hold : (R : Type 0) (P : Sort → Type 0) (q : ℤ) → int_le eject_penalty q ≡ false → is_int q clear_penalty ≡ false → (is_int q par_penalty || is_int q vert_penalty) ≡ false → (P hold → R) → (P odd → R) → P (pen_sort q) → R
at-hold R P q h k l at_it at_odd r = by_tests (int_le q eject_penalty) (is_int q eject_penalty) (is_int q clear_penalty) (is_int q par_penalty || is_int q vert_penalty) (is_int q hold_penalty) (grind (arith, ints, h)) (grind (arith, ints, h)) k l r
  where
    by_tests : (t e c x z : Bool) → t ≡ true → e ≡ false → c ≡ false → x ≡ false → P (tests t e c x z) → R
    by_tests true false false false true u v k l r = at_it r
    by_tests true false false false false u v k l r = at_odd r
    by_tests true false false true z u v k l r = let no : ⊥ = grind (arith, l) in absurd no
    by_tests true false true x z u v k l r = let no : ⊥ = grind (arith, k) in absurd no
    by_tests true true c x z u v k l r = let no : ⊥ = grind (arith, v) in absurd no
    by_tests false e c x z u v k l r = let no : ⊥ = grind (arith, u) in absurd no
