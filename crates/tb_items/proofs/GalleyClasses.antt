-- The classes of a valid galley: their numbers rise, and their amounts fit.
use Rattle.std.proofs.Common.{◌≡◌, refl, ℕ, ◌<◌, ◌≤◌, ℤ, pos, Bool, true, false, ◌&&◌, ◌||◌, ◌==◌, nat_lt, nat_le, List, [], ◌∷◌, ◌++◌, map, arith, Option, Some, None, unwrap_or}
use Rattle.std.specs.Cmp.{first_so, second_so}
use Rattle.std.specs.Prelude.{IsTrue}
use Rattle.std.specs.List.{list_all}
use Rattle.std.proofs.lemmas.Int.{ints}
use Rattle.std.proofs.lemmas.Bool.Decides.{nat_tests}
use Rattle.std.proofs.lemmas.Bool.{ltb-true}
use Rattle.tb_scaled.specs.Amount.{IsAmount}
use Rattle.tb_param.specs.declared.Params.{Params}
use Rattle.tb_param.specs.declared.Rule.{Rule}
use Rattle.tb_param.specs.Table.{is_within, is_dimen, is_glue, is_rule}
use Rattle.tb_insert.specs.declared.Class.{Class}
use Rattle.tb_insert.specs.Arrival.{ClassFits}
use Rattle.tb_builder.specs.Ownership.{has_class, ClassesFit}
use Rattle.tb_column.specs.Ranges.{IsSizedRule}
use Rattle.tb_column.proofs.RangeLemmas.{rule-sized}
use Rattle.tb_galley.specs.declared.ClassLine.{ClassLine}
use Rattle.tb_galley.specs.declared.Galley.{Galley}
use Rattle.tb_galley.specs.Valid.{is_class, is_size, do_classes_rise, IsValid, may_stand}
use Rattle.tb_items.specs.Classes.{foot_class, enlarging_class, class_of, classes_of}

-- ---- the numbers rise

-- all classes have greater numbers
abbrev pub AreAbove : ℕ → List ClassLine → Type 0
AreAbove n [] = Unit {0}
AreAbove n (c ∷ cs) = (n < c.number) × AreAbove n cs

above-more : (n m : ℕ) (cs : List ClassLine) → n < m → AreAbove m cs → AreAbove n cs
above-more n m [] h a = tt
above-more n m (c ∷ cs) h a = (omega (arith, h, a.0), above-more n m cs h a.1)

pub rising-above : (c : ClassLine) (cs : List ClassLine) → IsTrue (do_classes_rise (c ∷ cs)) → AreAbove c.number cs
rising-above c [] h = tt
rising-above c (d ∷ ds) h =
    let n = ltb-true c.number d.number (first_so (nat_lt c.number d.number) (do_classes_rise (d ∷ ds)) h) in
    (n, above-more c.number d.number ds n (rising-above d ds (second_so (nat_lt c.number d.number) (do_classes_rise (d ∷ ds)) h)))

pub rising-rest : (c : ClassLine) (cs : List ClassLine) → IsTrue (do_classes_rise (c ∷ cs)) → IsTrue (do_classes_rise cs)
rising-rest c [] h = refl
rising-rest c (d ∷ ds) h = second_so (nat_lt c.number d.number) (do_classes_rise (d ∷ ds)) h

-- ---- a class in its ranges

record IsInRange (c : ClassLine) : Type 0 where
  small : c.number ≤ 253
  fits : ClassFits (class_of c)

dimension-amount : (v : ℤ) → IsTrue (is_dimen v) → IsAmount v
dimension-amount v h = record { low = grind (arith, ints, h); high = grind (arith, ints, h) }

factor-amount : (v : ℤ) → IsTrue (is_within (pos 0) (pos 10000) v) → IsAmount v
factor-amount v h = record { low = grind (arith, ints, h); high = grind (arith, ints, h) }

at_most : (n : ℕ) → IsTrue (nat_le n 253) → n ≤ 253
at_most n h = grind (arith, nat_tests, h)

in-range : (c : ClassLine) → IsTrue (is_class c) → IsInRange c
in-range c h =
    let most = nat_le c.number 253 in
    let factor = is_within (pos 0) (pos 10000) c.factor in
    let three = first_so (most && factor && is_size c.limit) (is_glue c.skip) h in
    let two = first_so (most && factor) (is_size c.limit) three in
    let glue = second_so (most && factor && is_size c.limit) (is_glue c.skip) h in
    let first = first_so (is_dimen c.skip.width && is_dimen c.skip.stretch) (is_dimen c.skip.shrink) glue in
    record {
      small = at_most c.number (first_so most factor two);
      fits = record {
        factor = factor-amount c.factor (second_so most factor two);
        stretch = dimension-amount c.skip.stretch (second_so (is_dimen c.skip.width) (is_dimen c.skip.stretch) first);
        shrink = dimension-amount c.skip.shrink (second_so (is_dimen c.skip.width && is_dimen c.skip.stretch) (is_dimen c.skip.shrink) glue);
      };
    }

pub class-small : (c : ClassLine) → IsTrue (is_class c) → c.number ≤ 253
class-small c h = (in-range c h).small

-- ---- the classes with that of the footnotes and that of what makes a page higher

-- the classes of a galley with these class lines
abbrev pub with_foot : Params → List ClassLine → List Class
with_foot p cs = map class_of cs ++ foot_class p ∷ enlarging_class ∷ []

unlike : (n m : ℕ) → n < m → (m == n) ≡ false
unlike n m h = grind (arith, nat_tests, h)

none-has : (p : Params) (n : ℕ) (cs : List ClassLine) → n ≤ 253 → AreAbove n cs → has_class (with_foot p cs) n ≡ false
none-has p n [] h a = (λ i. unlike n 254 (omega (arith, h)) i || (unlike n 255 (omega (arith, h)) i || false))
none-has p n (c ∷ cs) h a = by_test (c.number == n) (unlike n c.number a.0) (none-has p n cs h a.1)
  where
    by_test : (t : Bool) → t ≡ false → has_class (with_foot p cs) n ≡ false → (t || has_class (with_foot p cs) n) ≡ false
    by_test true e f = cc
    by_test false e f = f

enlarging-fits : ClassFits enlarging_class
enlarging-fits = record {
  factor = record { low = omega (arith, ints); high = omega (arith, ints) };
  stretch = record { low = omega (arith, ints); high = omega (arith, ints) };
  shrink = record { low = omega (arith, ints); high = omega (arith, ints) };
}

module _ (p : Params) (foot : ClassFits (foot_class p)) where
  lines-fit : (cs : List ClassLine) → IsTrue (list_all is_class cs) → IsTrue (do_classes_rise cs) → ClassesFit (with_foot p cs)
  lines-fit [] v r = (refl, omega arith, foot, (refl, omega arith, enlarging-fits, tt))
  lines-fit (c ∷ cs) v r =
      let one = in-range c (first_so (is_class c) (list_all is_class cs) v) in
      let small = one.small in (
        none-has p c.number cs small (rising-above c cs r),
        omega (arith, small),
        one.fits,
        lines-fit cs (second_so (is_class c) (list_all is_class cs) v) (rising-rest c cs r),
      )

-- a builder can have the classes of a valid galley
pub classes-fit : (g : Galley) → IsValid g → ClassFits (foot_class g.params) → ClassesFit (classes_of g)
classes-fit g v foot =
    lines-fit g.params foot g.classes (first_so (list_all is_class g.classes) (do_classes_rise g.classes) v.classes) (second_so (list_all is_class g.classes) (do_classes_rise g.classes) v.classes)

-- the rule of a class that stands below footnotes has its amounts in their ranges
pub standing-rule : (version : ℕ) (b : Option (Option Rule)) → IsTrue (may_stand version b) → IsSizedRule (unwrap_or b None)
standing-rule version None h = tt
standing-rule version (Some r) h = rule-sized r (second_so (nat_le 3 version) (is_rule r) h)
