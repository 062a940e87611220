-- A list is packed by its sums.
use Rattle.std.proofs.Common.{◌≡◌, ◌≢◌, refl, ◌∙◌, ap, sym, subst, zero, suc, Bool, true, false, ℤ, pos, negsuc, neg_ℤ, ◌<ℤ◌, List, arith}
use Rattle.std.specs.Prelude.{◌-ℤ◌, int_lt, int_le, if◌then◌else◌}
use Rattle.std.proofs.lemmas.Int.{ints}
use Rattle.tb_scaled.specs.Scaled.{is_zero}
use Rattle.tb_node.specs.declared.Sums.{Sums}
use Rattle.tb_scaled.specs.declared.Order.{Order}
use Rattle.tb_scaled.specs.declared.Order.TheVariants.{Normal, Fil, Fill, Filll}
use Rattle.tb_node.specs.Shape.{Shape}
use Rattle.tb_node.specs.SmallAmounts.{IsSmall}
use Rattle.tb_node.specs.Fit.{SumsFit}
use Rattle.tb_node.proofs.FitLemmas.{whole_fits}
use Rattle.tb_node.specs.Sums.{limited_depth, list_stretch, list_shrink, stretches, sums_of}
use Rattle.tb_pack.specs.declared.Set.{Set}
use Rattle.tb_pack.specs.declared.Sign.TheVariants as signs
use Rattle.tb_pack.specs.Pack.{packed, natural_height, set_of, Setting, natural_setting, stretch_order, setting_of, stretched, shrunk}
use Rattle.tb_pack.specs.SetSums.{highest_order, total_of, sums_setting, set_by}

-- the totals of a list are those of its orders
pub total-list : (o : Order) (ns : List Shape) → total_of o (stretches ns) ≡ list_stretch o ns
total-list Normal ns = refl
total-list Fil ns = refl
total-list Fill ns = refl
total-list Filll ns = refl

-- if the height exceeds the natural height, the glue stretches
pub sums_setting-above : (e : ℤ) (s : Sums) → pos 0 <ℤ e → sums_setting e s ≡ stretched e (highest_order s.stretch) (total_of (highest_order s.stretch) s.stretch)
sums_setting-above e s h = grind (arith, ints)

-- if it is less, the glue shrinks
pub sums_setting-below : (e : ℤ) (s : Sums) → e <ℤ pos 0 → sums_setting e s ≡ shrunk (neg_ℤ e) s.shrink
sums_setting-below e s h = grind (arith, ints)

-- a list is set by its sums
pub sums_setting-list : (limit e : ℤ) (ns : List Shape) → sums_setting e (sums_of limit ns) ≡ setting_of e ns
sums_setting-list limit e ns = ap (λ t. if is_zero e then natural_setting (pos 0) else (if int_lt (pos 0) e then stretched e (stretch_order ns) t else shrunk (neg_ℤ e) (list_shrink ns))) (total-list (stretch_order ns) ns)

-- a list that shrinks too little
pub shrunk-overfull : (e z : ℤ) → z <ℤ e → z ≢ pos 0 → shrunk e z ≡ record { sign = signs.Shrink; order = Normal; num = pos 1; den = pos 1; over = e -ℤ z }
shrunk-overfull e z h k = grind (arith, ints)

-- the whole of `pack`
pub packed-by : (height limit : ℤ) (ns : List Shape) (s : Sums) (set : Set) → s ≡ sums_of limit ns → set ≡ set_by (record { height = height; natural = s.total; sign = signs.None; order = Normal; num = pos 0; den = pos 1; depth = s.depth; over = pos 0 }) (sums_setting (height -ℤ s.total) s) → set ≡ packed height limit ns
packed-by height limit ns s set is e =
    e ∙ ap (λ t. set_of height t.total t.depth (sums_setting (height -ℤ t.total) t)) is ∙ ap (set_of height (natural_height limit ns) (limited_depth limit ns)) (sums_setting-list limit (height -ℤ natural_height limit ns) ns)

-- what holds of both sides of a choice holds of the choice
chosen : (P : Setting → Type 0) (test : Bool) (x y : Setting) → (test ≡ true → P x) → (test ≡ false → P y) → P (if test then x else y)
chosen P true x y h k = h refl
chosen P false x y h k = k refl

-- the share of the glue has a divisor
abbrev HasDivisor : Setting → Type 0
HasDivisor s = s.den ≢ pos 0

one_not_zero : pos 1 ≢ pos 0
one_not_zero e = absurd (omega (arith, ints, e))

stretched-divisor : (e : ℤ) (o : Order) (total : ℤ) → HasDivisor (stretched e o total)
stretched-divisor e o total = chosen HasDivisor (is_zero total) _ _ (λ h. one_not_zero) (λ h k. let zero_total : is_zero total ≡ true = ap is_zero k in cc)

shrunk-divisor : (e z : ℤ) → pos 0 <ℤ e → HasDivisor (shrunk e z)
shrunk-divisor e z low =
    chosen HasDivisor (int_le e z) _ _ (λ h k. absurd (grind (arith, ints, low, h, k)))
    (λ h. chosen HasDivisor (is_zero z) _ _ (λ k. one_not_zero) (λ k. one_not_zero))

negated_above : (e : ℤ) → is_zero e ≡ false → int_lt (pos 0) e ≡ false → pos 0 <ℤ neg_ℤ e
negated_above (pos zero) h k = absurd (grind (arith, h))
negated_above (pos (suc n)) h k = absurd (grind (arith, ints, k))
negated_above (negsuc n) h k = omega (arith, ints)

-- a packed list has a share with a divisor
pub packed-divisor : (height limit : ℤ) (ns : List Shape) → (packed height limit ns).den ≢ pos 0
packed-divisor height limit ns =
    let e : ℤ = height -ℤ natural_height limit ns in
    chosen HasDivisor (is_zero e) _ _ (λ h. one_not_zero)
    (λ h. chosen HasDivisor (int_lt (pos 0) e) _ _ (λ k. stretched-divisor e (stretch_order ns) (list_stretch (stretch_order ns) ns)) (λ k. shrunk-divisor (neg_ℤ e) (list_shrink ns) (negated_above e h k)))

-- sums that fit
pub sums_small : (limit : ℤ) (ns : List Shape) (s : Sums) → s ≡ sums_of limit ns → SumsFit limit ns → IsSmall s
sums_small limit ns s e h = subst IsSmall (sym e) (whole_fits limit ns h)
