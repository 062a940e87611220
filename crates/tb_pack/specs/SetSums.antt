-- Packing by the sums of a list alone.
use Rattle.std.specs.Prelude.{ℤ, pos, neg_ℤ, ◌<ℤ◌, not, List, int_lt, if◌then◌else◌, slice_index_or}
use Rattle.tb_scaled.specs.declared.Order.{Order}
use Rattle.tb_scaled.specs.declared.Order.TheVariants.{Normal, Fil, Fill, Filll}
use Rattle.tb_scaled.specs.Scaled.{is_zero}
use Rattle.tb_node.specs.declared.Sums.{Sums}
use Rattle.tb_node.specs.NodeSums.{order_index}
use Rattle.tb_pack.specs.declared.Set.{Set}
use Rattle.tb_pack.specs.Pack.{Setting, natural_setting, stretched, shrunk}

-- the difference of two amounts below 2^60 in absolute value
pub record IsDifference (z : ℤ) : Type 0 where
  pub low : neg_ℤ (pos 2305843009213693952) <ℤ z
  pub high : z <ℤ pos 2305843009213693952

-- the total stretch of an order among the totals of all four
abbrev pub total_of : Order → List ℤ → ℤ
total_of o stretch = slice_index_or stretch (order_index o) (pos 0)

-- the highest order whose total is not 0, or normal if there is none
abbrev pub highest_order : List ℤ → Order
highest_order stretch =
    if not (is_zero (total_of Filll stretch)) then Filll
    else (if not (is_zero (total_of Fill stretch)) then Fill
    else (if not (is_zero (total_of Fil stretch)) then Fil else Normal))

-- how the glue of a list with these sums is set, if the height is e more than its natural height
abbrev pub sums_setting : ℤ → Sums → Setting
sums_setting e s =
    if is_zero e then natural_setting (pos 0)
    else (if int_lt (pos 0) e then stretched e (highest_order s.stretch) (total_of (highest_order s.stretch) s.stretch)
    else shrunk (neg_ℤ e) s.shrink)

-- the set with this setting of its glue
abbrev pub set_by : Set → Setting → Set
set_by set s = record set { sign = s.sign; order = s.order; num = s.num; den = s.den; over = s.over }
