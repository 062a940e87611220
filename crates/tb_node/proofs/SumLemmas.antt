-- A walk of a list that adds it up.
use Rattle.std.proofs.Common.{◌≡◌, refl, ◌∙◌, ap, sym, subst, ℤ, pos, ◌-ℤ◌, ◌≤ℤ◌, List, [], ◌∷◌, ◌++◌, append_assoc, append-nil, arith}
use Rattle.std.proofs.lemmas.Int.{ints}
use Rattle.tb_scaled.specs.Scaled.{min_ℤ}
use Rattle.tb_node.specs.declared.Sums.{Sums}
use Rattle.tb_node.specs.Shape.{Shape}
use Rattle.tb_node.specs.Sums.{sums_of}
use Rattle.tb_node.specs.NodeSums.{added_node}
use Rattle.tb_node.specs.SmallAmounts.{IsSmall, IsSmallShape}
use Rattle.tb_node.specs.Fit.{NodesFit, SumsFit}
use Rattle.tb_node.proofs.AddLemmas.{sums-append}

-- the sums are those of the first nodes of the list, and these nodes are left
pub record Summing (limit : ℤ) (ns : List Shape) (s : Sums) (rest : List Shape) : Type 0 where
  pub before : List Shape
  pub whole : before ++ rest ≡ ns
  pub sums : s ≡ sums_of limit before

-- the sums of no nodes
abbrev pub no_sums : Sums
no_sums = record { total = pos 0; depth = pos 0; stretch = pos 0 ∷ pos 0 ∷ pos 0 ∷ pos 0 ∷ []; shrink = pos 0 }

no_depth : (limit : ℤ) → pos 0 ≤ℤ limit → pos 0 ≡ min_ℤ (pos 0) limit
no_depth limit low = grind (arith, ints)

-- under a limit that is not below 0 they are the sums of the empty list
pub no_sums-empty : (limit : ℤ) → pos 0 ≤ℤ limit → no_sums ≡ sums_of limit []
no_sums-empty limit low = λ i. record {
  total = pos 0 -ℤ no_depth limit low i;
  depth = no_depth limit low i;
  stretch = pos 0 ∷ pos 0 ∷ pos 0 ∷ pos 0 ∷ [];
  shrink = pos 0;
}

module _ (limit : ℤ) (ns : List Shape) where
  pub begins : pos 0 ≤ℤ limit → Summing limit ns no_sums ns
  begins low = record { before = []; whole = refl; sums = no_sums-empty limit low }

  module _ (s : Sums) where
    pub so_far_fits : (rest : List Shape) → SumsFit limit ns → Summing limit ns s rest → IsSmall s
    so_far_fits rest fits w = subst IsSmall (sym w.sums) (fits w.before rest w.whole)

    pub next_fits : (n : Shape) (rest : List Shape) → NodesFit ns → Summing limit ns s (n ∷ rest) → IsSmallShape n
    next_fits n rest fits w = fits w.before n rest w.whole

    pub goes_on : (n : Shape) (rest : List Shape) (s' : Sums) → s' ≡ added_node limit s n → Summing limit ns s (n ∷ rest) → Summing limit ns s' rest
    goes_on n rest s' e w = record {
      before = w.before ++ n ∷ [];
      whole = append_assoc w.before (n ∷ []) rest ∙ w.whole;
      sums = e ∙ ap (λ t. added_node limit t n) w.sums ∙ sym (sums-append limit w.before n);
    }

    pub ends : Summing limit ns s [] → s ≡ sums_of limit ns
    ends w = w.sums ∙ ap (sums_of limit) (sym (append-nil w.before) ∙ w.whole)
