-- A walk of a set list.
use Rattle.std.proofs.Common.{◌≡◌, ◌∙◌, ap, sym, subst, ℤ, ◌+ℤ◌, ◌-ℤ◌, List, [], ◌∷◌, ◌++◌, append_assoc, FitsSigned, w64, arith}
use Rattle.std.proofs.lemmas.Int.{ints}
use Rattle.tb_scaled.specs.declared.Order.{Order}
use Rattle.tb_scaled.specs.declared.Order.TheVariants.{Normal, Fil, Fill, Filll}
use Rattle.tb_scaled.proofs.AmountLemmas.{amount_fits}
use Rattle.tb_node.specs.Shape.{Shape}
use Rattle.tb_node.specs.Sums.{room_of, size_of, sums_of, limited_depth, list_stretch}
use Rattle.tb_node.specs.SmallAmounts.{IsAmount, IsSmall}
use Rattle.tb_node.specs.Fit.{SumsFit}
use Rattle.tb_node.proofs.AddLemmas.{size-append, stretch-append, shrink-append}
use Rattle.tb_pack.specs.declared.Sign.{Sign}
use Rattle.tb_pack.specs.declared.Sign.TheVariants as signs
use Rattle.tb_pack.specs.declared.Set.{Set}
use Rattle.tb_pack.specs.Pack.{glue_by_sign}
use Rattle.tb_pack.specs.Position.{Walked, glue_of, walked_past, HasPassed}

glue-append : (sign : Sign) (o : Order) (ns : List Shape) (n : Shape) → glue_by_sign sign o (ns ++ n ∷ []) ≡ glue_by_sign sign o ns +ℤ glue_of sign o n
glue-append signs.None o ns n = omega (arith, ints)
glue-append signs.Stretch o ns n = stretch-append o ns n
glue-append signs.Shrink o ns n = shrink-append ns n

-- the walk past one node more
pub has_passed-more : (w : Walked) (n : Shape) (s : Set) (before : List Shape) → HasPassed w s before → HasPassed (walked_past w n) s (before ++ n ∷ [])
has_passed-more w n s before h = record {
  same_set = h.same_set;
  natural = ap (λ x. x +ℤ room_of n) h.natural ∙ sym (size-append before n);
  glue = ap (λ x. x +ℤ glue_of w.set.sign w.set.order n) h.glue ∙ ap (λ t. glue_by_sign s.sign s.order before +ℤ glue_of t.sign t.order n) h.same_set ∙ sym (glue-append s.sign s.order before n);
}

-- what is passed of a list whose sums fit, with one node more: its size, and its glue of each kind
passed_small : (limit : ℤ) (ns before : List Shape) (n : Shape) (rest : List Shape) → SumsFit limit ns → before ++ n ∷ rest ≡ ns → IsSmall (sums_of limit (before ++ n ∷ []))
passed_small limit ns before n rest fits e = fits (before ++ n ∷ []) rest (append_assoc before (n ∷ []) rest ∙ e)

size_fits : (size depth : ℤ) → IsAmount (size -ℤ depth) → IsAmount depth → FitsSigned w64 size
size_fits size depth a b = omega (arith, ints)

order_fits : (o : Order) (limit : ℤ) (ns : List Shape) → IsSmall (sums_of limit ns) → FitsSigned w64 (list_stretch o ns)
order_fits Normal limit ns h = amount_fits _ h.stretch.0
order_fits Fil limit ns h = amount_fits _ h.stretch.1.0
order_fits Fill limit ns h = amount_fits _ h.stretch.1.1.0
order_fits Filll limit ns h = amount_fits _ h.stretch.1.1.1.0

glue_fits : (sign : Sign) (o : Order) (limit : ℤ) (ns : List Shape) → IsSmall (sums_of limit ns) → FitsSigned w64 (glue_by_sign sign o ns)
glue_fits signs.None o limit ns h = omega (arith, ints)
glue_fits signs.Stretch o limit ns h = order_fits o limit ns h
glue_fits signs.Shrink o limit ns h = amount_fits _ h.shrink

-- if the sums of a list fit under some limit, its walk can pass the next node
module _ (limit : ℤ) (ns : List Shape) (w : Walked) (s : Set) (before : List Shape) (n : Shape) (rest : List Shape) where
  pub next_natural_fits : SumsFit limit ns → before ++ n ∷ rest ≡ ns → HasPassed w s before → FitsSigned w64 (walked_past w n).natural
  next_natural_fits fits e h =
      let small : IsSmall (sums_of limit (before ++ n ∷ [])) = passed_small limit ns before n rest fits e in
      subst (FitsSigned w64) (sym (has_passed-more w n s before h).natural) (size_fits (size_of (before ++ n ∷ [])) (limited_depth limit (before ++ n ∷ [])) small.total small.depth)

  pub next_glue_fits : SumsFit limit ns → before ++ n ∷ rest ≡ ns → HasPassed w s before → FitsSigned w64 (walked_past w n).glue
  next_glue_fits fits e h =
      let small : IsSmall (sums_of limit (before ++ n ∷ [])) = passed_small limit ns before n rest fits e in
      subst (FitsSigned w64) (sym (has_passed-more w n s before h).glue) (glue_fits s.sign s.order limit (before ++ n ∷ []) small)
