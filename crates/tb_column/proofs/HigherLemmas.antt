-- The sums of a column whose contents are shrunk, and the ranges of what it is packed to.
use Rattle.std.proofs.Common.{◌≡◌, refl, sym, ap, ◌∙◌, subst, ℤ, pos, neg_ℤ, ◌≤ℤ◌, ◌+ℤ◌, Bool, true, false, List, [], ◌∷◌, ◌++◌, map, arith}
use Rattle.std.specs.Prelude.{◌-ℤ◌, ◌&&◌, if◌then◌else◌}
use Rattle.std.proofs.lemmas.Bool.{true≢false}
use Rattle.std.proofs.lemmas.Int.{ints}
use Rattle.std.proofs.lemmas.List.{map-append}
use Rattle.tb_scaled.specs.declared.Glue.{Glue}
use Rattle.tb_scaled.specs.declared.Order.{Order}
use Rattle.tb_scaled.specs.declared.Order.TheVariants.{Normal, Fil, Fill, Filll}
use Rattle.tb_scaled.specs.Scaled.{is_zero, min_ℤ}
use Rattle.tb_scaled.specs.Glue.{fixed_glue}
use Rattle.tb_node.specs.declared.Node.{Node}
use Rattle.tb_node.specs.declared.Kind.TheVariants as kinds
use Rattle.tb_node.specs.declared.Sums.{Sums}
use Rattle.tb_node.specs.Shape.{Shape, glue}
use Rattle.tb_node.specs.PlainNodes.{shape_of}
use Rattle.tb_node.specs.SmallAmounts.{IsAmount, IsSmall}
use Rattle.tb_node.specs.Fit.{IsDimension}
use Rattle.tb_node.specs.Sums.{room_of, size_of, depth_after, depth_from, last_depth, stretch_of, list_stretch, shrink_of, list_shrink, limited_depth, sums_of}
use Rattle.tb_node.proofs.AddLemmas.{depth-append, four}
use Rattle.tb_pack.specs.SetSums.{IsDifference}
use Rattle.tb_param.specs.declared.Params.{Params}
use Rattle.tb_float.specs.Ranges.{IsWithin}
use Rattle.tb_column.specs.declared.Enlarged.TheVariants as enlarged
use Rattle.tb_column.specs.Column.{is_no_glue}
use Rattle.tb_column.specs.FloatColumns.{made_node, glue_list}
use Rattle.tb_column.specs.TextColumns.{closing_by, closed_list, ended_list, packed_list}
use Rattle.tb_column.proofs.MovingLemmas.{glue-is}

-- ---- lists one behind the other

size-behind : (xs ys : List Shape) → size_of (xs ++ ys) ≡ size_of xs +ℤ size_of ys
size-behind [] ys = omega (arith, ints)
size-behind (x ∷ xs) ys = let h = size-behind xs ys in omega (arith, ints)

depth-behind : (d : ℤ) (xs ys : List Shape) → depth_from d (xs ++ ys) ≡ depth_from (depth_from d xs) ys
depth-behind d [] ys = refl
depth-behind d (x ∷ xs) ys = depth-behind (depth_after d x) xs ys

stretch-behind : (o : Order) (xs ys : List Shape) → list_stretch o (xs ++ ys) ≡ list_stretch o xs +ℤ list_stretch o ys
stretch-behind o [] ys = omega (arith, ints)
stretch-behind o (x ∷ xs) ys = let h = stretch-behind o xs ys in omega (arith, ints)

shrink-behind : (xs ys : List Shape) → list_shrink (xs ++ ys) ≡ list_shrink xs +ℤ list_shrink ys
shrink-behind [] ys = omega (arith, ints)
shrink-behind (x ∷ xs) ys = let h = shrink-behind xs ys in omega (arith, ints)

-- ---- glue of a fixed width within a list

no-stretch : (o : Order) (w : ℤ) → stretch_of o (glue (fixed_glue w)) ≡ pos 0
no-stretch Normal w = refl
no-stretch Fil w = refl
no-stretch Fill w = refl
no-stretch Filll w = refl

module _ (limit w : ℤ) (c t : List Shape) (ends : last_depth c ≡ pos 0) where
  abbrev fixed : Shape
  fixed = glue (fixed_glue w)

  same-depth : last_depth (c ++ fixed ∷ t) ≡ last_depth (c ++ t)
  same-depth = depth-behind (pos 0) c (fixed ∷ t) ∙ sym (ap (λ d. depth_from d t) ends) ∙ sym (depth-behind (pos 0) c t)

  more-size : size_of (c ++ fixed ∷ t) ≡ size_of (c ++ t) +ℤ w
  more-size = let a = size-behind c (fixed ∷ t) in let b = size-behind c t in omega (arith, ints)

  swapped : (x y m : ℤ) → (x +ℤ y) -ℤ m ≡ (x -ℤ m) +ℤ y
  swapped x y m = omega (arith, ints)

  same-stretch : (o : Order) → list_stretch o (c ++ fixed ∷ t) ≡ list_stretch o (c ++ t)
  same-stretch o = let a = stretch-behind o c (fixed ∷ t) in let b = stretch-behind o c t in let none = no-stretch o w in omega (arith, ints)

  same-shrink : list_shrink (c ++ fixed ∷ t) ≡ list_shrink (c ++ t)
  same-shrink = let a = shrink-behind c (fixed ∷ t) in let b = shrink-behind c t in omega (arith, ints)

  -- behind a list without a depth it adds its width to the total
  pub with-fixed : sums_of limit (c ++ fixed ∷ t) ≡ (let s : Sums = sums_of limit (c ++ t) in record s { total = s.total +ℤ w })
  with-fixed = λ i. record {
    total = ((λ j. more-size j -ℤ min_ℤ (same-depth j) limit) ∙ swapped (size_of (c ++ t)) w (limited_depth limit (c ++ t))) i;
    depth = ap (λ d. min_ℤ d limit) same-depth i;
    stretch = four (same-stretch Normal) (same-stretch Fil) (same-stretch Fill) (same-stretch Filll) i;
    shrink = same-shrink i;
  }

-- ---- a column whose contents are shrunk

no-width : (w : ℤ) (t b c : Bool) → is_zero w ≡ t → (t && b && c) ≡ true → w ≡ pos 0
no-width w true b c e h = grind (arith, ints)
no-width w false b c e h = absurd (true≢false (sym h))

module _ (p : Params) (low : pos 0 ≤ℤ p.maxdepth) (ns : List Node) where
  abbrev closed : List Shape
  closed = map shape_of (closed_list p ns)

  abbrev bottom : List Shape
  bottom = map shape_of (glue_list p.textbottom)

  closed-ends : last_depth closed ≡ pos 0
  closed-ends =
      let g = made_node (kinds.Skip (closing_by p.bottom (limited_depth p.maxdepth (map shape_of ns)))) in
      ap last_depth (map-append shape_of ns (g ∷ [])) ∙ depth-append (pos 0) (map shape_of ns) (shape_of g)

  -- the glue at the bottom adds its width and no depth
  bottom-size : (t : Bool) → is_no_glue p.textbottom ≡ t → size_of bottom ≡ p.textbottom.width
  bottom-size true e =
      ap (λ (xs : List Node). size_of (map shape_of xs)) (glue-is p.textbottom true e)
      ∙ sym (no-width p.textbottom.width (is_zero p.textbottom.width) (is_zero p.textbottom.stretch) (is_zero p.textbottom.shrink) refl e)
  bottom-size false e = let h : size_of bottom ≡ p.textbottom.width +ℤ pos 0 = ap (λ (xs : List Node). size_of (map shape_of xs)) (glue-is p.textbottom false e) in omega (arith, ints)

  bottom-depth : (t : Bool) → is_no_glue p.textbottom ≡ t → depth_from (pos 0) bottom ≡ pos 0
  bottom-depth true e = ap (λ (xs : List Node). depth_from (pos 0) (map shape_of xs)) (glue-is p.textbottom true e)
  bottom-depth false e = ap (λ (xs : List Node). depth_from (pos 0) (map shape_of xs)) (glue-is p.textbottom false e)

  whole-depth : last_depth (closed ++ bottom) ≡ pos 0
  whole-depth = depth-behind (pos 0) closed bottom ∙ ap (λ d. depth_from d bottom) closed-ends ∙ bottom-depth (is_no_glue p.textbottom) refl

  none-limited : min_ℤ (pos 0) p.maxdepth ≡ pos 0
  none-limited = grind (arith, ints)

  whole-total : (height s : ℤ) → (size_of (closed ++ bottom) -ℤ limited_depth p.maxdepth (closed ++ bottom)) +ℤ (height -ℤ size_of closed +ℤ s) ≡ height +ℤ p.textbottom.width +ℤ s
  whole-total height s =
      let sizes = size-behind closed bottom in
      let low_size = bottom-size (is_no_glue p.textbottom) refl in
      let none : limited_depth p.maxdepth (closed ++ bottom) ≡ pos 0 = ap (λ d. min_ℤ d p.maxdepth) whole-depth ∙ none-limited in
      omega (arith, ints)

  -- its total is its room, the glue at its bottom, and the shrink of the page
  pub shrunk-sums : (height s : ℤ) → sums_of p.maxdepth (map shape_of (packed_list p height (enlarged.Shrunk s) ns)) ≡ (let t : Sums = sums_of p.maxdepth (map shape_of (ended_list p ns)) in record t { total = height +ℤ p.textbottom.width +ℤ s })
  shrunk-sums height s =
      let w : ℤ = height -ℤ size_of closed +ℤ s in
      ap (sums_of p.maxdepth) (map-append shape_of (closed_list p ns) (made_node (kinds.Skip (fixed_glue w)) ∷ glue_list p.textbottom))
      ∙ with-fixed p.maxdepth w closed bottom closed-ends
      ∙ ap (λ (z : ℤ). (let t : Sums = sums_of p.maxdepth (closed ++ bottom) in record t { total = z })) (whole-total height s)
      ∙ ap (λ (xs : List Shape). (let t : Sums = sums_of p.maxdepth xs in record t { total = height +ℤ p.textbottom.width +ℤ s })) (sym (map-append shape_of (closed_list p ns) (glue_list p.textbottom)))

-- what packing asks of it
pub shrunk-excess : (height bottom s : ℤ) → IsDimension bottom → IsAmount s → IsDifference (height -ℤ (height +ℤ bottom +ℤ s))
shrunk-excess height bottom s b a = record { low = omega (arith, ints); high = omega (arith, ints) }

pub no-higher : (h : ℤ) → h ≡ h +ℤ pos 0
no-higher h = omega (arith, ints)
