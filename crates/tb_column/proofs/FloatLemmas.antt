-- The nodes of floats in a store: as the definitions see them, their ranges and their number.
use Rattle.std.proofs.Common.{◌≡◌, refl, ap, ◌∙◌, ℕ, ◌+◌, ◌*◌, ◌≤◌, ℤ, neg_ℤ, Bool, true, false, List, [], ◌∷◌, ◌++◌, length, map, length-append, Option, Some, None, pos, arith}
use Rattle.std.specs.Prelude.{All, if◌then◌else◌}
use Rattle.std.proofs.lemmas.Int.{ints}
use Rattle.std.proofs.lemmas.List.{map-append}
use Rattle.std.proofs.lemmas.List.Elements.{All-nil, All-cons, All-head, All-tail, All-append, All-from_recursion}
use Rattle.tb_scaled.specs.declared.Glue.{Glue}
use Rattle.tb_scaled.specs.Glue.{negated_glue}
use Rattle.tb_node.specs.declared.Node.{Node}
use Rattle.tb_node.specs.declared.Kind.TheVariants as kinds
use Rattle.tb_node.specs.declared.Where.{Where}
use Rattle.tb_node.specs.declared.Where.TheVariants as places
use Rattle.tb_node.specs.declared.Float.{Float}
use Rattle.tb_node.specs.declared.RuleOf.{RuleOf}
use Rattle.tb_node.specs.declared.RuleOf.TheVariants.{Floats}
use Rattle.tb_param.specs.declared.Rule.{Rule}
use Rattle.tb_node.specs.Shape.{glue}
use Rattle.tb_node.specs.Fit.{IsDimension, IsExtent, IsSized, IsSizedNode}
use Rattle.tb_node.specs.PlainNodes.{PlainNode, plain_of, made, skip}
use Rattle.tb_param.specs.declared.Params.{Params}
use Rattle.tb_float.specs.Pool.{marked_among}
use Rattle.tb_float.specs.Ranges.{IsSizedFloat}
use Rattle.tb_column.specs.declared.float_columns.PageGlue.{PageGlue}
use Rattle.tb_column.specs.Column.{is_no_glue, glue_if_any, rule_if_any, float_node, floats_with, floats_above, floats_below, floats_after}
use Rattle.tb_column.specs.FloatColumns.{made_node, float_box, boxes_with, boxes_above, boxes_below, boxes_after, glue_list, rule_list, page_list, page_glue}
use Rattle.tb_column.specs.Page.{AreLeaves}
use Rattle.tb_column.specs.Ranges.{IsSizedGlue, IsSizedRule, AreColumnParams}

-- ---- as the definitions see them

module _ (held : ℕ → List Node) where
  boxes_with-held : (place : Where) (sep : Glue) (fs : List Float) → map (plain_of held) (boxes_with place sep fs) ≡ floats_with place sep fs
  boxes_with-held place sep [] = refl
  boxes_with-held place sep (f ∷ fs) = ap (λ (ns : List PlainNode). float_node place f ∷ made (skip sep) ∷ ns) (boxes_with-held place sep fs)

  pub rule-held : (of : RuleOf) (r : Option Rule) → map (plain_of held) (rule_list of r) ≡ rule_if_any of r
  rule-held of None = refl
  rule-held of (Some r) = refl

  pub glue-held : (g : Glue) → map (plain_of held) (glue_list g) ≡ glue_if_any g
  glue-held g = by_test (is_no_glue g)
    where
      by_test : (b : Bool) → map (plain_of held) (if b then [] else made_node (kinds.Skip g) ∷ []) ≡ (if b then [] else made (skip g) ∷ [])
      by_test true = refl
      by_test false = refl

  pub boxes_above-held : (place : Where) (sep : Glue) (across : Option Rule) (last : Glue) (fs : List Float) → map (plain_of held) (boxes_above place sep across last fs) ≡ floats_above place sep across last fs
  boxes_above-held place sep across last [] = refl
  boxes_above-held place sep across last (f ∷ fs) =
      map-append (plain_of held) (boxes_with place sep (f ∷ fs) ++ (made_node (kinds.Skip (negated_glue sep)) ∷ rule_list Floats across)) (made_node (kinds.Skip last) ∷ [])
      ∙ ap (λ (ns : List PlainNode). ns ++ made (skip last) ∷ []) (
      map-append (plain_of held) (boxes_with place sep (f ∷ fs)) (made_node (kinds.Skip (negated_glue sep)) ∷ rule_list Floats across)
      ∙ (λ i. boxes_with-held place sep (f ∷ fs) i ++ (made (skip (negated_glue sep)) ∷ rule-held Floats across i)))

  pub boxes_below-held : (place : Where) (sep : Glue) (across : Option Rule) (first : Glue) (fs : List Float) → map (plain_of held) (boxes_below place sep across first fs) ≡ floats_below place sep across first fs
  boxes_below-held place sep across first [] = refl
  boxes_below-held place sep across first (f ∷ fs) =
      map-append (plain_of held) ((made_node (kinds.Skip first) ∷ rule_list Floats across) ++ boxes_with place sep (f ∷ fs)) (made_node (kinds.Skip (negated_glue sep)) ∷ [])
      ∙ ap (λ (ns : List PlainNode). ns ++ made (skip (negated_glue sep)) ∷ []) (
      map-append (plain_of held) (made_node (kinds.Skip first) ∷ rule_list Floats across) (boxes_with place sep (f ∷ fs))
      ∙ (λ i. (made (skip first) ∷ rule-held Floats across i) ++ boxes_with-held place sep (f ∷ fs) i))

  boxes_after-held : (sep : Glue) (fs : List Float) → map (plain_of held) (boxes_after sep fs) ≡ floats_after sep fs
  boxes_after-held sep [] = refl
  boxes_after-held sep (f ∷ fs) = ap (λ (ns : List PlainNode). made (skip sep) ∷ float_node places.Page f ∷ ns) (boxes_after-held sep fs)

  pub page_list-held : (g : PageGlue) (fs : List Float)
      → map (plain_of held) (page_list g fs) ≡ made (skip g.above) ∷ made (skip (negated_glue g.between)) ∷ floats_after g.between fs ++ made (skip g.below) ∷ []
  page_list-held g fs = ap (λ (ns : List PlainNode). made (skip g.above) ∷ made (skip (negated_glue g.between)) ∷ ns) (
      map-append (plain_of held) (boxes_after g.between fs) (made_node (kinds.Skip g.below) ∷ [])
      ∙ ap (λ (ns : List PlainNode). ns ++ made (skip g.below) ∷ []) (boxes_after-held g.between fs))

-- ---- they are leaves

pub leaves-append : (xs ys : List Node) → AreLeaves xs → AreLeaves ys → AreLeaves (xs ++ ys)
leaves-append [] ys a b = b
leaves-append (x ∷ xs) ys a b = (a.0, leaves-append xs ys a.1 b)

boxes_with-leaves : (place : Where) (sep : Glue) (fs : List Float) → AreLeaves (boxes_with place sep fs)
boxes_with-leaves place sep [] = tt
boxes_with-leaves place sep (f ∷ fs) = (tt, (tt, boxes_with-leaves place sep fs))

pub rule-leaves : (of : RuleOf) (r : Option Rule) → AreLeaves (rule_list of r)
rule-leaves of None = tt
rule-leaves of (Some r) = (tt, (tt, (tt, tt)))

pub glue-leaves : (g : Glue) → AreLeaves (glue_list g)
glue-leaves g = by_test (is_no_glue g)
  where
    by_test : (b : Bool) → AreLeaves (if b then [] else made_node (kinds.Skip g) ∷ [])
    by_test true = tt
    by_test false = (tt, tt)

pub boxes_above-leaves : (place : Where) (sep : Glue) (across : Option Rule) (last : Glue) (fs : List Float) → AreLeaves (boxes_above place sep across last fs)
boxes_above-leaves place sep across last [] = tt
boxes_above-leaves place sep across last (f ∷ fs) =
    let gap = made_node (kinds.Skip (negated_glue sep)) ∷ rule_list Floats across in
    leaves-append (boxes_with place sep (f ∷ fs) ++ gap) (made_node (kinds.Skip last) ∷ []) (leaves-append (boxes_with place sep (f ∷ fs)) gap (boxes_with-leaves place sep (f ∷ fs)) (tt, rule-leaves Floats across)) (tt, tt)

pub boxes_below-leaves : (place : Where) (sep : Glue) (across : Option Rule) (first : Glue) (fs : List Float) → AreLeaves (boxes_below place sep across first fs)
boxes_below-leaves place sep across first [] = tt
boxes_below-leaves place sep across first (f ∷ fs) =
    let gap = made_node (kinds.Skip first) ∷ rule_list Floats across in
    leaves-append (gap ++ boxes_with place sep (f ∷ fs)) (made_node (kinds.Skip (negated_glue sep)) ∷ []) (leaves-append gap (boxes_with place sep (f ∷ fs)) (tt, rule-leaves Floats across) (boxes_with-leaves place sep (f ∷ fs))) (tt, tt)

boxes_after-leaves : (sep : Glue) (fs : List Float) → AreLeaves (boxes_after sep fs)
boxes_after-leaves sep [] = tt
boxes_after-leaves sep (f ∷ fs) = (tt, (tt, boxes_after-leaves sep fs))

pub page_list-leaves : (g : PageGlue) (fs : List Float) → AreLeaves (page_list g fs)
page_list-leaves g fs = (tt, (tt, leaves-append (boxes_after g.between fs) (made_node (kinds.Skip g.below) ∷ []) (boxes_after-leaves g.between fs) (tt, tt)))

-- ---- their ranges

-- the same as a shape
pub glue_sized : (g : Glue) → IsSizedGlue g → IsSized (glue g)
glue_sized g h = (h.width, h.stretch, h.shrink)

pub negated_dimension : (z : ℤ) → IsDimension z → IsDimension (neg_ℤ z)
negated_dimension z h = record { low = omega (arith, ints, h.high); high = omega (arith, ints, h.low) }

negated_sized : (g : Glue) → IsSizedGlue g → IsSized (glue (negated_glue g))
negated_sized g h = (negated_dimension g.width h.width, negated_dimension g.stretch h.stretch, negated_dimension g.shrink h.shrink)

float_sized : (place : Where) (f : Float) → IsSizedFloat f → IsSizedNode (float_box place f)
float_sized place f h = (h, by_depth f.deep)
  where
    by_depth : (deep : Bool) → IsExtent (if deep then pos 1 else pos 0)
    by_depth true = record { low = omega (arith, ints); high = omega (arith, ints) }
    by_depth false = record { low = omega (arith, ints); high = omega (arith, ints) }

pub boxes_with-sized : (place : Where) (sep : Glue) (fs : List Float) → IsSizedGlue sep → All IsSizedFloat fs → All IsSizedNode (boxes_with place sep fs)
boxes_with-sized place sep [] g h = All-nil IsSizedNode
boxes_with-sized place sep (f ∷ fs) g h =
    All-cons IsSizedNode (float_box place f) (made_node (kinds.Skip sep) ∷ boxes_with place sep fs) (float_sized place f (All-head IsSizedFloat f fs h))
    (All-cons IsSizedNode (made_node (kinds.Skip sep)) (boxes_with place sep fs) (glue_sized sep g) (boxes_with-sized place sep fs g (All-tail IsSizedFloat f fs h)))

no_extent : IsExtent (pos 0)
no_extent = record { low = omega (arith, ints); high = omega (arith, ints) }

pub rule-sized : (of : RuleOf) (r : Option Rule) → IsSizedRule r → All IsSizedNode (rule_list of r)
rule-sized of None h = All-nil IsSizedNode
rule-sized of (Some r) h =
    All-from_recursion IsSizedNode (made_node (kinds.Kern r.above) ∷ made_node (kinds.Rule of r.height (pos 0)) ∷ made_node (kinds.Kern r.below) ∷ []) (h.0, ((h.1, no_extent), (h.2, tt)))

-- one node of glue
pub one-sized : (g : Glue) → IsSizedGlue g → All IsSizedNode (made_node (kinds.Skip g) ∷ [])
one-sized g h = All-from_recursion IsSizedNode (made_node (kinds.Skip g) ∷ []) (glue_sized g h, tt)

pub glue_list-sized : (g : Glue) → IsSizedGlue g → All IsSizedNode (glue_list g)
glue_list-sized g h = by_test (is_no_glue g)
  where
    by_test : (b : Bool) → All IsSizedNode (if b then [] else made_node (kinds.Skip g) ∷ [])
    by_test true = All-nil IsSizedNode
    by_test false = one-sized g h

-- the negated separator
negated-one : (sep : Glue) → IsSizedGlue sep → All IsSizedNode (made_node (kinds.Skip (negated_glue sep)) ∷ [])
negated-one sep g = All-from_recursion IsSizedNode (made_node (kinds.Skip (negated_glue sep)) ∷ []) (negated_sized sep g, tt)

pub boxes_above-sized : (place : Where) (sep : Glue) (across : Option Rule) (last : Glue) (fs : List Float) → IsSizedGlue sep → IsSizedRule across → IsSizedGlue last → All IsSizedFloat fs → All IsSizedNode (boxes_above place sep across last fs)
boxes_above-sized place sep across last [] g r e h = All-nil IsSizedNode
boxes_above-sized place sep across last (f ∷ fs) g r e h =
    let gap = made_node (kinds.Skip (negated_glue sep)) ∷ rule_list Floats across in
    All-append IsSizedNode (boxes_with place sep (f ∷ fs) ++ gap) (made_node (kinds.Skip last) ∷ [])
    (All-append IsSizedNode (boxes_with place sep (f ∷ fs)) gap (boxes_with-sized place sep (f ∷ fs) g h)
    (All-append IsSizedNode (made_node (kinds.Skip (negated_glue sep)) ∷ []) (rule_list Floats across) (negated-one sep g) (rule-sized Floats across r)))
    (one-sized last e)

pub boxes_below-sized : (place : Where) (sep : Glue) (across : Option Rule) (first : Glue) (fs : List Float) → IsSizedGlue sep → IsSizedRule across → IsSizedGlue first → All IsSizedFloat fs → All IsSizedNode (boxes_below place sep across first fs)
boxes_below-sized place sep across first [] g r e h = All-nil IsSizedNode
boxes_below-sized place sep across first (f ∷ fs) g r e h =
    let gap = made_node (kinds.Skip first) ∷ rule_list Floats across in
    All-append IsSizedNode (gap ++ boxes_with place sep (f ∷ fs)) (made_node (kinds.Skip (negated_glue sep)) ∷ [])
    (All-append IsSizedNode gap (boxes_with place sep (f ∷ fs))
    (All-append IsSizedNode (made_node (kinds.Skip first) ∷ []) (rule_list Floats across) (one-sized first e) (rule-sized Floats across r))
    (boxes_with-sized place sep (f ∷ fs) g h))
    (negated-one sep g)

boxes_after-sized : (sep : Glue) (fs : List Float) → IsSizedGlue sep → All IsSizedFloat fs → All IsSizedNode (boxes_after sep fs)
boxes_after-sized sep [] g h = All-nil IsSizedNode
boxes_after-sized sep (f ∷ fs) g h =
    All-cons IsSizedNode (made_node (kinds.Skip sep)) (float_box places.Page f ∷ boxes_after sep fs) (glue_sized sep g)
    (All-cons IsSizedNode (float_box places.Page f) (boxes_after sep fs) (float_sized places.Page f (All-head IsSizedFloat f fs h)) (boxes_after-sized sep fs g (All-tail IsSizedFloat f fs h)))

-- the glue of a column of floats is in range
pub record IsSizedPageGlue (g : PageGlue) : Type 0 where
  pub above : IsSizedGlue g.above
  pub between : IsSizedGlue g.between
  pub below : IsSizedGlue g.below

pub page_glue-sized : (wide : Bool) (p : Params) → AreColumnParams p → IsSizedPageGlue (page_glue wide p)
page_glue-sized true p h = record { above = h.dblfptop; between = h.dblfpsep; below = h.dblfpbot }
page_glue-sized false p h = record { above = h.fptop; between = h.fpsep; below = h.fpbot }

pub page_list-sized : (g : PageGlue) (fs : List Float) → IsSizedPageGlue g → All IsSizedFloat fs → All IsSizedNode (page_list g fs)
page_list-sized g fs s h =
    All-cons IsSizedNode (made_node (kinds.Skip g.above)) (made_node (kinds.Skip (negated_glue g.between)) ∷ boxes_after g.between fs ++ made_node (kinds.Skip g.below) ∷ []) (glue_sized g.above s.above)
    (All-cons IsSizedNode (made_node (kinds.Skip (negated_glue g.between))) (boxes_after g.between fs ++ made_node (kinds.Skip g.below) ∷ []) (negated_sized g.between s.between)
    (All-append IsSizedNode (boxes_after g.between fs) (made_node (kinds.Skip g.below) ∷ []) (boxes_after-sized g.between fs s.between h)
    (All-from_recursion IsSizedNode (made_node (kinds.Skip g.below) ∷ []) (glue_sized g.below s.below, tt))))

-- ---- their number

boxes_with-length : (place : Where) (sep : Glue) (fs : List Float) → length (boxes_with place sep fs) ≡ 2 * length fs
boxes_with-length place sep [] = refl
boxes_with-length place sep (f ∷ fs) = omega (arith, boxes_with-length place sep fs)

pub rule-length : (of : RuleOf) (r : Option Rule) → length (rule_list of r) ≤ 3
rule-length of None = omega arith
rule-length of (Some r) = omega arith

pub glue-length : (g : Glue) → length (glue_list g) ≤ 1
glue-length g = by_test (is_no_glue g)
  where
    by_test : (b : Bool) → length (if b then [] else made_node (kinds.Skip g) ∷ []) ≤ 1
    by_test true = omega arith
    by_test false = omega arith

pub boxes_above-length : (place : Where) (sep : Glue) (across : Option Rule) (last : Glue) (fs : List Float) → length (boxes_above place sep across last fs) ≤ 2 * length fs + 5
boxes_above-length place sep across last [] = omega arith
boxes_above-length place sep across last (f ∷ fs) =
    let gap = made_node (kinds.Skip (negated_glue sep)) ∷ rule_list Floats across in
    omega (
      arith,
      boxes_with-length place sep (f ∷ fs),
      rule-length Floats across,
      length-append (boxes_with place sep (f ∷ fs)) gap,
      length-append (boxes_with place sep (f ∷ fs) ++ gap) (made_node (kinds.Skip last) ∷ []),
    )

pub boxes_below-length : (place : Where) (sep : Glue) (across : Option Rule) (first : Glue) (fs : List Float) → length (boxes_below place sep across first fs) ≤ 2 * length fs + 5
boxes_below-length place sep across first [] = omega arith
boxes_below-length place sep across first (f ∷ fs) =
    let gap = made_node (kinds.Skip first) ∷ rule_list Floats across in
    omega (
      arith,
      boxes_with-length place sep (f ∷ fs),
      rule-length Floats across,
      length-append gap (boxes_with place sep (f ∷ fs)),
      length-append (gap ++ boxes_with place sep (f ∷ fs)) (made_node (kinds.Skip (negated_glue sep)) ∷ []),
    )

boxes_after-length : (sep : Glue) (fs : List Float) → length (boxes_after sep fs) ≡ 2 * length fs
boxes_after-length sep [] = refl
boxes_after-length sep (f ∷ fs) = omega (arith, boxes_after-length sep fs)

pub page_list-length : (g : PageGlue) (fs : List Float) → length (page_list g fs) ≡ 2 * length fs + 3
page_list-length g fs = omega (arith, boxes_after-length g.between fs, length-append (boxes_after g.between fs) (made_node (kinds.Skip g.below) ∷ []))

-- ---- the marked floats among others

-- what holds of each float holds of each marked one
pub marked-all : (P : Float → Type 0) (ms : List Bool) (fs : List Float) → All P fs → All P (marked_among ms fs)
marked-all P [] fs h = All-nil P
marked-all P (m ∷ ms) [] h = All-nil P
marked-all P (true ∷ ms) (f ∷ fs) h = All-cons P f (marked_among ms fs) (All-head P f fs h) (marked-all P ms fs (All-tail P f fs h))
marked-all P (false ∷ ms) (f ∷ fs) h = marked-all P ms fs (All-tail P f fs h)
