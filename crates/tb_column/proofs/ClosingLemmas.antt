-- A text is closed by glue: its ranges, its number and its sums.
use Rattle.std.proofs.Common.{◌≡◌, sym, ap, subst, ◌∙◌, ℕ, ◌<◌, ◌≤◌, ℤ, pos, neg_ℤ, ◌≤ℤ◌, Bool, true, false, List, [], ◌∷◌, ◌++◌, length, map, length-append, arith}
use Rattle.std.specs.Prelude.{All, if◌then◌else◌}
use Rattle.std.proofs.lemmas.Int.{ints}
use Rattle.std.proofs.lemmas.List.{map-append}
use Rattle.std.proofs.lemmas.List.Elements.{All-nil, All-cons, All-append, All-map}
use Rattle.tb_scaled.specs.Scaled.{min_ℤ}
use Rattle.tb_scaled.specs.declared.Glue.{Glue}
use Rattle.tb_pool.specs.Lists.{Lists, list_at, with_list}
use Rattle.tb_pool.proofs.CallerLemmas.{list_same, live_same}
use Rattle.tb_node.specs.declared.Node.{Node}
use Rattle.tb_node.specs.declared.Kind.TheVariants as kinds
use Rattle.tb_node.specs.declared.Sums.{Sums}
use Rattle.tb_node.specs.Shape as shapes_of_nodes
use Rattle.tb_node.specs.PlainNodes.{shape_of}
use Rattle.tb_node.specs.Sums.{last_depth, limited_depth, sums_of}
use Rattle.tb_node.specs.NodeSums.{added_node}
use Rattle.tb_node.specs.SmallAmounts.{IsAmount, IsSmall, IsSmallShape}
use Rattle.tb_node.specs.Fit.{SumsFit, IsDimension, IsExtent, IsSized, IsSizedNode}
use Rattle.tb_node.proofs.AddLemmas.{sums-append}
use Rattle.tb_node.proofs.FitLemmas.{last_depth_extent, sums_fit, summable, whole_fits, sized-fits}
use Rattle.tb_param.specs.declared.Params.{Params}
use Rattle.tb_float.specs.Ranges.{IsWithin}
use Rattle.tb_column.specs.Column.{is_ragged}
use Rattle.tb_column.specs.Page.{AreLeaves, IsPageList}
use Rattle.tb_column.specs.TextColumns.{made_node, closing_by, closed_list}
use Rattle.tb_column.specs.Ranges.{IsSizedGlue}
use Rattle.tb_column.proofs.FloatLemmas.{leaves-append, one-sized}

pub kept_width : (limit d : ℤ) → pos 0 ≤ℤ limit → IsExtent d → IsDimension (neg_ℤ (min_ℤ d limit))
kept_width limit d low h = record { low = grind (arith, ints); high = grind (arith, ints) }

small_stretch : (ragged : Bool) → IsDimension (if ragged then pos 7 else pos 0)
small_stretch true = record { low = omega (arith, ints); high = omega (arith, ints) }
small_stretch false = record { low = omega (arith, ints); high = omega (arith, ints) }

nothing : IsDimension (pos 0)
nothing = record { low = omega (arith, ints); high = omega (arith, ints) }

-- what packing asks of a column's height
pub height_amount : (z : ℤ) → IsWithin 35184372088832 z → IsAmount z
height_amount z h = record { low = omega (arith, ints); high = omega (arith, ints) }

module _ (p : Params) (limit : IsExtent p.maxdepth) (ns : List Node) (sized : All IsSizedNode ns) where
  closing-sized : IsSizedNode (made_node (kinds.Skip (closing_by p.bottom (limited_depth p.maxdepth (map shape_of ns)))))
  closing-sized = (kept_width p.maxdepth (last_depth (map shape_of ns)) limit.low (last_depth_extent (map shape_of ns) (All-map IsSized shape_of ns sized)), small_stretch (is_ragged p.bottom), nothing)

  pub closed_sized : All IsSizedNode (closed_list p ns)
  closed_sized = All-append IsSizedNode ns _ sized (All-cons IsSizedNode (made_node (kinds.Skip (closing_by p.bottom (limited_depth p.maxdepth (map shape_of ns))))) [] closing-sized (All-nil IsSizedNode))

  -- the sums of the text, and of the whole
  module _ (few : length ns < 8388608) where
    pub closed_few : length (closed_list p ns) ≤ 8388608
    closed_few = omega (arith, few, length-append ns (made_node (kinds.Skip (closing_by p.bottom (limited_depth p.maxdepth (map shape_of ns)))) ∷ []))

    pub text_sums_fit : SumsFit p.maxdepth (map shape_of ns)
    text_sums_fit = sums_fit p.maxdepth _ limit.low (summable _ sized (omega (arith, few)))

    pub text_small : IsSmall (sums_of p.maxdepth (map shape_of ns))
    text_small = whole_fits p.maxdepth (map shape_of ns) text_sums_fit

    pub closed_small : IsSmall (sums_of p.maxdepth (map shape_of (closed_list p ns)))
    closed_small = whole_fits p.maxdepth (map shape_of (closed_list p ns)) (sums_fit p.maxdepth _ limit.low (summable _ closed_sized closed_few))

  -- this node closes the text
  module _ (g : Node) (is : g ≡ made_node (kinds.Skip (closing_by p.bottom (limited_depth p.maxdepth (map shape_of ns))))) where
    pub closing_fits : IsSmallShape (shape_of g)
    closing_fits = subst (λ (m : Node). IsSmallShape (shape_of m)) (sym is) (sized-fits (shape_of (made_node (kinds.Skip (closing_by p.bottom (limited_depth p.maxdepth (map shape_of ns)))))) closing-sized)

    closed_shapes : map shape_of (closed_list p ns) ≡ map shape_of ns ++ shape_of g ∷ []
    closed_shapes = map-append shape_of ns _ ∙ ap (λ (m : Node). map shape_of ns ++ shape_of m ∷ []) (sym is)

    -- its sums come to those of the text
    pub closed_sums : (s t : Sums) → s ≡ sums_of p.maxdepth (map shape_of ns) → t ≡ added_node p.maxdepth s (shape_of g) → t ≡ sums_of p.maxdepth (map shape_of (closed_list p ns))
    closed_sums s t before e =
        e
        ∙ ap (λ (u : Sums). added_node p.maxdepth u (shape_of g)) before
        ∙ sym (sums-append p.maxdepth (map shape_of ns) (shape_of g))
        ∙ ap (sums_of p.maxdepth) (sym closed_shapes)

-- the node that is made is that glue
pub closing_is : (p : Params) (ns : List Node) (s : Sums) (g : Glue) (n : Node) → s ≡ sums_of p.maxdepth (map shape_of ns) → g ≡ closing_by p.bottom s.depth → n ≡ made_node (kinds.Skip g)
    → n ≡ made_node (kinds.Skip (closing_by p.bottom (limited_depth p.maxdepth (map shape_of ns))))
closing_is p ns s g n sums glue is = is ∙ ap (λ (h : Glue). made_node (kinds.Skip h)) glue ∙ ap (λ (t : Sums). made_node (kinds.Skip (closing_by p.bottom t.depth))) sums

-- the list of a text that is closed may be on a page
pub closed_page : (p : Params) (old new : Lists Node) (body : ℕ) → IsExtent p.maxdepth → IsPageList old body → length (list_at old body) < 8388608
    → new.lists ≡ with_list old body (closed_list p (list_at old body)) → IsPageList new body
closed_page p old new body limit page few e =
    let ns = list_at old body in
    let is = list_same old new body (closed_list p ns) e in
    record {
      live = live_same old new body (closed_list p ns) e;
      leaves = subst AreLeaves (sym is) (leaves-append ns _ page.leaves (tt, tt));
      sized = subst (All IsSizedNode) (sym is) (closed_sized p limit ns page.sized);
      few = subst (λ (ms : List Node). length ms ≤ 8388608) (sym is) (closed_few p limit ns page.sized few);
    }

-- ---- glue behind a list of a page

module _ (p : Params) (limit : IsExtent p.maxdepth) (old new : Lists Node) (body : ℕ) (g : Glue) (sized : IsSizedGlue g) (page : IsPageList old body) (few : length (list_at old body) < 8388608)
    (put : new.lists ≡ with_list old body (list_at old body ++ made_node (kinds.Skip g) ∷ [])) where
  glued-is : list_at new body ≡ list_at old body ++ made_node (kinds.Skip g) ∷ []
  glued-is = list_same old new body (list_at old body ++ made_node (kinds.Skip g) ∷ []) put

  glued-sized : All IsSizedNode (list_at old body ++ made_node (kinds.Skip g) ∷ [])
  glued-sized = All-append IsSizedNode (list_at old body) (made_node (kinds.Skip g) ∷ []) page.sized (one-sized g sized)

  glued-few : length (list_at old body ++ made_node (kinds.Skip g) ∷ []) ≤ 8388608
  glued-few = omega (arith, few, length-append (list_at old body) (made_node (kinds.Skip g) ∷ []))

  pub glued-page : IsPageList new body
  glued-page = record {
    live = live_same old new body (list_at old body ++ made_node (kinds.Skip g) ∷ []) put;
    leaves = subst AreLeaves (sym glued-is) (leaves-append (list_at old body) (made_node (kinds.Skip g) ∷ []) page.leaves (tt, tt));
    sized = subst (All IsSizedNode) (sym glued-is) glued-sized;
    few = subst (λ (ms : List Node). length ms ≤ 8388608) (sym glued-is) glued-few;
  }

  pub glued-small : IsSmall (sums_of p.maxdepth (map shape_of (list_at old body ++ made_node (kinds.Skip g) ∷ [])))
  glued-small = whole_fits p.maxdepth (map shape_of (list_at old body ++ made_node (kinds.Skip g) ∷ [])) (sums_fit p.maxdepth _ limit.low (summable _ glued-sized glued-few))

  pub glued-sums : (s t : Sums) → s ≡ sums_of p.maxdepth (map shape_of (list_at old body)) → t ≡ added_node p.maxdepth s (shapes_of_nodes.glue g) → t ≡ sums_of p.maxdepth (map shape_of (list_at old body ++ made_node (kinds.Skip g) ∷ []))
  glued-sums s t before e =
      e
      ∙ ap (λ (u : Sums). added_node p.maxdepth u (shapes_of_nodes.glue g)) before
      ∙ sym (sums-append p.maxdepth (map shape_of (list_at old body)) (shapes_of_nodes.glue g))
      ∙ ap (sums_of p.maxdepth) (sym (map-append shape_of (list_at old body) (made_node (kinds.Skip g) ∷ [])))
