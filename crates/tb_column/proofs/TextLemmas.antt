-- The text with its floats and insertions: its nodes may be on a page.
use Rattle.std.proofs.Common.{◌≡◌, refl, sym, ap, subst, ℕ, ◌+◌, ◌*◌, ◌<◌, ◌≤◌, ◌==◌, ℤ, pos, Bool, true, false, List, [], ◌∷◌, ◌++◌, length, length-append, map, neg_ℤ, not, Option, Some, None, unwrap_or, arith}
use Rattle.std.specs.Prelude.{All, if◌then◌else◌}
use Rattle.std.specs.List.{AllByRecursion}
use Rattle.std.proofs.lemmas.Int.{ints}
use Rattle.std.proofs.lemmas.List.Elements.{All-nil, All-append, All-map, All-from_recursion}
use Rattle.tb_pool.specs.Lists.{Lists, IsLive, list_at}
use Rattle.tb_node.specs.declared.Node.{Node}
use Rattle.tb_node.specs.declared.Kind.TheVariants as kinds
use Rattle.tb_node.specs.declared.RuleOf.TheVariants.{Footnotes}
use Rattle.tb_node.specs.declared.Where.TheVariants as places
use Rattle.tb_node.specs.Shape.{Shape}
use Rattle.tb_node.specs.PlainNodes.{shape_of}
use Rattle.tb_node.specs.Sums.{last_depth, limited_depth}
use Rattle.tb_node.specs.Fit.{IsDimension, IsExtent, IsSized, IsSizedNode}
use Rattle.tb_node.proofs.FitLemmas.{last_depth_extent}
use Rattle.tb_param.specs.declared.Params.{Params}
use Rattle.tb_float.specs.Lists.{FloatLists}
use Rattle.tb_float.specs.Ranges.{IsSizedFloat}
use Rattle.tb_column.specs.declared.NoteBox.{NoteBox}
use Rattle.tb_column.specs.Column.{is_drop, is_below, foot_kern}
use Rattle.tb_column.specs.Page.{AreLeaves, IsPageList}
use Rattle.tb_column.specs.Ranges.{IsSizedGlue, IsSizedRule, AreColumnParams}
use Rattle.tb_column.specs.Notes.{note_count, boxes_among, IsNote}
use Rattle.tb_column.specs.FloatColumns.{glue_list, rule_list}
use Rattle.tb_column.specs.TextColumns.{made_node, kern_list, feet_list, under_list, class_above, above_length, above_count, notes_list, top_list, bottom_list, front_list, footed_list, below_list, text_list}
use Rattle.tb_column.proofs.ClosingLemmas.{kept_width}
use Rattle.tb_column.proofs.FloatLemmas.{one-sized, leaves-append, rule-leaves, rule-sized, rule-length, glue-leaves, glue_list-sized, glue-length, boxes_above-leaves, boxes_below-leaves, boxes_above-sized, boxes_below-sized, boxes_above-length, boxes_below-length}
use Rattle.tb_column.proofs.NoteLemmas.{all-among, sum-both, count-both}

-- ---- what is above the insertions of a class

-- the width of a kern, if there is one, is a dimension
abbrev pub IsSizedKern : Option ℤ → Type 0
IsSizedKern None = Unit {0}
IsSizedKern (Some w) = IsDimension w

kern-sized : (kern : Option ℤ) → IsSizedKern kern → All IsSizedNode (kern_list kern)
kern-sized None h = All-nil IsSizedNode
kern-sized (Some w) h = All-from_recursion IsSizedNode (made_node (kinds.Kern w) ∷ []) (h, tt)

kern-leaves : (kern : Option ℤ) → AreLeaves (kern_list kern)
kern-leaves None = tt
kern-leaves (Some w) = (tt, tt)

kern-length : (kern : Option ℤ) → length (kern_list kern) ≤ 1
kern-length None = omega arith
kern-length (Some w) = omega arith

no_limit : IsExtent (pos 0)
no_limit = record { low = omega (arith, ints); high = omega (arith, ints) }

-- the kern that takes a depth back is in range
pub foot_kern-sized : (p : Params) (bottoms : ℕ) (ns : List Shape) → IsExtent p.maxdepth → All IsSized ns → IsSizedKern (foot_kern p bottoms ns)
foot_kern-sized p bottoms ns limit sized = by_choice (is_drop p.footdepth) (bottoms == 0)
  where
    by_choice : (drop none : Bool) → IsSizedKern (if drop then Some (neg_ℤ (limited_depth (if none then p.maxdepth else pos 0) ns)) else None)
    by_choice false none = tt
    by_choice true true = kept_width p.maxdepth (last_depth ns) limit.low (last_depth_extent ns sized)
    by_choice true false = kept_width (pos 0) (last_depth ns) no_limit.low (last_depth_extent ns sized)

module _ (p : Params) (ranges : AreColumnParams p) (kern : Option ℤ) where
  feet-sized : IsSizedKern kern → All IsSizedNode (feet_list p kern)
  feet-sized h =
      All-append IsSizedNode (kern_list kern ++ glue_list p.footfill) (made_node (kinds.Skip p.skipfootins) ∷ rule_list Footnotes p.footrule)
      (All-append IsSizedNode (kern_list kern) (glue_list p.footfill) (kern-sized kern h) (glue_list-sized p.footfill ranges.footfill))
      (All-append IsSizedNode (made_node (kinds.Skip p.skipfootins) ∷ []) (rule_list Footnotes p.footrule) (one-sized p.skipfootins ranges.skipfootins) (rule-sized Footnotes p.footrule ranges.footrule))

  class-sized : (n : NoteBox) → IsSizedKern kern → IsSizedGlue n.skip → IsSizedRule (unwrap_or n.below None) → All IsSizedNode (class_above p kern n)
  class-sized n h own rule = by_test (n.class == 254)
    where
      by_test : (b : Bool) → All IsSizedNode (if b then feet_list p kern else under_list n.skip n.below)
      by_test true = feet-sized h
      by_test false = All-append IsSizedNode (made_node (kinds.Skip n.skip) ∷ []) (rule_list Footnotes (unwrap_or n.below None)) (one-sized n.skip own) (rule-sized Footnotes (unwrap_or n.below None) rule)

  notes-sized : (store : Lists Node) (ns : List NoteBox) → IsSizedKern kern → AllByRecursion (IsNote store) ns → All IsSizedNode (notes_list p kern store ns)
  notes-sized store [] k h = All-nil IsSizedNode
  notes-sized store (n ∷ ns) k h =
      All-append IsSizedNode (class_above p kern n ++ list_at store n.list) (notes_list p kern store ns)
      (All-append IsSizedNode (class_above p kern n) (list_at store n.list) (class-sized n k h.0.skip h.0.rule) h.0.list.sized)
      (notes-sized store ns k h.1)

module _ (p : Params) (kern : Option ℤ) where
  feet-leaves : AreLeaves (feet_list p kern)
  feet-leaves =
      leaves-append (kern_list kern ++ glue_list p.footfill) (made_node (kinds.Skip p.skipfootins) ∷ rule_list Footnotes p.footrule)
      (leaves-append (kern_list kern) (glue_list p.footfill) (kern-leaves kern) (glue-leaves p.footfill)) (tt, rule-leaves Footnotes p.footrule)

  class-leaves : (n : NoteBox) → AreLeaves (class_above p kern n)
  class-leaves n = by_test (n.class == 254)
    where
      by_test : (b : Bool) → AreLeaves (if b then feet_list p kern else under_list n.skip n.below)
      by_test true = feet-leaves
      by_test false = (tt, rule-leaves Footnotes (unwrap_or n.below None))

  feet-length : length (feet_list p kern) ≤ 6
  feet-length =
      omega (
        arith,
        kern-length kern,
        glue-length p.footfill,
        rule-length Footnotes p.footrule,
        length-append (kern_list kern) (glue_list p.footfill),
        length-append (kern_list kern ++ glue_list p.footfill) (made_node (kinds.Skip p.skipfootins) ∷ rule_list Footnotes p.footrule),
      )

  class-length : (n : NoteBox) → length (class_above p kern n) ≤ above_length n.class
  class-length n = by_test (n.class == 254)
    where
      by_test : (b : Bool) → length (if b then feet_list p kern else under_list n.skip n.below) ≤ (if b then 6 else 4)
      by_test true = feet-length
      by_test false = omega (arith, rule-length Footnotes (unwrap_or n.below None))

  notes-leaves : (store : Lists Node) (ns : List NoteBox) → AllByRecursion (IsNote store) ns → AreLeaves (notes_list p kern store ns)
  notes-leaves store [] h = tt
  notes-leaves store (n ∷ ns) h =
      leaves-append (class_above p kern n ++ list_at store n.list) (notes_list p kern store ns) (leaves-append (class_above p kern n) (list_at store n.list) (class-leaves n) h.0.list.leaves) (notes-leaves store ns h.1)

  notes-length : (store : Lists Node) (ns : List NoteBox) → length (notes_list p kern store ns) ≤ above_count ns + note_count store ns
  notes-length store [] = omega arith
  notes-length store (n ∷ ns) =
      omega (
        arith,
        length-append (class_above p kern n ++ list_at store n.list) (notes_list p kern store ns),
        length-append (class_above p kern n) (list_at store n.list),
        class-length n,
        notes-length store ns,
      )

-- footnotes, what stands below them and what stands above have so many nodes together
held-both : (store : Lists Node) (ns : List NoteBox) → note_count store (boxes_among false ns) + note_count store (boxes_among true ns) ≡ note_count store ns
held-both store ns = sum-both (note_count store) (λ n. length (list_at store n.list)) refl (λ m ms. refl) ns

-- ---- the whole

module _ (p : Params) (l : FloatLists) (store : Lists Node) (notes : List NoteBox) where
  -- what holds of a list still holds of it with footnotes and bottom floats below
  with_rest : (P : List Node → Type 0) (ns : List Node) → ((ms : List Node) → P ms → P (footed_list p (length l.bottom) store notes ms)) → ((ms : List Node) → P ms → P (ms ++ bottom_list p l)) → P ns → P (below_list p l store notes ns)
  with_rest P ns feet bottoms h = by_place (is_below p.footplace)
    where
      by_place : (b : Bool) → P (if b then footed_list p (length l.bottom) store notes (ns ++ bottom_list p l) else footed_list p (length l.bottom) store notes ns ++ bottom_list p l)
      by_place true = feet (ns ++ bottom_list p l) (bottoms ns h)
      by_place false = bottoms (footed_list p (length l.bottom) store notes ns) (feet ns h)

module _ (p : Params) (ranges : AreColumnParams p) (l : FloatLists) (store : Lists Node) (body : ℕ) (notes : List NoteBox) where
  pub front-sized : All IsSizedFloat l.top → All IsSizedNode (list_at store body) → AllByRecursion (IsNote store) notes → All IsSizedNode (front_list p l store body notes)
  front-sized tops text each =
      All-append IsSizedNode (glue_list p.texttop ++ (top_list p l ++ list_at store body)) (notes_list p None store (boxes_among false notes))
      (All-append IsSizedNode (glue_list p.texttop) (top_list p l ++ list_at store body) (glue_list-sized p.texttop ranges.texttop)
      (All-append IsSizedNode (top_list p l) (list_at store body) (boxes_above-sized places.Top p.floatsep p.toprule p.textfloatsep l.top ranges.floatsep ranges.toprule ranges.textfloatsep tops) text))
      (notes-sized p ranges None store (boxes_among false notes) tt (all-among (IsNote store) false notes each))

  footed-sized : AllByRecursion (IsNote store) notes → (bottoms : ℕ) (ns : List Node) → All IsSizedNode ns → All IsSizedNode (footed_list p bottoms store notes ns)
  footed-sized each bottoms ns h =
      All-append IsSizedNode ns _ h
      (notes-sized p ranges (foot_kern p bottoms (map shape_of ns)) store (boxes_among true notes) (foot_kern-sized p bottoms (map shape_of ns) ranges.maxdepth (All-map IsSized shape_of ns h)) (all-among (IsNote store) true notes each))

  pub bottom-sized : All IsSizedFloat l.bottom → (ns : List Node) → All IsSizedNode ns → All IsSizedNode (ns ++ bottom_list p l)
  bottom-sized bottoms ns h = All-append IsSizedNode ns (bottom_list p l) h (boxes_below-sized places.Bottom p.floatsep p.bottomrule p.textfloatsep l.bottom ranges.floatsep ranges.bottomrule ranges.textfloatsep bottoms)

  pub text-sized : All IsSizedFloat l.top → All IsSizedFloat l.bottom → IsPageList store body → AllByRecursion (IsNote store) notes → All IsSizedNode (text_list p l store body notes)
  text-sized tops bottoms page each =
      with_rest p l store notes (All IsSizedNode) (front_list p l store body notes) (footed-sized each (length l.bottom)) (bottom-sized bottoms) (front-sized tops page.sized each)

  pub text-leaves : IsPageList store body → AllByRecursion (IsNote store) notes → AreLeaves (text_list p l store body notes)
  text-leaves page each =
      with_rest p l store notes AreLeaves (front_list p l store body notes)
      (λ ns h. leaves-append ns _ h (notes-leaves p (foot_kern p (length l.bottom) (map shape_of ns)) store (boxes_among true notes) (all-among (IsNote store) true notes each)))
      (λ ns h. leaves-append ns (bottom_list p l) h (boxes_below-leaves places.Bottom p.floatsep p.bottomrule p.textfloatsep l.bottom))
      (leaves-append (glue_list p.texttop ++ (top_list p l ++ list_at store body)) (notes_list p None store (boxes_among false notes))
      (leaves-append (glue_list p.texttop) (top_list p l ++ list_at store body) (glue-leaves p.texttop)
      (leaves-append (top_list p l) (list_at store body) (boxes_above-leaves places.Top p.floatsep p.toprule p.textfloatsep l.top) page.leaves))
      (notes-leaves p None store (boxes_among false notes) (all-among (IsNote store) false notes each)))

  front-length : length (front_list p l store body notes) ≤ length (list_at store body) + note_count store (boxes_among false notes) + above_count (boxes_among false notes) + 2 * length l.top + 6
  front-length =
      omega (
        arith,
        length-append (glue_list p.texttop ++ (top_list p l ++ list_at store body)) (notes_list p None store (boxes_among false notes)),
        length-append (glue_list p.texttop) (top_list p l ++ list_at store body),
        length-append (top_list p l) (list_at store body),
        glue-length p.texttop,
        boxes_above-length places.Top p.floatsep p.toprule p.textfloatsep l.top,
        notes-length p None store (boxes_among false notes),
      )

  footed-length : (ns : List Node) → length (footed_list p (length l.bottom) store notes ns) ≤ length ns + note_count store (boxes_among true notes) + above_count (boxes_among true notes)
  footed-length ns =
      let kern = foot_kern p (length l.bottom) (map shape_of ns) in
      omega (arith, length-append ns (notes_list p kern store (boxes_among true notes)), notes-length p kern store (boxes_among true notes))

  bottom-length : (ns : List Node) → length (ns ++ bottom_list p l) ≤ length ns + 2 * length l.bottom + 5
  bottom-length ns = omega (arith, length-append ns (bottom_list p l), boxes_below-length places.Bottom p.floatsep p.bottomrule p.textfloatsep l.bottom)

  below-length : (ns : List Node) → length (below_list p l store notes ns) ≤ length ns + note_count store (boxes_among true notes) + above_count (boxes_among true notes) + 2 * length l.bottom + 5
  below-length ns = by_place (is_below p.footplace)
    where
      by_place : (b : Bool) → length (if b then footed_list p (length l.bottom) store notes (ns ++ bottom_list p l) else footed_list p (length l.bottom) store notes ns ++ bottom_list p l)
          ≤ length ns + note_count store (boxes_among true notes) + above_count (boxes_among true notes) + 2 * length l.bottom + 5
      by_place true = omega (arith, footed-length (ns ++ bottom_list p l), bottom-length ns)
      by_place false = omega (arith, footed-length ns, bottom-length (footed_list p (length l.bottom) store notes ns))

  pub text-length : length (text_list p l store body notes) ≤ length (list_at store body) + note_count store notes + above_count notes + 2 * length l.top + 2 * length l.bottom + 11
  text-length = omega (arith, front-length, below-length (front_list p l store body notes), held-both store notes, count-both notes)

  -- it is short if its parts are
  module _ (tops : length l.top ≤ 4096) (bottoms : length l.bottom ≤ 4096) (above : above_count notes ≤ 1536) (parts : length (list_at store body) + note_count store notes ≤ 8355840) where
    pub text-few : length (text_list p l store body notes) < 8388607
    text-few = omega (arith, tops, bottoms, above, parts, text-length)

    -- the list that it becomes may be on a page
    pub text-page : (new : Lists Node) → list_at new body ≡ text_list p l store body notes → IsLive new body → All IsSizedFloat l.top → All IsSizedFloat l.bottom → IsPageList store body → AllByRecursion (IsNote store) notes
        → IsPageList new body
    text-page new is live high low page each = record {
      live = live;
      leaves = subst AreLeaves (sym is) (text-leaves page each);
      sized = subst (All IsSizedNode) (sym is) (text-sized high low page each);
      few = omega (arith, ap length is, text-few);
    }
