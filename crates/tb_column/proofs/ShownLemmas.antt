-- A text column in the store is the text column of the definitions.
use Rattle.std.proofs.Common.{◌≡◌, refl, ◌∙◌, ap, sym, ℕ, ℤ, Bool, true, false, ◌==◌, List, [], ◌∷◌, ◌++◌, map, length, Option, Some, None, unwrap_or}
use Rattle.std.specs.Prelude.{◌+ℤ◌, ◌-ℤ◌, if◌then◌else◌}
use Rattle.std.specs.List.{AllByRecursion}
use Rattle.std.proofs.lemmas.List.{map-append}
use Rattle.tb_pool.specs.Lists.{Lists, list_at}
use Rattle.tb_node.specs.declared.Node.{Node}
use Rattle.tb_node.specs.declared.Kind.{Kind}
use Rattle.tb_node.specs.declared.Kind.TheVariants as kinds
use Rattle.tb_node.specs.declared.RuleOf.TheVariants.{Footnotes}
use Rattle.tb_node.specs.declared.Where.TheVariants as places
use Rattle.tb_node.specs.Shape.{Shape}
use Rattle.tb_node.specs.Sums.{size_of, limited_depth}
use Rattle.tb_scaled.specs.Glue.{fixed_glue}
use Rattle.tb_node.specs.PlainNodes.{PlainNode, plain, plain_kind, plain_of, made, skip, matter_of, leaf_of, leaf_node, kind_shape, node_shape, shape_of_kind, shape_of, plain_list}
use Rattle.tb_param.specs.declared.Params.{Params}
use Rattle.tb_pack.specs.declared.Set.{Set}
use Rattle.tb_pack.specs.Pack.{packed}
use Rattle.tb_float.specs.Lists.{FloatLists}
use Rattle.tb_float.specs.Rooms.{column_height_of}
use Rattle.tb_column.specs.declared.ColumnKind.TheVariants as column_kinds
use Rattle.tb_column.specs.declared.NoteBox.{NoteBox}
use Rattle.tb_column.specs.declared.Enlarged.{Enlarged}
use Rattle.tb_column.specs.declared.Enlarged.TheVariants as enlarged
use Rattle.tb_column.specs.declared.Standing.{Standing}
use Rattle.tb_column.specs.declared.Standing.TheVariants as standings
use Rattle.tb_column.specs.Column.{standing_of, is_at, is_below, notes_at, notes_among, foot_kern, kern_if_any, feet_above, above_class, class_below, notes_below, closing_glue, text_above_feet, with_feet, with_bottoms, with_below, text_nodes, with_closing, closed_nodes, higher_by, shrinking_glue, packed_nodes, text_column}
use Rattle.tb_column.specs.StoredColumns.{column_shown}
use Rattle.tb_column.specs.Page.{is_leaf_kind, AreLeaves}
use Rattle.tb_column.specs.Notes.{note_shown, notes_shown, boxes_at, boxes_among, IsNote}
use Rattle.tb_column.specs.FloatColumns.{glue_list, rule_list}
use Rattle.tb_column.specs.TextColumns.{made_node, kern_list, feet_list, under_list, class_above, notes_list, top_list, bottom_list, front_list, footed_list, below_list, text_list, closing_by, closed_list, shrinking_list, packed_list, column_list}
use Rattle.tb_column.proofs.FloatLemmas.{rule-held, glue-held, boxes_above-held, boxes_below-held}
use Rattle.tb_column.proofs.NoteLemmas.{all-among}

-- ---- nodes

-- a node's shape does not depend on the lists of insertions
kind_shape-held : (held : ℕ → List Node) (k : Kind) → kind_shape (plain_kind held k) ≡ shape_of_kind k
kind_shape-held held (kinds.Hbox what h d) = refl
kind_shape-held held k = refl

pub shapes-held : (held : ℕ → List Node) (ns : List Node) → map node_shape (map (plain_of held) ns) ≡ map shape_of ns
shapes-held held [] = refl
shapes-held held (n ∷ ns) = λ i. kind_shape-held held n.kind i ∷ shapes-held held ns i

leaf_kind-held : (held : ℕ → List Node) (k : Kind) → is_leaf_kind k → plain_kind held k ≡ plain (matter_of k)
leaf_kind-held held (kinds.Ins i) leaf = absurd leaf
leaf_kind-held held (kinds.Act a) leaf = absurd leaf
leaf_kind-held held k leaf = refl

-- what neither insertions nor acts show does not depend on the lists of insertions either
pub leaves-held : (held : ℕ → List Node) (ns : List Node) → AreLeaves ns → map (plain_of held) ns ≡ map leaf_node (map leaf_of ns)
leaves-held held [] h = refl
leaves-held held (n ∷ ns) h = λ i. record { line = n.line; kind = leaf_kind-held held n.kind h.0 i } ∷ leaves-held held ns h.1 i

-- ---- the insertions of all classes

kern-held : (held : ℕ → List Node) (kern : Option ℤ) → map (plain_of held) (kern_list kern) ≡ kern_if_any kern
kern-held held None = refl
kern-held held (Some w) = refl

feet-held : (held : ℕ → List Node) (p : Params) (kern : Option ℤ) → map (plain_of held) (feet_list p kern) ≡ feet_above p kern
feet-held held p kern =
    map-append (plain_of held) (kern_list kern ++ glue_list p.footfill) (made_node (kinds.Skip p.skipfootins) ∷ rule_list Footnotes p.footrule)
    ∙ ap (λ ns. ns ++ map (plain_of held) (made_node (kinds.Skip p.skipfootins) ∷ rule_list Footnotes p.footrule)) (map-append (plain_of held) (kern_list kern) (glue_list p.footfill))
    ∙ (λ i. (kern-held held kern i ++ glue-held held p.footfill i) ++ (made (skip p.skipfootins) ∷ rule-held held Footnotes p.footrule i))

class-held : (held : ℕ → List Node) (p : Params) (kern : Option ℤ) (store : Lists Node) (n : NoteBox) → AreLeaves (list_at store n.list) → map (plain_of held) (class_above p kern n ++ list_at store n.list) ≡ class_below p kern (note_shown store n)
class-held held p kern store n leaves = by_test (n.class == 254)
  where
    by_test : (b : Bool) → map (plain_of held) ((if b then feet_list p kern else under_list n.skip n.below) ++ list_at store n.list)
        ≡ (if b then feet_above p kern ++ map leaf_node (map leaf_of (list_at store n.list)) else above_class n.skip n.below ++ map leaf_node (map leaf_of (list_at store n.list)))
    by_test true = map-append (plain_of held) (feet_list p kern) (list_at store n.list) ∙ (λ i. feet-held held p kern i ++ leaves-held held (list_at store n.list) leaves i)
    by_test false =
        map-append (plain_of held) (under_list n.skip n.below) (list_at store n.list)
        ∙ (λ i. (made (skip n.skip) ∷ rule-held held Footnotes (unwrap_or n.below None) i) ++ leaves-held held (list_at store n.list) leaves i)

notes-held : (held : ℕ → List Node) (p : Params) (kern : Option ℤ) (store : Lists Node) (ns : List NoteBox) → AllByRecursion (IsNote store) ns → map (plain_of held) (notes_list p kern store ns) ≡ notes_below p kern (notes_shown store ns)
notes-held held p kern store [] h = refl
notes-held held p kern store (n ∷ ns) h =
    map-append (plain_of held) (class_above p kern n ++ list_at store n.list) (notes_list p kern store ns)
    ∙ (λ i. class-held held p kern store n h.0.list.leaves i ++ notes-held held p kern store ns h.1 i)

-- those that stand somewhere
at-shown : (s : Standing) (store : Lists Node) (ns : List NoteBox) → notes_shown store (boxes_at s ns) ≡ notes_at s (notes_shown store ns)
at-shown s store [] = refl
at-shown s store (n ∷ ns) = by_test (is_at s (standing_of n.class n.below)) (at-shown s store ns)
  where
    by_test : (b : Bool) → notes_shown store (boxes_at s ns) ≡ notes_at s (notes_shown store ns)
        → notes_shown store (if b then n ∷ boxes_at s ns else boxes_at s ns) ≡ (if b then note_shown store n ∷ notes_at s (notes_shown store ns) else notes_at s (notes_shown store ns))
    by_test true e = ap (λ ms. note_shown store n ∷ ms) e
    by_test false e = e

-- those of footnotes with what stands below them, or what stands above
among-shown : (feet : Bool) (store : Lists Node) (ns : List NoteBox) → notes_shown store (boxes_among feet ns) ≡ notes_among feet (notes_shown store ns)
among-shown true store ns =
    map-append (note_shown store) (boxes_at standings.Feet ns) (boxes_at standings.Below ns) ∙ (λ i. at-shown standings.Feet store ns i ++ at-shown standings.Below store ns i)
among-shown false store ns = at-shown standings.Above store ns

-- ---- the column

module _ (held : ℕ → List Node) (p : Params) (l : FloatLists) (store : Lists Node) (notes : List NoteBox) (each : AllByRecursion (IsNote store) notes) where
  kept-held : (feet : Bool) (kern : Option ℤ) → map (plain_of held) (notes_list p kern store (boxes_among feet notes)) ≡ notes_below p kern (notes_among feet (notes_shown store notes))
  kept-held feet kern = notes-held held p kern store (boxes_among feet notes) (all-among (IsNote store) feet notes each) ∙ ap (notes_below p kern) (among-shown feet store notes)

  footed-held : (ns : List Node) → map (plain_of held) (footed_list p (length l.bottom) store notes ns) ≡ with_feet p l (notes_shown store notes) (map (plain_of held) ns)
  footed-held ns =
      let kern = foot_kern p (length l.bottom) (map shape_of ns) in
      map-append (plain_of held) ns (notes_list p kern store (boxes_among true notes))
      ∙ ap (λ xs. map (plain_of held) ns ++ xs) (kept-held true kern)
      ∙ ap (λ hs. map (plain_of held) ns ++ notes_below p (foot_kern p (length l.bottom) hs) (notes_among true (notes_shown store notes))) (sym (shapes-held held ns))

  bottoms-held : (ns : List Node) → map (plain_of held) (ns ++ bottom_list p l) ≡ with_bottoms p l (map (plain_of held) ns)
  bottoms-held ns = map-append (plain_of held) ns (bottom_list p l) ∙ ap (λ xs. map (plain_of held) ns ++ xs) (boxes_below-held held places.Bottom p.floatsep p.bottomrule p.textfloatsep l.bottom)

  below-held : (ns : List Node) → map (plain_of held) (below_list p l store notes ns) ≡ with_below p l (notes_shown store notes) (map (plain_of held) ns)
  below-held ns = by_place (is_below p.footplace)
    where
      by_place : (b : Bool) → map (plain_of held) (if b then footed_list p (length l.bottom) store notes (ns ++ bottom_list p l) else footed_list p (length l.bottom) store notes ns ++ bottom_list p l)
          ≡ (if b then with_feet p l (notes_shown store notes) (with_bottoms p l (map (plain_of held) ns)) else with_bottoms p l (with_feet p l (notes_shown store notes) (map (plain_of held) ns)))
      by_place true = footed-held (ns ++ bottom_list p l) ∙ ap (with_feet p l (notes_shown store notes)) (bottoms-held ns)
      by_place false = bottoms-held (footed_list p (length l.bottom) store notes ns) ∙ ap (with_bottoms p l) (footed-held ns)

module _ (held : ℕ → List Node) (p : Params) (l : FloatLists) (store : Lists Node) (body : ℕ) (notes : List NoteBox)
    (leaves : AreLeaves (list_at store body)) (each : AllByRecursion (IsNote store) notes) where
  abbrev front : List Node
  front = text_list p l store body notes

  abbrev texts : List PlainNode
  texts = text_nodes p l (plain_list store body) (notes_shown store notes)

  body-held : map (plain_of held) (list_at store body) ≡ plain_list store body
  body-held = leaves-held held (list_at store body) leaves ∙ sym (leaves-held (list_at store) (list_at store body) leaves)

  begun-held : map (plain_of held) (front_list p l store body notes) ≡ text_above_feet p l (plain_list store body) (notes_shown store notes)
  begun-held =
      map-append (plain_of held) (glue_list p.texttop ++ (top_list p l ++ list_at store body)) (notes_list p None store (boxes_among false notes))
      ∙ ap (λ ns. ns ++ map (plain_of held) (notes_list p None store (boxes_among false notes))) (
      map-append (plain_of held) (glue_list p.texttop) (top_list p l ++ list_at store body)
      ∙ ap (λ ns. map (plain_of held) (glue_list p.texttop) ++ ns) (map-append (plain_of held) (top_list p l) (list_at store body)))
      ∙ (λ i. (glue-held held p.texttop i ++ (boxes_above-held held places.Top p.floatsep p.toprule p.textfloatsep l.top i ++ body-held i)) ++ kept-held held p l store notes each false None i)

  front-held : map (plain_of held) front ≡ texts
  front-held = below-held held p l store notes each (front_list p l store body notes) ∙ ap (with_below p l (notes_shown store notes)) begun-held

  closed-held : closing_by p.bottom (limited_depth p.maxdepth (map shape_of front)) ≡ closing_glue p texts
  closed-held = ap (λ ns. closing_by p.bottom (limited_depth p.maxdepth ns)) (sym (shapes-held held front) ∙ ap (map node_shape) front-held)

  closing-held : map (plain_of held) (closed_list p front) ≡ with_closing p texts
  closing-held =
      map-append (plain_of held) front (made_node (kinds.Skip (closing_by p.bottom (limited_depth p.maxdepth (map shape_of front)))) ∷ [])
      ∙ (λ i. front-held i ++ made (skip (closed-held i)) ∷ [])

  pub column-held : map (plain_of held) (column_list p l store body notes) ≡ closed_nodes p texts
  column-held = map-append (plain_of held) (closed_list p front) (glue_list p.textbottom) ∙ (λ i. closing-held i ++ glue-held held p.textbottom i)

  -- what it is packed by
  shrinking-held : (height : ℤ) (e : Enlarged) (ms : List Shape) (ns : List Shape) → ms ≡ ns → map (plain_of held) (shrinking_list height ms e) ≡ shrinking_glue height ns e
  shrinking-held height enlarged.No ms ns same = refl
  shrinking-held height (enlarged.By d) ms ns same = refl
  shrinking-held height (enlarged.Shrunk s) ms ns same = ap (λ (xs : List Shape). made (skip (fixed_glue (height -ℤ size_of xs +ℤ s))) ∷ []) same

  packed-held : (height : ℤ) (e : Enlarged) → map (plain_of held) (packed_list p height e front) ≡ packed_nodes p height e texts
  packed-held height e =
      let shapes : map shape_of (closed_list p front) ≡ map node_shape (with_closing p texts) = sym (shapes-held held (closed_list p front)) ∙ ap (map node_shape) closing-held in
      map-append (plain_of held) (closed_list p front) (shrinking_list height (map shape_of (closed_list p front)) e ++ glue_list p.textbottom)
      ∙ ap (λ ns. map (plain_of held) (closed_list p front) ++ ns) (map-append (plain_of held) (shrinking_list height (map shape_of (closed_list p front)) e) (glue_list p.textbottom))
      ∙ (λ i. closing-held i ++ (shrinking-held height e (map shape_of (closed_list p front)) (map node_shape (with_closing p texts)) shapes i ++ glue-held held p.textbottom i))

  pub packed-shapes : (height : ℤ) (e : Enlarged) → map shape_of (packed_list p height e front) ≡ map node_shape (packed_nodes p height e texts)
  packed-shapes height e = sym (shapes-held held (packed_list p height e front)) ∙ ap (map node_shape) (packed-held height e)

-- the column of this list, packed to the column's height or higher
pub column-made : (p : Params) (l : FloatLists) (old new : Lists Node) (body : ℕ) (notes : List NoteBox) → AreLeaves (list_at old body) → AllByRecursion (IsNote old) notes
    → list_at new body ≡ column_list p l old body notes → (e : Enlarged) (height : ℤ) (s : Set) → height ≡ column_height_of p l
    → s ≡ packed (height +ℤ higher_by e) p.maxdepth (map shape_of (packed_list p height e (text_list p l old body notes)))
    → column_shown new (record { kind = column_kinds.Text; list = body; set = s }) ≡ text_column p l (plain_list old body) (notes_shown old notes) e
column-made p l old new body notes leaves each holds e height s high is =
    let texts = text_nodes p l (plain_list old body) (notes_shown old notes) in
    let nodes : plain_list new body ≡ closed_nodes p texts =
    ap (map (plain_of (list_at new))) holds ∙ column-held (list_at new) p l old body notes leaves each in
    let set : s ≡ packed (column_height_of p l +ℤ higher_by e) p.maxdepth (map node_shape (packed_nodes p (column_height_of p l) e texts)) =
    is ∙ ap (packed (height +ℤ higher_by e) p.maxdepth) (packed-shapes (list_at new) p l old body notes leaves each height e)
    ∙ ap (λ (h : ℤ). packed (h +ℤ higher_by e) p.maxdepth (map node_shape (packed_nodes p h e texts))) high in
    λ i. record { kind = column_kinds.Text; nodes = nodes i; set = set i }
