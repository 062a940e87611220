-- The nodes of a valid galley, of all its items: their amounts are in their ranges, the output routine can serve them, and they are not too many.
use Rattle.std.proofs.Common.{◌≡◌, refl, subst, ℕ, ℤ, ◌*◌, ◌≤◌, pos, neg_ℤ, map, Bool, true, false, List, [], ◌∷◌, ◌++◌, arith}
use Rattle.std.specs.Cmp.{first_so, second_so}
use Rattle.std.specs.Prelude.{All, IsTrue, ◌&&◌, ◌||◌, ◌==◌, if◌then◌else◌, not}
use Rattle.std.specs.List.{list_all, AllByRecursion}
use Rattle.std.proofs.lemmas.Int.{ints}
use Rattle.std.proofs.lemmas.Bool.Decides.{nat_tests}
use Rattle.std.proofs.lemmas.List.{length-map}
use Rattle.std.proofs.lemmas.List.Elements.{All-nil, All-cons, All-head, All-tail, All-append, All-from_recursion}
use Rattle.tb_scaled.specs.Glue.{filling_glue}
use Rattle.tb_node.specs.declared.Float.{Float}
use Rattle.tb_node.specs.declared.Act.{Act}
use Rattle.tb_node.specs.declared.Act.TheVariants as acts
use Rattle.tb_node.specs.Names.{is_name, is_between}
use Rattle.tb_node.specs.Shape.{glue}
use Rattle.tb_node.specs.Fit.{IsDimension, IsExtent, IsSized, IsSizedLeaf}
use Rattle.tb_node.specs.Sums.{size_of}
use Rattle.tb_node.specs.PlainNodes.{Leaf as PlainLeaf, skip, leaf_shape, matter_shape, kind_shape, PlainKind, act, blank_box, on_line, newpage_kinds, clearpage_kinds}
use Rattle.tb_param.specs.declared.Params.{Params}
use Rattle.tb_param.specs.Release.{has_second}
use Rattle.tb_param.specs.Ranges.{are_params}
use Rattle.tb_param.proofs.RangeLemmas.{changed-in-range}
use Rattle.tb_insert.specs.declared.Class.{Class}
use Rattle.tb_builder.specs.Contents.{node_count}
use Rattle.tb_builder.specs.Pageable.{IsSizedKind}
use Rattle.tb_builder.proofs.Ranges.PageableLemmas.{count-append}
use Rattle.tb_galley.specs.declared.Item.{Item}
use Rattle.tb_galley.specs.declared.ItemKind.{ItemKind}
use Rattle.tb_galley.specs.declared.ItemKind.TheVariants as items
use Rattle.tb_galley.specs.declared.Galley.{Galley}
use Rattle.tb_galley.specs.GalleyNodes.{plain_leaf, made_leaf, back_glue, enlarge_list, with_firings, item_kinds, item_nodes, two_after, params_after, expanded}
use Rattle.tb_galley.specs.Valid.{is_size, is_float, is_margin, is_item, weight_of, weight, IsValid, is_head, is_top_alone}
use Rattle.tb_sheet.specs.Asked.{IsSizedAct}
use Rattle.tb_items.specs.Classes.{classes_of}
use Rattle.tb_items.specs.WaitingNodes.{IsItem, AreItems}
use Rattle.tb_items.specs.GalleyNodes.{IsServable, IsGalleyNode, AreGalleyNodes, AreFootParams}
use Rattle.tb_column.proofs.RangeLemmas.{dimension}
use Rattle.tb_items.proofs.ItemAmounts.{size-extent, both-extents, glue-sized, margin-sized, penalty-served, strength-served, asked-served, leaves-sized}
use Rattle.tb_items.proofs.GalleyItems.{galley-items, most}
use Rattle.tb_items.proofs.FootParams.{foot-params}
use Rattle.tb_items.proofs.ItemLemmas.{expanded-is}

-- ---- what every galley has

zero-dimension : IsDimension (pos 0)
zero-dimension = record { low = omega (arith, ints); high = omega (arith, ints) }

zero-extent : IsExtent (pos 0)
zero-extent = record { low = omega (arith, ints); high = omega (arith, ints) }

filling-sized : IsSized (glue filling_glue)
filling-sized = (zero-dimension, record { low = omega (arith, ints); high = omega (arith, ints) }, zero-dimension)

module _ (cs : List Class) where
  -- each node of a line
  abbrev AreNodes : ℕ → List PlainKind → Type 0
  AreNodes l ks = All (IsGalleyNode cs) (on_line l ks)

  -- the same kind by kind
  abbrev AreKinds : List PlainKind → Type 0
  AreKinds ks = AllByRecursion (λ k. IsSized (kind_shape k) × IsSizedKind k × IsServable cs k) ks

  from-kinds : (l : ℕ) (ks : List PlainKind) → AreKinds ks → AreNodes l ks
  from-kinds l ks h = All-from_recursion (IsGalleyNode cs) (on_line l ks) (by_list ks h)
    where
      by_list : (ks : List PlainKind) → AreKinds ks → AllByRecursion (IsGalleyNode cs) (on_line l ks)
      by_list [] h = tt
      by_list (k ∷ ks) h = (record { sized = record { shape = h.0.0; kind = h.0.1 }; servable = h.0.2 }, by_list ks h.1)

  newpage-are : AreKinds newpage_kinds
  newpage-are = ((filling-sized, tt, tt), ((record { low = omega (arith, ints); high = omega (arith, ints) }, tt, omega (arith, ints)), tt))

  blank-are : IsSized (matter_shape blank_box) × Unit {0} × Unit {0}
  blank-are = ((zero-extent, zero-extent), tt, tt)

  -- a clear, and what comes behind it
  clear-then : (ks : List PlainKind) → AreKinds ks → AreKinds (clearpage_kinds ++ ks)
  clear-then ks h = (newpage-are.0, (newpage-are.1.0, ((tt, tt, tt), (blank-are, ((record { low = omega (arith, ints); high = omega (arith, ints) }, tt, omega (arith, ints)), h)))))

  firings-are : (a : Act) (vert : Bool) → IsSizedAct a → AreKinds (with_firings a vert)
  firings-are a true h = ((tt, tt, h), ((record { low = omega (arith, ints); high = omega (arith, ints) }, tt, omega (arith, ints)), (blank-are, ((record { low = omega (arith, ints); high = omega (arith, ints) }, tt, omega (arith, ints)), tt))))
  firings-are a false h = ((tt, tt, h), ((record { low = omega (arith, ints); high = omega (arith, ints) }, tt, omega (arith, ints)), (blank-are, ((record { low = omega (arith, ints); high = omega (arith, ints) }, tt, omega (arith, ints)), tt))))

  float-are : (alone : Bool) (f : Float) (vert : Bool) → IsExtent f.height → AreKinds (if alone then act (acts.Take f) ∷ [] else with_firings (acts.Take f) vert)
  float-are true f vert h = ((tt, tt, h), tt)
  float-are false f vert h = firings-are (acts.Take f) vert h

  -- ---- a page that is made higher

  back-sized : (by : ℤ) → IsDimension by → IsDimension (neg_ℤ by)
  back-sized by h = record { low = omega (arith, ints); high = omega (arith, ints) }

  glue-leaf : (by : ℤ) → IsDimension by → IsSizedLeaf (made_leaf (skip (back_glue by)))
  glue-leaf by h = (back-sized by h, record { low = omega (arith, ints); high = omega (arith, ints) }, record { low = omega (arith, ints); high = omega (arith, ints) })

  enlarging-sized : (by : ℤ) (star : Bool) → IsDimension by → All IsSizedLeaf (enlarge_list by star)
  enlarging-sized by true h =
      All-cons IsSizedLeaf (made_leaf blank_box) (made_leaf (skip (back_glue by)) ∷ []) (zero-extent, zero-extent) (All-cons IsSizedLeaf (made_leaf (skip (back_glue by))) [] (glue-leaf by h) (All-nil IsSizedLeaf))
  enlarging-sized by false h = All-cons IsSizedLeaf (made_leaf (skip (back_glue by))) [] (glue-leaf by h) (All-nil IsSizedLeaf)

  enlarging-size : (by : ℤ) (star : Bool) → neg_ℤ by ≡ size_of (map leaf_shape (enlarge_list by star))
  enlarging-size by true = omega (arith, ints)
  enlarging-size by false = omega (arith, ints)

  -- ---- an item

  module _ (p : Params) (foot : AreFootParams p) where
    item-are : (two : Bool) (l : ℕ) (k : ItemKind) → IsTrue (is_item l k) → IsItem cs k → AreKinds (item_kinds p two k)
    item-are two l (items.Hbox name h d) v i = ((both-extents _ h d v, tt, tt), tt)
    item-are two l (items.Rule name h d) v i = ((both-extents _ h d v, tt, tt), tt)
    item-are two l (items.Skip g) v i = ((glue-sized g v, tt, tt), tt)
    item-are two l (items.Kern w) v i = ((dimension w v, tt, tt), tt)
    item-are two l (items.Penalty q) v i = let s = penalty-served q v in ((s.sized, tt, s.high), tt)
    item-are two l (items.Foot class ls) v i =
        ((tt, record { inner = leaves-sized ls v; height = refl; split_depth = foot.split_depth; split_top = foot.split_top; floating = foot.floating }, i.0), tt)
    item-are two l (items.Float f vert) v i = float-are (has_second p && two && f.wide) f vert (float-extent f (second_so (f.line == l) (is_float f) v))
      where
        float-extent : (f : Float) → IsTrue (is_float f) → IsExtent f.height
        float-extent f v = size-extent f.height (second_so (is_name f.name && is_between 1 26 f.class && (f.places.h || f.places.t || f.places.b || f.places.p)) (is_size f.height) v)
    item-are two l (items.Margin m vert) v i = firings-are (acts.TakeMargin m) vert (margin-sized m (second_so (m.line == l) (is_margin m) v))
    item-are two l items.NewPage v i = newpage-are
    item-are two l items.ClearPage v i = clear-then [] tt
    item-are two l (items.PageBreak n) v i = let s = asked-served n in ((s.sized, tt, s.high), tt)
    item-are two l (items.NoPageBreak n) v i = let s = strength-served n in ((s.sized, tt, s.high), tt)
    item-are two l items.OneColumn v i = clear-then (act (acts.Columns false) ∷ []) ((tt, tt, tt), tt)
    item-are two l items.TwoColumn v i = clear-then (act (acts.Columns true) ∷ []) ((tt, tt, tt), tt)
    item-are two l (items.Page n) v i = let small : n ≤ 1000000 = grind (arith, nat_tests, v) in ((tt, tt, small), tt)
    item-are two l (items.Head f) v i = ((tt, tt, head-extent f (second_so (f.line == l) (is_head f) v)), tt)
      where
        head-extent : (f : Float) → IsTrue (is_head f) → IsExtent f.height
        head-extent f v = size-extent f.height (second_so (is_name f.name) (is_size f.height) (first_so (is_name f.name && is_size f.height) ((f.class == 0) && f.wide && is_top_alone f.places && f.bang && not (f.deep || f.nobreak)) v))
    item-are two l (items.Enlarge by star) v i =
        ((tt, record { inner = enlarging-sized by star i.1; height = enlarging-size by star; split_depth = foot.enlarging_depth; split_top = foot.enlarging_top; floating = foot.enlarging_floating }, i.0), tt)
    item-are two l k v i = ((tt, tt, tt), tt)

  -- the parameters stay in their ranges from item to item
  in-range-after : (p : Params) → IsTrue (are_params p) → (k : ItemKind) → IsTrue (are_params (params_after p k))
  in-range-after p h (items.Set c) = changed-in-range p c h
  in-range-after p h k = h

  items-are : (p : Params) → IsTrue (are_params p) → (two : Bool) (ns : List Item) → IsTrue (list_all (λ (n : Item). is_item n.line n.kind) ns) → AreItems cs ns → All (IsGalleyNode cs) (item_nodes p two ns)
  items-are p h two [] v i = All-nil (IsGalleyNode cs)
  items-are p h two (n ∷ ns) v i =
      let rest = list_all (λ (m : Item). is_item m.line m.kind) ns in
      let after = two_after two n.kind in
      let q = params_after p n.kind in
      All-append (IsGalleyNode cs) (on_line n.line (item_kinds p two n.kind)) (item_nodes q after ns)
      (from-kinds n.line (item_kinds p two n.kind) (item-are p (foot-params p h) two n.line n.kind (first_so (is_item n.line n.kind) rest v) (All-head (λ (m : Item). IsItem cs m.kind) n ns i)))
      (items-are q (in-range-after p h n.kind) after ns (second_so (is_item n.line n.kind) rest v) (All-tail (λ (m : Item). IsItem cs m.kind) n ns i))

-- ---- how many there are

module _ (p : Params) where
  float-few : (alone : Bool) (l : ℕ) (f : Float) (vert : Bool) → node_count (on_line l (if alone then act (acts.Take f) ∷ [] else with_firings (acts.Take f) vert)) ≤ 6
  float-few true l f vert = omega arith
  float-few false l f vert = omega arith

  -- six for each line of items at most
  item-few : (two : Bool) (l : ℕ) (k : ItemKind) → node_count (on_line l (item_kinds p two k)) ≤ 6 * weight_of k
  item-few two l (items.Foot class ls) = let e = length-map {B = PlainLeaf} ls plain_leaf in omega (arith, e)
  item-few two l (items.Float f vert) = let few = float-few (has_second p && two && f.wide) l f vert in omega (arith, few)
  item-few two l (items.Enlarge by true) = omega arith
  item-few two l (items.Enlarge by false) = omega arith
  item-few two l k = omega arith

items-few : (p : Params) (two : Bool) (ns : List Item) → node_count (item_nodes p two ns) ≤ 6 * weight ns
items-few p two [] = omega arith
items-few p two (n ∷ ns) =
    let after = two_after two n.kind in
    let q = params_after p n.kind in
    let one = item-few p two n.line n.kind in
    let more = items-few q after ns in
    let e = count-append (on_line n.line (item_kinds p two n.kind)) (item_nodes q after ns) in
    omega (arith, one, more, e)

-- ---- a galley

-- the nodes of a valid galley, as they wait before its first page
pub galley-nodes : (g : Galley) → AreFootParams g.params → IsValid g → AreGalleyNodes (classes_of g) (expanded g)
galley-nodes g foot v =
    let cs = classes_of g in
    let ns = item_nodes g.params false g.items in
    let end = on_line g.end_line clearpage_kinds in
    let few = items-few g.params false g.items in
    let w = most (weight g.items) v.count in
    let e = count-append ns end in
    subst (AreGalleyNodes cs) (expanded-is g) (record {
      nodes = All-append (IsGalleyNode cs) ns end (items-are cs g.params v.params false g.items v.items (galley-items g v)) (from-kinds cs g.end_line clearpage_kinds (clear-then cs [] tt));
      few = omega (arith, few, w, e);
    })
