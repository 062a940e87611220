-- The nodes of a valid galley that the page makeup serves, as they wait before its first page: their amounts are in their ranges, each act stands
-- behind a whatsit, and they are not too many.
use Rattle.std.proofs.Common.{◌≡◌, refl, sym, subst, ℕ, ◌+◌, ◌*◌, ◌≤◌, Bool, true, false, List, [], ◌∷◌, ◌++◌, Option, Some, None, arith}
use Rattle.std.specs.Prelude.{All, ◌&&◌, ◌==◌, if◌then◌else◌}
use Rattle.std.proofs.lemmas.Int.{ints}
use Rattle.std.proofs.lemmas.Bool.{true≢false}
use Rattle.std.proofs.lemmas.Bool.Decides.{nat_tests}
use Rattle.std.proofs.lemmas.List.{length-map}
use Rattle.std.proofs.lemmas.List.Elements.{All-nil, All-cons, All-head, All-tail, All-append, All-weaker, All-from_recursion}
use Rattle.tb_node.specs.declared.Float.{Float}
use Rattle.tb_node.specs.declared.Act.TheVariants as acts
use Rattle.tb_node.specs.Fit.{IsExtent}
use Rattle.tb_node.specs.PlainNodes.{Leaf as PlainLeaf, act, PlainNode, on_line, clearpage_kinds}
use Rattle.tb_param.specs.declared.Params.{Params}
use Rattle.tb_param.specs.Release.{has_second}
use Rattle.tb_insert.specs.declared.Class.{Class}
use Rattle.tb_builder.specs.Contents.{node_count}
use Rattle.tb_builder.specs.Ownership.{has_class}
use Rattle.tb_builder.specs.Pageable.{IsSizedOnPage}
use Rattle.tb_builder.proofs.Ranges.PageableLemmas.{count-append}
use Rattle.tb_galley.specs.declared.Item.{Item}
use Rattle.tb_galley.specs.declared.ItemKind.{ItemKind}
use Rattle.tb_galley.specs.declared.ItemKind.TheVariants as items
use Rattle.tb_galley.specs.declared.Galley.{Galley}
use Rattle.tb_galley.specs.GalleyNodes.{plain_leaf, with_firings, item_kinds, item_nodes, two_after, params_after}
use Rattle.tb_galley.specs.Valid.{weight_of, weight, IsValid}
use Rattle.tb_items.specs.WaitingNodes.{IsItem, AreItems}
use Rattle.tb_items.specs.GalleyNodes.{IsGalleyNode, AreFootParams}
use Rattle.tb_items.specs.Classes.{classes_of}
use Rattle.tb_items.proofs.GalleyItems.{galley-items, most}
use Rattle.tb_items.proofs.GalleyNodeLemmas.{galley-nodes}
use Rattle.tb_items.proofs.ItemLemmas.{expanded-is}
use Rattle.tb_plain.specs.GalleyNodes.{clearing_kinds, makeup_kinds, makeup_nodes, made_up}
use Rattle.tb_plain.specs.Suitability.{is_suited, unsuited_among, IsSuited}
use Rattle.tb_plain.specs.Run.{act_count, makeup_classes, first_makeup}
use Rattle.tb_plain.proofs.StepLemmas.{acts-append}
use Rattle.tb_makeup.specs.LedActs.{ActsAreLed}
use Rattle.tb_makeup.specs.Makeup.{AreRunNodes, node_total}
use Rattle.tb_makeup.proofs.Filled.FillLemmas.{zero-dimension}
use Rattle.tb_makeup.proofs.FromGalley.ItemLemmas.{made_up-is}
use Rattle.tb_makeup.proofs.Filled.LedLemmas.{led-both}

-- ---- lists

module _ (P : PlainNode → Type 0) where
  all-front : (xs ys : List PlainNode) → All P (xs ++ ys) → All P xs
  all-front [] ys h = All-nil P
  all-front (x ∷ xs) ys h = All-cons P x xs (All-head P x (xs ++ ys) h) (all-front xs ys (All-tail P x (xs ++ ys) h))

  all-back : (xs ys : List PlainNode) → All P (xs ++ ys) → All P ys
  all-back [] ys h = h
  all-back (x ∷ xs) ys h = all-back xs ys (All-tail P x (xs ++ ys) h)

-- the first item is served, and so are those after it
suited-next : (t : Bool) (o : Option ℕ) (l : ℕ) → (if t then o else Some l) ≡ None → (t ≡ true) × (o ≡ None)
suited-next true o l h = (refl, h)
suited-next false o l h = cc

-- ---- the nodes of an item

foot-known : (p : Params) (n : ℕ) → (n == 254) ≡ true → has_class (makeup_classes p) n ≡ true
foot-known p n h = let e : n ≡ 254 = grind (arith, nat_tests, h) in subst (λ (m : ℕ). has_class (makeup_classes p) m ≡ true) (sym e) refl

clearing-sized : (l : ℕ) → All IsSizedOnPage (on_line l clearing_kinds)
clearing-sized l = All-from_recursion IsSizedOnPage (on_line l clearing_kinds) (
  record { shape = (zero-dimension, record { low = omega (arith, ints); high = omega (arith, ints) }, zero-dimension); kind = tt },
  (record { shape = record { low = omega (arith, ints); high = omega (arith, ints) }; kind = tt }, tt),
)

taking-sized : (p : Params) (l : ℕ) (f : Float) (vert : Bool) → All IsSizedOnPage (on_line l (makeup_kinds p (items.Float f vert)))
taking-sized p l f vert = All-from_recursion IsSizedOnPage (on_line l (makeup_kinds p (items.Float f vert))) (record { shape = tt; kind = tt }, (record { shape = tt; kind = tt }, tt))

module _ (cs : List Class) (p : Params) where
  sized : (l : ℕ) (k : ItemKind) → All (IsGalleyNode cs) (on_line l (item_kinds p false k)) → All IsSizedOnPage (on_line l (item_kinds p false k))
  sized l k h = All-weaker (IsGalleyNode cs) IsSizedOnPage (λ n g. g.sized) (on_line l (item_kinds p false k)) h

  float-height : (l : ℕ) (f : Float) (vert alone : Bool) → All (IsGalleyNode cs) (on_line l (if alone then act (acts.Take f) ∷ [] else with_firings (acts.Take f) vert)) → IsExtent f.height
  float-height l f vert true h = (h 0 (record { line = l; kind = act (acts.Take f) }) (omega arith)).servable
  float-height l f vert false h = (h 0 (record { line = l; kind = act (acts.Take f) }) (omega arith)).servable

  -- an item that is served keeps the parameters and one column, has sized nodes, its act stands behind a whatsit, and its class is known
  record Fits (l : ℕ) (k : ItemKind) : Type 0 where
    same_params : params_after p k ≡ p
    one_column : two_after false k ≡ false
    nodes : All IsSizedOnPage (on_line l (makeup_kinds p k))
    led : ActsAreLed false (on_line l (makeup_kinds p k))
    item : IsItem (makeup_classes p) k

  not-served : {A : Type 0} → false ≡ true → A
  not-served e = absurd (true≢false (sym e))

  fits : (l : ℕ) (k : ItemKind) → is_suited k ≡ true → IsItem cs k → All (IsGalleyNode cs) (on_line l (item_kinds p false k)) → Fits l k
  fits l (items.Foot class ls) s i a = record { same_params = refl; one_column = refl; nodes = sized l (items.Foot class ls) a; led = (tt, tt); item = (foot-known p class s, i.1, i.2) }
  fits l (items.Float f vert) s i a =
      record { same_params = refl; one_column = refl; nodes = taking-sized p l f vert; led = (tt, ((refl, float-height l f vert (has_second p && false && f.wide) a), tt)); item = tt }
  fits l (items.Margin m vert) s i a = not-served s
  fits l items.NewPage s i a = record { same_params = refl; one_column = refl; nodes = sized l items.NewPage a; led = (tt, (tt, tt)); item = tt }
  fits l items.ClearPage s i a = record { same_params = refl; one_column = refl; nodes = clearing-sized l; led = (tt, (tt, tt)); item = tt }
  fits l items.OneColumn s i a = not-served s
  fits l items.TwoColumn s i a = not-served s
  fits l (items.Suppress area) s i a = not-served s
  fits l (items.Page n) s i a = not-served s
  fits l (items.Set c) s i a = not-served s
  fits l (items.Head f) s i a = not-served s
  fits l (items.Enlarge by star) s i a = not-served s
  fits l k s i a = record { same_params = refl; one_column = refl; nodes = sized l k a; led = (tt, tt); item = tt }

  -- ---- of all items

  record AllFit (ns : List Item) : Type 0 where
    nodes : All IsSizedOnPage (makeup_nodes p ns)
    led : ActsAreLed false (makeup_nodes p ns)
    known : AreItems (makeup_classes p) ns

  all-fit : (ns : List Item) → unsuited_among ns ≡ None → AreItems cs ns → All (IsGalleyNode cs) (item_nodes p false ns) → AllFit ns
  all-fit [] s i a = record { nodes = All-nil IsSizedOnPage; led = tt; known = All-nil (λ (n : Item). IsItem (makeup_classes p) n.kind) }
  all-fit (n ∷ ns) s i a =
      let served = suited-next (is_suited n.kind) (unsuited_among ns) n.line s in
      let front = on_line n.line (item_kinds p false n.kind) in
      let q = params_after p n.kind in
      let back = item_nodes q (two_after false n.kind) ns in
      let one = fits n.line n.kind served.0 (All-head (λ (m : Item). IsItem cs m.kind) n ns i) (all-front (IsGalleyNode cs) front back a) in
      let rest = subst (λ r. All (IsGalleyNode cs) (item_nodes r false ns)) one.same_params (subst (λ two. All (IsGalleyNode cs) (item_nodes q two ns)) one.one_column (all-back (IsGalleyNode cs) front back a)) in
      let more = all-fit ns served.1 (All-tail (λ (m : Item). IsItem cs m.kind) n ns i) rest in
      let mine = on_line n.line (makeup_kinds p n.kind) in
      record {
        nodes = All-append IsSizedOnPage mine (makeup_nodes p ns) one.nodes more.nodes;
        led = led-both false mine (makeup_nodes p ns) one.led more.led;
        known = All-cons (λ (m : Item). IsItem (makeup_classes p) m.kind) n ns one.item more.known;
      }

-- ---- how many there are

-- the nodes, and those that the acts can add
abbrev weigh : List PlainNode → ℕ
weigh ns = node_count ns + 5 * act_count ns

weigh-append : (xs ys : List PlainNode) → weigh (xs ++ ys) ≡ weigh xs + weigh ys
weigh-append xs ys = let a = count-append xs ys in let b = acts-append xs ys in omega (arith, a, b)

module _ (p : Params) where
  -- twenty for each line of items at most
  item-few : (l : ℕ) (k : ItemKind) → weigh (on_line l (makeup_kinds p k)) ≤ 20 * weight_of k
  item-few l (items.Foot class ls) = let e = length-map {B = PlainLeaf} ls plain_leaf in omega (arith, e)
  item-few l (items.Enlarge by true) = omega arith
  item-few l (items.Enlarge by false) = omega arith
  item-few l k = omega arith

  items-few : (ns : List Item) → weigh (makeup_nodes p ns) ≤ 20 * weight ns
  items-few [] = omega arith
  items-few (n ∷ ns) =
      let one = item-few n.line n.kind in
      let more = items-few ns in
      let e = weigh-append (on_line n.line (makeup_kinds p n.kind)) (makeup_nodes p ns) in
      omega (arith, one, more, e)

-- ---- a galley

galley-few : (g : Galley) → IsValid g → weigh (made_up g) ≤ 2000020
galley-few g v =
    let few = items-few g.params g.items in
    let w = most (weight g.items) v.count in
    let e = weigh-append (makeup_nodes g.params g.items) (on_line g.end_line clearing_kinds) in
    subst (λ ns. weigh ns ≤ 2000020) (made_up-is g) (omega (arith, few, w, e))

module _ (g : Galley) (foot : AreFootParams g.params) (valid : IsValid g) (suited : IsSuited g) where
  items-fit : AllFit (classes_of g) g.params g.items
  items-fit =
      let front = item_nodes g.params false g.items in
      let nodes = subst (All (IsGalleyNode (classes_of g))) (sym (expanded-is g)) (galley-nodes g foot valid).nodes in
      all-fit (classes_of g) g.params g.items suited (galley-items g valid) (all-front (IsGalleyNode (classes_of g)) front (on_line g.end_line clearpage_kinds) nodes)

  pub suited-items : AreItems (makeup_classes g.params) g.items
  suited-items = items-fit.known

  pub suited-room : node_total (first_makeup (made_up g)) + 10 ≤ 7500000
  suited-room = let few = galley-few g valid in omega (arith, few)

  pub suited-nodes : AreRunNodes (first_makeup (made_up g))
  suited-nodes =
      let few = galley-few g valid in
      let mine = makeup_nodes g.params g.items in
      let last = on_line g.end_line clearing_kinds in
      record {
        page = All-nil IsSizedOnPage;
        waiting = subst (All IsSizedOnPage) (made_up-is g) (All-append IsSizedOnPage mine last items-fit.nodes (clearing-sized g.end_line));
        quiet = tt;
        led = subst (ActsAreLed false) (made_up-is g) (led-both false mine last items-fit.led (tt, (tt, tt)));
        acts = omega (arith, few);
        few = omega (arith, few);
      }
