-- The items that are left, batch by batch and one by one.
use Rattle.std.proofs.Common.{◌≡◌, refl, sym, subst, ◌∙◌, ap, ℕ, zero, suc, ◌+◌, ◌-◌, ◌<◌, ◌≤◌, Bool, true, false, List, [], ◌∷◌, ◌++◌, length, map, take, drop, get_or, None, Some, append_assoc, append-nil, arith}
use Rattle.std.specs.Prelude.{◌&&◌, if◌then◌else◌}
use Rattle.std.proofs.lemmas.Bool.{true≢false}
use Rattle.std.proofs.lemmas.List.{take_more, take_all, take-append-drop, length-drop, at_drop_more}
use Rattle.std.proofs.lemmas.List.Elements.{All-from_recursion, recursion_from_All}
use Rattle.tb_pool.specs.Lists.{Lists}
use Rattle.tb_break.proofs.EachLemmas.{all-drop}
use Rattle.tb_break.specs.Places.{last_or}
use Rattle.tb_node.specs.declared.Node.{Node}
use Rattle.tb_node.specs.declared.Act.TheVariants as acts
use Rattle.tb_node.specs.PlainNodes.{PlainNode, act, on_line, clearpage_kinds}
use Rattle.tb_param.specs.declared.Params.{Params}
use Rattle.tb_param.specs.Release.{has_second}
use Rattle.tb_builder.specs.declared.Builder.{Builder}
use Rattle.tb_builder.specs.Contents.{node_count}
use Rattle.tb_builder.proofs.Ranges.PageableLemmas.{count-append}
use Rattle.tb_galley.specs.declared.Item.{Item}
use Rattle.tb_galley.specs.declared.ItemKind.{ItemKind}
use Rattle.tb_galley.specs.declared.ItemKind.TheVariants as items
use Rattle.tb_galley.specs.GalleyNodes.{with_firings, item_kinds, item_nodes, two_after, two_past, params_after, params_past}
use Rattle.tb_items.specs.declared.items_left.ItemsLeft.{ItemsLeft}
use Rattle.tb_items.specs.WaitingNodes.{Waits, IsItem, AreItems}
use Rattle.tb_items.specs.ItemsLeft.{nodes_of, first_nodes, kern_last, ends_batch, are_ended, IsHandedOver, IsPastItem, IsHandedNext}
use Rattle.tb_items.proofs.ItemLemmas.{item_nodes-append}
use Rattle.tb_items.proofs.OpenLemmas.{kern-both}

-- ---- a batch that ends

ended-of : (d : Bool) (xs : List Item) (x : Item) → last_or d (map (λ n. ends_batch n.kind) (xs ++ x ∷ [])) ≡ ends_batch x.kind
ended-of d [] x = refl
ended-of d (y ∷ xs) x = ended-of (ends_batch y.kind) xs x

-- up to an item that ends a batch
pub ended-at : (ns : List Item) (k : ℕ) (x : Item) → k < length ns → x ≡ get_or ns k x → ends_batch x.kind ≡ true → are_ended (take (k + 1) ns) ≡ true
ended-at ns k x within is e = ap are_ended (take_more ns k x within ∙ ap (λ y. take k ns ++ y ∷ []) (sym is)) ∙ ended-of false (take k ns) x ∙ e

-- the nodes of such an item end with no kern, whatever comes before
kinds-end : (d : Bool) (p : Params) (two : Bool) (l : ℕ) (k : ItemKind) → ends_batch k ≡ true → kern_last d (on_line l (item_kinds p two k)) ≡ false
kinds-end d p two l (items.Float f vert) e = absurd (true≢false (sym e))
kinds-end d p two l (items.Kern w) e = absurd (true≢false (sym e))
kinds-end d p two l (items.Suppress area) e = absurd (true≢false (sym e))
kinds-end d p two l (items.Page n) e = absurd (true≢false (sym e))
kinds-end d p two l (items.Head f) e = absurd (true≢false (sym e))
kinds-end d p two l (items.Set c) e = absurd (true≢false (sym e))
kinds-end d p two l k e = refl

-- nor do those of a batch
pub batch-ends : (d : Bool) (p : Params) (two : Bool) (ns : List Item) → are_ended ns ≡ true → kern_last d (item_nodes p two ns) ≡ false
batch-ends d p two [] e = absurd (true≢false (sym e))
batch-ends d p two (n ∷ []) e = kern-both d (on_line n.line (item_kinds p two n.kind)) [] ∙ kinds-end d p two n.line n.kind e
batch-ends d p two (n ∷ m ∷ ms) e =
    kern-both d (on_line n.line (item_kinds p two n.kind)) (item_nodes (params_after p n.kind) (two_after two n.kind) (m ∷ ms))
    ∙ batch-ends (kern_last d (on_line n.line (item_kinds p two n.kind))) (params_after p n.kind) (two_after two n.kind) (m ∷ ms) e

-- it is not empty
pub some-ended : (k : ℕ) (ns : List Item) → are_ended (take k ns) ≡ true → 0 < k
some-ended zero ns e = absurd (true≢false (sym e))
some-ended (suc k) ns e = omega arith

-- ---- a batch is handed over

module _ (l : ItemsLeft) (b : Builder) (s : Lists Node) (d : Builder) (t : Lists Node) where
  abbrev p : Params
  p = l.params

  abbrev clear : List PlainNode
  clear = on_line l.galley.now.end_line clearpage_kinds

  -- some items are left
  module _ (k : ℕ) (within : k ≤ length l.items.now) (ended : are_ended (take k l.items.now) ≡ true) (waits : Waits (item_nodes p l.two (take k l.items.now)) b s d t)
      (r : ItemsLeft) (galley : r.galley ≡ l.galley) (rest : r.items.now ≡ drop k l.items.now) (params : r.params ≡ params_past l.params (take k l.items.now)) (two : r.two ≡ two_past l.two (take k l.items.now)) where
    rest-nodes : nodes_of r ≡ item_nodes (params_past p (take k l.items.now)) (two_past l.two (take k l.items.now)) (drop k l.items.now) ++ clear
    rest-nodes = λ i. item_nodes (params i) (two i) (rest i) ++ on_line (galley i).now.end_line clearpage_kinds

    pub handed-some : IsHandedOver l (Some r) b s d t
    handed-some = record {
      nodes = item_nodes p l.two (take k l.items.now);
      waits = waits;
      all =
          ap (λ ns. item_nodes p l.two (take k l.items.now) ++ ns) rest-nodes
          ∙ sym (append_assoc (item_nodes p l.two (take k l.items.now)) (item_nodes (params_past p (take k l.items.now)) (two_past l.two (take k l.items.now)) (drop k l.items.now)) clear)
          ∙ ap (λ ns. ns ++ clear) (sym (item_nodes-append p l.two (take k l.items.now) (drop k l.items.now)) ∙ ap (item_nodes p l.two) (take-append-drop k l.items.now));
      ends = batch-ends false p l.two (take k l.items.now) ended;
      items = λ cs h. subst (AreItems cs) (sym rest) (All-from_recursion (λ (n : Item). IsItem cs n.kind) (drop k l.items.now) (all-drop (λ (n : Item). IsItem cs n.kind) k l.items.now (recursion_from_All (λ (n : Item). IsItem cs n.kind) l.items.now h)));
      fewer = let some = some-ended k l.items.now ended in let e = ap length rest in let f = length-drop k l.items.now in omega (arith, some, e, f, within);
    }

  -- none is left
  pub handed-all : (k : ℕ) → length l.items.now ≤ k → Waits (item_nodes p l.two (take k l.items.now) ++ clear) b s d t → IsHandedOver l None b s d t
  handed-all k all waits = record {
    nodes = item_nodes p l.two (take k l.items.now) ++ clear;
    waits = waits;
    all = append-nil (item_nodes p l.two (take k l.items.now) ++ clear) ∙ ap (λ ns. item_nodes p l.two ns ++ clear) (take_all k l.items.now all);
    ends = tt;
    items = λ cs h. tt;
    fewer = omega arith;
  }

-- ---- the next item is handed over

-- some items are the first and those behind it
pub first-rest : (ns : List Item) (d : Item) → 0 < length ns → ns ≡ get_or ns 0 d ∷ take (length ns - 1) (drop 1 ns)
first-rest [] d some = absurd (omega (arith, some))
first-rest (x ∷ xs) d some = ap (λ ms. x ∷ ms) (sym (take_all (length (x ∷ xs) - 1) xs (omega arith)))

module _ (l r : ItemsLeft) (n : Item) (past : IsPastItem l r n) (b : Builder) (s : Lists Node) (d : Builder) (t : Lists Node) where
  -- the nodes of the item
  abbrev own : List PlainNode
  own = on_line n.line (item_kinds l.params l.two n.kind)

  -- those of the items behind it
  abbrev behind : List PlainNode
  behind = item_nodes (params_after l.params n.kind) (two_after l.two n.kind) r.items.now

  -- what waits is the first item's, and what is left is behind it
  pub handed-next : Waits own b s d t → IsHandedNext l (Some r) b s d t
  handed-next waits = record {
    waits = subst (λ ns. Waits (first_nodes l.galley.now l.params l.two ns) b s d t) (sym past.items) waits;
    past = (n, past);
    all =
        (λ i. first_nodes l.galley.now l.params l.two (past.items i) ++ (item_nodes (past.params i) (past.two i) r.items.now ++ on_line (past.galley i).now.end_line clearpage_kinds))
        ∙ sym (append_assoc own behind (on_line l.galley.now.end_line clearpage_kinds))
        ∙ ap (λ ns. item_nodes l.params l.two ns ++ on_line l.galley.now.end_line clearpage_kinds) (sym past.items);
    items = λ cs h. All-from_recursion (λ (m : Item). IsItem cs m.kind) r.items.now (recursion_from_All (λ (m : Item). IsItem cs m.kind) (n ∷ r.items.now) (subst (AreItems cs) past.items h)).1;
  }

-- ---- their nodes are counted

-- a parameter that is set among items changes no count, since the release is that of the whole galley
kinds-count : (p q : Params) → has_second q ≡ has_second p → (two : Bool) (l : ℕ) (k : ItemKind) → node_count (on_line l (item_kinds q two k)) ≡ node_count (on_line l (item_kinds p two k))
kinds-count p q e two l (items.Float f vert) = ap (λ (second : Bool). node_count (on_line l (if second && two && f.wide then act (acts.Take f) ∷ [] else with_firings (acts.Take f) vert))) e
kinds-count p q e two l k = refl

release-after : (p q : Params) → has_second q ≡ has_second p → (k : ItemKind) → has_second (params_after q k) ≡ has_second (params_after p k)
release-after p q e (items.Set c) = e
release-after p q e k = e

items-count : (p q : Params) → has_second q ≡ has_second p → (two : Bool) (ns : List Item) → node_count (item_nodes q two ns) ≡ node_count (item_nodes p two ns)
items-count p q e two [] = refl
items-count p q e two (n ∷ ns) =
    let after = two_after two n.kind in
    count-append (on_line n.line (item_kinds q two n.kind)) (item_nodes (params_after q n.kind) after ns)
    ∙ (λ i. kinds-count p q e two n.line n.kind i + items-count (params_after p n.kind) (params_after q n.kind) (release-after p q e n.kind) after ns i)
    ∙ sym (count-append (on_line n.line (item_kinds p two n.kind)) (item_nodes (params_after p n.kind) after ns))

second-after : (p : Params) (k : ItemKind) → has_second (params_after p k) ≡ has_second p
second-after p (items.Set c) = refl
second-after p k = refl

-- one item further
pub count-more : (p : Params) (two : Bool) (ns : List Item) (i : ℕ) (x : Item) → i < length ns → x ≡ get_or ns i x
    → node_count (item_nodes p two (drop i ns)) ≡ node_count (on_line x.line (item_kinds p two x.kind)) + node_count (item_nodes p (two_after two x.kind) (drop (i + 1) ns))
count-more p two ns i x within is =
    at_drop_more (λ ms. node_count (item_nodes p two ms)) ns i x within
    ∙ ap (λ y. node_count (item_nodes p two (y ∷ drop (i + 1) ns))) (sym is)
    ∙ count-append (on_line x.line (item_kinds p two x.kind)) (item_nodes (params_after p x.kind) (two_after two x.kind) (drop (i + 1) ns))
    ∙ ap (λ c. node_count (on_line x.line (item_kinds p two x.kind)) + c) (items-count p (params_after p x.kind) (second-after p x.kind) (two_after two x.kind) (drop (i + 1) ns))

-- with the nodes of a clear
pub count-all : (l : ItemsLeft) → node_count (nodes_of l) ≡ node_count (item_nodes l.params l.two l.items.now) + 5
count-all l = count-append (item_nodes l.params l.two l.items.now) (on_line l.galley.now.end_line clearpage_kinds)
