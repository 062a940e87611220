-- The items that are left under the page makeup, batch by batch.
use Rattle.std.proofs.Common.{◌≡◌, refl, sym, subst, ◌∙◌, ap, ℕ, ◌+◌, ◌≤◌, Bool, true, false, List, [], ◌∷◌, ◌++◌, length, take, drop, None, Some, append_assoc, append-nil, arith}
use Rattle.std.proofs.lemmas.Bool.{true≢false}
use Rattle.std.proofs.lemmas.List.{take_all, take-append-drop, length-drop}
use Rattle.std.proofs.lemmas.List.Elements.{All-from_recursion, recursion_from_All}
use Rattle.tb_pool.specs.Lists.{Lists}
use Rattle.tb_break.proofs.EachLemmas.{all-drop}
use Rattle.tb_node.specs.declared.Node.{Node}
use Rattle.tb_node.specs.PlainNodes.{PlainNode, on_line}
use Rattle.tb_param.specs.declared.Params.{Params}
use Rattle.tb_builder.specs.declared.Builder.{Builder}
use Rattle.tb_builder.specs.Contents.{node_count}
use Rattle.tb_builder.proofs.Ranges.PageableLemmas.{count-append}
use Rattle.tb_galley.specs.declared.Item.{Item}
use Rattle.tb_galley.specs.declared.ItemKind.{ItemKind}
use Rattle.tb_galley.specs.declared.ItemKind.TheVariants as items
use Rattle.tb_items.specs.WaitingNodes.{Waits, IsItem, AreItems}
use Rattle.tb_items.specs.ItemsLeft.{kern_last, ends_batch, are_ended}
use Rattle.tb_items.proofs.OpenLemmas.{kern-both}
use Rattle.tb_items.proofs.LeftLemmas.{some-ended}
use Rattle.tb_plain.specs.GalleyNodes.{clearing_kinds, makeup_kinds, makeup_nodes}
use Rattle.tb_makeup.specs.declared.makeup_left.MakeupLeft.{MakeupLeft}
use Rattle.tb_makeup.specs.MakeupLeft.{nodes_of, IsHandedOver}
use Rattle.tb_makeup.proofs.FromGalley.ItemLemmas.{makeup_nodes-append}

-- ---- a batch that ends

-- the nodes of an item that ends a batch end with no kern, whatever comes before
kinds-end : (d : Bool) (p : Params) (l : ℕ) (k : ItemKind) → ends_batch k ≡ true → kern_last d (on_line l (makeup_kinds p k)) ≡ false
kinds-end d p l (items.Float f vert) e = absurd (true≢false (sym e))
kinds-end d p l (items.Kern w) e = absurd (true≢false (sym e))
kinds-end d p l (items.Suppress area) e = absurd (true≢false (sym e))
kinds-end d p l (items.Page n) e = absurd (true≢false (sym e))
kinds-end d p l (items.Set c) e = absurd (true≢false (sym e))
kinds-end d p l (items.Head f) e = absurd (true≢false (sym e))
kinds-end d p l k e = refl

-- nor do those of a batch
batch-ends : (d : Bool) (p : Params) (ns : List Item) → are_ended ns ≡ true → kern_last d (makeup_nodes p ns) ≡ false
batch-ends d p [] e = absurd (true≢false (sym e))
batch-ends d p (n ∷ []) e = kern-both d (on_line n.line (makeup_kinds p n.kind)) [] ∙ kinds-end d p n.line n.kind e
batch-ends d p (n ∷ m ∷ ms) e =
    kern-both d (on_line n.line (makeup_kinds p n.kind)) (makeup_nodes p (m ∷ ms))
    ∙ batch-ends (kern_last d (on_line n.line (makeup_kinds p n.kind))) p (m ∷ ms) e

-- ---- a batch is handed over

module _ (l : MakeupLeft) (b : Builder) (s : Lists Node) (d : Builder) (t : Lists Node) where
  abbrev p : Params
  p = l.galley.now.params

  abbrev clear : List PlainNode
  clear = on_line l.galley.now.end_line clearing_kinds

  -- some items are left
  module _ (k : ℕ) (within : k ≤ length l.items.now) (ended : are_ended (take k l.items.now) ≡ true) (waits : Waits (makeup_nodes p (take k l.items.now)) b s d t)
      (r : MakeupLeft) (galley : r.galley ≡ l.galley) (rest : r.items.now ≡ drop k l.items.now) where
    rest-nodes : nodes_of r ≡ makeup_nodes p (drop k l.items.now) ++ clear
    rest-nodes = λ i. makeup_nodes (galley i).now.params (rest i) ++ on_line (galley i).now.end_line clearing_kinds

    pub handed-some : IsHandedOver l (Some r) b s d t
    handed-some = record {
      nodes = makeup_nodes p (take k l.items.now);
      waits = waits;
      all =
          ap (λ ns. makeup_nodes p (take k l.items.now) ++ ns) rest-nodes
          ∙ sym (append_assoc (makeup_nodes p (take k l.items.now)) (makeup_nodes p (drop k l.items.now)) clear)
          ∙ ap (λ ns. ns ++ clear) (sym (makeup_nodes-append p (take k l.items.now) (drop k l.items.now)) ∙ ap (makeup_nodes p) (take-append-drop k l.items.now));
      ends = batch-ends false p (take k l.items.now) ended;
      items = λ cs h. subst (AreItems cs) (sym rest) (All-from_recursion (λ (n : Item). IsItem cs n.kind) (drop k l.items.now) (all-drop (λ (n : Item). IsItem cs n.kind) k l.items.now (recursion_from_All (λ (n : Item). IsItem cs n.kind) l.items.now h)));
      fewer = let some = some-ended k l.items.now ended in let e = ap length rest in let f = length-drop k l.items.now in omega (arith, some, e, f, within);
    }

  -- none is left
  pub handed-all : (k : ℕ) → length l.items.now ≤ k → Waits (makeup_nodes p (take k l.items.now) ++ clear) b s d t → IsHandedOver l None b s d t
  handed-all k all waits = record {
    nodes = makeup_nodes p (take k l.items.now) ++ clear;
    waits = waits;
    all = append-nil (makeup_nodes p (take k l.items.now) ++ clear) ∙ ap (λ ns. makeup_nodes p ns ++ clear) (take_all k l.items.now all);
    ends = tt;
    items = λ cs h. tt;
    fewer = omega arith;
  }

-- ---- their nodes are counted

-- with the nodes of a clear
pub count-all : (l : MakeupLeft) → node_count (nodes_of l) ≡ node_count (makeup_nodes l.galley.now.params l.items.now) + 2
count-all l = count-append (makeup_nodes l.galley.now.params l.items.now) (on_line l.galley.now.end_line clearing_kinds)
