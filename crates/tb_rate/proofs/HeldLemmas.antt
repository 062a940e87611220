-- The insertions that come first, in a list and behind it.
use Rattle.std.proofs.Common.{◌≡◌, refl, sym, ◌∙◌, ap, ℕ, suc, ◌+◌, ◌<◌, ◌≤◌, Bool, true, false, ◌&&◌, List, [], ◌∷◌, ◌++◌, length, get_or, drop, append_assoc, if◌then◌else◌, arith}
use Rattle.std.proofs.Math.Seq.{drop-cons}
use Rattle.std.proofs.lemmas.List.{drop_all}
use Rattle.tb_node.specs.declared.Float.{Float}
use Rattle.tb_node.specs.declared.Act.TheVariants as acts
use Rattle.tb_node.specs.PlainNodes.{PlainNode, act, on_line, clearpage_kinds}
use Rattle.tb_param.specs.declared.Params.{Params}
use Rattle.tb_param.specs.Release.{has_second}
use Rattle.tb_galley.specs.declared.Item.{Item}
use Rattle.tb_galley.specs.declared.ItemKind.{ItemKind}
use Rattle.tb_galley.specs.declared.ItemKind.TheVariants as items
use Rattle.tb_galley.specs.GalleyNodes.{item_kinds, item_nodes, with_firings, two_after, params_after}
use Rattle.tb_items.specs.declared.items_left.ItemsLeft.{ItemsLeft}
use Rattle.tb_items.specs.ItemsLeft.{nodes_of}
use Rattle.tb_rate.specs.RatedRun.{is_inserted, inserted_first, insertions_first}

float-first : (line : ℕ) (f : Float) (vert : Bool) (ns : List PlainNode) (t : Bool) → insertions_first (on_line line (if t then act (acts.Take f) ∷ [] else with_firings (acts.Take f) vert) ++ ns) ≡ 0
float-first line f vert ns true = refl
float-first line f vert ns false = refl

-- the nodes of an item begin with an insertion exactly if it is one, which has no other node
one-item : (p : Params) (two : Bool) (line : ℕ) (k : ItemKind) (ns : List PlainNode) → insertions_first (on_line line (item_kinds p two k) ++ ns) ≡ (if is_inserted k then suc (insertions_first ns) else 0)
one-item p two line (items.Float f vert) ns = float-first line f vert ns (has_second p && two && f.wide)
one-item p two line k ns = refl

feet-items : (p : Params) (two : Bool) (ns : List Item) (end : List PlainNode) → insertions_first end ≡ 0 → insertions_first (item_nodes p two ns ++ end) ≡ inserted_first ns
feet-items p two [] end h = h
feet-items p two (n ∷ ns) end h =
    ap insertions_first (append_assoc (on_line n.line (item_kinds p two n.kind)) (item_nodes (params_after p n.kind) (two_after two n.kind) ns) end)
    ∙ one-item p two n.line n.kind (item_nodes (params_after p n.kind) (two_after two n.kind) ns ++ end)
    ∙ ap (λ m. if is_inserted n.kind then suc m else 0) (feet-items (params_after p n.kind) (two_after two n.kind) ns end h)

-- the insertions that come first among the nodes of items are the items that are insertions and come first
pub feet-are : (l : ItemsLeft) → insertions_first (nodes_of l) ≡ inserted_first l.items.now
feet-are l = feet-items l.params l.two l.items.now (on_line l.galley.now.end_line clearpage_kinds) refl

-- ---- a walk over items

pub feet-more : (ns : List Item) (i : ℕ) (n : Item) (count total : ℕ) → i < length ns → n ≡ get_or ns i n → is_inserted n.kind ≡ true → count + inserted_first (drop i ns) ≡ total → (count + 1) + inserted_first (drop (suc i) ns) ≡ total
feet-more ns i n count total within is foot h =
    let e = ap inserted_first (drop-cons ns i n within ∙ ap (λ m. m ∷ drop (suc i) ns) (sym is)) ∙ ap (λ t. if t then suc (inserted_first (drop (suc i) ns)) else 0) foot in
    omega (arith, e, h)

pub feet-end : (ns : List Item) (i : ℕ) (n : Item) (count total : ℕ) → i < length ns → n ≡ get_or ns i n → is_inserted n.kind ≡ false → count + inserted_first (drop i ns) ≡ total → count ≡ total
feet-end ns i n count total within is other h =
    let e = ap inserted_first (drop-cons ns i n within ∙ ap (λ m. m ∷ drop (suc i) ns) (sym is)) ∙ ap (λ t. if t then suc (inserted_first (drop (suc i) ns)) else 0) other in
    omega (arith, e, h)

pub feet-over : (ns : List Item) (i count total : ℕ) → length ns ≤ i → count + inserted_first (drop i ns) ≡ total → count ≡ total
feet-over ns i count total end h = let e = ap inserted_first (drop_all i ns end) in omega (arith, e, h)
