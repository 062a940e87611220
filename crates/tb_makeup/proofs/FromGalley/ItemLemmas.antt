-- The nodes of a galley's items under the page makeup, handed over one by one.
use Rattle.std.proofs.Common.{◌≡◌, ◌≢◌, refl, sym, subst, ◌∙◌, ap, ℕ, ◌+◌, ◌<◌, ◌≤◌, Bool, false, List, [], ◌∷◌, ◌++◌, length, take, drop, get_or, append_assoc, append-nil, arith}
use Rattle.std.proofs.lemmas.List.{take_more, drop_all}
use Rattle.tb_pool.specs.Lists.{Lists}
use Rattle.tb_node.specs.declared.Float.{Float}
use Rattle.tb_node.specs.declared.Node.{Node}
use Rattle.tb_node.specs.PlainNodes.{on_line}
use Rattle.tb_param.specs.declared.Params.{Params}
use Rattle.tb_builder.specs.declared.Builder.{Builder}
use Rattle.tb_galley.specs.declared.Item.{Item}
use Rattle.tb_galley.specs.declared.ItemKind.{ItemKind}
use Rattle.tb_galley.specs.declared.ItemKind.TheVariants as items
use Rattle.tb_galley.specs.declared.Galley.{Galley}
use Rattle.tb_galley.specs.GalleyNodes.{item_kinds}
use Rattle.tb_items.specs.WaitingNodes.{Waits}
use Rattle.tb_items.proofs.WaitsLemmas.{waits-then}
use Rattle.tb_plain.specs.GalleyNodes.{clearing_kinds, makeup_kinds, makeup_nodes, made_up}
use Rattle.tb_plain.specs.Run.{act_count}
use Rattle.tb_plain.proofs.StepLemmas.{acts-append}

-- an item that is no float and no clear has the nodes that it has in the output routine
pub kinds-same : (p : Params) (k : ItemKind) → ((f : Float) (vert : Bool) → k ≢ items.Float f vert) → k ≢ items.ClearPage → item_kinds p false k ≡ makeup_kinds p k
kinds-same p (items.Float f vert) float clear = absurd (float f vert refl)
kinds-same p items.ClearPage float clear = absurd (clear refl)
kinds-same p k float clear = refl

pub makeup_nodes-append : (p : Params) (xs ys : List Item) → makeup_nodes p (xs ++ ys) ≡ makeup_nodes p xs ++ makeup_nodes p ys
makeup_nodes-append p [] ys = refl
makeup_nodes-append p (x ∷ xs) ys =
    ap (λ ns. on_line x.line (makeup_kinds p x.kind) ++ ns) (makeup_nodes-append p xs ys)
    ∙ sym (append_assoc (on_line x.line (makeup_kinds p x.kind)) (makeup_nodes p xs) (makeup_nodes p ys))

-- one item further, its nodes wait too
pub item-more : (p : Params) (ns : List Item) (i : ℕ) (x : Item) → i < length ns → x ≡ get_or ns i x → (b : Builder) (s : Lists Node) (d : Builder) (t : Lists Node) (e : Builder) (u : Lists Node)
    → Waits (makeup_nodes p (take i ns)) b s d t → Waits (on_line x.line (makeup_kinds p x.kind)) d t e u → Waits (makeup_nodes p (take (i + 1) ns)) b s e u
item-more p ns i x within is b s d t e u so_far put =
    let taken = take_more ns i x within ∙ ap (λ y. take i ns ++ y ∷ []) (sym is) in
    subst (λ ms. Waits ms b s e u)
    (ap (λ ms. makeup_nodes p (take i ns) ++ ms) (sym (append-nil (on_line x.line (makeup_kinds p x.kind))))
    ∙ sym (ap (makeup_nodes p) taken ∙ makeup_nodes-append p (take i ns) (x ∷ [])))
    (waits-then (makeup_nodes p (take i ns)) (on_line x.line (makeup_kinds p x.kind)) b s d t e u so_far put)

pub made_up-is : (g : Galley) → makeup_nodes g.params g.items ++ on_line g.end_line clearing_kinds ≡ made_up g
unfolding made_up
made_up-is g = refl

-- the acts of all items were counted, and a clear has none
pub acts-made : (g : Galley) (is : List Item) (n i : ℕ) → is ≡ g.items → n + act_count (makeup_nodes g.params (drop i is)) ≡ act_count (makeup_nodes g.params g.items) → length is ≤ i → n ≡ act_count (made_up g)
acts-made g is n i same sum end =
    let e = ap (λ ns. act_count (makeup_nodes g.params ns)) (drop_all i is end) in
    let a = acts-append (makeup_nodes g.params g.items) (on_line g.end_line clearing_kinds) in
    let m = ap act_count (made_up-is g) in
    omega (arith, sum, e, a, m)
