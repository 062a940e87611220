-- The nodes of a galley's items: handed over one by one, and what is known of them.
use Rattle.std.proofs.Common.{◌≡◌, refl, sym, subst, ◌∙◌, ap, ℕ, ◌+◌, ◌<◌, Bool, false, List, [], ◌∷◌, ◌++◌, length, take, get_or, append_assoc, append-nil}
use Rattle.std.proofs.lemmas.List.{take_more}
use Rattle.tb_pool.specs.Lists.{Lists}
use Rattle.tb_node.specs.declared.Node.{Node}
use Rattle.tb_node.specs.PlainNodes.{on_line, clearpage_kinds}
use Rattle.tb_param.specs.declared.Params.{Params}
use Rattle.tb_builder.specs.declared.Builder.{Builder}
use Rattle.tb_galley.specs.declared.Item.{Item}
use Rattle.tb_galley.specs.declared.Galley.{Galley}
use Rattle.tb_galley.specs.GalleyNodes.{item_kinds, item_nodes, two_after, two_past, params_after, params_past, expanded}
use Rattle.tb_items.specs.WaitingNodes.{Waits}
use Rattle.tb_items.proofs.WaitsLemmas.{waits-then}

pub item_nodes-append : (p : Params) (two : Bool) (xs ys : List Item) → item_nodes p two (xs ++ ys) ≡ item_nodes p two xs ++ item_nodes (params_past p xs) (two_past two xs) ys
item_nodes-append p two [] ys = refl
item_nodes-append p two (x ∷ xs) ys =
    ap (λ ns. on_line x.line (item_kinds p two x.kind) ++ ns) (item_nodes-append (params_after p x.kind) (two_after two x.kind) xs ys)
    ∙ sym (append_assoc (on_line x.line (item_kinds p two x.kind)) (item_nodes (params_after p x.kind) (two_after two x.kind) xs) (item_nodes (params_past p (x ∷ xs)) (two_past two (x ∷ xs)) ys))

two_past-append : (two : Bool) (xs ys : List Item) → two_past two (xs ++ ys) ≡ two_past (two_past two xs) ys
two_past-append two [] ys = refl
two_past-append two (x ∷ xs) ys = two_past-append (two_after two x.kind) xs ys

params_past-append : (p : Params) (xs ys : List Item) → params_past p (xs ++ ys) ≡ params_past (params_past p xs) ys
params_past-append p [] ys = refl
params_past-append p (x ∷ xs) ys = params_past-append (params_after p x.kind) xs ys

-- one item further
module _ (p : Params) (two : Bool) (ns : List Item) (i : ℕ) (x : Item) (within : i < length ns) (is : x ≡ get_or ns i x) where
  taken : take (i + 1) ns ≡ take i ns ++ x ∷ []
  taken = take_more ns i x within ∙ ap (λ y. take i ns ++ y ∷ []) (sym is)

  -- the columns after it
  pub columns-more : (now : Bool) → now ≡ two_past two (take i ns) → two_after now x.kind ≡ two_past two (take (i + 1) ns)
  columns-more now e = ap (λ t. two_after t x.kind) e ∙ sym (ap (two_past two) taken ∙ two_past-append two (take i ns) (x ∷ []))

  -- the parameters after it
  pub params-more : (now : Params) → now ≡ params_past p (take i ns) → params_after now x.kind ≡ params_past p (take (i + 1) ns)
  params-more now e = ap (λ q. params_after q x.kind) e ∙ sym (ap (params_past p) taken ∙ params_past-append p (take i ns) (x ∷ []))

  -- its nodes wait too
  pub item-more : (now : Bool) → now ≡ two_past two (take i ns) → (q : Params) → q ≡ params_past p (take i ns) → (b : Builder) (s : Lists Node) (d : Builder) (t : Lists Node) (e : Builder) (u : Lists Node)
      → Waits (item_nodes p two (take i ns)) b s d t → Waits (on_line x.line (item_kinds q now x.kind)) d t e u → Waits (item_nodes p two (take (i + 1) ns)) b s e u
  item-more now is-now q is-q b s d t e u so_far put =
      subst (λ ms. Waits ms b s e u)
      ((λ j. item_nodes p two (take i ns) ++ on_line x.line (item_kinds (is-q j) (is-now j) x.kind))
      ∙ ap (λ ms. item_nodes p two (take i ns) ++ ms) (sym (append-nil (on_line x.line (item_kinds (params_past p (take i ns)) (two_past two (take i ns)) x.kind))))
      ∙ sym (ap (item_nodes p two) taken ∙ item_nodes-append p two (take i ns) (x ∷ [])))
      (waits-then (item_nodes p two (take i ns)) (on_line x.line (item_kinds q now x.kind)) b s d t e u so_far put)

pub expanded-is : (g : Galley) → item_nodes g.params false g.items ++ on_line g.end_line clearpage_kinds ≡ expanded g
unfolding expanded
expanded-is g = refl
