-- Whether what waits ends in a kern, acts behind it aside.
use Rattle.std.proofs.Common.{◌≡◌, refl, sym, ◌∙◌, ℕ, Bool, true, false, true≢false, List, [], ◌∷◌, map}
use Rattle.tb_node.specs.declared.Kind.{Kind}
use Rattle.tb_node.specs.declared.Kind.TheVariants as kinds
use Rattle.tb_node.specs.declared.Node.{Node}
use Rattle.tb_node.specs.PlainNodes.{PlainNode, plain_of}
use Rattle.tb_items.specs.ItemsLeft.{kern_last}
use Rattle.tb_search.specs.Branches.{kern_after}
use Rattle.tb_search.specs.LastNodes.{is_act_kind, last_but_acts}
use Rattle.tb_search.proofs.LastNodeLemmas.{folded, told_by, IsToldByLast, told-by-last}

-- whether nodes of a store end in a kern, one after another, or this if there are acts alone
abbrev kern_among : Bool → List Node → Bool
kern_among k ns = folded kern_after k ns

kern-by-last : IsToldByLast kern_after
kern-by-last = record {
  acts = λ t k e. act-same t k e;
  others = λ t u k e. other-same t u k e;
}
  where
    act-same : (t : Bool) (k : Kind) → is_act_kind k ≡ true → kern_after t k ≡ t
    act-same t (kinds.Act a) e = refl
    act-same t k e = absurd (true≢false (sym e))

    other-same : (t u : Bool) (k : Kind) → is_act_kind k ≡ false → kern_after t k ≡ kern_after u k
    other-same t u (kinds.Act a) e = absurd (true≢false e)
    other-same t u k e = refl

kern-step : (held : ℕ → List Node) (l : ℕ) (k : Bool) (x : Kind) (ns : List PlainNode) → kern_last (kern_after k x) ns ≡ kern_last k (plain_of held (record { line = l; kind = x }) ∷ ns)
kern-step held l k (kinds.Hbox what h d) ns = refl
kern-step held l k x ns = refl

-- the list as the definitions see it
kern-shown : (held : ℕ → List Node) (k : Bool) (ns : List Node) → kern_among k ns ≡ kern_last k (map (plain_of held) ns)
kern-shown held k [] = refl
kern-shown held k (n ∷ ns) = kern-shown held (kern_after k n.kind) ns ∙ kern-step held n.line k n.kind (map (plain_of held) ns)

-- the last node that is no act tells it
pub kern-last : (held : ℕ → List Node) (ns : List Node) → told_by kern_after false (last_but_acts ns) ≡ kern_last false (map (plain_of held) ns)
kern-last held ns = sym (told-by-last kern_after kern-by-last false ns) ∙ kern-shown held false ns
