-- Plain pages in code: lists of plain nodes, and the boxes of a state.
use Rattle.std.proofs.Common.{◌≡◌, refl, sym, ◌∙◌, ap, ℕ, Bool, ◌&&◌, List, [], ◌∷◌, map, Option, None, Some, true, true≢false}
use Rattle.std.specs.Prelude.{is_some, IfSome}
use Rattle.std.specs.List.{list_all}
use Rattle.tb_node.specs.declared.Kind.{Kind}
use Rattle.tb_node.specs.declared.Kind.TheVariants as kinds
use Rattle.tb_node.specs.declared.Node.{Node}
use Rattle.tb_node.specs.PlainNodes.{Leaf, plain_of}
use Rattle.tb_builder.specs.Contents.{Contents, boxed_of}
use Rattle.tb_insert.specs.declared.Class.{Class}
use Rattle.tb_output.specs.State.{void_boxes}
use Rattle.tb_output.specs.Columns.{emptied_boxes}
use Rattle.tb_best.specs.PlainPages.{is_plain, all_plain}
use Rattle.tb_search.specs.declared.branch.Branch.{Branch}
use Rattle.tb_search.specs.Branches.{shown, IsBranch}
use Rattle.tb_search.specs.Told.{is_plain_kind}

-- what holds of something, if there is one, and there is
pub of-some : (P : ℕ → Type 0) (o : Option ℕ) → IfSome o P → is_some o ≡ true → (k : ℕ) × P k
of-some P (Some k) h some = (k, h)
of-some P None h some = absurd (true≢false (sym some))

-- ---- plain nodes

-- all of these nodes of a store are
abbrev pub are_plain_nodes : List Node → Bool
are_plain_nodes ns = list_all (λ n. is_plain_kind n.kind) ns

plain-same-kind : (held : ℕ → List Node) (l : ℕ) (k : Kind) → is_plain_kind k ≡ is_plain (plain_of held (record { line = l; kind = k })).kind
plain-same-kind held l (kinds.Hbox what h d) = refl
plain-same-kind held l k = refl

pub plain-shown : (held : ℕ → List Node) (ns : List Node) → are_plain_nodes ns ≡ all_plain (map (plain_of held) ns)
plain-shown held [] = refl
plain-shown held (n ∷ ns) = λ i. plain-same-kind held n.line n.kind i && plain-shown held ns i

-- ---- the boxes of a state

emptied-void : {X : Type 0} (es : List X) (class : X → Class) (content : X → Option (List Leaf)) → emptied_boxes (map (λ e. record { number = (class e).number; content = content e }) es) ≡ void_boxes (map class es)
emptied-void [] class content = refl
emptied-void (e ∷ es) class content = ap (λ bs. record { number = (class e).number; content = None } ∷ bs) (emptied-void es class content)

-- emptied, they are void boxes of its classes
pub shown-void : (b : Branch) → IsBranch b → emptied_boxes (shown b).boxes ≡ void_boxes (shown b).classes
shown-void b h =
    emptied-void b.routine.value.builder.boxes (λ e. e.class) (λ e. (boxed_of b.routine.value.store e).content) ∙ ap (λ (c : Contents). void_boxes c.classes) h.ready.settled.between
