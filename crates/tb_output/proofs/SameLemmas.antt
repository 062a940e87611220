-- Held pages that show the same in two stores.
use Rattle.std.proofs.Common.{◌≡◌, refl, ℕ, List, [], ◌∷◌, map, ap, sym, ◌∙◌}
use Rattle.tb_pool.specs.Lists.{Lists, list_at}
use Rattle.tb_node.specs.declared.Node.{Node}
use Rattle.tb_node.specs.PlainNodes.{Matter, whatsit, Leaf, PlainKind, plain, ins, act, PlainNode, plain_list, leaf_of, leaf_node}
use Rattle.tb_builder.proofs.SameLemmas.{same_leaves}
use Rattle.tb_column.specs.Page.{IsPageList}
use Rattle.tb_column.proofs.ShownLemmas.{leaves-held}
use Rattle.tb_output.proofs.Firings.FiringLemmas.{leaves-plain}

-- lists of a page that hold the same nodes show the same
pub same_pages : (s t : Lists Node) (l k : ℕ) → IsPageList s l → IsPageList t k → list_at s l ≡ list_at t k → plain_list s l ≡ plain_list t k
same_pages s t l k mine others e =
    leaves-held (list_at s) (list_at s l) mine.leaves
    ∙ ap (λ ns. map leaf_node (map leaf_of ns)) e
    ∙ sym (leaves-held (list_at t) (list_at t k) others.leaves)

-- the matter of a node; an insertion or an act has none
abbrev matter_shown : PlainKind → Matter
matter_shown (plain m) = m
matter_shown (ins i) = whatsit
matter_shown (act a) = whatsit

-- the leaf that is shown as this node, for a node of matter
abbrev leaf_again : PlainNode → Leaf
leaf_again n = record { line = n.line; matter = matter_shown n.kind }

leaves_again : (ls : List Leaf) → map leaf_again (map leaf_node ls) ≡ ls
leaves_again [] = refl
leaves_again (l ∷ ls) = ap (λ xs. l ∷ xs) (leaves_again ls)

-- lists of a page that show the same hold the same nodes
pub told_pages : (s t : Lists Node) (l k : ℕ) → IsPageList s l → IsPageList t k → plain_list s l ≡ plain_list t k → list_at s l ≡ list_at t k
told_pages s t l k mine others e =
    let ns = list_at s l in
    let ms = list_at t k in
    let nodes : map leaf_node (map leaf_of ns) ≡ map leaf_node (map leaf_of ms) = sym (leaves-held (list_at s) ns mine.leaves) ∙ e ∙ leaves-held (list_at t) ms others.leaves in
    same_leaves ns ms (leaves-plain ns mine.leaves) (leaves-plain ms others.leaves)
    (sym (leaves_again (map leaf_of ns)) ∙ ap (map leaf_again) nodes ∙ leaves_again (map leaf_of ms))
