-- Nodes are counted, with counts that saturate.
use Rattle.std.proofs.Common.{◌≡◌, refl, sym, subst, ◌∙◌, ap, ℕ, ◌+◌, ◌<◌, Bool, true, false, List, [], ◌∷◌, ◌++◌, length, map, drop, get_or, min, add-one, add_assoc, arith}
use Rattle.std.specs.Prelude.{option_to_list}
use Rattle.std.proofs.Math.Seq.{drop-cons}
use Rattle.std.proofs.lemmas.List.{length-map}
use Rattle.tb_pool.specs.Lists.{Lists, IsLive, list_at}
use Rattle.tb_node.specs.declared.Node.{Node}
use Rattle.tb_node.specs.PlainNodes.{plain_of, leaf_of}
use Rattle.tb_builder.specs.declared.ClassList.{ClassList}
use Rattle.tb_builder.specs.FiredPages.{content_of}
use Rattle.tb_builder.specs.Contents.{kind_count, node_count, content_by, leaf_list, boxed_of, box_count}
use Rattle.tb_builder.specs.Ownership.{AllLive, inner_of, inner_ids, Ids, nodes_of, box_ids, VoidEmpty, IsOwned}
use Rattle.tb_builder.proofs.Ownership.OwnedLemmas.{live-left, live-right, inner-append}

-- two counts that saturate, added to a sum that saturates
pub capped : (a c most : ℕ) → min (min a most + min c most) most ≡ min (a + c) most
capped a c most = grind arith

capped_once : (a c most : ℕ) → min (min a most + c) most ≡ min (a + c) most
capped_once a c most = grind arith

nothing_capped : (most : ℕ) → 0 ≡ min 0 most
nothing_capped most = grind arith

-- ---- the nodes of a list

pub record Counting (s : Lists Node) (most whole : ℕ) (rest : List Node) (total : ℕ) : Type 0 where
  pub so_far : ℕ
  pub whole_is : so_far + node_count (map (plain_of (list_at s)) rest) ≡ whole
  pub total_is : total ≡ min so_far most
  pub live : AllLive s (inner_ids rest)

pub counting_begins : (s : Lists Node) (most : ℕ) (ns : List Node) → AllLive s (inner_ids ns) → Counting s most (node_count (map (plain_of (list_at s)) ns)) ns 0
counting_begins s most ns live = record { so_far = 0; whole_is = omega arith; total_is = nothing_capped most; live = live }

module _ (s : Lists Node) (most whole total : ℕ) (n : Node) (rest : List Node) (h : Counting s most whole (n ∷ rest) total) where
  pub counting_live : AllLive s (option_to_list (inner_of n.kind))
  counting_live = live-left s (option_to_list (inner_of n.kind)) (inner_ids rest) h.live

  pub counting_next : (count now : ℕ) → count ≡ min (kind_count (plain_of (list_at s) n).kind) most → now ≡ min (total + count) most → Counting s most whole rest now
  counting_next count now c e = record {
    so_far = h.so_far + kind_count (plain_of (list_at s) n).kind;
    whole_is = add_assoc h.so_far (kind_count (plain_of (list_at s) n).kind) (node_count (map (plain_of (list_at s)) rest)) ∙ h.whole_is;
    total_is = e ∙ (λ i. min (h.total_is i + c i) most) ∙ capped h.so_far (kind_count (plain_of (list_at s) n).kind) most;
    live = live-right s (option_to_list (inner_of n.kind)) (inner_ids rest) h.live;
  }

pub counting_ends : (s : Lists Node) (most whole total : ℕ) → Counting s most whole [] total → total ≡ min whole most
counting_ends s most whole total h = h.total_is ∙ ap (λ k. min k most) (nothing_more h.so_far ∙ h.whole_is)
  where
    nothing_more : (k : ℕ) → k ≡ k + 0
    nothing_more k = omega arith

-- ---- the nodes of class boxes

pub record Boxing (s : Lists Node) (most whole : ℕ) (rest : List ClassList) (total : ℕ) : Type 0 where
  pub so_far : ℕ
  pub whole_is : so_far + box_count (map (boxed_of s) rest) ≡ whole
  pub total_is : total ≡ min so_far most
  pub live : AllLive s (box_ids rest)
  pub void : VoidEmpty s rest

pub boxing_begins : (s : Lists Node) (most : ℕ) (es : List ClassList) → AllLive s (box_ids es) → VoidEmpty s es → Boxing s most (box_count (map (boxed_of s) es)) es 0
boxing_begins s most es live void = record { so_far = 0; whole_is = omega arith; total_is = nothing_capped most; live = live; void = void }

-- a void box holds nothing
box_length : (s : Lists Node) (e : ClassList) → (e.void ≡ true → list_at s e.list ≡ []) → length (list_at s e.list) ≡ length (content_of (boxed_of s e).content)
box_length s e h = by_void e.void h
  where
    by_void : (v : Bool) → (v ≡ true → list_at s e.list ≡ []) → length (list_at s e.list) ≡ length (content_of (content_by v (leaf_list s e.list)))
    by_void true h = ap length (h refl)
    by_void false h = sym (length-map (list_at s e.list) leaf_of)

module _ (s : Lists Node) (most whole total : ℕ) (es : List ClassList) (k : ℕ) (d : ClassList) (within : k < length es) (h : Boxing s most whole (drop k es) total) where
  here : drop k es ≡ get_or es k d ∷ drop (k + 1) es
  here = drop-cons es k d within ∙ ap (λ j. get_or es k d ∷ drop j es) (sym (add-one k))

  boxing : Boxing s most whole (get_or es k d ∷ drop (k + 1) es) total
  boxing = subst (λ rest. Boxing s most whole rest total) here h

  pub boxing_live : IsLive s (get_or es k d).list
  boxing_live = boxing.live.0

  pub boxing_next : (now : ℕ) → now ≡ min (total + length (list_at s (get_or es k d).list)) most → Boxing s most whole (drop (k + 1) es) now
  boxing_next now e =
      let count = length (content_of (boxed_of s (get_or es k d)).content) in
      record {
        so_far = boxing.so_far + count;
        whole_is = add_assoc boxing.so_far count (box_count (map (boxed_of s) (drop (k + 1) es))) ∙ boxing.whole_is;
        total_is = e ∙ (λ i. min (boxing.total_is i + box_length s (get_or es k d) boxing.void.0 i) most) ∙ capped_once boxing.so_far count most;
        live = boxing.live.1;
        void = boxing.void.1;
      }

pub boxing_ends : (s : Lists Node) (most whole total : ℕ) → Boxing s most whole [] total → total ≡ min whole most
boxing_ends s most whole total h = h.total_is ∙ ap (λ k. min k most) (nothing_more h.so_far ∙ h.whole_is)
  where
    nothing_more : (k : ℕ) → k ≡ k + 0
    nothing_more k = omega arith

-- ---- a builder's lists

pub boxes_live : (b : Ids) (s : Lists Node) → IsOwned b s → AllLive s (box_ids b.boxes)
boxes_live b s own = live-left s (box_ids b.boxes) (inner_ids (nodes_of b s)) own.live.1.1.1.1

pub waiting_live : (b : Ids) (s : Lists Node) → IsOwned b s → AllLive s (inner_ids (list_at s b.waiting))
waiting_live b s own =
    live-right s (inner_ids (list_at s b.page)) (inner_ids (list_at s b.waiting))
    (subst (AllLive s) (inner-append (list_at s b.page) (list_at s b.waiting))
    (live-right s (inner_ids (list_at s b.held)) (inner_ids (list_at s b.page ++ list_at s b.waiting))
    (subst (AllLive s) (inner-append (list_at s b.held) (list_at s b.page ++ list_at s b.waiting)) (live-right s (box_ids b.boxes) (inner_ids (nodes_of b s)) own.live.1.1.1.1))))
