-- Two builders that hold the same, each in its store.
use Rattle.std.proofs.Common.{◌≡◌, ◌∙◌, refl, sym, ap, subst, ℕ, suc, ◌+◌, ◌<◌, Bool, true, false, List, [], ◌∷◌, ◌++◌, length, map, drop, get_or, add-one, arith}
use Rattle.std.specs.Prelude.{option_to_list, is_none, not}
use Rattle.std.specs.Bool.{beq}
use Rattle.std.proofs.Math.Seq.{drop-cons}
use Rattle.std.proofs.lemmas.List.{length-map}
use Rattle.tb_pool.specs.Lists.{Lists, list_at}
use Rattle.tb_node.specs.declared.Insertion.{Insertion}
use Rattle.tb_node.specs.declared.Kind.{Kind}
use Rattle.tb_node.specs.declared.Kind.TheVariants as kinds
use Rattle.tb_node.specs.declared.Node.{Node}
use Rattle.tb_node.specs.PlainNodes.{Matter, hbox, rule, skip, kerned, pen, mark, note, whatsit, plain, ins, act, matter_of, PlainKind, PlainNode, plain_kind, plain_of, Leaf, leaf_of, inserted_of}
use Rattle.tb_node.proofs.StepLemmas.{InStep, walk_begins, walk_goes, walk_parts}
use Rattle.tb_builder.specs.declared.ClassList.{ClassList}
use Rattle.tb_builder.specs.FiredPages.{content_of}
use Rattle.tb_builder.specs.Contents.{leaf_list, content_by, boxed_of}
use Rattle.tb_builder.specs.Ownership.{AllPlain, HoldPlain, VoidEmpty, is_plain, AllLive, inner_of, inner_ids, box_ids, Ids, nodes_of, IsOwned}
use Rattle.tb_builder.proofs.Ownership.OwnedLemmas.{live-left, live-right, plain-left, plain-right, inner-append}

-- ---- the material of insertions

-- the kind of a node that shows this matter
abbrev matter_back : Matter → Kind
matter_back (hbox what h d) = kinds.Hbox what h d
matter_back (rule name h d) = kinds.Rule name h d
matter_back (skip g) = kinds.Skip g
matter_back (kerned w) = kinds.Kern w
matter_back (pen p) = kinds.Pen p
matter_back (mark name) = kinds.Mark name
matter_back (note name) = kinds.Note name
matter_back whatsit = kinds.Whatsit

-- the node that shows this leaf
abbrev leaf_back : Leaf → Node
leaf_back l = record { line = l.line; kind = matter_back l.matter }

matter_again : (k : Kind) → is_plain k ≡ true → matter_back (matter_of k) ≡ k
matter_again (kinds.Ins i) h = cc
matter_again (kinds.Act a) h = cc
matter_again k h = refl

leaves_again : (ns : List Node) → AllPlain ns → map leaf_back (map leaf_of ns) ≡ ns
leaves_again [] h = refl
leaves_again (n ∷ ns) h = λ i. record { line = n.line; kind = matter_again n.kind h.0 i } ∷ leaves_again ns h.1 i

-- nodes that are neither insertions nor acts are the same if they show the same
pub same_leaves : (ns ms : List Node) → AllPlain ns → AllPlain ms → map leaf_of ns ≡ map leaf_of ms → ns ≡ ms
same_leaves ns ms p q e = sym (leaves_again ns p) ∙ ap (map leaf_back) e ∙ leaves_again ms q

-- what an insertion shows, or nothing like it
abbrev inner_shown : PlainKind → List Leaf
inner_shown (plain m) = []
inner_shown (ins i) = i.inner
inner_shown (act a) = []

module _ (s t : Lists Node) (n m : Node) (i j : Insertion) (n_is : n.kind ≡ kinds.Ins i) (m_is : m.kind ≡ kinds.Ins j) where
  inserted : i ≡ record j { list = i.list } → list_at s i.list ≡ list_at t j.list → inserted_of (list_at s) i ≡ inserted_of (list_at t) j
  inserted e lists = λ k. record {
    class = (e k).class;
    inner = map leaf_of (lists k);
    height = (e k).height;
    split_depth = (e k).split_depth;
    split_top = (e k).split_top;
    floating = (e k).floating;
  }

  -- two insertions show the same if they are the same but for the ids of their lists, which hold the same nodes
  pub same_inserted : n.line ≡ m.line → i ≡ record j { list = i.list } → list_at s i.list ≡ list_at t j.list → plain_of (list_at s) n ≡ plain_of (list_at t) m
  same_inserted line e lists = λ k. record {
    line = line k;
    kind = (ap (plain_kind (list_at s)) n_is ∙ ap ins (inserted e lists) ∙ sym (ap (plain_kind (list_at t)) m_is)) k;
  }

  -- the lists of two insertions that show the same hold the same nodes
  pub same_material : HoldPlain s (option_to_list (inner_of n.kind)) → HoldPlain t (option_to_list (inner_of m.kind)) → plain_of (list_at s) n ≡ plain_of (list_at t) m → list_at s i.list ≡ list_at t j.list
  same_material p q e =
      same_leaves (list_at s i.list) (list_at t j.list)
      (subst (λ (k : Kind). HoldPlain s (option_to_list (inner_of k))) n_is p).0
      (subst (λ (k : Kind). HoldPlain t (option_to_list (inner_of k))) m_is q).0
      (ap inner_shown (sym (ap (plain_kind (list_at s)) n_is) ∙ ap (λ (x : PlainNode). x.kind) e ∙ ap (plain_kind (list_at t)) m_is))

-- ---- the nodes that wait

-- two lists of nodes that are walked in step: they show the same exactly if what is left of them does; the lists of what is left are live, and
-- hold neither insertions nor acts
pub record Walking (s t : Lists Node) (ns ms rest others : List Node) : Type 0 where
  pub in_step : InStep (map (plain_of (list_at s)) ns) (map (plain_of (list_at t)) ms) (map (plain_of (list_at s)) rest) (map (plain_of (list_at t)) others)
  pub even : length rest ≡ length others
  pub live : AllLive s (inner_ids rest)
  pub other_live : AllLive t (inner_ids others)
  pub plain_lists : HoldPlain s (inner_ids rest)
  pub other_plain : HoldPlain t (inner_ids others)

pub walking_begins : (s t : Lists Node) (ns ms : List Node) → length ns ≡ length ms → AllLive s (inner_ids ns) → AllLive t (inner_ids ms) → HoldPlain s (inner_ids ns) → HoldPlain t (inner_ids ms) → Walking s t ns ms ns ms
walking_begins s t ns ms even live other_live plain_lists other_plain = record {
  in_step = walk_begins _ _ _ _ refl refl;
  even = even;
  live = live;
  other_live = other_live;
  plain_lists = plain_lists;
  other_plain = other_plain;
}

-- lists of nodes that show the same are as long
pub same_length : (s t : Lists Node) (ns ms : List Node) → map (plain_of (list_at s)) ns ≡ map (plain_of (list_at t)) ms → length ns ≡ length ms
same_length s t ns ms e = sym (length-map ns (plain_of (list_at s))) ∙ ap length e ∙ length-map ms (plain_of (list_at t))

-- the walk at what is left
pub walking_at : (s t : Lists Node) (ns ms rest others left others_left : List Node) → rest ≡ left → others ≡ others_left → Walking s t ns ms rest others → Walking s t ns ms left others_left
walking_at s t ns ms rest others left others_left r o h = subst (λ (zs : List Node). Walking s t ns ms left zs) o (subst (λ (zs : List Node). Walking s t ns ms zs others) r h)

module _ (s t : Lists Node) (ns ms : List Node) (n m : Node) (rest others : List Node) (h : Walking s t ns ms (n ∷ rest) (m ∷ others)) where
  pub walking_live : AllLive s (option_to_list (inner_of n.kind))
  walking_live = live-left s (option_to_list (inner_of n.kind)) (inner_ids rest) h.live

  pub walking_live_too : AllLive t (option_to_list (inner_of m.kind))
  walking_live_too = live-left t (option_to_list (inner_of m.kind)) (inner_ids others) h.other_live

  pub walking_plain : HoldPlain s (option_to_list (inner_of n.kind))
  walking_plain = plain-left s (option_to_list (inner_of n.kind)) (inner_ids rest) h.plain_lists

  pub walking_plain_too : HoldPlain t (option_to_list (inner_of m.kind))
  walking_plain_too = plain-left t (option_to_list (inner_of m.kind)) (inner_ids others) h.other_plain

  pub walking_next : plain_of (list_at s) n ≡ plain_of (list_at t) m → Walking s t ns ms rest others
  walking_next same = record {
    in_step = walk_goes _ _ _ _ _ _ _ _ refl refl same h.in_step;
    even = omega (arith, h.even);
    live = live-right s (option_to_list (inner_of n.kind)) (inner_ids rest) h.live;
    other_live = live-right t (option_to_list (inner_of m.kind)) (inner_ids others) h.other_live;
    plain_lists = plain-right s (option_to_list (inner_of n.kind)) (inner_ids rest) h.plain_lists;
    other_plain = plain-right t (option_to_list (inner_of m.kind)) (inner_ids others) h.other_plain;
  }

  -- the lists do not show the same if these nodes do not
  pub walking_parts : (plain_of (list_at s) n ≡ plain_of (list_at t) m → ⊥) → map (plain_of (list_at s)) ns ≡ map (plain_of (list_at t)) ms → ⊥
  walking_parts differ = walk_parts _ _ _ _ _ _ _ _ refl refl differ h.in_step

pub walking_ends : (s t : Lists Node) (ns ms others : List Node) → Walking s t ns ms [] others → map (plain_of (list_at s)) ns ≡ map (plain_of (list_at t)) ms
walking_ends s t ns ms [] h = h.in_step.0 refl
walking_ends s t ns ms (m ∷ others) h = let e : 0 ≡ suc (length others) = h.even in absurd (omega arith)

-- ---- the class boxes

-- two boxes show the same number and content
pub same_boxed : (s t : Lists Node) (e d : ClassList) → e.class.number ≡ d.class.number → e.void ≡ d.void → list_at s e.list ≡ list_at t d.list → boxed_of s e ≡ boxed_of t d
same_boxed s t e d number void lists = λ i. record { number = number i; content = content_by (void i) (map leaf_of (lists i)) }

-- two flags that are not found to differ
pub same_flags : (v w : Bool) → not (beq v w) ≡ false → v ≡ w
same_flags true true h = refl
same_flags false false h = refl
same_flags true false h = cc
same_flags false true h = cc

void_again : (v : Bool) (ls : List Leaf) → is_none (content_by v ls) ≡ v
void_again true ls = refl
void_again false ls = refl

-- boxes that show the same are void together
pub void_together : (s t : Lists Node) (e d : ClassList) → boxed_of s e ≡ boxed_of t d → e.void ≡ d.void
void_together s t e d same = sym (void_again e.void (leaf_list s e.list)) ∙ ap (λ b. is_none b.content) same ∙ void_again d.void (leaf_list t d.list)

-- the lists of boxes that show the same hold the same nodes
pub same_content : (s t : Lists Node) (e d : ClassList) → (e.void ≡ true → list_at s e.list ≡ []) → (d.void ≡ true → list_at t d.list ≡ []) → AllPlain (list_at s e.list) → AllPlain (list_at t d.list)
    → boxed_of s e ≡ boxed_of t d → list_at s e.list ≡ list_at t d.list
same_content s t e d void void_too p q same = by_void e.void d.void refl refl (void_together s t e d same) (ap (λ b. b.content) same)
  where
    by_void : (v w : Bool) → e.void ≡ v → d.void ≡ w → v ≡ w → content_by v (leaf_list s e.list) ≡ content_by w (leaf_list t d.list) → list_at s e.list ≡ list_at t d.list
    by_void true true ve we vw c = void ve ∙ sym (void_too we)
    by_void false false ve we vw c = same_leaves (list_at s e.list) (list_at t d.list) p q (ap content_of c)
    by_void true false ve we vw c = cc
    by_void false true ve we vw c = cc

-- two lists of boxes that are walked in step show the same exactly if what is left of them does
pub record Passing (s t : Lists Node) (es ds rest others : List ClassList) : Type 0 where
  pub in_step : InStep (map (boxed_of s) es) (map (boxed_of t) ds) (map (boxed_of s) rest) (map (boxed_of t) others)
  pub live : AllLive s (box_ids rest)
  pub other_live : AllLive t (box_ids others)
  pub void : VoidEmpty s rest
  pub other_void : VoidEmpty t others
  pub plain_lists : HoldPlain s (box_ids rest)
  pub other_plain : HoldPlain t (box_ids others)

pub passing_begins : (s t : Lists Node) (es ds : List ClassList) → AllLive s (box_ids es) → AllLive t (box_ids ds) → VoidEmpty s es → VoidEmpty t ds → HoldPlain s (box_ids es) → HoldPlain t (box_ids ds) → Passing s t es ds es ds
passing_begins s t es ds live other_live void other_void plain_lists other_plain = record {
  in_step = walk_begins _ _ _ _ refl refl;
  live = live;
  other_live = other_live;
  void = void;
  other_void = other_void;
  plain_lists = plain_lists;
  other_plain = other_plain;
}

module _ (s t : Lists Node) (es ds : List ClassList) (k : ℕ) (x : ClassList) (within : k < length es) (within_too : k < length ds) (h : Passing s t es ds (drop k es) (drop k ds)) where
  next_is : (cs : List ClassList) → k < length cs → drop k cs ≡ get_or cs k x ∷ drop (k + 1) cs
  next_is cs lt = drop-cons cs k x lt ∙ ap (λ j. get_or cs k x ∷ drop j cs) (sym (add-one k))

  pub passing : Passing s t es ds (get_or es k x ∷ drop (k + 1) es) (get_or ds k x ∷ drop (k + 1) ds)
  passing = subst (λ others. Passing s t es ds (get_or es k x ∷ drop (k + 1) es) others) (next_is ds within_too)
      (subst (λ rest. Passing s t es ds rest (drop k ds)) (next_is es within) h)

  pub passing_next : boxed_of s (get_or es k x) ≡ boxed_of t (get_or ds k x) → Passing s t es ds (drop (k + 1) es) (drop (k + 1) ds)
  passing_next same = record {
    in_step = walk_goes _ _ _ _ _ _ _ _ refl refl same passing.in_step;
    live = passing.live.1;
    other_live = passing.other_live.1;
    void = passing.void.1;
    other_void = passing.other_void.1;
    plain_lists = passing.plain_lists.1;
    other_plain = passing.other_plain.1;
  }

  -- the lists do not show the same if these boxes do not
  pub passing_parts : (boxed_of s (get_or es k x) ≡ boxed_of t (get_or ds k x) → ⊥) → map (boxed_of s) es ≡ map (boxed_of t) ds → ⊥
  passing_parts differ = walk_parts _ _ _ _ _ _ _ _ refl refl differ passing.in_step

pub passing_ends : (s t : Lists Node) (es ds rest others : List ClassList) → rest ≡ [] → others ≡ [] → Passing s t es ds rest others → map (boxed_of s) es ≡ map (boxed_of t) ds
passing_ends s t es ds rest others r o h = h.in_step.0 (ap (map (boxed_of s)) r ∙ ap (map (boxed_of t)) (sym o))

-- lists of boxes that show the same are as long
pub same_box_count : (s t : Lists Node) (es ds : List ClassList) → map (boxed_of s) es ≡ map (boxed_of t) ds → length es ≡ length ds
same_box_count s t es ds e = sym (length-map es (boxed_of s)) ∙ ap length e ∙ length-map ds (boxed_of t)

-- ---- a builder's lists

pub boxes_plain : (b : Ids) (s : Lists Node) → IsOwned b s → HoldPlain s (box_ids b.boxes)
boxes_plain b s own = plain-left s (box_ids b.boxes) (inner_ids (nodes_of b s)) own.plain_lists

pub waiting_plain : (b : Ids) (s : Lists Node) → IsOwned b s → HoldPlain s (inner_ids (list_at s b.waiting))
waiting_plain b s own =
    plain-right s (inner_ids (list_at s b.page)) (inner_ids (list_at s b.waiting))
    (subst (HoldPlain s) (inner-append (list_at s b.page) (list_at s b.waiting))
    (plain-right s (inner_ids (list_at s b.held)) (inner_ids (list_at s b.page ++ list_at s b.waiting))
    (subst (HoldPlain s) (inner-append (list_at s b.held) (list_at s b.page ++ list_at s b.waiting)) (plain-right s (box_ids b.boxes) (inner_ids (nodes_of b s)) own.plain_lists))))
