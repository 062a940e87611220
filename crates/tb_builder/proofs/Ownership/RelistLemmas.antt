-- The lists of a builder, when other lists changed, or when its nodes went from one of its lists to another.
use Rattle.std.proofs.Common.{◌≡◌, ◌≢◌, sym, subst, ◌∙◌, ap, ℕ, List, [], ◌∷◌, ◌++◌, map, Some}
use Rattle.std.specs.FinMap.{get}
use Rattle.tb_pool.specs.Lists.{Lists, list_at}
use Rattle.tb_node.specs.declared.Node.{Node}
use Rattle.tb_node.specs.PlainNodes.{plain_of, plain_list}
use Rattle.tb_builder.specs.Ownership.{Lacks, AllDiffer, AllLive, inner_ids, Ids, nodes_of, box_ids, own_ids, owned, HoldPlain, AllKnown, classes_of, IsOwned}
use Rattle.tb_builder.specs.Contents.{boxed_of}
use Rattle.tb_builder.proofs.Ownership.OwnedLemmas.{Apart, AllSame, same_from, lists_same, live_same, plain_same, void_same, boxes_same, view_same, inner-append, same-left, same-right}
use Rattle.tb_builder.proofs.Ownership.StoreMoves.{list_got, live_got}

-- ---- other lists changed

module _ (b : Ids) (s t : Lists Node) (own : IsOwned b s) (same : AllSame s t (owned b s)) where
  others_same : AllSame s t (box_ids b.boxes ++ inner_ids (nodes_of b s))
  others_same = same.1.1.1.1

  frame_nodes : nodes_of b t ≡ nodes_of b s
  frame_nodes = (λ i. lists_same s t b.held same.1.1.0 i ++ (lists_same s t b.page same.0 i ++ lists_same s t b.waiting same.1.0 i))

  pub frame_owned : owned b t ≡ owned b s
  frame_owned = ap (λ ns. own_ids b ++ inner_ids ns) frame_nodes

  pub frame_own : IsOwned b t
  frame_own = record {
    live = subst (AllLive t) (sym frame_owned) (live_same s t (owned b s) same own.live);
    differ = subst AllDiffer (sym frame_owned) own.differ;
    between = lists_same s t b.rest same.1.1.1.0 ∙ own.between;
    void_empty = void_same s t b.boxes (same-left s t (box_ids b.boxes) (inner_ids (nodes_of b s)) others_same) own.void_empty;
    plain_lists = subst (λ ns. HoldPlain t (box_ids b.boxes ++ inner_ids ns)) (sym frame_nodes) (plain_same s t (box_ids b.boxes ++ inner_ids (nodes_of b s)) others_same own.plain_lists);
    classes = own.classes;
    known = subst (AllKnown (classes_of b)) (sym frame_nodes) own.known;
  }

  frame_inner : AllSame s t (inner_ids (list_at s b.held) ++ inner_ids (list_at s b.page ++ list_at s b.waiting))
  frame_inner = subst (AllSame s t) (inner-append (list_at s b.held) (list_at s b.page ++ list_at s b.waiting)) (same-right s t (box_ids b.boxes) (inner_ids (nodes_of b s)) others_same)

  frame_two : AllSame s t (inner_ids (list_at s b.page) ++ inner_ids (list_at s b.waiting))
  frame_two = subst (AllSame s t) (inner-append (list_at s b.page) (list_at s b.waiting)) (same-right s t (inner_ids (list_at s b.held)) (inner_ids (list_at s b.page ++ list_at s b.waiting)) frame_inner)

  pub frame_held : plain_list t b.held ≡ plain_list s b.held
  frame_held = ap (map (plain_of (list_at t))) (lists_same s t b.held same.1.1.0) ∙ view_same s t (list_at s b.held) (same-left s t (inner_ids (list_at s b.held)) (inner_ids (list_at s b.page ++ list_at s b.waiting)) frame_inner)

  pub frame_page : plain_list t b.page ≡ plain_list s b.page
  frame_page = ap (map (plain_of (list_at t))) (lists_same s t b.page same.0) ∙ view_same s t (list_at s b.page) (same-left s t (inner_ids (list_at s b.page)) (inner_ids (list_at s b.waiting)) frame_two)

  pub frame_waiting : plain_list t b.waiting ≡ plain_list s b.waiting
  frame_waiting = ap (map (plain_of (list_at t))) (lists_same s t b.waiting same.1.0) ∙ view_same s t (list_at s b.waiting) (same-right s t (inner_ids (list_at s b.page)) (inner_ids (list_at s b.waiting)) frame_two)

  pub frame_boxes : map (boxed_of t) b.boxes ≡ map (boxed_of s) b.boxes
  frame_boxes = boxes_same s t b.boxes (same-left s t (box_ids b.boxes) (inner_ids (nodes_of b s)) others_same)

-- the lists of these ids, if the one that changed is none of them
pub same_lacking : (s t : Lists Node) (x : ℕ) (ids : List ℕ) → ((q : ℕ) → q ≢ x → get t.lists q ≡ get s.lists q) → Lacks x ids → AllSame s t ids
same_lacking s t x [] h l = tt
same_lacking s t x (y ∷ ys) h l = (h y (λ e. l.0 (sym e)), same_lacking s t x ys h l.1)

-- ---- nodes went from one list of the builder to another

-- what is held, the page and what waits are these lists now, with the same insertions in the same order
pub record Relisted (b : Ids) (s t : Lists Node) (hs ps ws : List Node) : Type 0 where
  pub held_is : get t.lists b.held ≡ Some hs
  pub page_is : get t.lists b.page ≡ Some ps
  pub waiting_is : get t.lists b.waiting ≡ Some ws
  pub others : (q : ℕ) → q ≢ b.held → q ≢ b.page → q ≢ b.waiting → get t.lists q ≡ get s.lists q
  pub inner_is : inner_ids (hs ++ (ps ++ ws)) ≡ inner_ids (nodes_of b s)
  pub known_is : AllKnown (classes_of b) (hs ++ (ps ++ ws))

apart_three : (a b c : ℕ) (xs : List ℕ) → Lacks a xs → Lacks b xs → Lacks c xs → Apart xs (a ∷ b ∷ c ∷ [])
apart_three a b c [] la lb lc = tt
apart_three a b c (x ∷ xs) la lb lc = (((λ e. la.0 (sym e)), ((λ e. lb.0 (sym e)), ((λ e. lc.0 (sym e)), tt))), apart_three a b c xs la.1 lb.1 lc.1)

module _ (b : Ids) (s t : Lists Node) (hs ps ws : List Node) (own : IsOwned b s) (w : Relisted b s t hs ps ws) where
  -- what was not written
  abbrev beside : List ℕ
  beside = b.rest ∷ (box_ids b.boxes ++ inner_ids (nodes_of b s))

  beside_same : AllSame s t beside
  beside_same = same_from s t (b.held ∷ b.page ∷ b.waiting ∷ []) beside (λ q h. w.others q h.0 h.1.0 h.1.1.0) (apart_three b.held b.page b.waiting beside own.differ.1.1.0 own.differ.0.1.1 own.differ.1.0.1)

  boxes_and_inner : AllSame s t (box_ids b.boxes ++ inner_ids (nodes_of b s))
  boxes_and_inner = beside_same.1

  nodes_are : nodes_of b t ≡ hs ++ (ps ++ ws)
  nodes_are = (λ i. list_got t b.held hs w.held_is i ++ (list_got t b.page ps w.page_is i ++ list_got t b.waiting ws w.waiting_is i))

  inner_are : inner_ids (nodes_of b t) ≡ inner_ids (nodes_of b s)
  inner_are = ap inner_ids nodes_are ∙ w.inner_is

  pub relisted_owned : owned b t ≡ owned b s
  relisted_owned = ap (λ is. own_ids b ++ is) inner_are

  pub relisted_own : IsOwned b t
  relisted_own = record {
    live = subst (AllLive t) (sym relisted_owned) (live_got t b.page ps w.page_is, (live_got t b.waiting ws w.waiting_is, (live_got t b.held hs w.held_is, live_same s t beside beside_same own.live.1.1.1)));
    differ = subst AllDiffer (sym relisted_owned) own.differ;
    between = lists_same s t b.rest beside_same.0 ∙ own.between;
    void_empty = void_same s t b.boxes (same-left s t (box_ids b.boxes) (inner_ids (nodes_of b s)) boxes_and_inner) own.void_empty;
    plain_lists = subst (λ is. HoldPlain t (box_ids b.boxes ++ is)) (sym inner_are) (plain_same s t (box_ids b.boxes ++ inner_ids (nodes_of b s)) boxes_and_inner own.plain_lists);
    classes = own.classes;
    known = subst (AllKnown (classes_of b)) (sym nodes_are) w.known_is;
  }

  pub relisted_others : (q : ℕ) → Lacks q (owned b s) → get t.lists q ≡ get s.lists q
  relisted_others q h = w.others q h.1.1.0 h.0 h.1.0

  pub relisted_keeps : (q : ℕ) → Lacks q (owned b s) → Lacks q (owned b t)
  relisted_keeps q h = subst (Lacks q) (sym relisted_owned) h

  inner_same : AllSame s t (inner_ids hs ++ (inner_ids ps ++ inner_ids ws))
  inner_same =
      subst (AllSame s t) (ap (λ is. inner_ids hs ++ is) (inner-append ps ws))
      (subst (AllSame s t) (sym w.inner_is ∙ inner-append hs (ps ++ ws)) (same-right s t (box_ids b.boxes) (inner_ids (nodes_of b s)) boxes_and_inner))

  pub relisted_held : plain_list t b.held ≡ map (plain_of (list_at s)) hs
  relisted_held = ap (map (plain_of (list_at t))) (list_got t b.held hs w.held_is) ∙ view_same s t hs (same-left s t (inner_ids hs) (inner_ids ps ++ inner_ids ws) inner_same)

  two_same : AllSame s t (inner_ids ps ++ inner_ids ws)
  two_same = same-right s t (inner_ids hs) (inner_ids ps ++ inner_ids ws) inner_same

  pub relisted_page : plain_list t b.page ≡ map (plain_of (list_at s)) ps
  relisted_page = ap (map (plain_of (list_at t))) (list_got t b.page ps w.page_is) ∙ view_same s t ps (same-left s t (inner_ids ps) (inner_ids ws) two_same)

  pub relisted_waiting : plain_list t b.waiting ≡ map (plain_of (list_at s)) ws
  relisted_waiting = ap (map (plain_of (list_at t))) (list_got t b.waiting ws w.waiting_is) ∙ view_same s t ws (same-right s t (inner_ids ps) (inner_ids ws) two_same)

  pub relisted_boxes : map (boxed_of t) b.boxes ≡ map (boxed_of s) b.boxes
  relisted_boxes = boxes_same s t b.boxes (same-left s t (box_ids b.boxes) (inner_ids (nodes_of b s)) boxes_and_inner)
