-- Nodes go from what waits to the page, or vanish: the lists stay the builder's, and only its page and waiting nodes change.
use Rattle.std.proofs.Common.{◌≡◌, ◌≢◌, sym, subst, ◌∙◌, ap, ℕ, true, List, [], ◌∷◌, ◌++◌, map, None, is_some, unwrap_or, append_assoc}
use Rattle.std.specs.Prelude.{option_to_list}
use Rattle.std.specs.FinMap.{get, insert}
use Rattle.tb_pool.specs.Lists.{Lists, IsLive, list_at, with_list}
use Rattle.tb_pool.proofs.MapLemmas.{get-insert_same, get-insert_other}
use Rattle.tb_pool.proofs.CallerLemmas.{list_same, list_other, get_other, live_same as live_same_in, live_other}
use Rattle.tb_node.specs.declared.Node.{Node}
use Rattle.tb_node.specs.PlainNodes.{plain_of, plain_list}
use Rattle.tb_builder.specs.Ownership.{Lacks, AllDiffer, AllLive, inner_of, inner_ids, Ids, nodes_of, box_ids, own_ids, owned, HoldPlain, is_known, AllKnown, classes_of, IsOwned}
use Rattle.tb_builder.specs.Contents.{boxed_of}
use Rattle.tb_builder.proofs.Ownership.OwnedLemmas.{Apart, AllSame, same_from, lists_same, live_same, plain_same, void_same, boxes_same, view_same, inner-append, same-left, same-right, known-append, known-left, known-right}

module _ {T : Type 0} where
  -- two lists were written
  pub record Wrote (s t : Lists T) (a b : ℕ) (xs ys : List T) : Type 0 where
    pub first : list_at t a ≡ xs
    pub second : list_at t b ≡ ys
    pub first_live : IsLive t a
    pub second_live : IsLive t b
    pub others : (q : ℕ) → q ≢ a → q ≢ b → get t.lists q ≡ get s.lists q

  pub wrote_two : (s t : Lists T) (a b : ℕ) (xs ys : List T) → a ≢ b → t.lists ≡ insert (with_list s a xs) b ys → Wrote s t a b xs ys
  wrote_two s t a b xs ys apart e = record {
    first = ap (λ m. unwrap_or (get m a) []) e ∙ ap (λ o. unwrap_or o []) (get-insert_other (with_list s a xs) b ys a apart ∙ get-insert_same s.lists a xs);
    second = ap (λ m. unwrap_or (get m b) []) e ∙ ap (λ o. unwrap_or o []) (get-insert_same (with_list s a xs) b ys);
    first_live = ap is_some (ap (λ m. get m a) e ∙ get-insert_other (with_list s a xs) b ys a apart ∙ get-insert_same s.lists a xs);
    second_live = ap is_some (ap (λ m. get m b) e ∙ get-insert_same (with_list s a xs) b ys);
    others = λ q na nb. ap (λ m. get m q) e ∙ get-insert_other (with_list s a xs) b ys q nb ∙ get-insert_other s.lists a xs q na;
  }

-- ---- the two lists of a builder are written

pub apart_two : (a b : ℕ) (xs : List ℕ) → Lacks a xs → Lacks b xs → Apart xs (a ∷ b ∷ [])
apart_two a b [] la lb = tt
apart_two a b (x ∷ xs) la lb = (((λ e. la.0 (sym e)), ((λ e. lb.0 (sym e)), tt)), apart_two a b xs la.1 lb.1)

-- the page and what waits are these lists now, with the same insertions in the same order
pub record Written (b : Ids) (s t : Lists Node) (xs ys : List Node) : Type 0 where
  pub page_is : list_at t b.page ≡ xs
  pub waiting_is : list_at t b.waiting ≡ ys
  pub page_live : IsLive t b.page
  pub waiting_live : IsLive t b.waiting
  pub others : (q : ℕ) → q ≢ b.page → q ≢ b.waiting → get t.lists q ≡ get s.lists q
  pub inner_is : inner_ids (xs ++ ys) ≡ inner_ids (list_at s b.page ++ list_at s b.waiting)
  pub known_is : AllKnown (classes_of b) (xs ++ ys)

module _ (b : Ids) (s t : Lists Node) (xs ys : List Node) (own : IsOwned b s) (w : Written b s t xs ys) where
  -- what was not written
  abbrev beside : List ℕ
  beside = b.held ∷ b.rest ∷ (box_ids b.boxes ++ inner_ids (nodes_of b s))

  beside_same : AllSame s t beside
  beside_same = same_from s t (b.page ∷ b.waiting ∷ []) beside (λ q h. w.others q h.0 h.1.0) (apart_two b.page b.waiting beside own.differ.0.1 own.differ.1.0)

  nodes_are : nodes_of b t ≡ list_at s b.held ++ (xs ++ ys)
  nodes_are = (λ i. lists_same s t b.held beside_same.0 i ++ (w.page_is i ++ w.waiting_is i))

  inner_are : inner_ids (nodes_of b t) ≡ inner_ids (nodes_of b s)
  inner_are = ap inner_ids nodes_are ∙ inner-append (list_at s b.held) (xs ++ ys) ∙ ap (λ is. inner_ids (list_at s b.held) ++ is) w.inner_is ∙ sym (inner-append (list_at s b.held) (list_at s b.page ++ list_at s b.waiting))

  owned_are : owned b t ≡ owned b s
  owned_are = ap (λ is. own_ids b ++ is) inner_are

  boxes_and_inner : AllSame s t (box_ids b.boxes ++ inner_ids (nodes_of b s))
  boxes_and_inner = beside_same.1.1

  pub written_own : IsOwned b t
  written_own = record {
    live = subst (AllLive t) (sym owned_are) (w.page_live, (w.waiting_live, live_same s t beside beside_same own.live.1.1));
    differ = subst AllDiffer (sym owned_are) own.differ;
    between = lists_same s t b.rest beside_same.1.0 ∙ own.between;
    void_empty = void_same s t b.boxes (same-left s t (box_ids b.boxes) (inner_ids (nodes_of b s)) boxes_and_inner) own.void_empty;
    plain_lists = subst (λ is. HoldPlain t (box_ids b.boxes ++ is)) (sym inner_are) (plain_same s t (box_ids b.boxes ++ inner_ids (nodes_of b s)) boxes_and_inner own.plain_lists);
    classes = own.classes;
    known = subst (AllKnown (classes_of b)) (sym nodes_are) (known-append (classes_of b) (list_at s b.held) (xs ++ ys) (known-left (classes_of b) (list_at s b.held) (list_at s b.page ++ list_at s b.waiting) own.known) w.known_is);
  }

  pub written_others : (q : ℕ) → Lacks q (owned b s) → get t.lists q ≡ get s.lists q
  written_others q h = w.others q h.0 h.1.0

  pub written_keeps : (q : ℕ) → Lacks q (owned b s) → Lacks q (owned b t)
  written_keeps q h = subst (Lacks q) (sym owned_are) h

  -- ---- the contents

  inner_same : AllSame s t (inner_ids (nodes_of b s))
  inner_same = same-right s t (box_ids b.boxes) (inner_ids (nodes_of b s)) boxes_and_inner

  held_inner : AllSame s t (inner_ids (list_at s b.held))
  held_inner = same-left s t (inner_ids (list_at s b.held)) (inner_ids (list_at s b.page ++ list_at s b.waiting)) (subst (AllSame s t) (inner-append (list_at s b.held) (list_at s b.page ++ list_at s b.waiting)) inner_same)

  both_inner : AllSame s t (inner_ids xs ++ inner_ids ys)
  both_inner = subst (AllSame s t) (sym w.inner_is ∙ inner-append xs ys) (same-right s t (inner_ids (list_at s b.held)) (inner_ids (list_at s b.page ++ list_at s b.waiting)) (subst (AllSame s t) (inner-append (list_at s b.held) (list_at s b.page ++ list_at s b.waiting)) inner_same))

  pub written_held : plain_list t b.held ≡ plain_list s b.held
  written_held = ap (map (plain_of (list_at t))) (lists_same s t b.held beside_same.0) ∙ view_same s t (list_at s b.held) held_inner

  pub written_page : plain_list t b.page ≡ map (plain_of (list_at s)) xs
  written_page = ap (map (plain_of (list_at t))) w.page_is ∙ view_same s t xs (same-left s t (inner_ids xs) (inner_ids ys) both_inner)

  pub written_waiting : plain_list t b.waiting ≡ map (plain_of (list_at s)) ys
  written_waiting = ap (map (plain_of (list_at t))) w.waiting_is ∙ view_same s t ys (same-right s t (inner_ids xs) (inner_ids ys) both_inner)

  pub written_boxes : map (boxed_of t) b.boxes ≡ map (boxed_of s) b.boxes
  written_boxes = boxes_same s t b.boxes (same-left s t (box_ids b.boxes) (inner_ids (nodes_of b s)) boxes_and_inner)

-- ---- the ways in which they are written

module _ (b : Ids) (s t : Lists Node) (n : Node) (ns : List Node) (own : IsOwned b s) (first : list_at s b.waiting ≡ n ∷ ns) where
  apart : b.waiting ≢ b.page
  apart e = own.differ.0.0 (sym e)

  known_first : AllKnown (classes_of b) (list_at s b.page ++ n ∷ ns)
  known_first = subst (λ xs. AllKnown (classes_of b) (list_at s b.page ++ xs)) first (known-right (classes_of b) (list_at s b.held) (list_at s b.page ++ list_at s b.waiting) own.known)

  -- the first waiting node goes on the page
  pub written_shift : t.lists ≡ insert (with_list s b.waiting ns) b.page (list_at s b.page ++ n ∷ []) → Written b s t (list_at s b.page ++ n ∷ []) ns
  written_shift e =
      let w = wrote_two s t b.waiting b.page ns (list_at s b.page ++ n ∷ []) apart e in
      record {
        page_is = w.second;
        waiting_is = w.first;
        page_live = w.second_live;
        waiting_live = w.first_live;
        others = λ q p a. w.others q a p;
        inner_is = ap inner_ids same;
        known_is = subst (AllKnown (classes_of b)) (sym (append_assoc (list_at s b.page) (n ∷ []) ns)) known_first;
      }
    where
      same : (list_at s b.page ++ n ∷ []) ++ ns ≡ list_at s b.page ++ list_at s b.waiting
      same = append_assoc (list_at s b.page) (n ∷ []) ns ∙ ap (λ xs. list_at s b.page ++ xs) (sym first)

  -- the first waiting node, which is no insertion, vanishes
  pub written_drop : inner_of n.kind ≡ None → t.lists ≡ with_list s b.waiting ns → Written b s t (list_at s b.page) ns
  written_drop none e = record {
    page_is = list_other s t b.waiting ns b.page (λ x. apart (sym x)) e;
    waiting_is = list_same s t b.waiting ns e;
    page_live = live_other s t b.waiting ns b.page (λ x. apart (sym x)) e own.live.0;
    waiting_live = live_same_in s t b.waiting ns e;
    others = λ q p a. get_other s t b.waiting ns q a e;
    inner_is = inner-append (list_at s b.page) ns ∙ ap (λ o. inner_ids (list_at s b.page) ++ (option_to_list o ++ inner_ids ns)) (sym none) ∙ sym (inner-append (list_at s b.page) (n ∷ ns)) ∙ ap (λ xs. inner_ids (list_at s b.page ++ xs)) (sym first);
    known_is = known-append (classes_of b) (list_at s b.page) ns (known-left (classes_of b) (list_at s b.page) (n ∷ ns) known_first) (known-right (classes_of b) (list_at s b.page) (n ∷ ns) known_first).1;
  }

  -- a node that is no insertion comes before the first waiting node
  pub written_front : (m : Node) → inner_of m.kind ≡ None → is_known (classes_of b) m.kind ≡ true → t.lists ≡ with_list s b.waiting (m ∷ n ∷ ns) → Written b s t (list_at s b.page) (m ∷ n ∷ ns)
  written_front m none known e = record {
    page_is = list_other s t b.waiting (m ∷ n ∷ ns) b.page (λ x. apart (sym x)) e;
    waiting_is = list_same s t b.waiting (m ∷ n ∷ ns) e;
    page_live = live_other s t b.waiting (m ∷ n ∷ ns) b.page (λ x. apart (sym x)) e own.live.0;
    waiting_live = live_same_in s t b.waiting (m ∷ n ∷ ns) e;
    others = λ q p a. get_other s t b.waiting (m ∷ n ∷ ns) q a e;
    inner_is = inner-append (list_at s b.page) (m ∷ n ∷ ns) ∙ ap (λ o. inner_ids (list_at s b.page) ++ (option_to_list o ++ inner_ids (n ∷ ns))) none ∙ sym (inner-append (list_at s b.page) (n ∷ ns)) ∙ ap (λ xs. inner_ids (list_at s b.page ++ xs)) (sym first);
    known_is = known-append (classes_of b) (list_at s b.page) (m ∷ n ∷ ns) (known-left (classes_of b) (list_at s b.page) (n ∷ ns) known_first) (known, known-right (classes_of b) (list_at s b.page) (n ∷ ns) known_first);
  }
