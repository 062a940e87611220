-- The insertion at the front of a page gives nodes to the box of its class, is held, or goes.
use Rattle.std.proofs.Common.{◌≡◌, ◌≢◌, ◌⊎◌, inl, inr, refl, sym, subst, ◌∙◌, ap, ℕ, true, List, [], ◌∷◌, ◌++◌, map, Some, append_assoc}
use Rattle.std.specs.Prelude.{option_to_list}
use Rattle.std.specs.FinMap.{get, insert, remove}
use Rattle.std.proofs.lemmas.Bool.{cases_eq}
use Rattle.tb_pool.specs.Lists.{Lists, IsLive, list_at, with_list}
use Rattle.tb_pool.proofs.MapLemmas.{get-remove_other}
use Rattle.tb_node.specs.declared.Node.{Node}
use Rattle.tb_node.specs.declared.Insertion.{Insertion}
use Rattle.tb_node.specs.declared.Kind.{Kind}
use Rattle.tb_node.specs.declared.Kind.TheVariants as kinds
use Rattle.tb_node.specs.PlainNodes.{plain_of, leaf_of, plain_list}
use Rattle.tb_node.specs.Roles.{insertion_of_kind}
use Rattle.tb_insert.specs.declared.Class.{Class}
use Rattle.tb_builder.specs.Ownership.{Lacks, AllDiffer, AllLive, inner_of, inner_ids, Ids, nodes_of, box_ids, own_ids, owned, AllPlain, HoldPlain, has_class, ClassesFit, is_known, AllKnown, classes_of, IsOwned}
use Rattle.tb_builder.specs.Contents.{boxed_of}
use Rattle.tb_builder.specs.Firing.{opened, box_list, box_with}
use Rattle.tb_builder.proofs.Ownership.OwnedLemmas.{AllSame, lacks-append, lacks-left, lacks-right, differ-left, lists_same, live_same, plain_same, void_same, boxes_same, view_same, inner-append, same-left, same-right, live-left, plain-left, plain-right, plain-append, known-append, known-left, known-right}
use Rattle.tb_builder.proofs.Sorting.RestLemmas.{plain-both}
use Rattle.tb_builder.proofs.Ownership.StoreMoves.{Got, got_two, list_got, live_got, live_kept, one_got, one_other, live_has}
use Rattle.tb_builder.proofs.Ownership.RelistLemmas.{Relisted}
use Rattle.tb_builder.proofs.Sorting.OpenLemmas.{opened-classes, opened-ids, box_live, box_apart, box_lacks, box_holds_plain, OthersSame, others_from, opened-void, opened-boxes}

-- ---- an id among others

-- the id in the middle differs from those before
pub lacks-before : (x : ℕ) (xs ys : List ℕ) → AllDiffer (xs ++ x ∷ ys) → Lacks x xs
lacks-before x [] ys d = tt
lacks-before x (y ∷ xs) ys d = ((λ e. (lacks-right y xs (x ∷ ys) d.0).0 (sym e)), lacks-before x xs ys d.1)

pub lacks-behind : (x : ℕ) (xs ys : List ℕ) → AllDiffer (xs ++ x ∷ ys) → Lacks x ys
lacks-behind x [] ys d = d.0
lacks-behind x (y ∷ xs) ys d = lacks-behind x xs ys d.1

lacks-without : (q x : ℕ) (xs ys : List ℕ) → Lacks q (xs ++ x ∷ ys) → Lacks q (xs ++ ys)
lacks-without q x [] ys h = h.1
lacks-without q x (y ∷ xs) ys h = (h.0, lacks-without q x xs ys h.1)

differ-without : (x : ℕ) (xs ys : List ℕ) → AllDiffer (xs ++ x ∷ ys) → AllDiffer (xs ++ ys)
differ-without x [] ys d = d.1
differ-without x (y ∷ xs) ys d = (lacks-without y x xs ys d.0, differ-without x xs ys d.1)

live-without : (s : Lists Node) (x : ℕ) (xs ys : List ℕ) → AllLive s (xs ++ x ∷ ys) → AllLive s (xs ++ ys)
live-without s x [] ys h = h.1
live-without s x (y ∷ xs) ys h = (h.0, live-without s x xs ys h.1)

live-middle : (s : Lists Node) (x : ℕ) (xs ys : List ℕ) → AllLive s (xs ++ x ∷ ys) → IsLive s x
live-middle s x [] ys h = h.0
live-middle s x (y ∷ xs) ys h = live-middle s x xs ys h.1

plain-middle : (s : Lists Node) (x : ℕ) (xs ys : List ℕ) → HoldPlain s (xs ++ x ∷ ys) → AllPlain (list_at s x)
plain-middle s x [] ys h = h.0
plain-middle s x (y ∷ xs) ys h = plain-middle s x xs ys h.1

plain-without : (s : Lists Node) (x : ℕ) (xs ys : List ℕ) → HoldPlain s (xs ++ x ∷ ys) → HoldPlain s (xs ++ ys)
plain-without s x [] ys h = h.1
plain-without s x (y ∷ xs) ys h = (h.0, plain-without s x xs ys h.1)

-- ---- two lists changed

module _ (s t : Lists Node) (a b : ℕ) (xs ys : List Node) (g : Got s t a b xs ys) where
  by_two : (q : ℕ) → (q ≡ a) ⊎ ((q ≡ b) ⊎ (get t.lists q ≡ get s.lists q))
  by_two q = elim (cases_eq q a) [
    | inl e ↦ inl e
    | inr na ↦ elim (cases_eq q b) [ inl e ↦ inr (inl e) | inr nb ↦ inr (inr (g.others q na nb)) ]
  ]

  live_two : (ids : List ℕ) → AllLive s ids → AllLive t ids
  live_two [] h = tt
  live_two (q ∷ ids) h = (one (by_two q), live_two ids h.1)
    where
      one : (q ≡ a) ⊎ ((q ≡ b) ⊎ (get t.lists q ≡ get s.lists q)) → IsLive t q
      one (inl e) = subst (IsLive t) (sym e) (live_got t a xs g.first)
      one (inr (inl e)) = subst (IsLive t) (sym e) (live_got t b ys g.second)
      one (inr (inr e)) = live_kept s t q e h.0

  plain_two : (ids : List ℕ) → AllPlain xs → AllPlain ys → HoldPlain s ids → HoldPlain t ids
  plain_two [] p r h = tt
  plain_two (q ∷ ids) p r h = (one (by_two q), plain_two ids p r h.1)
    where
      one : (q ≡ a) ⊎ ((q ≡ b) ⊎ (get t.lists q ≡ get s.lists q)) → AllPlain (list_at t q)
      one (inl e) = subst AllPlain (sym (ap (list_at t) e ∙ list_got t a xs g.first)) p
      one (inr (inl e)) = subst AllPlain (sym (ap (list_at t) e ∙ list_got t b ys g.second)) r
      one (inr (inr e)) = subst AllPlain (sym (lists_same s t q e)) h.0

  -- ids that are neither of the two
  same_two : (ids : List ℕ) → Lacks a ids → Lacks b ids → AllSame s t ids
  same_two [] la lb = tt
  same_two (q ∷ ids) la lb = (g.others q (λ e. la.0 (sym e)) (λ e. lb.0 (sym e)), same_two ids la.1 lb.1)

-- ---- the insertion at the front of the page

pub insertion_is : (k : Kind) (i : Insertion) → insertion_of_kind k ≡ Some i → k ≡ kinds.Ins i
insertion_is (kinds.Hbox what h d) i e = cc
insertion_is k i e = cc

module _ (b : Ids) (s : Lists Node) (n : Node) (ns : List Node) (i : Insertion) (own : IsOwned b s) (first : list_at s b.page ≡ n ∷ ns) (is : insertion_of_kind n.kind ≡ Some i) where
  abbrev ahead : List ℕ
  ahead = own_ids b ++ inner_ids (list_at s b.held)

  abbrev behind : List ℕ
  behind = inner_ids (ns ++ list_at s b.waiting)

  nodes_apart : inner_ids (nodes_of b s) ≡ inner_ids (list_at s b.held) ++ i.list ∷ behind
  nodes_apart =
      ap (λ ps. inner_ids (list_at s b.held ++ (ps ++ list_at s b.waiting))) first
      ∙ inner-append (list_at s b.held) (n ∷ (ns ++ list_at s b.waiting))
      ∙ ap (λ k. inner_ids (list_at s b.held) ++ (option_to_list (inner_of k) ++ behind)) (insertion_is n.kind i is)

  owned_apart : owned b s ≡ ahead ++ i.list ∷ behind
  owned_apart = ap (λ is. own_ids b ++ is) nodes_apart ∙ sym (append_assoc (own_ids b) (inner_ids (list_at s b.held)) (i.list ∷ behind))

  lists_apart : box_ids b.boxes ++ inner_ids (nodes_of b s) ≡ (box_ids b.boxes ++ inner_ids (list_at s b.held)) ++ i.list ∷ behind
  lists_apart = ap (λ is. box_ids b.boxes ++ is) nodes_apart ∙ sym (append_assoc (box_ids b.boxes) (inner_ids (list_at s b.held)) (i.list ∷ behind))

  all_differ : AllDiffer (ahead ++ i.list ∷ behind)
  all_differ = subst AllDiffer owned_apart own.differ

  lacks_ahead : Lacks i.list ahead
  lacks_ahead = lacks-before i.list ahead behind all_differ

  pub lacks_behind : Lacks i.list behind
  lacks_behind = lacks-behind i.list ahead behind all_differ

  pub lacks_own : Lacks i.list (own_ids b)
  lacks_own = lacks-left i.list (own_ids b) (inner_ids (list_at s b.held)) lacks_ahead

  pub list_live : IsLive s i.list
  list_live = live-middle s i.list ahead behind (subst (AllLive s) owned_apart own.live)

  pub list_plain : AllPlain (list_at s i.list)
  list_plain = plain-middle s i.list (box_ids b.boxes ++ inner_ids (list_at s b.held)) behind (subst (HoldPlain s) lists_apart own.plain_lists)

  known_all : AllKnown (classes_of b) (list_at s b.held) × AllKnown (classes_of b) (n ∷ (ns ++ list_at s b.waiting))
  known_all =
      let all = subst (λ ps. AllKnown (classes_of b) (list_at s b.held ++ (ps ++ list_at s b.waiting))) first own.known in
      (known-left (classes_of b) (list_at s b.held) (n ∷ (ns ++ list_at s b.waiting)) all, known-right (classes_of b) (list_at s b.held) (n ∷ (ns ++ list_at s b.waiting)) all)

  pub class_there : has_class (classes_of b) i.class ≡ true
  class_there = subst (λ k. is_known (classes_of b) k ≡ true) (insertion_is n.kind i is) known_all.1.0

  -- ---- nodes go to the box

  abbrev box_here : ℕ
  box_here = box_list i.class b.boxes

  pub box_is_live : IsLive s box_here
  box_is_live = box_live s i.class b.boxes class_there (live-left s (box_ids b.boxes) (inner_ids (nodes_of b s)) own.live.1.1.1.1)

  boxes_lack : (q : ℕ) → Lacks q (box_ids b.boxes) → q ≢ box_here
  boxes_lack q l = box_apart q i.class b.boxes class_there l

  pub box_not_list : box_here ≢ i.list
  box_not_list e = boxes_lack i.list lacks_own.1.1.1.1 (sym e)

  page_not_box : b.page ≢ box_here
  page_not_box = boxes_lack b.page (lacks-left b.page (box_ids b.boxes) (inner_ids (nodes_of b s)) own.differ.0.1.1.1)

  waiting_not_box : b.waiting ≢ box_here
  waiting_not_box = boxes_lack b.waiting (lacks-left b.waiting (box_ids b.boxes) (inner_ids (nodes_of b s)) own.differ.1.0.1.1)

  held_not_box : b.held ≢ box_here
  held_not_box = boxes_lack b.held (lacks-left b.held (box_ids b.boxes) (inner_ids (nodes_of b s)) own.differ.1.1.0.1)

  pub rest_not_box : b.rest ≢ box_here
  rest_not_box = boxes_lack b.rest (lacks-left b.rest (box_ids b.boxes) (inner_ids (nodes_of b s)) own.differ.1.1.1.0)

  pub rest_not_list : b.rest ≢ i.list
  rest_not_list e = lacks_own.1.1.1.0 (sym e)

  -- what goes to the box, and what is left of the insertion's list
  module _ (t : Lists Node) (gave kept : List Node) (e : t.lists ≡ insert (with_list s box_here (list_at s box_here ++ gave)) i.list kept) (gave_plain : AllPlain gave) (kept_plain : AllPlain kept) where
    abbrev after : Ids
    after = record b { boxes = opened i.class b.boxes }

    g : Got s t box_here i.list (list_at s box_here ++ gave) kept
    g = got_two s t box_here i.list (list_at s box_here ++ gave) kept box_not_list e

    page_same : get t.lists b.page ≡ get s.lists b.page
    page_same = g.others b.page page_not_box (λ x. lacks_own.0 (sym x))

    waiting_same : get t.lists b.waiting ≡ get s.lists b.waiting
    waiting_same = g.others b.waiting waiting_not_box (λ x. lacks_own.1.0 (sym x))

    held_same : get t.lists b.held ≡ get s.lists b.held
    held_same = g.others b.held held_not_box (λ x. lacks_own.1.1.0 (sym x))

    nodes_same : nodes_of after t ≡ nodes_of b s
    nodes_same = (λ j. lists_same s t b.held held_same j ++ (lists_same s t b.page page_same j ++ lists_same s t b.waiting waiting_same j))

    owned_same : owned after t ≡ owned b s
    owned_same = (λ j. b.page ∷ b.waiting ∷ b.held ∷ b.rest ∷ (opened-ids i.class b.boxes j ++ inner_ids (nodes_same j)))

    box_plain : AllPlain (list_at s box_here)
    box_plain = box_holds_plain s i.class b.boxes class_there (plain-left s (box_ids b.boxes) (inner_ids (nodes_of b s)) own.plain_lists)

    boxes_same_but : OthersSame s t box_here (box_ids b.boxes)
    boxes_same_but = others_from s t box_here i.list (box_ids b.boxes) g.others lacks_own.1.1.1.1

    pub given_own : IsOwned after t
    given_own = record {
      live = subst (AllLive t) (sym owned_same) (live_two s t box_here i.list (list_at s box_here ++ gave) kept g (owned b s) own.live);
      differ = subst AllDiffer (sym owned_same) own.differ;
      between = lists_same s t b.rest (g.others b.rest rest_not_box rest_not_list) ∙ own.between;
      void_empty = opened-void s t i.class b.boxes class_there (differ-left (box_ids b.boxes) (inner_ids (nodes_of b s)) own.differ.1.1.1.1) boxes_same_but own.void_empty;
      plain_lists = subst (HoldPlain t) (sym (λ j. opened-ids i.class b.boxes j ++ inner_ids (nodes_same j)))
          (plain_two s t box_here i.list (list_at s box_here ++ gave) kept g (box_ids b.boxes ++ inner_ids (nodes_of b s)) (plain-both (list_at s box_here) gave box_plain gave_plain) kept_plain own.plain_lists);
      classes = subst ClassesFit (sym (opened-classes i.class b.boxes)) own.classes;
      known = subst (λ (p : List Class × List Node). AllKnown p.0 p.1) (sym (λ j. (opened-classes i.class b.boxes j, nodes_same j))) own.known;
    }

    pub given_others : (q : ℕ) → Lacks q (owned b s) → get t.lists q ≡ get s.lists q
    given_others q h = g.others q (boxes_lack q (lacks-left q (box_ids b.boxes) (inner_ids (nodes_of b s)) h.1.1.1.1)) (λ x. lacks-at q (subst (Lacks q) owned_apart h) x)
      where
        lacks-at : (q : ℕ) → Lacks q (ahead ++ i.list ∷ behind) → q ≢ i.list
        lacks-at q h = (lacks-right q ahead (i.list ∷ behind) h).0

    pub given_keeps : (q : ℕ) → Lacks q (owned b s) → Lacks q (owned after t)
    given_keeps q h = subst (Lacks q) (sym owned_same) h

    pub given_boxes : map (boxed_of t) (opened i.class b.boxes) ≡ map (box_with i.class (map leaf_of gave)) (map (boxed_of s) b.boxes)
    given_boxes = opened-boxes s t i.class gave b.boxes class_there own.classes (differ-left (box_ids b.boxes) (inner_ids (nodes_of b s)) own.differ.1.1.1.1) boxes_same_but own.void_empty (list_got t box_here (list_at s box_here ++ gave) g.first)

    -- the insertions before and after it are as they were
    inner_lack : Lacks box_here (inner_ids (list_at s b.held) ++ i.list ∷ behind)
    inner_lack = subst (Lacks box_here) nodes_apart (box_lacks i.class b.boxes (inner_ids (nodes_of b s)) class_there own.differ.1.1.1.1)

    pub given_held : plain_list t b.held ≡ plain_list s b.held
    given_held =
        ap (map (plain_of (list_at t))) (lists_same s t b.held held_same)
        ∙ view_same s t (list_at s b.held) (same_two s t box_here i.list (list_at s box_here ++ gave) kept g (inner_ids (list_at s b.held))
        (lacks-left box_here (inner_ids (list_at s b.held)) (i.list ∷ behind) inner_lack) (lacks-right i.list (own_ids b) (inner_ids (list_at s b.held)) lacks_ahead))

    behind_same : AllSame s t (inner_ids ns ++ inner_ids (list_at s b.waiting))
    behind_same = subst (AllSame s t) (inner-append ns (list_at s b.waiting)) (same_two s t box_here i.list (list_at s box_here ++ gave) kept g behind (lacks-right box_here (inner_ids (list_at s b.held)) (i.list ∷ behind) inner_lack).1 lacks_behind)

    pub given_behind : map (plain_of (list_at t)) ns ≡ map (plain_of (list_at s)) ns
    given_behind = view_same s t ns (same-left s t (inner_ids ns) (inner_ids (list_at s b.waiting)) behind_same)

    pub given_waiting : plain_list t b.waiting ≡ plain_list s b.waiting
    given_waiting = ap (map (plain_of (list_at t))) (lists_same s t b.waiting waiting_same) ∙ view_same s t (list_at s b.waiting) (same-right s t (inner_ids ns) (inner_ids (list_at s b.waiting)) behind_same)

    pub given_page : list_at t b.page ≡ list_at s b.page
    given_page = lists_same s t b.page page_same

    pub given_left : list_at t i.list ≡ kept
    given_left = list_got t i.list kept g.second

  -- ---- the insertion goes, with its list

  module _ (t : Lists Node) (e : t.lists ≡ remove (with_list s b.page ns) i.list) where
    abbrev middle : Lists Node
    middle = record { lists = with_list s b.page ns; spare = s.spare }

    page_not_list : b.page ≢ i.list
    page_not_list x = lacks_own.0 (sym x)

    gone : (q : ℕ) → q ≢ i.list → get t.lists q ≡ get middle.lists q
    gone q ne = ap (λ m. get m q) e ∙ get-remove_other (with_list s b.page ns) i.list q ne

    gone_page : get t.lists b.page ≡ Some ns
    gone_page = gone b.page page_not_list ∙ one_got s middle b.page ns refl

    gone_other : (q : ℕ) → q ≢ b.page → q ≢ i.list → get t.lists q ≡ get s.lists q
    gone_other q np nl = gone q nl ∙ one_other s middle b.page q ns np refl

    same_gone : (ids : List ℕ) → Lacks b.page ids → Lacks i.list ids → AllSame s t ids
    same_gone [] lp ll = tt
    same_gone (q ∷ ids) lp ll = (gone_other q (λ x. lp.0 (sym x)) (λ x. ll.0 (sym x)), same_gone ids lp.1 ll.1)

    abbrev left_over : List ℕ
    left_over = inner_ids (list_at s b.held) ++ behind

    -- all but the page
    abbrev beside : List ℕ
    beside = b.waiting ∷ b.held ∷ b.rest ∷ (box_ids b.boxes ++ left_over)

    page_lacks : Lacks b.page beside
    page_lacks =
        let h : Lacks b.page (b.waiting ∷ b.held ∷ b.rest ∷ (box_ids b.boxes ++ inner_ids (nodes_of b s))) = own.differ.0 in (
          h.0,
          (
            h.1.0,
            (
              h.1.1.0,
              lacks-append b.page (box_ids b.boxes) left_over (lacks-left b.page (box_ids b.boxes) (inner_ids (nodes_of b s)) h.1.1.1)
                  (lacks-without b.page i.list (inner_ids (list_at s b.held)) behind (subst (Lacks b.page) nodes_apart (lacks-right b.page (box_ids b.boxes) (inner_ids (nodes_of b s)) h.1.1.1))),
            ),
          ),
        )

    list_lacks : Lacks i.list beside
    list_lacks = (lacks_own.1.0, (lacks_own.1.1.0, (lacks_own.1.1.1.0, lacks-append i.list (box_ids b.boxes) left_over lacks_own.1.1.1.1 (lacks-append i.list (inner_ids (list_at s b.held)) behind (lacks-right i.list (own_ids b) (inner_ids (list_at s b.held)) lacks_ahead) lacks_behind))))

    beside_same : AllSame s t beside
    beside_same = same_gone beside page_lacks list_lacks

    gone_nodes : nodes_of b t ≡ list_at s b.held ++ (ns ++ list_at s b.waiting)
    gone_nodes = (λ j. lists_same s t b.held beside_same.1.0 j ++ (list_got t b.page ns gone_page j ++ lists_same s t b.waiting beside_same.0 j))

    gone_inner : inner_ids (nodes_of b t) ≡ left_over
    gone_inner = ap inner_ids gone_nodes ∙ inner-append (list_at s b.held) (ns ++ list_at s b.waiting)

    gone_owned : owned b t ≡ b.page ∷ beside
    gone_owned = ap (λ is. own_ids b ++ is) gone_inner

    -- what was the builder's, without the list that goes
    owned_without : owned b s ≡ ahead ++ i.list ∷ behind → ahead ++ behind ≡ b.page ∷ beside
    owned_without x = append_assoc (own_ids b) (inner_ids (list_at s b.held)) behind

    boxes_left : AllSame s t (box_ids b.boxes ++ left_over)
    boxes_left = beside_same.1.1.1

    plain_left : HoldPlain s (box_ids b.boxes ++ left_over)
    plain_left =
        plain-append s (box_ids b.boxes) left_over (plain-left s (box_ids b.boxes) (inner_ids (nodes_of b s)) own.plain_lists)
        (plain-without s i.list (inner_ids (list_at s b.held)) behind (subst (HoldPlain s) nodes_apart (plain-right s (box_ids b.boxes) (inner_ids (nodes_of b s)) own.plain_lists)))

    pub gone_own : IsOwned b t
    gone_own = record {
      live = subst (AllLive t) (sym gone_owned) (live_got t b.page ns gone_page, live_same s t beside beside_same (subst (AllLive s) (owned_without owned_apart) (live-without s i.list ahead behind (subst (AllLive s) owned_apart own.live))).1);
      differ = subst AllDiffer (sym gone_owned) (subst AllDiffer (owned_without owned_apart) (differ-without i.list ahead behind all_differ));
      between = lists_same s t b.rest beside_same.1.1.0 ∙ own.between;
      void_empty = void_same s t b.boxes (same-left s t (box_ids b.boxes) left_over boxes_left) own.void_empty;
      plain_lists = subst (λ is. HoldPlain t (box_ids b.boxes ++ is)) (sym gone_inner) (plain_same s t (box_ids b.boxes ++ left_over) boxes_left plain_left);
      classes = own.classes;
      known = subst (AllKnown (classes_of b)) (sym gone_nodes) (known-append (classes_of b) (list_at s b.held) (ns ++ list_at s b.waiting) known_all.0 known_all.1.1);
    }

    pub gone_others : (q : ℕ) → Lacks q (owned b s) → get t.lists q ≡ get s.lists q
    gone_others q h = gone_other q h.0 (lacks-right q ahead (i.list ∷ behind) (subst (Lacks q) owned_apart h)).0

    pub gone_keeps : (q : ℕ) → Lacks q (owned b s) → Lacks q (owned b t)
    gone_keeps q h = subst (Lacks q) (sym gone_owned) (subst (Lacks q) (owned_without owned_apart) (lacks-without q i.list ahead behind (subst (Lacks q) owned_apart h)))

    pub gone_boxes : map (boxed_of t) b.boxes ≡ map (boxed_of s) b.boxes
    gone_boxes = boxes_same s t b.boxes (same-left s t (box_ids b.boxes) left_over boxes_left)

    inner_left : AllSame s t left_over
    inner_left = same-right s t (box_ids b.boxes) left_over boxes_left

    pub gone_held : plain_list t b.held ≡ plain_list s b.held
    gone_held = ap (map (plain_of (list_at t))) (lists_same s t b.held beside_same.1.0) ∙ view_same s t (list_at s b.held) (same-left s t (inner_ids (list_at s b.held)) behind inner_left)

    behind_left : AllSame s t (inner_ids ns ++ inner_ids (list_at s b.waiting))
    behind_left = subst (AllSame s t) (inner-append ns (list_at s b.waiting)) (same-right s t (inner_ids (list_at s b.held)) behind inner_left)

    pub gone_rest : plain_list t b.page ≡ map (plain_of (list_at s)) ns
    gone_rest = ap (map (plain_of (list_at t))) (list_got t b.page ns gone_page) ∙ view_same s t ns (same-left s t (inner_ids ns) (inner_ids (list_at s b.waiting)) behind_left)

    pub gone_waiting : plain_list t b.waiting ≡ plain_list s b.waiting
    gone_waiting = ap (map (plain_of (list_at t))) (lists_same s t b.waiting beside_same.0) ∙ view_same s t (list_at s b.waiting) (same-right s t (inner_ids ns) (inner_ids (list_at s b.waiting)) behind_left)

  -- ---- the insertion is held, perhaps with another height

  pub relisted_hold : (t : Lists Node) (m : Node) → inner_of m.kind ≡ inner_of n.kind → is_known (classes_of b) m.kind ≡ true → t.lists ≡ insert (with_list s b.page ns) b.held (list_at s b.held ++ m ∷ [])
      → Relisted b s t (list_at s b.held ++ m ∷ []) ns (list_at s b.waiting)
  relisted_hold t m inner known e =
      let g = got_two s t b.page b.held ns (list_at s b.held ++ m ∷ []) own.differ.0.1.0 e in
      record {
        held_is = g.second;
        page_is = g.first;
        waiting_is = g.others b.waiting (λ x. own.differ.0.0 (sym x)) own.differ.1.0.0 ∙ live_has s b.waiting own.live.1.0;
        others = λ q nh np nw. g.others q np nh;
        inner_is = ap inner_ids (append_assoc (list_at s b.held) (m ∷ []) (ns ++ list_at s b.waiting)) ∙ inner-append (list_at s b.held) (m ∷ (ns ++ list_at s b.waiting))
            ∙ ap (λ o. inner_ids (list_at s b.held) ++ (option_to_list o ++ behind)) (inner ∙ ap inner_of (insertion_is n.kind i is)) ∙ sym nodes_apart;
        known_is = subst (AllKnown (classes_of b)) (sym (append_assoc (list_at s b.held) (m ∷ []) (ns ++ list_at s b.waiting)))
            (known-append (classes_of b) (list_at s b.held) (m ∷ (ns ++ list_at s b.waiting)) known_all.0 (known, known_all.1.1));
      }

-- the insertion at the front is of one of the classes, also with another height
module _ (b : Ids) (s : Lists Node) (n : Node) (ns : List Node) (i : Insertion) (own : IsOwned b s) (first : list_at s b.page ≡ n ∷ ns) (is : insertion_of_kind n.kind ≡ Some i) where
  pub first_known : is_known (classes_of b) n.kind ≡ true
  first_known = ap (is_known (classes_of b)) (insertion_is n.kind i is) ∙ class_there b s n ns i own first is

  pub first_list : inner_of n.kind ≡ Some i.list
  first_list = ap inner_of (insertion_is n.kind i is)
