-- Lists come before others, and what the output routine puts back comes before what waits.
use Rattle.std.proofs.Common.{◌≡◌, ◌≢◌, refl, sym, subst, ◌∙◌, ap, ℕ, List, [], ◌∷◌, ◌++◌, length, map, is_some, unwrap_or, append_assoc}
use Rattle.std.specs.FinMap.{get, insert}
use Rattle.std.proofs.lemmas.List.{map-append}
use Rattle.tb_pool.specs.Lists.{Lists, IsLive, list_at, with_list}
use Rattle.tb_node.specs.declared.Node.{Node}
use Rattle.tb_node.specs.PlainNodes.{plain_of, plain_list}
use Rattle.tb_builder.specs.declared.Builder.{Builder}
use Rattle.tb_builder.specs.Ownership.{Lacks, AllDiffer, AllLive, inner_ids, Ids, ids_of, nodes_of, box_ids, own_ids, owned, HoldPlain, AllKnown, classes_of, IsOwned}
use Rattle.tb_builder.specs.Contents.{Contents, contents_of}
use Rattle.tb_builder.specs.Courses.{IsSound}
use Rattle.tb_builder.specs.Contributions.{ListJoins, InFront, NoPage}
use Rattle.tb_builder.proofs.Ownership.OwnedLemmas.{AllSame, live-append, live-left, live-right, plain-append, plain-left, plain-right, known-append, known-left, known-right, same_from, lists_same, live_same, plain_same, boxes_same, view_same, inner-append, same-left, same-right}
use Rattle.tb_builder.proofs.Turns.MoveLemmas.{Wrote, wrote_two}
use Rattle.tb_builder.proofs.Handover.WaitLemmas.{page_free}
use Rattle.tb_builder.proofs.Handover.JoinLemmas.{apart_cons, apart_none, lacks_swap, differ_swap, Holds, nodes_are, holds_own, sound_from}
use Rattle.tb_pool.proofs.CallerLemmas.{some_list}

-- ---- three lists

-- one list was appended to another, three times
module _ (s r u t : Lists Node) (a b c : ℕ) (apart : a ≢ b) (first_apart : a ≢ c) (second_apart : b ≢ c)
    (e : r.lists ≡ insert (with_list s a (list_at s a ++ list_at s b)) b [])
    (f : u.lists ≡ insert (with_list r a (list_at r a ++ list_at r c)) c [])
    (g : t.lists ≡ insert (with_list u c (list_at u c ++ list_at u a)) a []) where
  one : Wrote s r a b (list_at s a ++ list_at s b) []
  one = wrote_two s r a b (list_at s a ++ list_at s b) [] apart e

  two : Wrote r u a c (list_at r a ++ list_at r c) []
  two = wrote_two r u a c (list_at r a ++ list_at r c) [] first_apart f

  three : Wrote u t c a (list_at u c ++ list_at u a) []
  three = wrote_two u t c a (list_at u c ++ list_at u a) [] (λ x. first_apart (sym x)) g

  at_third : list_at r c ≡ list_at s c
  at_third = ap (λ o. unwrap_or o []) (one.others c (λ x. first_apart (sym x)) (λ x. second_apart (sym x)))

  all_three : list_at u c ++ list_at u a ≡ list_at s a ++ (list_at s b ++ list_at s c)
  all_three = (λ i. two.second i ++ two.first i) ∙ (λ i. one.first i ++ at_third i) ∙ append_assoc (list_at s a) (list_at s b) (list_at s c)

  pub in_front : InFront s t a b c
  in_front = record {
    first = some_list t a [] three.second_live three.second;
    second = three.others b second_apart (λ x. apart (sym x)) ∙ two.others b (λ x. apart (sym x)) second_apart ∙ some_list r b [] one.second_live one.second;
    joined = some_list t c (list_at s a ++ (list_at s b ++ list_at s c)) three.first_live (three.first ∙ all_three);
    others = λ q na nb nc. three.others q nc na ∙ two.others q na nc ∙ one.others q na nb;
  }

-- nothing goes to the front
none_long : (xs : List Node) → length xs ≡ 0 → xs ≡ []
none_long [] e = refl
none_long (x ∷ xs) e = cc

pub none_in_front : (s : Lists Node) (a b c : ℕ) → IsLive s a → IsLive s b → IsLive s c → length (list_at s a) ≡ 0 → length (list_at s b) ≡ 0 → InFront s s a b c
none_in_front s a b c first second third none none_too =
    let no_first = none_long (list_at s a) none in
    let no_second = none_long (list_at s b) none_too in
    record {
      first = some_list s a [] first no_first;
      second = some_list s b [] second no_second;
      joined = some_list s c (list_at s a ++ (list_at s b ++ list_at s c)) third (sym (λ i. no_first i ++ (no_second i ++ list_at s c)));
      others = λ q na nb nc. refl;
    }

-- ---- what is put back

pub no_nodes : {X Y : Type 0} (f : X → Y) (xs : List X) → map f xs ≡ [] → xs ≡ []
no_nodes f [] e = refl
no_nodes f (x ∷ xs) e = cc

module _ (b : Ids) (s t : Lists Node) (l : ℕ) (own : IsOwned b s) (j : ListJoins b s l) (no_page : list_at s b.page ≡ []) (w : InFront s t b.held l b.waiting) where
  abbrev of_held : List ℕ
  of_held = inner_ids (list_at s b.held)

  abbrev of_list : List ℕ
  of_list = inner_ids (list_at s l)

  abbrev of_waiting : List ℕ
  of_waiting = inner_ids (list_at s b.waiting)

  abbrev nodes_now : List Node
  nodes_now = list_at s b.held ++ (list_at s l ++ list_at s b.waiting)

  -- the insertions that were there, without those of the page
  inner_before : inner_ids (nodes_of b s) ≡ of_held ++ of_waiting
  inner_before = ap (λ ns. inner_ids (list_at s b.held ++ (ns ++ list_at s b.waiting))) no_page ∙ inner-append (list_at s b.held) (list_at s b.waiting)

  inner_now : inner_ids nodes_now ≡ of_held ++ (of_list ++ of_waiting)
  inner_now = inner-append (list_at s b.held) (list_at s l ++ list_at s b.waiting) ∙ ap (λ is. of_held ++ is) (inner-append (list_at s l) (list_at s b.waiting))

  -- the same ids, with those of the list at the end
  in_parts : owned b s ++ of_list ≡ (own_ids b ++ of_held) ++ (of_waiting ++ of_list)
  in_parts =
      ap (λ is. (own_ids b ++ is) ++ of_list) inner_before
      ∙ ap (λ is. is ++ of_list) (sym (append_assoc (own_ids b) of_held of_waiting))
      ∙ append_assoc (own_ids b ++ of_held) of_waiting of_list

  parts_now : (own_ids b ++ of_held) ++ (of_list ++ of_waiting) ≡ own_ids b ++ inner_ids nodes_now
  parts_now = append_assoc (own_ids b) of_held (of_list ++ of_waiting) ∙ ap (λ is. own_ids b ++ is) (sym inner_now)

  abbrev beside : List ℕ
  beside = b.rest ∷ ((box_ids b.boxes ++ inner_ids (nodes_of b s)) ++ of_list)

  same_beside : AllSame s t beside
  same_beside = same_from s t (b.held ∷ l ∷ b.waiting ∷ []) beside (λ q h. w.others q h.0 h.1.0 h.1.1.0)
      (apart_cons b.held beside (l ∷ b.waiting ∷ []) j.nodes.differ.1.1.0 (apart_cons l beside (b.waiting ∷ []) j.apart.1.1.1 (apart_cons b.waiting beside [] j.nodes.differ.1.0.1 (apart_none beside))))

  pub back_boxes : AllSame s t (box_ids b.boxes)
  back_boxes = same-left s t (box_ids b.boxes) (inner_ids (nodes_of b s)) (same-left s t (box_ids b.boxes ++ inner_ids (nodes_of b s)) of_list same_beside.1)

  same_before : AllSame s t (of_held ++ of_waiting)
  same_before = subst (AllSame s t) inner_before (same-right s t (box_ids b.boxes) (inner_ids (nodes_of b s)) (same-left s t (box_ids b.boxes ++ inner_ids (nodes_of b s)) of_list same_beside.1))

  same_held : AllSame s t of_held
  same_held = same-left s t of_held of_waiting same_before

  same_waiting : AllSame s t of_waiting
  same_waiting = same-right s t of_held of_waiting same_before

  same_list : AllSame s t of_list
  same_list = same-right s t (box_ids b.boxes ++ inner_ids (nodes_of b s)) of_list same_beside.1

  live_before : AllLive s (of_held ++ of_waiting)
  live_before = subst (AllLive s) inner_before (live-right s (box_ids b.boxes) (inner_ids (nodes_of b s)) own.live.1.1.1.1)

  plain_before : HoldPlain s (of_held ++ of_waiting)
  plain_before = subst (HoldPlain s) inner_before (plain-right s (box_ids b.boxes) (inner_ids (nodes_of b s)) own.plain_lists)

  known_before : AllKnown (classes_of b) (list_at s b.held ++ list_at s b.waiting)
  known_before = subst (λ ns. AllKnown (classes_of b) (list_at s b.held ++ (ns ++ list_at s b.waiting))) no_page own.known

  page_same : get t.lists b.page ≡ get s.lists b.page
  page_same = w.others b.page own.differ.0.1.0 (λ e. j.apart.0 (sym e)) own.differ.0.0

  pub back_holds : Holds b s t [] [] nodes_now
  back_holds = record {
    held_is = ap (λ o. unwrap_or o []) w.first;
    page_is = lists_same s t b.page page_same ∙ no_page;
    waiting_is = ap (λ o. unwrap_or o []) w.joined;
    held_live = ap is_some w.first;
    page_live = ap is_some page_same ∙ own.live.0;
    waiting_live = ap is_some w.joined;
    beside = (same_beside.0, back_boxes);
    inner_live = subst (AllLive t) (sym inner_now) (live-append t of_held (of_list ++ of_waiting) (live_same s t of_held same_held (live-left s of_held of_waiting live_before))
        (live-append t of_list of_waiting (live_same s t of_list same_list j.nodes.live) (live_same s t of_waiting same_waiting (live-right s of_held of_waiting live_before))));
    inner_differ = subst AllDiffer parts_now (differ_swap (own_ids b ++ of_held) of_waiting of_list (subst AllDiffer in_parts j.nodes.differ));
    inner_plain = subst (HoldPlain t) (sym inner_now) (plain-append t of_held (of_list ++ of_waiting) (plain_same s t of_held same_held (plain-left s of_held of_waiting plain_before))
        (plain-append t of_list of_waiting (plain_same s t of_list same_list j.nodes.plain_lists) (plain_same s t of_waiting same_waiting (plain-right s of_held of_waiting plain_before))));
    all_known = known-append (classes_of b) (list_at s b.held) (list_at s l ++ list_at s b.waiting) (known-left (classes_of b) (list_at s b.held) (list_at s b.waiting) known_before)
        (known-append (classes_of b) (list_at s l) (list_at s b.waiting) j.nodes.known (known-right (classes_of b) (list_at s b.held) (list_at s b.waiting) known_before));
  }

  pub back_page : plain_list t b.page ≡ plain_list s b.page
  back_page = ap (map (plain_of (list_at t))) back_holds.page_is ∙ sym (ap (map (plain_of (list_at s))) no_page)

  pub back_held : plain_list t b.held ≡ []
  back_held = ap (map (plain_of (list_at t))) back_holds.held_is

  pub back_waiting : plain_list t b.waiting ≡ plain_list s b.held ++ (plain_list s l ++ plain_list s b.waiting)
  back_waiting =
      ap (map (plain_of (list_at t))) back_holds.waiting_is
      ∙ map-append (plain_of (list_at t)) (list_at s b.held) (list_at s l ++ list_at s b.waiting)
      ∙ ap (λ ns. map (plain_of (list_at t)) (list_at s b.held) ++ ns) (map-append (plain_of (list_at t)) (list_at s l) (list_at s b.waiting))
      ∙ (λ i. view_same s t (list_at s b.held) same_held i ++ (view_same s t (list_at s l) same_list i ++ view_same s t (list_at s b.waiting) same_waiting i))

  pub back_others : (q : ℕ) → q ≢ l → Lacks q (owned b s) → get t.lists q ≡ get s.lists q
  back_others q ne h = w.others q h.1.1.0 ne h.1.0

  pub back_keeps : (q : ℕ) → Lacks q (owned b s ++ of_list) → Lacks q (owned b t)
  back_keeps q h =
      subst (λ ns. Lacks q (own_ids b ++ inner_ids ns)) (sym (nodes_are b s t [] [] nodes_now own back_holds))
      (subst (Lacks q) parts_now (lacks_swap q (own_ids b ++ of_held) of_waiting of_list (subst (Lacks q) in_parts h)))

module _ (b : Builder) (s t : Lists Node) (l : ℕ) (sound : IsSound b s) (j : ListJoins (ids_of b) s l) (none : NoPage (contents_of b s)) (w : InFront s t b.held l b.waiting) where
  no_page : list_at s b.page ≡ []
  no_page = no_nodes (plain_of (list_at s)) (list_at s b.page) none.page

  pub put_contents : contents_of b t ≡ record (contents_of b s) { waiting = (contents_of b s).held ++ (plain_list s l ++ (contents_of b s).waiting); held = [] }
  put_contents = λ i. record {
    classes = map (λ x. x.class) b.boxes;
    boxes = boxes_same s t b.boxes (back_boxes (ids_of b) s t l sound.own j no_page w) i;
    page = back_page (ids_of b) s t l sound.own j no_page w i;
    waiting = back_waiting (ids_of b) s t l sound.own j no_page w i;
    held = back_held (ids_of b) s t l sound.own j no_page w i;
    frozen = b.frozen;
    stopped = b.stopped;
  }

  pub put_sound : IsSound b t
  put_sound =
      sound_from b b s t sound (holds_own (ids_of b) s t [] [] (list_at s b.held ++ (list_at s l ++ list_at s b.waiting)) sound.own (back_holds (ids_of b) s t l sound.own j no_page w)) refl refl refl
      (ap (λ (c : Contents). c.page) put_contents) (page_free b.frozen b.stopped b.course (contents_of b s) (contents_of b t) none.frozen (ap (λ (c : Contents). c.page) put_contents) sound.page)

  pub put_others : (q : ℕ) → q ≢ l → Lacks q (owned (ids_of b) s) → get t.lists q ≡ get s.lists q
  put_others q ne h = back_others (ids_of b) s t l sound.own j no_page w q ne h

  pub put_keeps : (q : ℕ) → Lacks q (owned (ids_of b) s ++ inner_ids (list_at s l)) → Lacks q (owned (ids_of b) t)
  put_keeps q h = back_keeps (ids_of b) s t l sound.own j no_page w q h
