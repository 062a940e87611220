-- A list comes before all that waits, while a page is filled.
use Rattle.std.proofs.Common.{◌≡◌, ◌≢◌, refl, sym, subst, ◌∙◌, ap, ℕ, Bool, true, false, List, [], ◌∷◌, ◌++◌, map, Option, None, Some, is_some, unwrap_or, append_assoc}
use Rattle.std.specs.FinMap.{get, insert}
use Rattle.std.proofs.lemmas.List.{map-append}
use Rattle.std.proofs.lemmas.Bool.{true≢false}
use Rattle.tb_pool.specs.Lists.{Lists, list_at, with_list}
use Rattle.tb_node.specs.declared.Node.{Node}
use Rattle.tb_node.specs.PlainNodes.{PlainNode, plain_of, plain_list}
use Rattle.tb_insert.specs.Account.{terms_after}
use Rattle.tb_builder.specs.declared.Course.{Course}
use Rattle.tb_builder.specs.declared.Builder.{Builder}
use Rattle.tb_builder.specs.LegalPlaces.{glue_first, page_places, NoStop}
use Rattle.tb_builder.specs.Ownership.{Lacks, AllDiffer, AllLive, inner_ids, Ids, ids_of, nodes_of, box_ids, own_ids, owned, HoldPlain, AllKnown, classes_of, IsOwned}
use Rattle.tb_builder.specs.Contents.{Contents, contents_of}
use Rattle.tb_builder.specs.Courses.{IsCourseOf, IsPageSoFar, IsSound}
use Rattle.tb_builder.specs.Contributions.{ListJoins, ends_in_kern}
use Rattle.tb_builder.proofs.Ownership.OwnedLemmas.{AllSame, live-append, live-left, live-right, plain-append, plain-left, plain-right, known-append, known-left, known-right, same_from, lists_same, live_same, plain_same, boxes_same, view_same, inner-append, same-left, same-right}
use Rattle.tb_builder.proofs.Turns.MoveLemmas.{Wrote, wrote_two}
use Rattle.tb_builder.proofs.Handover.WaitLemmas.{places_glue}
use Rattle.tb_builder.proofs.Handover.JoinLemmas.{apart_cons, apart_none, lacks_swap, differ_swap, Holds, nodes_are, holds_own, sound_from}
use Rattle.tb_builder.specs.FiredPages.{frozen_for}
use Rattle.tb_builder.specs.declared.Ask.{Ask}
use Rattle.tb_pool.proofs.CallerLemmas.{some_list}

-- ---- two lists

-- the list a came before what the list c holds, and is empty now; no other list changed
pub record Before (s t : Lists Node) (a c : ℕ) : Type 0 where
  pub emptied : get t.lists a ≡ Some []
  pub joined : get t.lists c ≡ Some (list_at s a ++ list_at s c)
  pub others : (q : ℕ) → q ≢ a → q ≢ c → get t.lists q ≡ get s.lists q

pub before_it : (s r t : Lists Node) (a c : ℕ) → a ≢ c → r.lists ≡ insert (with_list s a (list_at s a ++ list_at s c)) c [] → t.lists ≡ insert (with_list r c (list_at r c ++ list_at r a)) a [] → Before s t a c
before_it s r t a c apart e f =
    let one : Wrote s r a c (list_at s a ++ list_at s c) [] = wrote_two s r a c (list_at s a ++ list_at s c) [] apart e in
    let two : Wrote r t c a (list_at r c ++ list_at r a) [] = wrote_two r t c a (list_at r c ++ list_at r a) [] (λ x. apart (sym x)) f in
    record {
      emptied = some_list t a [] two.second_live two.second;
      joined = some_list t c (list_at s a ++ list_at s c) two.first_live (two.first ∙ (λ i. one.second i ++ one.first i));
      others = λ q na nc. two.others q nc na ∙ one.others q na nc;
    }

-- ---- the builder's lists

module _ (b : Ids) (s t : Lists Node) (l : ℕ) (own : IsOwned b s) (j : ListJoins b s l) (w : Before s t l b.waiting) where
  abbrev front : List Node
  front = list_at s b.held ++ list_at s b.page

  abbrev of_front : List ℕ
  of_front = inner_ids front

  abbrev of_list : List ℕ
  of_list = inner_ids (list_at s l)

  abbrev of_waiting : List ℕ
  of_waiting = inner_ids (list_at s b.waiting)

  abbrev nodes_now : List Node
  nodes_now = list_at s b.held ++ (list_at s b.page ++ (list_at s l ++ list_at s b.waiting))

  nodes_before : nodes_of b s ≡ front ++ list_at s b.waiting
  nodes_before = sym (append_assoc (list_at s b.held) (list_at s b.page) (list_at s b.waiting))

  now_is : nodes_now ≡ front ++ (list_at s l ++ list_at s b.waiting)
  now_is = sym (append_assoc (list_at s b.held) (list_at s b.page) (list_at s l ++ list_at s b.waiting))

  inner_before : inner_ids (nodes_of b s) ≡ of_front ++ of_waiting
  inner_before = ap inner_ids nodes_before ∙ inner-append front (list_at s b.waiting)

  inner_now : inner_ids nodes_now ≡ of_front ++ (of_list ++ of_waiting)
  inner_now = ap inner_ids now_is ∙ inner-append front (list_at s l ++ list_at s b.waiting) ∙ ap (λ is. of_front ++ is) (inner-append (list_at s l) (list_at s b.waiting))

  -- the same ids, with those of the list at the end
  in_parts : owned b s ++ of_list ≡ (own_ids b ++ of_front) ++ (of_waiting ++ of_list)
  in_parts =
      ap (λ is. (own_ids b ++ is) ++ of_list) inner_before
      ∙ ap (λ is. is ++ of_list) (sym (append_assoc (own_ids b) of_front of_waiting))
      ∙ append_assoc (own_ids b ++ of_front) of_waiting of_list

  parts_now : (own_ids b ++ of_front) ++ (of_list ++ of_waiting) ≡ own_ids b ++ inner_ids nodes_now
  parts_now = append_assoc (own_ids b) of_front (of_list ++ of_waiting) ∙ ap (λ is. own_ids b ++ is) (sym inner_now)

  abbrev beside : List ℕ
  beside = b.rest ∷ ((box_ids b.boxes ++ inner_ids (nodes_of b s)) ++ of_list)

  same_beside : AllSame s t beside
  same_beside = same_from s t (l ∷ b.waiting ∷ []) beside (λ q h. w.others q h.0 h.1.0)
      (apart_cons l beside (b.waiting ∷ []) j.apart.1.1.1 (apart_cons b.waiting beside [] j.nodes.differ.1.0.1 (apart_none beside)))

  pub first_boxes : AllSame s t (box_ids b.boxes)
  first_boxes = same-left s t (box_ids b.boxes) (inner_ids (nodes_of b s)) (same-left s t (box_ids b.boxes ++ inner_ids (nodes_of b s)) of_list same_beside.1)

  same_before : AllSame s t (of_front ++ of_waiting)
  same_before = subst (AllSame s t) inner_before (same-right s t (box_ids b.boxes) (inner_ids (nodes_of b s)) (same-left s t (box_ids b.boxes ++ inner_ids (nodes_of b s)) of_list same_beside.1))

  same_front : AllSame s t of_front
  same_front = same-left s t of_front of_waiting same_before

  same_waiting : AllSame s t of_waiting
  same_waiting = same-right s t of_front of_waiting same_before

  same_list : AllSame s t of_list
  same_list = same-right s t (box_ids b.boxes ++ inner_ids (nodes_of b s)) of_list same_beside.1

  same_parts : AllSame s t (inner_ids (list_at s b.held) ++ inner_ids (list_at s b.page))
  same_parts = subst (AllSame s t) (inner-append (list_at s b.held) (list_at s b.page)) same_front

  live_before : AllLive s (of_front ++ of_waiting)
  live_before = subst (AllLive s) inner_before (live-right s (box_ids b.boxes) (inner_ids (nodes_of b s)) own.live.1.1.1.1)

  plain_before : HoldPlain s (of_front ++ of_waiting)
  plain_before = subst (HoldPlain s) inner_before (plain-right s (box_ids b.boxes) (inner_ids (nodes_of b s)) own.plain_lists)

  known_before : AllKnown (classes_of b) (front ++ list_at s b.waiting)
  known_before = subst (AllKnown (classes_of b)) nodes_before own.known

  page_same : get t.lists b.page ≡ get s.lists b.page
  page_same = w.others b.page (λ e. j.apart.0 (sym e)) own.differ.0.0

  held_same : get t.lists b.held ≡ get s.lists b.held
  held_same = w.others b.held (λ e. j.apart.1.1.0 (sym e)) (λ e. own.differ.1.0.0 (sym e))

  pub first_holds : Holds b s t (list_at s b.held) (list_at s b.page) (list_at s l ++ list_at s b.waiting)
  first_holds = record {
    held_is = lists_same s t b.held held_same;
    page_is = lists_same s t b.page page_same;
    waiting_is = ap (λ o. unwrap_or o []) w.joined;
    held_live = ap is_some held_same ∙ own.live.1.1.0;
    page_live = ap is_some page_same ∙ own.live.0;
    waiting_live = ap is_some w.joined;
    beside = (same_beside.0, first_boxes);
    inner_live = subst (AllLive t) (sym inner_now) (live-append t of_front (of_list ++ of_waiting) (live_same s t of_front same_front (live-left s of_front of_waiting live_before))
        (live-append t of_list of_waiting (live_same s t of_list same_list j.nodes.live) (live_same s t of_waiting same_waiting (live-right s of_front of_waiting live_before))));
    inner_differ = subst AllDiffer parts_now (differ_swap (own_ids b ++ of_front) of_waiting of_list (subst AllDiffer in_parts j.nodes.differ));
    inner_plain = subst (HoldPlain t) (sym inner_now) (plain-append t of_front (of_list ++ of_waiting) (plain_same s t of_front same_front (plain-left s of_front of_waiting plain_before))
        (plain-append t of_list of_waiting (plain_same s t of_list same_list j.nodes.plain_lists) (plain_same s t of_waiting same_waiting (plain-right s of_front of_waiting plain_before))));
    all_known = subst (AllKnown (classes_of b)) (sym now_is) (known-append (classes_of b) front (list_at s l ++ list_at s b.waiting) (known-left (classes_of b) front (list_at s b.waiting) known_before)
        (known-append (classes_of b) (list_at s l) (list_at s b.waiting) j.nodes.known (known-right (classes_of b) front (list_at s b.waiting) known_before)));
  }

  pub first_page : plain_list t b.page ≡ plain_list s b.page
  first_page = ap (map (plain_of (list_at t))) first_holds.page_is ∙ view_same s t (list_at s b.page) (same-right s t (inner_ids (list_at s b.held)) (inner_ids (list_at s b.page)) same_parts)

  pub first_held : plain_list t b.held ≡ plain_list s b.held
  first_held = ap (map (plain_of (list_at t))) first_holds.held_is ∙ view_same s t (list_at s b.held) (same-left s t (inner_ids (list_at s b.held)) (inner_ids (list_at s b.page)) same_parts)

  pub first_waiting : plain_list t b.waiting ≡ plain_list s l ++ plain_list s b.waiting
  first_waiting =
      ap (map (plain_of (list_at t))) first_holds.waiting_is
      ∙ map-append (plain_of (list_at t)) (list_at s l) (list_at s b.waiting)
      ∙ (λ i. view_same s t (list_at s l) same_list i ++ view_same s t (list_at s b.waiting) same_waiting i)

  pub first_keeps : (q : ℕ) → Lacks q (owned b s ++ of_list) → Lacks q (owned b t)
  first_keeps q h =
      subst (λ ns. Lacks q (own_ids b ++ inner_ids ns)) (sym (nodes_are b s t (list_at s b.held) (list_at s b.page) (list_at s l ++ list_at s b.waiting) own first_holds))
      (subst (Lacks q) parts_now (lacks_swap q (own_ids b ++ of_front) of_waiting of_list (subst (Lacks q) in_parts h)))

  pub first_owns : (q : ℕ) → Lacks q (owned b t) → Lacks q (owned b s ++ of_list)
  first_owns q h =
      subst (Lacks q) (sym in_parts) (lacks_swap q (own_ids b ++ of_front) of_list of_waiting (subst (Lacks q) (sym parts_now)
      (subst (λ ns. Lacks q (own_ids b ++ inner_ids ns)) (nodes_are b s t (list_at s b.held) (list_at s b.page) (list_at s l ++ list_at s b.waiting) own first_holds) h)))

-- ---- the page goes on

-- the page does not end with a kern, so its places are the same whatever waits
page_goes : (o : Option Ask) (st : Bool) (k : Course) (c : Contents) (ns : List PlainNode) → ends_in_kern c.page ≡ false → st ≡ false → IsPageSoFar o st k c → IsPageSoFar o st k (record c { waiting = ns })
page_goes None false k c ns no_kern going h = h
page_goes None true k c ns no_kern going h = h
page_goes (Some f) true k c ns no_kern going h = absurd (true≢false going)
page_goes (Some f) false k c ns no_kern going h =
    let z = frozen_for f c.classes c.boxes in
    let same : page_places z.limit (terms_after z) [] c.page (glue_first ns) ≡ page_places z.limit (terms_after z) [] c.page (glue_first c.waiting)
    = places_glue z.limit (terms_after z) [] c.page (glue_first ns) (glue_first c.waiting) (λ e. absurd (true≢false (sym e ∙ no_kern))) in
    record { course = subst (IsCourseOf z k c.page) (sym same) h.course; quiet = subst NoStop (sym same) h.quiet }

module _ (b : Builder) (s t : Lists Node) (l : ℕ) (sound : IsSound b s) (j : ListJoins (ids_of b) s l) (w : Before s t l b.waiting) where
  pub first_contents : contents_of b t ≡ record (contents_of b s) { waiting = plain_list s l ++ (contents_of b s).waiting }
  first_contents = λ i. record {
    classes = map (λ x. x.class) b.boxes;
    boxes = boxes_same s t b.boxes (first_boxes (ids_of b) s t l sound.own j w) i;
    page = first_page (ids_of b) s t l sound.own j w i;
    waiting = first_waiting (ids_of b) s t l sound.own j w i;
    held = first_held (ids_of b) s t l sound.own j w i;
    frozen = b.frozen;
    stopped = b.stopped;
  }

  pub first_sound : ends_in_kern (contents_of b s).page ≡ false → b.stopped ≡ false → IsSound b t
  first_sound no_kern going =
      sound_from b b s t sound (holds_own (ids_of b) s t (list_at s b.held) (list_at s b.page) (list_at s l ++ list_at s b.waiting) sound.own (first_holds (ids_of b) s t l sound.own j w)) refl refl refl (ap (λ (c : Contents). c.page) first_contents)
      (subst (IsPageSoFar b.frozen b.stopped b.course) (sym first_contents) (page_goes b.frozen b.stopped b.course (contents_of b s) (plain_list s l ++ (contents_of b s).waiting) no_kern going sound.page))

  pub first_others : (q : ℕ) → q ≢ l → Lacks q (owned (ids_of b) s) → get t.lists q ≡ get s.lists q
  first_others q ne h = w.others q ne h.1.0

  pub first_kept : (q : ℕ) → Lacks q (owned (ids_of b) s ++ inner_ids (list_at s l)) → Lacks q (owned (ids_of b) t)
  first_kept q h = first_keeps (ids_of b) s t l sound.own j w q h

  pub first_owned : (q : ℕ) → Lacks q (owned (ids_of b) t) → Lacks q (owned (ids_of b) s ++ inner_ids (list_at s l))
  first_owned q h = first_owns (ids_of b) s t l sound.own j w q h
