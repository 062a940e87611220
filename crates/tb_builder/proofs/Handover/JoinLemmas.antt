-- Nodes that are handed over join the builder's lists.
use Rattle.std.proofs.Common.{◌≡◌, ◌≢◌, refl, sym, subst, ◌∙◌, ap, ℕ, List, [], ◌∷◌, ◌++◌, map, IsSome, append_assoc}
use Rattle.std.specs.FinMap.{FinMap, get}
use Rattle.std.specs.Ordering.{nat_cmp}
use Rattle.std.proofs.lemmas.List.{map-append}
use Rattle.tb_pool.specs.Lists.{Lists, IsLive, list_at, with_list}
use Rattle.tb_node.specs.declared.Node.{Node}
use Rattle.tb_node.specs.PlainNodes.{plain_of, plain_list}
use Rattle.tb_builder.specs.declared.Builder.{Builder}
use Rattle.tb_builder.specs.Reach.{holds_box}
use Rattle.tb_builder.specs.Ownership.{Lacks, AllDiffer, AllLive, inner_ids, Ids, ids_of, nodes_of, box_ids, own_ids, owned, HoldPlain, AllKnown, classes_of, IsOwned}
use Rattle.tb_builder.specs.Contents.{Contents, contents_of}
use Rattle.tb_builder.specs.Courses.{AllLasting, IsPageSoFar, freezes, IsSound}
use Rattle.tb_builder.specs.Contributions.{NodesJoin, MayWait}
use Rattle.tb_builder.proofs.Ownership.OwnedLemmas.{Apart, AllSame, lacks-append, lacks-left, lacks-right, differ-left, differ-right, differ-apart, differ-append, live-append, live-left, live-right, plain-append, plain-left, plain-right, known-append, same_from, lists_same, live_same, plain_same, void_same, boxes_same, view_same, inner-append, same-left, same-right}
use Rattle.tb_builder.proofs.Handover.WaitLemmas.{page_grows}
use Rattle.tb_pool.proofs.CallerLemmas.{list_same, list_other, get_other, live_same as live_same_in, live_other}

-- ---- ids in another order

pub apart_cons : (x : ℕ) (ys xs : List ℕ) → Lacks x ys → Apart ys xs → Apart ys (x ∷ xs)
apart_cons x [] xs l a = tt
apart_cons x (y ∷ ys) xs l a = (((λ e. l.0 (sym e)), a.0), apart_cons x ys xs l.1 a.1)

pub apart_none : (ys : List ℕ) → Apart ys []
apart_none [] = tt
apart_none (y ∷ ys) = (tt, apart_none ys)

pub apart_swap : (xs ys : List ℕ) → Apart xs ys → Apart ys xs
apart_swap [] ys a = apart_none ys
apart_swap (x ∷ xs) ys a = apart_cons x ys xs a.0 (apart_swap xs ys a.1)

pub lacks_swap : (x : ℕ) (os xs ys : List ℕ) → Lacks x (os ++ (xs ++ ys)) → Lacks x (os ++ (ys ++ xs))
lacks_swap x os xs ys h =
    let two = lacks-right x os (xs ++ ys) h in
    lacks-append x os (ys ++ xs) (lacks-left x os (xs ++ ys) h) (lacks-append x ys xs (lacks-right x xs ys two) (lacks-left x xs ys two))

pub differ_swap : (os xs ys : List ℕ) → AllDiffer (os ++ (xs ++ ys)) → AllDiffer (os ++ (ys ++ xs))
differ_swap [] xs ys h = differ-append ys xs (differ-right xs ys h) (differ-left xs ys h) (apart_swap xs ys (differ-apart xs ys h))
differ_swap (o ∷ os) xs ys h = (lacks_swap o os xs ys h.0, differ_swap os xs ys h.1)

-- ---- what the builder's lists hold now

pub record Holds (b : Ids) (s t : Lists Node) (hs xs ys : List Node) : Type 0 where
  pub held_is : list_at t b.held ≡ hs
  pub page_is : list_at t b.page ≡ xs
  pub waiting_is : list_at t b.waiting ≡ ys
  pub held_live : IsLive t b.held
  pub page_live : IsLive t b.page
  pub waiting_live : IsLive t b.waiting
  pub beside : AllSame s t (b.rest ∷ box_ids b.boxes)
  pub inner_live : AllLive t (inner_ids (hs ++ (xs ++ ys)))
  pub inner_differ : AllDiffer (own_ids b ++ inner_ids (hs ++ (xs ++ ys)))
  pub inner_plain : HoldPlain t (inner_ids (hs ++ (xs ++ ys)))
  pub all_known : AllKnown (classes_of b) (hs ++ (xs ++ ys))

module _ (b : Ids) (s t : Lists Node) (hs xs ys : List Node) (own : IsOwned b s) (h : Holds b s t hs xs ys) where
  pub nodes_are : nodes_of b t ≡ hs ++ (xs ++ ys)
  nodes_are = (λ i. h.held_is i ++ (h.page_is i ++ h.waiting_is i))

  boxes_live : AllLive t (box_ids b.boxes)
  boxes_live = live_same s t (box_ids b.boxes) h.beside.1 (live-left s (box_ids b.boxes) (inner_ids (nodes_of b s)) own.live.1.1.1.1)

  boxes_plain : HoldPlain t (box_ids b.boxes)
  boxes_plain = plain_same s t (box_ids b.boxes) h.beside.1 (plain-left s (box_ids b.boxes) (inner_ids (nodes_of b s)) own.plain_lists)

  rest_live : IsLive t b.rest
  rest_live = (live_same s t (b.rest ∷ []) (h.beside.0, tt) (own.live.1.1.1.0, tt)).0

  pub holds_own : IsOwned b t
  holds_own = record {
    live = subst (λ ns. AllLive t (own_ids b ++ inner_ids ns)) (sym nodes_are) (h.page_live, (h.waiting_live, (h.held_live, (rest_live, live-append t (box_ids b.boxes) (inner_ids (hs ++ (xs ++ ys))) boxes_live h.inner_live))));
    differ = subst (λ ns. AllDiffer (own_ids b ++ inner_ids ns)) (sym nodes_are) h.inner_differ;
    between = lists_same s t b.rest h.beside.0 ∙ own.between;
    void_empty = void_same s t b.boxes h.beside.1 own.void_empty;
    plain_lists = subst (λ ns. HoldPlain t (box_ids b.boxes ++ inner_ids ns)) (sym nodes_are) (plain-append t (box_ids b.boxes) (inner_ids (hs ++ (xs ++ ys))) boxes_plain h.inner_plain);
    classes = own.classes;
    known = subst (AllKnown (classes_of b)) (sym nodes_are) h.all_known;
  }

-- ---- the builder is sound

pub sound_from : (b d : Builder) (s t : Lists Node) → IsSound b s → IsOwned (ids_of d) t → d.opened ≡ b.opened → d.frozen ≡ b.frozen → d.stopped ≡ b.stopped → (contents_of d t).page ≡ (contents_of b s).page → IsPageSoFar d.frozen d.stopped d.course (contents_of d t) → IsSound d t
sound_from b d s t sound own opened frozen stopped page stands = record {
  own = own;
  opened = opened ∙ sound.opened ∙ ap holds_box (sym page);
  closed = λ e. subst AllLasting (sym page) (sound.closed (sym opened ∙ e));
  page = stands;
  met = λ some on. ap freezes page ∙ sound.met (subst IsSome frozen some) (sym stopped ∙ on);
}

-- ---- a node comes after the waiting nodes

module _ (b : Ids) (s t : Lists Node) (n : Node) (own : IsOwned b s) (j : NodesJoin b s (n ∷ [])) (e : t.lists ≡ with_list s b.waiting (list_at s b.waiting ++ n ∷ [])) where
  abbrev inner_before : List ℕ
  inner_before = inner_ids (nodes_of b s)

  abbrev inner_new : List ℕ
  inner_new = inner_ids (n ∷ [])

  abbrev nodes_now : List Node
  nodes_now = list_at s b.held ++ (list_at s b.page ++ (list_at s b.waiting ++ n ∷ []))

  now_is : nodes_now ≡ nodes_of b s ++ n ∷ []
  now_is = ap (λ ns. list_at s b.held ++ ns) (sym (append_assoc (list_at s b.page) (list_at s b.waiting) (n ∷ []))) ∙ sym (append_assoc (list_at s b.held) (list_at s b.page ++ list_at s b.waiting) (n ∷ []))

  inner_now : inner_ids nodes_now ≡ inner_before ++ inner_new
  inner_now = ap inner_ids now_is ∙ inner-append (nodes_of b s) (n ∷ [])

  owned_now : own_ids b ++ inner_ids nodes_now ≡ owned b s ++ inner_new
  owned_now = ap (λ is. own_ids b ++ is) inner_now ∙ sym (append_assoc (own_ids b) inner_before inner_new)

  abbrev beside : List ℕ
  beside = b.rest ∷ ((box_ids b.boxes ++ inner_before) ++ inner_new)

  same_beside : AllSame s t beside
  same_beside = same_from s t (b.waiting ∷ []) beside (λ q h. get_other s t b.waiting (list_at s b.waiting ++ n ∷ []) q h.0 e) (apart_cons b.waiting beside [] j.differ.1.0.1 (apart_none beside))

  pub grown_boxes : AllSame s t (box_ids b.boxes)
  grown_boxes = same-left s t (box_ids b.boxes) inner_before (same-left s t (box_ids b.boxes ++ inner_before) inner_new same_beside.1)

  same_before : AllSame s t inner_before
  same_before = same-right s t (box_ids b.boxes) inner_before (same-left s t (box_ids b.boxes ++ inner_before) inner_new same_beside.1)

  same_new : AllSame s t inner_new
  same_new = same-right s t (box_ids b.boxes ++ inner_before) inner_new same_beside.1

  same_parts : AllSame s t (inner_ids (list_at s b.held) ++ inner_ids (list_at s b.page ++ list_at s b.waiting))
  same_parts = subst (AllSame s t) (inner-append (list_at s b.held) (list_at s b.page ++ list_at s b.waiting)) same_before

  same_two : AllSame s t (inner_ids (list_at s b.page) ++ inner_ids (list_at s b.waiting))
  same_two = subst (AllSame s t) (inner-append (list_at s b.page) (list_at s b.waiting)) (same-right s t (inner_ids (list_at s b.held)) (inner_ids (list_at s b.page ++ list_at s b.waiting)) same_parts)

  held_apart : b.held ≢ b.waiting
  held_apart x = own.differ.1.0.0 (sym x)

  pub grown_holds : Holds b s t (list_at s b.held) (list_at s b.page) (list_at s b.waiting ++ n ∷ [])
  grown_holds = record {
    held_is = list_other s t b.waiting (list_at s b.waiting ++ n ∷ []) b.held held_apart e;
    page_is = list_other s t b.waiting (list_at s b.waiting ++ n ∷ []) b.page own.differ.0.0 e;
    waiting_is = list_same s t b.waiting (list_at s b.waiting ++ n ∷ []) e;
    held_live = live_other s t b.waiting (list_at s b.waiting ++ n ∷ []) b.held held_apart e own.live.1.1.0;
    page_live = live_other s t b.waiting (list_at s b.waiting ++ n ∷ []) b.page own.differ.0.0 e own.live.0;
    waiting_live = live_same_in s t b.waiting (list_at s b.waiting ++ n ∷ []) e;
    beside = (same_beside.0, grown_boxes);
    inner_live = subst (AllLive t) (sym inner_now) (live-append t inner_before inner_new (live_same s t inner_before same_before (live-right s (box_ids b.boxes) inner_before own.live.1.1.1.1)) (live_same s t inner_new same_new j.live));
    inner_differ = subst AllDiffer (sym owned_now) j.differ;
    inner_plain = subst (HoldPlain t) (sym inner_now) (plain-append t inner_before inner_new (plain_same s t inner_before same_before (plain-right s (box_ids b.boxes) inner_before own.plain_lists)) (plain_same s t inner_new same_new j.plain_lists));
    all_known = subst (AllKnown (classes_of b)) (sym now_is) (known-append (classes_of b) (nodes_of b s) (n ∷ []) own.known j.known);
  }

  pub grown_held : plain_list t b.held ≡ plain_list s b.held
  grown_held = ap (map (plain_of (list_at t))) grown_holds.held_is ∙ view_same s t (list_at s b.held) (same-left s t (inner_ids (list_at s b.held)) (inner_ids (list_at s b.page ++ list_at s b.waiting)) same_parts)

  pub grown_page : plain_list t b.page ≡ plain_list s b.page
  grown_page = ap (map (plain_of (list_at t))) grown_holds.page_is ∙ view_same s t (list_at s b.page) (same-left s t (inner_ids (list_at s b.page)) (inner_ids (list_at s b.waiting)) same_two)

  pub grown_waiting : plain_list t b.waiting ≡ plain_list s b.waiting ++ plain_of (list_at s) n ∷ []
  grown_waiting =
      ap (map (plain_of (list_at t))) grown_holds.waiting_is
      ∙ map-append (plain_of (list_at t)) (list_at s b.waiting) (n ∷ [])
      ∙ (λ i. view_same s t (list_at s b.waiting) (same-right s t (inner_ids (list_at s b.page)) (inner_ids (list_at s b.waiting)) same_two) i ++ view_same s t (n ∷ []) same_new i)

  pub grown_others : (q : ℕ) → Lacks q (owned b s) → get t.lists q ≡ get s.lists q
  grown_others q h = get_other s t b.waiting (list_at s b.waiting ++ n ∷ []) q h.1.0 e

  pub grown_keeps : (q : ℕ) → Lacks q (owned b s ++ inner_new) → Lacks q (owned b t)
  grown_keeps q h = subst (λ ns. Lacks q (own_ids b ++ inner_ids ns)) (sym (nodes_are b s t (list_at s b.held) (list_at s b.page) (list_at s b.waiting ++ n ∷ []) own grown_holds)) (subst (Lacks q) (sym owned_now) h)

module _ (b : Builder) (s t : Lists Node) (n : Node) (sound : IsSound b s) (j : NodesJoin (ids_of b) s (n ∷ [])) (e : t.lists ≡ with_list s b.waiting (list_at s b.waiting ++ n ∷ [])) where
  pub contributed : contents_of b t ≡ record (contents_of b s) { waiting = (contents_of b s).waiting ++ plain_of (list_at s) n ∷ [] }
  contributed = λ i. record {
    classes = map (λ x. x.class) b.boxes;
    boxes = boxes_same s t b.boxes (grown_boxes (ids_of b) s t n sound.own j e) i;
    page = grown_page (ids_of b) s t n sound.own j e i;
    waiting = grown_waiting (ids_of b) s t n sound.own j e i;
    held = grown_held (ids_of b) s t n sound.own j e i;
    frozen = b.frozen;
    stopped = b.stopped;
  }

  pub contribute_sound : MayWait (contents_of b s) (plain_of (list_at s) n) → IsSound b t
  contribute_sound may =
      sound_from b b s t sound (holds_own (ids_of b) s t (list_at s b.held) (list_at s b.page) (list_at s b.waiting ++ n ∷ []) sound.own (grown_holds (ids_of b) s t n sound.own j e)) refl refl refl (ap (λ (c : Contents). c.page) contributed)
      (subst (IsPageSoFar b.frozen b.stopped b.course) (sym contributed) (page_grows b.frozen b.stopped b.course (contents_of b s) (plain_of (list_at s) n) may sound.page))

-- the store kept its lists, and then the node was put
pub pushed_after : (s r t : Lists Node) (l : ℕ) (n : Node) → r.lists ≡ s.lists → t.lists ≡ with_list r l (list_at r l ++ n ∷ []) → t.lists ≡ with_list s l (list_at s l ++ n ∷ [])
pushed_after s r t l n e f = f ∙ ap (λ (m : FinMap nat_cmp (List Node)). (let x : Lists Node = record { lists = m; spare = 0 } in with_list x l (list_at x l ++ n ∷ []))) e
