-- A builder stays sound if its lists were left alone; what callers must show of the nodes and lists that they hand over.
use Rattle.std.proofs.Common.{◌≡◌, refl, sym, subst, ◌∙◌, ap, ℕ, true, List, [], ◌∷◌, ◌++◌, map, None, Some, is_some, append-nil}
use Rattle.std.specs.Prelude.{option_to_list}
use Rattle.std.specs.FinMap.{get}
use Rattle.std.proofs.lemmas.Bool.{true≢false}
use Rattle.tb_pool.specs.Lists.{Lists, IsLive, list_at, with_list}
use Rattle.tb_node.specs.declared.Node.{Node}
use Rattle.tb_node.specs.PlainNodes.{PlainNode, plain_of, plain_list}
use Rattle.tb_builder.specs.declared.Builder.{Builder}
use Rattle.tb_builder.specs.Contents.{Contents, contents_of}
use Rattle.tb_builder.specs.Leaving.{LeavesOthers}
use Rattle.tb_builder.specs.Ownership.{Lacks, AllDiffer, AllLive, inner_of, inner_ids, Ids, ids_of, nodes_of, box_ids, own_ids, owned, AllPlain, HoldPlain, is_known, classes_of, IsOwned}
use Rattle.tb_builder.specs.Courses.{IsPageSoFar, IsSound}
use Rattle.tb_builder.specs.NewLists.{Opened}
use Rattle.tb_builder.specs.Contributions.{NodesJoin, ListJoins, ends_in_kern, MayWait, NoPage}
use Rattle.tb_builder.proofs.Ownership.OwnedLemmas.{AllSame, same-left, same-right, inner-append, live-right, plain-right, lists_same, live_same, plain_same, boxes_same, view_same}
use Rattle.tb_builder.proofs.Handover.JoinLemmas.{Holds, nodes_are, holds_own, sound_from}
use Rattle.tb_builder.proofs.Ownership.NewLemmas.{fresh_lacks, differ_last, opened_first, opened_none}

-- if no live list was changed, the lists of these ids are the same
pub live_all_same : (s t : Lists Node) (xs : List ℕ) → ((q : ℕ) → IsLive s q → get t.lists q ≡ get s.lists q) → AllLive s xs → AllSame s t xs
live_all_same s t [] h live = tt
live_all_same s t (x ∷ xs) h live = (h x live.0, live_all_same s t xs h live.1)

-- ---- the builder's lists were left alone

module _ (b : Builder) (s t : Lists Node) (sound : IsSound b s) (same : AllSame s t (owned (ids_of b) s)) where
  abbrev own : IsOwned (ids_of b) s
  own = sound.own

  abbrev inner : List ℕ
  inner = inner_ids (nodes_of (ids_of b) s)

  same_boxes : AllSame s t (box_ids b.boxes)
  same_boxes = same-left s t (box_ids b.boxes) inner same.1.1.1.1

  same_inner : AllSame s t inner
  same_inner = same-right s t (box_ids b.boxes) inner same.1.1.1.1

  parts_same : AllSame s t (inner_ids (list_at s b.held) ++ inner_ids (list_at s b.page ++ list_at s b.waiting))
  parts_same = subst (AllSame s t) (inner-append (list_at s b.held) (list_at s b.page ++ list_at s b.waiting)) same_inner

  two_same : AllSame s t (inner_ids (list_at s b.page) ++ inner_ids (list_at s b.waiting))
  two_same = subst (AllSame s t) (inner-append (list_at s b.page) (list_at s b.waiting)) (same-right s t (inner_ids (list_at s b.held)) (inner_ids (list_at s b.page ++ list_at s b.waiting)) parts_same)

  holds_same : Holds (ids_of b) s t (list_at s b.held) (list_at s b.page) (list_at s b.waiting)
  holds_same = record {
    held_is = lists_same s t b.held same.1.1.0;
    page_is = lists_same s t b.page same.0;
    waiting_is = lists_same s t b.waiting same.1.0;
    held_live = ap is_some same.1.1.0 ∙ own.live.1.1.0;
    page_live = ap is_some same.0 ∙ own.live.0;
    waiting_live = ap is_some same.1.0 ∙ own.live.1.0;
    beside = (same.1.1.1.0, same_boxes);
    inner_live = live_same s t inner same_inner (live-right s (box_ids b.boxes) inner own.live.1.1.1.1);
    inner_differ = own.differ;
    inner_plain = plain_same s t inner same_inner (plain-right s (box_ids b.boxes) inner own.plain_lists);
    all_known = own.known;
  }

  pub frame_owned : owned (ids_of b) t ≡ owned (ids_of b) s
  frame_owned = ap (λ ns. own_ids (ids_of b) ++ inner_ids ns) (nodes_are (ids_of b) s t (list_at s b.held) (list_at s b.page) (list_at s b.waiting) own holds_same)

  list_frame : (l : ℕ) → get t.lists l ≡ get s.lists l → AllSame s t (inner_ids (list_at s l)) → plain_list t l ≡ plain_list s l
  list_frame l e inside = ap (map (plain_of (list_at t))) (lists_same s t l e) ∙ view_same s t (list_at s l) inside

  pub frame_contents : contents_of b t ≡ contents_of b s
  frame_contents = λ i. record {
    classes = map (λ x. x.class) b.boxes;
    boxes = boxes_same s t b.boxes same_boxes i;
    page = list_frame b.page same.0 (same-left s t (inner_ids (list_at s b.page)) (inner_ids (list_at s b.waiting)) two_same) i;
    waiting = list_frame b.waiting same.1.0 (same-right s t (inner_ids (list_at s b.page)) (inner_ids (list_at s b.waiting)) two_same) i;
    held = list_frame b.held same.1.1.0 (same-left s t (inner_ids (list_at s b.held)) (inner_ids (list_at s b.page ++ list_at s b.waiting)) parts_same) i;
    frozen = b.frozen;
    stopped = b.stopped;
  }

  pub frame_sound : IsSound b t
  frame_sound =
      sound_from b b s t sound (holds_own (ids_of b) s t (list_at s b.held) (list_at s b.page) (list_at s b.waiting) own holds_same) refl refl refl (ap (λ (c : Contents). c.page) frame_contents)
      (subst (IsPageSoFar b.frozen b.stopped b.course) (sym frame_contents) sound.page)

-- a list was opened
module _ (b : Builder) (s t : Lists Node) (l : ℕ) (sound : IsSound b s) (none : get s.lists l ≡ None) (e : t.lists ≡ with_list s l []) where
  opened : Opened s t (l ∷ [])
  opened = opened_first s s t [] l (opened_none s) none e

  pub opened_same : AllSame s t (owned (ids_of b) s)
  opened_same = live_all_same s t (owned (ids_of b) s) opened.others sound.own.live

  pub opened_live : IsLive t l
  opened_live = opened.live.0

  pub opened_empty : list_at t l ≡ []
  opened_empty = opened.empty.0

  pub opened_apart : Lacks l (owned (ids_of b) t)
  opened_apart = subst (Lacks l) (sym (frame_owned b s t sound opened_same)) (fresh_lacks s l (owned (ids_of b) s) none sound.own.live)

-- ---- what is handed over

-- a node that is no insertion
pub plain_joins : (b : Ids) (s : Lists Node) (n : Node) → IsOwned b s → inner_of n.kind ≡ None → is_known (classes_of b) n.kind ≡ true → NodesJoin b s (n ∷ [])
plain_joins b s n own none known = record {
  live = subst (AllLive s) (sym no_ids) tt;
  differ = subst (λ xs. AllDiffer (owned b s ++ xs)) (sym no_ids) (subst AllDiffer (sym (append-nil (owned b s))) own.differ);
  plain_lists = subst (HoldPlain s) (sym no_ids) tt;
  known = (known, tt);
}
  where
    no_ids : inner_ids (n ∷ []) ≡ []
    no_ids = ap (λ o. option_to_list o ++ []) none

-- an insertion whose list was not the builder's
pub insertion_joins : (b : Ids) (s : Lists Node) (n : Node) (l : ℕ) → IsOwned b s → inner_of n.kind ≡ Some l → IsLive s l → Lacks l (owned b s) → AllPlain (list_at s l) → is_known (classes_of b) n.kind ≡ true → NodesJoin b s (n ∷ [])
insertion_joins b s n l own some live apart plain known = record {
  live = subst (AllLive s) (sym one_id) (live, tt);
  differ = subst (λ xs. AllDiffer (owned b s ++ xs)) (sym one_id) (differ_last (owned b s) l own.differ apart);
  plain_lists = subst (HoldPlain s) (sym one_id) (plain, tt);
  known = (known, tt);
}
  where
    one_id : inner_ids (n ∷ []) ≡ l ∷ []
    one_id = ap (λ o. option_to_list o ++ []) some

-- an empty list that is not the builder's
pub empty_joins : (b : Ids) (s : Lists Node) (l : ℕ) → IsOwned b s → IsLive s l → list_at s l ≡ [] → Lacks l (owned b s) → ListJoins b s l
empty_joins b s l own live empty apart = record {
  live = live;
  apart = subst (λ ns. Lacks l (owned b s ++ inner_ids ns)) (sym empty) (subst (Lacks l) (sym (append-nil (owned b s))) apart);
  nodes = subst (NodesJoin b s) (sym empty) (record { live = tt; differ = subst AllDiffer (sym (append-nil (owned b s))) own.differ; plain_lists = tt; known = tt });
}

-- an id that named no list before is not the builder's
pub fresh_apart : (b : Ids) (s : Lists Node) (l : ℕ) → IsOwned b s → get s.lists l ≡ None → Lacks l (owned b s)
fresh_apart b s l own none = fresh_lacks s l (owned b s) none own.live

-- on an empty page any node may wait
pub empty_may_wait : (c : Contents) (n : PlainNode) → NoPage c → MayWait c n
empty_may_wait c n none kern acts = absurd (true≢false (sym kern ∙ ap ends_in_kern none.page))

-- what one step after the other leaves
pub leaves_then : (b d e : Ids) (s t r : Lists Node) → LeavesOthers b s d t → LeavesOthers d t e r → LeavesOthers b s e r
leaves_then b d e s t r m n = record { others = λ q h. n.others q (m.apart q h) ∙ m.others q h; apart = λ q h. n.apart q (m.apart q h) }
