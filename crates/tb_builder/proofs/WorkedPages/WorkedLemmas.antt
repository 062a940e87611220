-- Nodes come to the builder of a worked page, and its page fires.
use Rattle.std.proofs.Common.{◌≡◌, refl, sym, subst, ◌∙◌, ap, ℕ, ◌+◌, ◌<◌, ◌≤◌, pos, Bool, true, false, List, [], ◌∷◌, ◌++◌, append-nil, length, map, Option, None, Some, is_some, unwrap_or, add_assoc, arith}
use Rattle.std.specs.Prelude.{All, option_to_list, ◌==◌, if◌then◌else◌}
use Rattle.std.specs.FinMap.{get}
use Rattle.std.proofs.lemmas.Bool.{true≢false}
use Rattle.std.proofs.lemmas.List.{length-map}
use Rattle.std.proofs.lemmas.Int.{ints}
use Rattle.std.proofs.lemmas.List.Elements.{All-nil, All-cons, All-head, All-tail, All-map, All-push, All-weaker}
use Rattle.tb_scaled.specs.declared.Glue.{Glue}
use Rattle.tb_scaled.specs.Glue.{fixed_glue}
use Rattle.tb_pool.specs.Lists.{Lists, IsLive, list_at}
use Rattle.tb_node.specs.declared.Node.{Node}
use Rattle.tb_node.specs.declared.Kind.{Kind}
use Rattle.tb_node.specs.declared.Kind.TheVariants as kinds
use Rattle.tb_node.specs.declared.Insertion.{Insertion}
use Rattle.tb_node.specs.Fit.{shapes, IsSized, IsSizedNode, IsSizedLeaf, IsDimension, IsExtent, IsPenalty}
use Rattle.tb_node.specs.Shape.{Shape, glue}
use Rattle.tb_node.specs.Sums.{size_of}
use Rattle.tb_node.specs.PlainNodes.{leaf_of, leaf_shape, PlainNode, plain_of, shape_of, plain_kind}
use Rattle.tb_insert.specs.declared.Class.{Class}
use Rattle.tb_insert.proofs.AccountLemmas.{leaf_shapes}
use Rattle.tb_builder.specs.declared.Ask.{Ask}
use Rattle.tb_builder.specs.declared.Event.{Event}
use Rattle.tb_builder.specs.declared.Event.TheVariants as events
use Rattle.tb_builder.specs.declared.Page.{Page}
use Rattle.tb_builder.specs.declared.Builder.{Builder}
use Rattle.tb_builder.specs.declared.Course.{Course}
use Rattle.tb_builder.specs.FiredPages.{Boxed, box_content, content_of}
use Rattle.tb_builder.specs.Contents.{Contents, frozen_with, contents_of, nothing_yet, kind_count, node_count, box_count}
use Rattle.tb_builder.specs.Ownership.{Lacks, AllDiffer, AllLive, ClassesFit, inner_of, inner_ids, Ids, IsOwned, ids_of, owned, is_plain, AllPlain, HoldPlain, is_known, AllKnown, has_class, classes_of}
use Rattle.tb_builder.specs.Courses.{IsSound, IsPageSoFar}
use Rattle.tb_builder.specs.PageEvents.{SizesFit, NextFits, NextIs, fired_page}
use Rattle.tb_builder.specs.Contributions.{NodesJoin, ListJoins, NoPage, ends_in_kern}
use Rattle.tb_builder.specs.Pageable.{IsSizedOnPage, IsFactor, IsSizedClass, IsSizedBox, IsPageable}
use Rattle.tb_builder.specs.SizedContents.{IsSizedAsk, IsSizedFreeze, IsSizedContents, whole_count, AreBoxesOf}
use Rattle.tb_builder.specs.WorkedPages.{IsMatter, BoxFits, AtRest, IsReady, waits}
use Rattle.tb_builder.proofs.Ownership.OwnedLemmas.{AllSame}
use Rattle.tb_builder.proofs.Ownership.NewLemmas.{fresh_lacks}
use Rattle.tb_builder.proofs.Ownership.FrameLemmas.{live_all_same, frame_owned, frame_contents, frame_sound, insertion_joins}
use Rattle.tb_builder.proofs.Ranges.PageableLemmas.{sizes_fit}
use Rattle.tb_builder.proofs.Events.FilledLemmas.{fits_next}
use Rattle.tb_builder.proofs.Ranges.KeptLemmas.{event-sized, event-fewer, stopped-sized, stopped-fewer}
use Rattle.tb_builder.proofs.Handover.CallLemmas.{list-sized, list-count}

-- ---- a node that is neither an insertion nor an act

module _ (held : ℕ → List Node) where
  matter_shape_is : (line : ℕ) (k : Kind) → is_plain k ≡ true → (let n : Node = record { line = line; kind = k } in IsSizedNode n → IsSizedOnPage (plain_of held n))
  matter_shape_is line (kinds.Mark name) p s = record { shape = tt; kind = tt }
  matter_shape_is line (kinds.Note name) p s = record { shape = tt; kind = tt }
  matter_shape_is line kinds.Whatsit p s = record { shape = tt; kind = tt }
  matter_shape_is line (kinds.Ins i) p s = absurd (true≢false (sym p))
  matter_shape_is line (kinds.Act a) p s = absurd (true≢false (sym p))
  matter_shape_is line k p s = record { shape = s; kind = tt }

  pub matter_on_page : (n : Node) → IsMatter n → IsSizedOnPage (plain_of held n)
  matter_on_page n m = matter_shape_is n.line n.kind m.plain m.sized

  pub matter_counts : (k : Kind) → is_plain k ≡ true → kind_count (plain_kind held k) ≡ 1
  matter_counts (kinds.Ins i) p = absurd (true≢false (sym p))
  matter_counts k p = refl

pub matter_inner : (k : Kind) → is_plain k ≡ true → inner_of k ≡ None
matter_inner (kinds.Ins i) p = absurd (true≢false (sym p))
matter_inner k p = refl

pub matter_known : (cs : List Class) (k : Kind) → is_plain k ≡ true → is_known cs k ≡ true
matter_known cs (kinds.Ins i) p = absurd (true≢false (sym p))
matter_known cs k p = refl

pub matter_plain : (ns : List Node) → All IsMatter ns → AllPlain ns
matter_plain [] h = tt
matter_plain (n ∷ ns) h = ((All-head IsMatter n ns h).plain, matter_plain ns (All-tail IsMatter n ns h))

pub plain_ids : (ns : List Node) → AllPlain ns → inner_ids ns ≡ []
plain_ids [] h = refl
plain_ids (n ∷ ns) h = λ i. option_to_list (matter_inner n.kind h.0 i) ++ plain_ids ns h.1 i

plain_known : (cs : List Class) (ns : List Node) → AllPlain ns → AllKnown cs ns
plain_known cs [] h = tt
plain_known cs (n ∷ ns) h = (matter_known cs n.kind h.0, plain_known cs ns h.1)

-- a list of such nodes that is not the builder's
pub list_joins : (b : Ids) (s : Lists Node) (l : ℕ) → IsOwned b s → IsLive s l → Lacks l (owned b s) → AllPlain (list_at s l) → ListJoins b s l
list_joins b s l own live apart plain = record {
  live = live;
  apart = subst (λ xs. Lacks l (owned b s ++ xs)) no_ids (subst (Lacks l) (sym (append-nil (owned b s))) apart);
  nodes = record {
    live = subst (AllLive s) no_ids tt;
    differ = subst (λ xs. AllDiffer (owned b s ++ xs)) no_ids (subst AllDiffer (sym (append-nil (owned b s))) own.differ);
    plain_lists = subst (HoldPlain s) no_ids tt;
    known = plain_known (classes_of b) (list_at s l) plain;
  };
}
  where
    no_ids : [] ≡ inner_ids (list_at s l)
    no_ids = sym (plain_ids (list_at s l) plain)

pub matter_sized : (ns : List Node) → All IsMatter ns → All IsSizedNode ns
matter_sized ns h = All-weaker IsMatter IsSizedNode (λ n m. m.sized) ns h

leaf_sized : (line : ℕ) (k : Kind) → is_plain k ≡ true → (let n : Node = record { line = line; kind = k } in IsSizedNode n → IsSizedLeaf (leaf_of n))
leaf_sized line (kinds.Mark name) p s = tt
leaf_sized line (kinds.Note name) p s = tt
leaf_sized line kinds.Whatsit p s = tt
leaf_sized line (kinds.Ins i) p s = absurd (true≢false (sym p))
leaf_sized line (kinds.Act a) p s = absurd (true≢false (sym p))
leaf_sized line k p s = s

pub matter_leaves : (ns : List Node) → All IsMatter ns → All IsSizedLeaf (map leaf_of ns)
matter_leaves ns h = All-map IsSizedLeaf leaf_of ns (All-weaker IsMatter (λ n. IsSizedLeaf (leaf_of n)) (λ n m. leaf_sized n.line n.kind m.plain m.sized) ns h)

-- ---- a builder to which nodes come

-- a new one
pub open_ready : (b : Builder) (s : Lists Node) (class : Class) (ask : Ask) → IsSound b s → contents_of b s ≡ nothing_yet (class ∷ []) → IsSizedClass class → class.number ≡ 254 → IsSizedAsk ask → IsReady b s ask
open_ready b s class ask sound e sized number asked = record {
  rest = record {
    sound = sound;
    no_page = subst NoPage (sym e) (record { page = refl; frozen = refl });
    known = subst (λ c. has_class c.classes 254 ≡ true) (sym e) (subst (λ k. (let d : Class = record class { number = k } in has_class (d ∷ []) 254 ≡ true)) (sym number) refl);
  };
  none_held = ap (λ (c : Contents). c.held) e;
  pageable = subst (λ c. IsPageable c ask) (sym e) (record {
    goal = asked.goal;
    limit = asked.depth;
    asked_goal = asked.goal;
    asked_depth = asked.depth;
    top_skip = asked.top_skip;
    feet = asked.foot_skip;
    classes = All-cons IsSizedClass class [] sized (All-nil IsSizedClass);
    classes_fit = subst ClassesFit (ap (λ (c : Contents). c.classes) e) sound.own.classes;
    boxes = All-cons IsSizedBox (record { number = class.number; content = None }) [] (All-nil IsSizedLeaf) (All-nil IsSizedBox);
    page = All-nil IsSizedOnPage;
    waiting = All-nil IsSizedOnPage;
    few = omega arith;
  });
}

pub count_last : (ns : List PlainNode) (n : PlainNode) → node_count (ns ++ n ∷ []) ≡ node_count ns + kind_count n.kind
count_last [] n = omega arith
count_last (m ∷ ms) n = ap (λ k. kind_count m.kind + k) (count_last ms n) ∙ sym (add_assoc (kind_count m.kind) (node_count ms) (kind_count n.kind))

-- one more node
module _ (b d : Builder) (s t : Lists Node) (n : PlainNode) (e : contents_of d t ≡ record (contents_of b s) { waiting = (contents_of b s).waiting ++ n ∷ [] }) where
  pub waits_more : waits d t ≡ waits b s + kind_count n.kind
  waits_more =
      ap (λ (c : Contents). node_count c.waiting + box_count c.boxes) e
      ∙ ap (λ k. k + box_count (contents_of b s).boxes) (count_last (contents_of b s).waiting n)
      ∙ swapped (node_count (contents_of b s).waiting) (kind_count n.kind) (box_count (contents_of b s).boxes)
    where
      swapped : (x y z : ℕ) → x + y + z ≡ x + z + y
      swapped x y z = omega arith

  pub ready_more : (ask : Ask) → IsReady b s ask → IsSound d t → IsSizedOnPage n → waits b s + kind_count n.kind ≤ 1000 → IsReady d t ask
  ready_more ask r sound sized few = record {
    rest = record {
      sound = sound;
      no_page = subst NoPage (sym e) (record { page = r.rest.no_page.page; frozen = r.rest.no_page.frozen });
      known = subst (λ c. has_class c.classes 254 ≡ true) (sym e) r.rest.known;
    };
    none_held = ap (λ (c : Contents). c.held) e ∙ r.none_held;
    pageable = subst (λ c. IsPageable c ask) (sym e) (record {
      goal = r.pageable.goal;
      limit = r.pageable.limit;
      asked_goal = r.pageable.asked_goal;
      asked_depth = r.pageable.asked_depth;
      top_skip = r.pageable.top_skip;
      feet = r.pageable.feet;
      classes = r.pageable.classes;
      classes_fit = r.pageable.classes_fit;
      boxes = r.pageable.boxes;
      page = r.pageable.page;
      waiting = All-push IsSizedOnPage (contents_of b s).waiting n r.pageable.waiting sized;
      few = few_now (node_count (contents_of b s).page) (node_count (contents_of b s).waiting) (kind_count n.kind) (box_count (contents_of b s).boxes) (node_count ((contents_of b s).waiting ++ n ∷ [])) (ap node_count r.rest.no_page.page) (count_last (contents_of b s).waiting n) few;
    });
  }
    where
      few_now : (p w k x y : ℕ) → p ≡ 0 → y ≡ w + k → w + x + k ≤ 1000 → p + y + x ≤ 4194304
      few_now p w k x y none e few = omega arith

-- the builder in another store
module _ (b : Builder) (s t : Lists Node) (sound : IsSound b t) (e : contents_of b t ≡ contents_of b s) where
  pub rest_still : AtRest b s → AtRest b t
  rest_still r = record { sound = sound; no_page = subst NoPage (sym e) r.no_page; known = subst (λ c. has_class c.classes 254 ≡ true) (sym e) r.known }

  pub ready_still : (ask : Ask) → IsReady b s ask → IsReady b t ask
  ready_still ask r = record { rest = rest_still r.rest; none_held = ap (λ (c : Contents). c.held) e ∙ r.none_held; pageable = subst (λ c. IsPageable c ask) (sym e) r.pageable }

  pub waits_still : waits b t ≡ waits b s
  waits_still = ap (λ (c : Contents). node_count c.waiting + box_count c.boxes) e

-- an insertion of such nodes
pub note_on_page : (held : ℕ → List Node) (line : ℕ) (i : Insertion) → All IsMatter (held i.list) → i.height ≡ size_of (map shape_of (held i.list)) → IsExtent i.split_depth → IsExtent i.split_top → IsPenalty i.floating
    → (let n : Node = record { line = line; kind = kinds.Ins i } in IsSizedOnPage (plain_of held n))
note_on_page held line i matter height depth top floating = record {
  shape = tt;
  kind = record {
    inner = matter_leaves (held i.list) matter;
    height = height ∙ ap size_of (sym (leaf_shapes (held i.list)));
    split_depth = depth;
    split_top = top;
    floating = floating;
  };
}

-- ---- an event

-- what `next` requires holds again, unless the page fired
pub fits_again : (stopped : Bool) (v : Event) (c d : Contents) (ask : Ask) (s : Lists Node) → ((p : Page) → v ≡ events.Fired p → ⊥) → NextFits c ask → NextIs stopped v c ask d s → NextFits d ask
fits_again true (events.Fired p) c d ask s on fits h = absurd (on p refl)
fits_again true v c d ask s on fits h = absurd h
fits_again false v c d ask s on fits h = fits_next false v c d ask s refl fits h

pub held_again : (stopped : Bool) (v : Event) (c d : Contents) (ask : Ask) (s : Lists Node) → ((p : Page) → v ≡ events.Fired p → ⊥) → c.held ≡ [] → NextIs stopped v c ask d s → d.held ≡ []
held_again true (events.Fired p) c d ask s on none h = absurd (on p refl)
held_again true v c d ask s on none h = absurd h
held_again false v c d ask s on none h = h.1.held ∙ none

pub known_again : (stopped : Bool) (v : Event) (c d : Contents) (ask : Ask) (s : Lists Node) → has_class c.classes 254 ≡ true → NextIs stopped v c ask d s → has_class d.classes 254 ≡ true
known_again true (events.Fired p) c d ask s known h = subst (λ (x : Contents). has_class x.classes 254 ≡ true) (sym h.after) known
known_again true v c d ask s known h = absurd h
known_again false v c d ask s known h = subst (λ cs. has_class cs 254 ≡ true) (sym h.1.classes) known

-- a page fired
pub fired_no_page : (stopped : Bool) (p : Page) (c d : Contents) (ask : Ask) (s : Lists Node) → NextIs stopped (events.Fired p) c ask d s → NoPage d
fired_no_page true p c d ask s h = subst NoPage (sym h.after) (record { page = refl; frozen = refl })
fired_no_page false p c d ask s h = absurd h.0

pub fired_live : (stopped : Bool) (p : Page) (c d : Contents) (ask : Ask) (s : Lists Node) → NextIs stopped (events.Fired p) c ask d s → IsLive s p.body
fired_live true p c d ask s h = h.page.live
fired_live false p c d ask s h = absurd h.0

-- what the box of the class holds then is sized
box_fits : (bs : List Boxed) (k : ℕ) → All IsSizedBox bs → box_count bs ≤ 8388608 → SizesFit (map leaf_shape (content_of (box_content bs k)))
box_fits [] k h few = sizes_fit [] (All-nil IsSized) (omega arith)
box_fits (b ∷ bs) k h few = by_test (b.number == k) (box_fits bs k (All-tail IsSizedBox b bs h) (omega (arith, few)))
  where
    by_test : (t : Bool) → SizesFit (map leaf_shape (content_of (box_content bs k))) → SizesFit (map leaf_shape (content_of (if t then b.content else box_content bs k)))
    by_test true later = sizes_fit (map leaf_shape (content_of b.content)) (All-map IsSized leaf_shape (content_of b.content) (All-head IsSizedBox b bs h)) (omega (arith, few, length-map {B = Shape} (content_of b.content)))
    by_test false later = later

pub fired_box : (stopped : Bool) (p : Page) (c d : Contents) (ask : Ask) (s : Lists Node) → c.stopped ≡ stopped → IsSizedContents c → whole_count c ≤ 4194305 → AreBoxesOf c.classes c.boxes → NextIs stopped (events.Fired p) c ask d s → BoxFits d
fired_box true p c d ask s e r few boxed h =
    let count = stopped-fewer c ask r e r.classes_fit boxed in
    subst BoxFits (sym h.after) (box_fits (fired_page c ask).boxes 254 (stopped-sized c ask r e).boxes (omega (arith, count, few)))
fired_box false p c d ask s e r few boxed h = absurd h.0

-- what is sized stays so up to the page, and no node comes
pub sized_again : (stopped : Bool) (v : Event) (c d : Contents) (ask : Ask) (s : Lists Node) → ((p : Page) → v ≡ events.Fired p → ⊥) → IsSizedAsk ask → c.stopped ≡ stopped → IsSizedContents c → NextIs stopped v c ask d s
    → IsSizedContents d × (whole_count d ≤ whole_count c)
sized_again true (events.Fired p) c d ask s on asked e r h = absurd (on p refl)
sized_again true v c d ask s on asked e r h = absurd h
sized_again false v c d ask s on asked e r h = (event-sized c d ask v asked r e h.0 h.1, event-fewer c d ask v asked r e h.0 h.1)

module _ (b : Builder) (s : Lists Node) (ask : Ask) (r : IsReady b s ask) where
  pub ready_asked : IsSizedAsk ask
  ready_asked = record {
    goal = r.pageable.asked_goal;
    depth = r.pageable.asked_depth;
    top_skip = r.pageable.top_skip;
    foot_skip = subst (λ o. IsSized (glue (frozen_with o ask).foot_skip)) r.rest.no_page.frozen r.pageable.feet;
  }

  pub ready_sized : IsSizedContents (contents_of b s)
  ready_sized = record {
    nodes = list-sized b.stopped (contents_of b s).page (contents_of b s).waiting r.pageable.page r.pageable.waiting;
    held = subst (All IsSizedOnPage) (sym r.none_held) (All-nil IsSizedOnPage);
    boxes = r.pageable.boxes;
    classes = r.pageable.classes;
    classes_fit = r.pageable.classes_fit;
    frozen = subst IsSizedFreeze (sym r.rest.no_page.frozen) tt;
  }

  pub ready_count : whole_count (contents_of b s) ≤ 4194305
  ready_count =
      let one = list-count b.stopped (contents_of b s).page (contents_of b s).waiting in
      let none = ap node_count r.none_held in
      omega (arith, one, none, r.pageable.few)

-- ---- the amounts of worked pages

pub extent_of : (k : ℕ) → k ≤ 1073741823 → IsExtent (pos k)
extent_of k h = record { low = omega (arith, ints); high = omega (arith, ints) }

pub penalty_of : (k : ℕ) → k ≤ 1073741823 → IsPenalty (pos k)
penalty_of k h = record { low = omega (arith, ints); high = omega (arith, ints) }

nothing : IsDimension (pos 0)
nothing = record { low = omega (arith, ints); high = omega (arith, ints) }

pub sized_class : (c : Class) → c.factor ≡ pos 1000 → c.skip ≡ fixed_glue (pos 0) → IsSizedClass c
sized_class c factor skip = record {
  factor = subst IsFactor (sym factor) (record { low = omega (arith, ints); high = omega (arith, ints) });
  width = subst (λ (g : Glue). IsDimension g.width) (sym skip) nothing;
  stretch = subst (λ (g : Glue). IsDimension g.stretch) (sym skip) nothing;
  shrink = subst (λ (g : Glue). IsDimension g.shrink) (sym skip) nothing;
}

pub no_skip : (g : Glue) → g ≡ fixed_glue (pos 0) → IsSized (glue g)
no_skip g e = subst (λ x. IsSized (glue x)) (sym e) (nothing, nothing, nothing)

-- ---- how much waits

pub few_waits : (now before first k len : ℕ) → now ≡ before → before ≤ first + k → k ≤ len → now ≤ first + len
few_waits now before first k len e h l = omega arith

pub room_waits : (before first k len one : ℕ) → one ≡ 1 → before ≤ first + k → k < len → first + len ≤ 1000 → before + one ≤ 1000
room_waits before first k len one e h l room = omega arith

pub more_waits : (now before first k : ℕ) → now ≡ before + 1 → before ≤ first + k → now ≤ first + (k + 1)
more_waits now before first k e h = omega arith

-- ---- lists

-- the page stays empty
pub rest_from : (b d : Builder) (s t : Lists Node) → AtRest b s → IsSound d t → (contents_of d t).page ≡ (contents_of b s).page → (contents_of d t).frozen ≡ (contents_of b s).frozen → (contents_of d t).classes ≡ (contents_of b s).classes → AtRest d t
rest_from b d s t r sound page frozen classes = record {
  sound = sound;
  no_page = record { page = page ∙ r.no_page.page; frozen = frozen ∙ r.no_page.frozen };
  known = subst (λ cs. has_class cs 254 ≡ true) (sym classes) r.known;
}

-- no stop was tried last
pub rest_going : (b : Builder) (s : Lists Node) → AtRest b s → b.stopped ≡ false
rest_going b s r = by_frozen b.frozen b.stopped b.course (contents_of b s) r.no_page.frozen r.sound.page
  where
    by_frozen : (o : Option Ask) (st : Bool) (k : Course) (c : Contents) → o ≡ None → IsPageSoFar o st k c → st ≡ false
    by_frozen None false k c e p = refl
    by_frozen None true k c e p = absurd p
    by_frozen (Some f) st k c e p = absurd (true≢false (ap is_some e))

pub rest_no_kern : (b : Builder) (s : Lists Node) → AtRest b s → ends_in_kern (contents_of b s).page ≡ false
rest_no_kern b s r = ap ends_in_kern r.no_page.page

-- ---- a list of worked nodes, or an insertion of them

module _ (b : Builder) (s t : Lists Node) (l : ℕ) (nodes : List Node) (ask : Ask) (r : IsReady b s ask) (fresh : get s.lists l ≡ None) (made : get t.lists l ≡ Some nodes) (others : (q : ℕ) → IsLive s q → get t.lists q ≡ get s.lists q) (matter : All IsMatter nodes) where
  same_owned : AllSame s t (owned (ids_of b) s)
  same_owned = live_all_same s t (owned (ids_of b) s) others r.rest.sound.own.live

  pub note_sound : IsSound b t
  note_sound = frame_sound b s t r.rest.sound same_owned

  pub note_ready : IsReady b t ask
  note_ready = ready_still b s t note_sound (frame_contents b s t r.rest.sound same_owned) ask r

  pub note_waits : waits b t ≡ waits b s
  note_waits = waits_still b s t note_sound (frame_contents b s t r.rest.sound same_owned)

  list_made : list_at t l ≡ nodes
  list_made = ap (λ o. unwrap_or o []) made

  pub note_list_joins : ListJoins (ids_of b) t l
  note_list_joins =
      list_joins (ids_of b) t l note_sound.own (ap is_some made)
      (subst (Lacks l) (sym (frame_owned b s t r.rest.sound same_owned)) (fresh_lacks s l (owned (ids_of b) s) fresh r.rest.sound.own.live))
      (subst AllPlain (sym list_made) (matter_plain nodes matter))

  module _ (n : Node) (i : Insertion) (kind : n.kind ≡ kinds.Ins i) (list_is : i.list ≡ l) (class_is : i.class ≡ 254) where
    pub note_joins : NodesJoin (ids_of b) t (n ∷ [])
    note_joins =
        insertion_joins (ids_of b) t n l note_sound.own (ap inner_of kind ∙ ap Some list_is) (ap is_some made)
        (subst (Lacks l) (sym (frame_owned b s t r.rest.sound same_owned)) (fresh_lacks s l (owned (ids_of b) s) fresh r.rest.sound.own.live))
        (subst AllPlain (sym list_made) (matter_plain nodes matter))
        (ap (is_known (classes_of (ids_of b))) kind ∙ ap (has_class (classes_of (ids_of b))) class_is ∙ r.rest.known)

    held_is : list_at t i.list ≡ nodes
    held_is = ap (list_at t) list_is ∙ list_made

    pub note_sized : i.height ≡ size_of (shapes t l) → IsExtent i.split_depth → IsExtent i.split_top → IsPenalty i.floating → IsSizedOnPage (plain_of (list_at t) n)
    note_sized height depth top floating =
        subst (λ k. (let m : Node = record { line = n.line; kind = k } in IsSizedOnPage (plain_of (list_at t) m))) (sym kind)
        (note_on_page (list_at t) n.line i (subst (All IsMatter) (sym held_is) matter) (height ∙ ap (λ k. size_of (shapes t k)) (sym list_is)) depth top floating)

    pub note_counts : kind_count (plain_of (list_at t) n).kind ≡ 1 + length nodes
    note_counts = ap (λ k. kind_count (plain_kind (list_at t) k)) kind ∙ ap (λ k. 1 + k) (length-map (list_at t i.list) leaf_of ∙ ap length held_is)

pub note_room : (before first len count : ℕ) → before ≡ first → count ≡ 1 + len → first + len + 1 ≤ 1000 → before + count ≤ 1000
note_room before first len count e c room = omega arith

pub note_count : (now before first len count : ℕ) → now ≡ before + count → before ≡ first → count ≡ 1 + len → now ≤ first + len + 1
note_count now before first len count n e c = omega arith

pub same_count : (now first len : ℕ) → now ≡ first → now ≤ first + len + 1
same_count now first len e = omega arith
