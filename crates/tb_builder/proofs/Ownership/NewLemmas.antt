-- Lists are opened for a new builder.
use Rattle.std.proofs.Common.{◌≡◌, ◌≢◌, refl, sym, subst, ◌∙◌, ap, ℕ, ◌+◌, ◌<◌, pos, true, false, List, [], ◌∷◌, ◌++◌, length, map, take, get_or, None, is_some, IsSome, append-nil, add-one}
use Rattle.std.specs.FinMap.{get}
use Rattle.std.proofs.Math.Seq.{take-suc}
use Rattle.std.proofs.lemmas.Bool.{true≢false}
use Rattle.std.proofs.lemmas.List.{map-append}
use Rattle.tb_pool.specs.Lists.{Lists, IsLive, list_at, with_list}
use Rattle.tb_node.specs.declared.Node.{Node}
use Rattle.tb_node.specs.PlainNodes.{PlainNode, plain_of}
use Rattle.tb_insert.specs.declared.Class.{Class}
use Rattle.tb_insert.specs.Account.{Frozen}
use Rattle.tb_insert.specs.AccountEntries.{Differ}
use Rattle.tb_builder.specs.declared.Course.{Course}
use Rattle.tb_builder.specs.declared.ClassList.{ClassList}
use Rattle.tb_builder.specs.declared.Builder.{Builder}
use Rattle.tb_builder.specs.Reach.{holds_box}
use Rattle.tb_builder.specs.LegalPlaces.{page_shapes}
use Rattle.tb_break.specs.Places.{ends_lasting}
use Rattle.tb_builder.specs.Contents.{Contents, contents_of, boxed_of, void_box, nothing_yet, content_by, leaf_list}
use Rattle.tb_builder.specs.Ownership.{Lacks, AllDiffer, AllLive, inner_ids, ids_of, nodes_of, box_ids, own_ids, owned, AllPlain, HoldPlain, VoidEmpty, ClassesFit, AllKnown, IsOwned}
use Rattle.tb_builder.specs.Courses.{IsCourseOf, AllLoose, AllLasting, Unfrozen, IsPageSoFar, IsSound}
use Rattle.tb_builder.specs.NewLists.{AllEmpty, Opened, AllVoid, VoidBoxes}
use Rattle.tb_builder.proofs.Ownership.OwnedLemmas.{lacks-append, live-append}
use Rattle.tb_pool.proofs.CallerLemmas.{list_same, list_other, get_other, live_same, live_other}

-- ---- one more list

-- an id that named no list is none of those that name one
pub fresh_lacks : (t : Lists Node) (l : ℕ) (ids : List ℕ) → get t.lists l ≡ None → AllLive t ids → Lacks l ids
fresh_lacks t l [] none live = tt
fresh_lacks t l (x ∷ xs) none live = ((λ e. true≢false (sym (ap (λ q. is_some (get t.lists q)) e ∙ live.0) ∙ ap is_some none)), fresh_lacks t l xs none live.1)

module _ (t u : Lists Node) (l : ℕ) (e : u.lists ≡ with_list t l []) where
  live_more : (ids : List ℕ) → Lacks l ids → AllLive t ids → AllLive u ids
  live_more [] h live = tt
  live_more (x ∷ xs) h live = (live_other t u l [] x (λ y. h.0 (sym y)) e live.0, live_more xs h.1 live.1)

  empty_more : (ids : List ℕ) → Lacks l ids → AllEmpty t ids → AllEmpty u ids
  empty_more [] h empty = tt
  empty_more (x ∷ xs) h empty = (list_other t u l [] x (λ y. h.0 (sym y)) e ∙ empty.0, empty_more xs h.1 empty.1)

empty-append : (t : Lists Node) (xs ys : List ℕ) → AllEmpty t xs → AllEmpty t ys → AllEmpty t (xs ++ ys)
empty-append t [] ys a b = b
empty-append t (x ∷ xs) ys a b = (a.0, empty-append t xs ys a.1 b)

pub differ_last : (xs : List ℕ) (l : ℕ) → AllDiffer xs → Lacks l xs → AllDiffer (xs ++ l ∷ [])
differ_last [] l d h = (tt, tt)
differ_last (x ∷ xs) l d h = (lacks-append x xs (l ∷ []) d.0 ((λ e. h.0 (sym e)), tt), differ_last xs l d.1 h.1)

module _ (s t u : Lists Node) (ids : List ℕ) (l : ℕ) (o : Opened s t ids) (none : get t.lists l ≡ None) (e : u.lists ≡ with_list t l []) where
  lacks_new : Lacks l ids
  lacks_new = fresh_lacks t l ids none o.live

  is_other : (q : ℕ) → IsLive s q → q ≢ l
  is_other q live x = true≢false (sym live ∙ ap is_some (sym (o.others q live)) ∙ ap (λ k. is_some (get t.lists k)) x ∙ ap is_some none)

  others_more : (q : ℕ) → IsLive s q → get u.lists q ≡ get s.lists q
  others_more q live = get_other t u l [] q (is_other q live) e ∙ o.others q live

  pub opened_first : Opened s u (l ∷ ids)
  opened_first = record {
    live = (live_same t u l [] e, live_more t u l e ids lacks_new o.live);
    differ = (lacks_new, o.differ);
    empty = (list_same t u l [] e, empty_more t u l e ids lacks_new o.empty);
    fresh = λ q live. (is_other q live, o.fresh q live);
    others = others_more;
  }

  pub opened_last : Opened s u (ids ++ l ∷ [])
  opened_last = record {
    live = live-append u ids (l ∷ []) (live_more t u l e ids lacks_new o.live) (live_same t u l [] e, tt);
    differ = differ_last ids l o.differ lacks_new;
    empty = empty-append u ids (l ∷ []) (empty_more t u l e ids lacks_new o.empty) (list_same t u l [] e, tt);
    fresh = λ q live. lacks-append q ids (l ∷ []) (o.fresh q live) (is_other q live, tt);
    others = others_more;
  }

pub opened_none : (s : Lists Node) → Opened s s []
opened_none s = record { live = tt; differ = tt; empty = tt; fresh = λ q live. tt; others = λ q live. refl }

-- ---- void boxes

void_last : (es : List ClassList) (e : ClassList) → AllVoid es → e.void ≡ true → AllVoid (es ++ e ∷ [])
void_last [] e h v = (v, tt)
void_last (x ∷ xs) e h v = (h.0, void_last xs e h.1 v)

pub boxes_begin : (s : Lists Node) → VoidBoxes s s [] []
boxes_begin s = record { opened = opened_none s; classes = refl; void = tt }

pub boxes_more : (s t u : Lists Node) (cs : List Class) (es : List ClassList) (c : Class) (l : ℕ) → VoidBoxes s t cs es → get t.lists l ≡ None → u.lists ≡ with_list t l []
    → VoidBoxes s u (cs ++ c ∷ []) (es ++ record { class = c; list = l; void = true } ∷ [])
boxes_more s t u cs es c l v none e =
    let x : ClassList = record { class = c; list = l; void = true } in
    record {
      opened = subst (Opened s u) (sym (map-append (λ (y : ClassList). y.list) es (x ∷ []))) (opened_last s t u (box_ids es) l v.opened none e);
      classes = map-append (λ (y : ClassList). y.class) es (x ∷ []) ∙ ap (λ ds. ds ++ c ∷ []) v.classes;
      void = void_last es x v.void refl;
    }

-- the next class got a box
pub boxes_step : (s t u : Lists Node) (all : List Class) (k : ℕ) (d : Class) (es fs : List ClassList) (l : ℕ) → k < length all → VoidBoxes s t (take k all) es → get t.lists l ≡ None → u.lists ≡ with_list t l []
    → fs ≡ es ++ record { class = get_or all k d; list = l; void = true } ∷ [] → VoidBoxes s u (take (k + 1) all) fs
boxes_step s t u all k d es fs l within v none e last =
    subst (VoidBoxes s u (take (k + 1) all)) (sym last)
    (subst (λ cs. VoidBoxes s u cs (es ++ record { class = get_or all k d; list = l; void = true } ∷ [])) (sym (ap (λ j. take j all) (add-one k) ∙ take-suc all k d within)) (boxes_more s t u (take k all) es (get_or all k d) l v none e))

-- ---- the builder

empty_void : (t : Lists Node) (es : List ClassList) → AllEmpty t (box_ids es) → VoidEmpty t es
empty_void t [] h = tt
empty_void t (e ∷ es) h = ((λ v. h.0), empty_void t es h.1)

empty_plain : (t : Lists Node) (ids : List ℕ) → AllEmpty t ids → HoldPlain t ids
empty_plain t [] h = tt
empty_plain t (x ∷ xs) h = (subst AllPlain (sym h.0) tt, empty_plain t xs h.1)

boxes_void : (t : Lists Node) (es : List ClassList) → AllVoid es → map (boxed_of t) es ≡ map void_box (map (λ e. e.class) es)
boxes_void t [] h = refl
boxes_void t (e ∷ es) h = λ i. record { number = e.class.number; content = content_by (h.0 i) (leaf_list t e.list) } ∷ boxes_void t es h.1 i

module _ (s t : Lists Node) (b : Builder) (cs : List Class) (o : Opened s t (own_ids (ids_of b))) (classes : map (λ e. e.class) b.boxes ≡ cs) (void : AllVoid b.boxes) (fit : ClassesFit cs)
    (frozen : b.frozen ≡ None) (stopped : b.stopped ≡ false) where
  no_nodes : nodes_of (ids_of b) t ≡ []
  no_nodes = λ i. o.empty.1.1.0 i ++ (o.empty.0 i ++ o.empty.1.0 i)

  no_more : (xs : List ℕ) → xs ++ inner_ids (nodes_of (ids_of b) t) ≡ xs
  no_more xs = ap (λ ns. xs ++ inner_ids ns) no_nodes ∙ append-nil xs

  new_owned : owned (ids_of b) t ≡ own_ids (ids_of b)
  new_owned = no_more (own_ids (ids_of b))

  pub new_own : IsOwned (ids_of b) t
  new_own = record {
    live = subst (AllLive t) (sym new_owned) o.live;
    differ = subst AllDiffer (sym new_owned) o.differ;
    between = o.empty.1.1.1.0;
    void_empty = empty_void t b.boxes o.empty.1.1.1.1;
    plain_lists = subst (HoldPlain t) (sym (no_more (box_ids b.boxes))) (empty_plain t (box_ids b.boxes) o.empty.1.1.1.1);
    classes = subst ClassesFit (sym classes) fit;
    known = subst (AllKnown (map (λ e. e.class) b.boxes)) (sym no_nodes) tt;
  }

  pub new_contents : contents_of b t ≡ nothing_yet cs
  new_contents =
      (λ i. record {
        classes = map (λ e. e.class) b.boxes;
        boxes = boxes_void t b.boxes void i;
        page = nothing_plain (o.empty.0 i);
        waiting = nothing_plain (o.empty.1.0 i);
        held = nothing_plain (o.empty.1.1.0 i);
        frozen = frozen i;
        stopped = stopped i;
      })
      ∙ ap nothing_yet classes
    where
      nothing_plain : List Node → List PlainNode
      nothing_plain ns = map (plain_of (list_at t)) ns

  pub new_fresh : (q : ℕ) → IsLive s q → Lacks q (owned (ids_of b) t)
  new_fresh q live = subst (Lacks q) (sym new_owned) (o.fresh q live)

  pub new_sound : b.opened ≡ false → b.course.lasting ≡ false → IsSound b t
  new_sound opened lasting = record {
    own = new_own;
    opened = opened ∙ ap (λ (c : Contents). holds_box c.page) (sym new_contents);
    closed = λ e. subst (λ (c : Contents). AllLasting c.page) (sym new_contents) tt;
    page = subst (λ x. IsPageSoFar x b.stopped b.course (contents_of b t)) (sym frozen) (subst (λ x. IsPageSoFar None x b.course (contents_of b t)) (sym stopped) (subst (λ (c : Contents). Unfrozen b.course c.page) (sym new_contents) empty_page));
    met = λ some on. absurd (true≢false (sym (subst IsSome frozen some)));
  }
    where
      empty_page : Unfrozen b.course []
      empty_page = record { loose = tt; lasting_is = lasting }

-- a course that was just started for an empty page
pub started_lasting : (k : Course) → ((z : Frozen) (page : List PlainNode) → z.goal ≡ pos 0 → z.limit ≡ pos 0 → Differ z.classes → AllLoose page → false ≡ ends_lasting (page_shapes page) → IsCourseOf z k page []) → k.lasting ≡ false
started_lasting k h = (h (record { goal = pos 0; limit = pos 0; classes = [] }) [] refl refl tt tt refl).lasting_is
