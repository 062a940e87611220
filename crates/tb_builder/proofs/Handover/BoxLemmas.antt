-- A class box is looked at, and its nodes are taken.
use Rattle.std.proofs.Common.{◌≡◌, ◌≢◌, inl, inr, refl, sym, subst, ◌∙◌, ap, ℕ, zero, suc, ◌<◌, Bool, true, false, List, [], ◌∷◌, ◌++◌, length, map, None, is_none, is_some, get_or, arith}
use Rattle.std.specs.Prelude.{◌||◌, if◌then◌else◌, slice_set}
use Rattle.std.specs.FinMap.{get, insert}
use Rattle.std.proofs.lemmas.Bool.{true≢false, cases_eq, eqb-true}
use Rattle.tb_pool.specs.Lists.{Lists, IsLive, list_at, with_list}
use Rattle.tb_node.specs.declared.Node.{Node}
use Rattle.tb_node.specs.Fit.{shapes}
use Rattle.std.specs.List.{list_any}
use Rattle.tb_node.specs.Shape.{is_box as is_box_shape}
use Rattle.tb_node.specs.PlainNodes.{Leaf, leaf_of, leaf_shape, plain_of, plain_list}
use Rattle.tb_insert.specs.declared.Class.{Class}
use Rattle.tb_insert.proofs.AccountLemmas.{leaf_shapes}
use Rattle.tb_builder.specs.declared.ClassList.{ClassList}
use Rattle.tb_builder.specs.declared.Builder.{Builder}
use Rattle.tb_builder.specs.FiredPages.{Boxed, content_of, box_content, box_size}
use Rattle.tb_builder.specs.Contents.{Contents, contents_of, content_by, leaf_list, boxed_of}
use Rattle.tb_builder.specs.Ownership.{Lacks, AllDiffer, AllLive, inner_ids, Ids, ids_of, nodes_of, box_ids, owned, AllPlain, HoldPlain, VoidEmpty, has_class, has_number, IsFirst, IsClassList, ClassesFit, classes_of, AllKnown, IsOwned}
use Rattle.tb_builder.specs.Courses.{IsPageSoFar, IsSound}
use Rattle.tb_builder.specs.PageEvents.{SizesFit}
use Rattle.tb_builder.specs.Contributions.{NoPage, with_void, Taken}
use Rattle.tb_builder.proofs.Ownership.OwnedLemmas.{Apart, AllSame, lacks-left, lacks-right, differ-left, differ-apart, plain-left, same_from, lists_same, view_same, inner-append, same-left, same-right}
use Rattle.tb_builder.proofs.Turns.MoveLemmas.{Wrote, wrote_two}
use Rattle.tb_builder.proofs.LegalPlaces.ClassLemmas.{content_found, void_at, behind_first}
use Rattle.tb_builder.proofs.Handover.WaitLemmas.{page_free}
use Rattle.tb_builder.proofs.Handover.JoinLemmas.{apart_cons, apart_none, sound_from}

-- ---- a box is looked at

module _ (s : Lists Node) (es : List ClassList) (number : ℕ) (e : ClassList) (h : IsClassList es number e) where
  pub content_is : box_content (map (boxed_of s) es) number ≡ content_by e.void (leaf_list s e.list)
  content_is = content_found s es number h.place e h.first ∙ ap (λ x. (boxed_of s x).content) h.is

  pub void_empty_is : VoidEmpty s es → e.void ≡ true → list_at s e.list ≡ []
  void_empty_is v = subst (λ x. x.void ≡ true → list_at s x.list ≡ []) h.is (void_at s es h.place e h.first.within v)

  pub void_is : e.void ≡ is_none (box_content (map (boxed_of s) es) number)
  void_is = by_void e.void ∙ sym (ap is_none content_is)
    where
      by_void : (v : Bool) → v ≡ is_none (content_by v (leaf_list s e.list))
      by_void true = refl
      by_void false = refl

  -- the nodes of the box, whether it is void or not
  pub leaves_are : VoidEmpty s es → map leaf_of (list_at s e.list) ≡ content_of (box_content (map (boxed_of s) es) number)
  leaves_are v = by_void e.void (void_empty_is v) ∙ sym (ap content_of content_is)
    where
      by_void : (b : Bool) → (b ≡ true → list_at s e.list ≡ []) → map leaf_of (list_at s e.list) ≡ content_of (content_by b (leaf_list s e.list))
      by_void true h = ap (map leaf_of) (h refl)
      by_void false h = refl

  box_shapes : VoidEmpty s es → map leaf_shape (content_of (box_content (map (boxed_of s) es) number)) ≡ shapes s e.list
  box_shapes v = ap (map leaf_shape) (sym (leaves_are v)) ∙ leaf_shapes (list_at s e.list)

  pub sizes_fit : VoidEmpty s es → SizesFit (map leaf_shape (content_of (box_content (map (boxed_of s) es) number))) → SizesFit (shapes s e.list)
  sizes_fit v fits = subst SizesFit (box_shapes v) fits

  -- a box is among the nodes of one exactly if it is in its list
  pub any_box : VoidEmpty s es → list_any (λ n. is_box_shape (leaf_shape n)) (content_of (box_content (map (boxed_of s) es) number)) ≡ list_any is_box_shape (shapes s e.list)
  any_box v = any-shapes (content_of (box_content (map (boxed_of s) es) number)) ∙ ap (list_any is_box_shape) (box_shapes v)
    where
      any-shapes : (ns : List Leaf) → list_any (λ (n : Leaf). is_box_shape (leaf_shape n)) ns ≡ list_any is_box_shape (map leaf_shape ns)
      any-shapes [] = refl
      any-shapes (n ∷ ns) = ap (λ b. is_box_shape (leaf_shape n) || b) (any-shapes ns)

  pub size_is : VoidEmpty s es → box_size (box_content (map (boxed_of s) es) number) ≡ box_size (content_by e.void (leaf_list s e.list))
  size_is v = ap box_size content_is

-- ---- the classes, with the box of one void

abbrev pub with_void_box : ℕ → ClassList → ClassList
with_void_box number e = if has_number number e then record e { void = true } else e

abbrev pub voided_boxes : ℕ → List ClassList → List ClassList
voided_boxes number es = map (with_void_box number) es

none_voided : (es : List ClassList) (number : ℕ) → has_class (map (λ e. e.class) es) number ≡ false → voided_boxes number es ≡ es
none_voided [] number h = refl
none_voided (e ∷ es) number h = by_test (has_number number e) h (none_voided es number)
  where
    by_test : (t : Bool) → (t || has_class (map (λ x. x.class) es) number) ≡ false → (has_class (map (λ x. x.class) es) number ≡ false → voided_boxes number es ≡ es) → (if t then record e { void = true } else e) ∷ voided_boxes number es ≡ e ∷ es
    by_test true h later = absurd (true≢false h)
    by_test false h later = ap (λ xs. e ∷ xs) (later h)

-- the other classes have other numbers
others_differ : (e : ClassList) (es : List ClassList) (number : ℕ) → has_number number e ≡ true → ClassesFit (map (λ x. x.class) (e ∷ es)) → has_class (map (λ x. x.class) es) number ≡ false
others_differ e es number h fit = subst (λ k. has_class (map (λ x. x.class) es) k ≡ false) (eqb-true e.class.number number h) fit.0

pub set_voided : (es : List ClassList) (number k : ℕ) (d : ClassList) → IsFirst es number k d → ClassesFit (map (λ e. e.class) es) → slice_set es k (record (get_or es k d) { void = true }) ≡ voided_boxes number es
set_voided [] number k d h fit = let w : k < 0 = h.within in absurd (omega arith)
set_voided (e ∷ es) number zero d h fit =
    λ i. (if (sym h.there) i then record e { void = true } else e) ∷ (sym (none_voided es number (others_differ e es number h.there fit))) i
set_voided (e ∷ es) number (suc k) d h fit =
    λ i. (if (sym (h.before 0 (omega arith))) i then record e { void = true } else e) ∷ set_voided es number k d (behind_first e es number k d h) fit.3 i

-- the entry that is read does not depend on the default
pub same_entry : (es : List ClassList) (k : ℕ) (d f : ClassList) → k < length es → get_or es k d ≡ get_or es k f
same_entry [] k d f h = absurd (omega arith)
same_entry (e ∷ es) zero d f h = refl
same_entry (e ∷ es) (suc k) d f h = same_entry es k d f (omega arith)

-- the entry of the class was marked as void
pub marked : (es : List ClassList) (number k : ℕ) (e m : ClassList) → IsFirst es number k e → m ≡ get_or es k m → ClassesFit (map (λ x. x.class) es) → slice_set es k (record m { void = true }) ≡ voided_boxes number es
marked es number k e m first is fit = ap (λ x. slice_set es k (record x { void = true })) (is ∙ same_entry es k m e first.within) ∙ set_voided es number k e first fit

same_ids : (es : List ClassList) (number : ℕ) → box_ids (voided_boxes number es) ≡ box_ids es
same_ids [] number = refl
same_ids (e ∷ es) number = λ i. by_test (has_number number e) i ∷ same_ids es number i
  where
    by_test : (t : Bool) → (if t then record e { void = true } else e).list ≡ e.list
    by_test true = refl
    by_test false = refl

same_classes : (es : List ClassList) (number : ℕ) → map (λ e. e.class) (voided_boxes number es) ≡ map (λ e. e.class) es
same_classes [] number = refl
same_classes (e ∷ es) number = λ i. by_test (has_number number e) i ∷ same_classes es number i
  where
    by_test : (t : Bool) → (if t then record e { void = true } else e).class ≡ e.class
    by_test true = refl
    by_test false = refl

-- ---- the list of the box among those of the others

lacks_at : (x : ℕ) (es : List ClassList) (k : ℕ) (d : ClassList) → k < length es → Lacks x (box_ids es) → x ≢ (get_or es k d).list
lacks_at x [] k d w h = absurd (omega arith)
lacks_at x (e ∷ es) zero d w h = h.0
lacks_at x (e ∷ es) (suc k) d w h = lacks_at x es k d (omega arith) h.1

apart_at : (es : List ClassList) (ys : List ℕ) (k : ℕ) (d : ClassList) → k < length es → Apart (box_ids es) ys → Lacks (get_or es k d).list ys
apart_at [] ys k d w h = absurd (omega arith)
apart_at (e ∷ es) ys zero d w h = h.0
apart_at (e ∷ es) ys (suc k) d w h = apart_at es ys k d (omega arith) h.1

plain_at : (s : Lists Node) (es : List ClassList) (k : ℕ) (d : ClassList) → k < length es → HoldPlain s (box_ids es) → AllPlain (list_at s (get_or es k d).list)
plain_at s [] k d w h = absurd (omega arith)
plain_at s (e ∷ es) zero d w h = h.0
plain_at s (e ∷ es) (suc k) d w h = plain_at s es k d (omega arith) h.1

-- this list is that of the class with the number, and of no other
abbrev IsBoxOf : ℕ → ℕ → List ClassList → Type 0
IsBoxOf number l [] = Unit {0}
IsBoxOf number l (e ∷ es) = (has_number number e ≡ true → e.list ≡ l) × (has_number number e ≡ false → e.list ≢ l) × IsBoxOf number l es

no_box : (es : List ClassList) (number l : ℕ) → has_class (map (λ x. x.class) es) number ≡ false → Lacks l (box_ids es) → IsBoxOf number l es
no_box [] number l none h = tt
no_box (e ∷ es) number l none h = by_test (has_number number e) none (no_box es number l)
  where
    by_test : (t : Bool) → (t || has_class (map (λ x. x.class) es) number) ≡ false → (has_class (map (λ x. x.class) es) number ≡ false → Lacks l (box_ids es) → IsBoxOf number l es)
        → (t ≡ true → e.list ≡ l) × (t ≡ false → e.list ≢ l) × IsBoxOf number l es
    by_test true none later = absurd (true≢false none)
    by_test false none later = ((λ x. absurd (true≢false (sym x))), (λ x y. h.0 (sym y)), later none h.1)

box_of : (es : List ClassList) (number k : ℕ) (d : ClassList) → IsFirst es number k d → ClassesFit (map (λ e. e.class) es) → AllDiffer (box_ids es) → IsBoxOf number (get_or es k d).list es
box_of [] number k d h fit differ = tt
box_of (e ∷ es) number zero d h fit differ = ((λ x. refl), (λ x. absurd (true≢false (sym h.there ∙ x))), no_box es number e.list (others_differ e es number h.there fit) differ.0)
box_of (e ∷ es) number (suc k) d h fit differ =
    ((λ x. absurd (true≢false (sym x ∙ h.before 0 (omega arith)))), (λ x. lacks_at e.list es k d (let w : suc k < length (e ∷ es) = h.within in omega arith) differ.0), box_of es number k d (behind_first e es number k d h) fit.3 differ.1)

-- ---- the store, once the nodes of the box went to another list

module _ (s t : Lists Node) (into l : ℕ) (w : Wrote s t into l (list_at s into ++ list_at s l) []) where
  live_taken : (xs : List ℕ) → Lacks into xs → AllLive s xs → AllLive t xs
  live_taken [] a h = tt
  live_taken (x ∷ xs) a h = (
    elim (cases_eq x l) [
      | inl e ↦ subst (IsLive t) (sym e) w.second_live
      | inr ne ↦ ap is_some (w.others x (λ e. a.0 (sym e)) ne) ∙ h.0
    ],
    live_taken xs a.1 h.1,
  )

  plain_taken : (xs : List ℕ) → Lacks into xs → HoldPlain s xs → HoldPlain t xs
  plain_taken [] a h = tt
  plain_taken (x ∷ xs) a h = (
    elim (cases_eq x l) [
      | inl e ↦ subst AllPlain (sym (ap (list_at t) e ∙ w.second)) tt
      | inr ne ↦ subst AllPlain (sym (lists_same s t x (w.others x (λ e. a.0 (sym e)) ne))) h.0
    ],
    plain_taken xs a.1 h.1,
  )

  void_taken : (es : List ClassList) (number : ℕ) → Lacks into (box_ids es) → IsBoxOf number l es → VoidEmpty s es → VoidEmpty t (voided_boxes number es)
  void_taken [] number a o v = tt
  void_taken (e ∷ es) number a o v = (by_test (has_number number e) o.0 o.1, void_taken es number a.1 o.2 v.1)
    where
      by_test : (b : Bool) → (b ≡ true → e.list ≡ l) → (b ≡ false → e.list ≢ l) → (let x : ClassList = if b then record e { void = true } else e in x.void ≡ true → list_at t x.list ≡ [])
      by_test true f g = λ x. ap (list_at t) (f refl) ∙ w.second
      by_test false f g = λ x. lists_same s t e.list (w.others e.list (λ y. a.0 (sym y)) (g refl)) ∙ v.0 x

  boxes_taken : (es : List ClassList) (number : ℕ) → Lacks into (box_ids es) → IsBoxOf number l es → map (boxed_of t) (voided_boxes number es) ≡ with_void number (map (boxed_of s) es)
  boxes_taken [] number a o = refl
  boxes_taken (e ∷ es) number a o = λ i. by_test (has_number number e) o.1 i ∷ boxes_taken es number a.1 o.2 i
    where
      boxed_with : List Node → Boxed
      boxed_with ns = record { number = e.class.number; content = content_by e.void (map leaf_of ns) }

      by_test : (b : Bool) → (b ≡ false → e.list ≢ l) → boxed_of t (if b then record e { void = true } else e) ≡ (if b then record (boxed_of s e) { content = None } else boxed_of s e)
      by_test true g = refl
      by_test false g = ap boxed_with (lists_same s t e.list (w.others e.list (λ y. a.0 (sym y)) (g refl)))

-- ---- a box is taken

-- a list that is not the builder's is not that of the box
pub box_apart : (b : Builder) (s : Lists Node) (q number : ℕ) (e : ClassList) → IsClassList b.boxes number e → Lacks q (owned (ids_of b) s) → q ≢ e.list
box_apart b s q number e h apart =
    subst (λ (x : ClassList). q ≢ x.list) h.is (lacks_at q b.boxes h.place e h.first.within (lacks-left q (box_ids b.boxes) (inner_ids (nodes_of (ids_of b) s)) apart.1.1.1.1))

module _ (b : Builder) (s t : Lists Node) (into number : ℕ) (e : ClassList) (sound : IsSound b s) (none : NoPage (contents_of b s)) (h : IsClassList b.boxes number e)
    (apart : Lacks into (owned (ids_of b) s)) (joined : t.lists ≡ insert (with_list s into (list_at s into ++ list_at s e.list)) e.list []) where
  abbrev es : List ClassList
  es = b.boxes

  abbrev own : IsOwned (ids_of b) s
  own = sound.own

  abbrev inner : List ℕ
  inner = inner_ids (nodes_of (ids_of b) s)

  into_boxes : Lacks into (box_ids es)
  into_boxes = lacks-left into (box_ids es) inner apart.1.1.1.1

  wrote : Wrote s t into e.list (list_at s into ++ list_at s e.list) []
  wrote = wrote_two s t into e.list (list_at s into ++ list_at s e.list) [] (box_apart b s into number e h apart) joined

  is_box : IsBoxOf number e.list es
  is_box = subst (λ (x : ClassList). IsBoxOf number x.list es) h.is (box_of es number h.place e h.first own.classes (differ-left (box_ids es) inner own.differ.1.1.1.1))

  not_box : (q : ℕ) → Lacks q (box_ids es) → q ≢ e.list
  not_box q l = subst (λ (x : ClassList). q ≢ x.list) h.is (lacks_at q es h.place e h.first.within l)

  inner_apart : Lacks e.list inner
  inner_apart = subst (λ (x : ClassList). Lacks x.list inner) h.is (apart_at es inner h.place e h.first.within (differ-apart (box_ids es) inner own.differ.1.1.1.1))

  page_box : b.page ≢ e.list
  page_box = not_box b.page (lacks-left b.page (box_ids es) inner own.differ.0.1.1.1)

  waiting_box : b.waiting ≢ e.list
  waiting_box = not_box b.waiting (lacks-left b.waiting (box_ids es) inner own.differ.1.0.1.1)

  held_box : b.held ≢ e.list
  held_box = not_box b.held (lacks-left b.held (box_ids es) inner own.differ.1.1.0.1)

  rest_box : b.rest ≢ e.list
  rest_box = not_box b.rest (lacks-left b.rest (box_ids es) inner own.differ.1.1.1.0)

  same_beside : AllSame s t (b.page ∷ b.waiting ∷ b.held ∷ b.rest ∷ inner)
  same_beside = same_from s t (into ∷ e.list ∷ []) (b.page ∷ b.waiting ∷ b.held ∷ b.rest ∷ inner) (λ q x. wrote.others q x.0 x.1.0)
      (apart_cons into (b.page ∷ b.waiting ∷ b.held ∷ b.rest ∷ inner) (e.list ∷ []) (apart.0, (apart.1.0, (apart.1.1.0, (apart.1.1.1.0, lacks-right into (box_ids es) inner apart.1.1.1.1))))
      (apart_cons e.list (b.page ∷ b.waiting ∷ b.held ∷ b.rest ∷ inner) [] ((λ x. page_box (sym x)), ((λ x. waiting_box (sym x)), ((λ x. held_box (sym x)), ((λ x. rest_box (sym x)), inner_apart)))) (apart_none (b.page ∷ b.waiting ∷ b.held ∷ b.rest ∷ inner))))

  same_inner : AllSame s t inner
  same_inner = same_beside.1.1.1.1

  nodes_same : nodes_of (ids_of b) t ≡ nodes_of (ids_of b) s
  nodes_same = λ i. lists_same s t b.held same_beside.1.1.0 i ++ (lists_same s t b.page same_beside.0 i ++ lists_same s t b.waiting same_beside.1.0 i)

  abbrev taken_ids : Ids
  taken_ids = record (ids_of b) { boxes = voided_boxes number es }

  own_same : owned taken_ids t ≡ owned (ids_of b) s
  own_same = λ i. b.page ∷ b.waiting ∷ b.held ∷ b.rest ∷ (same_ids es number i ++ inner_ids (nodes_same i))

  owned_live : AllLive t (owned (ids_of b) s)
  owned_live = live_taken s t into e.list wrote (owned (ids_of b) s) apart own.live

  own_taken : IsOwned taken_ids t
  own_taken = record {
    live = subst (AllLive t) (sym own_same) owned_live;
    differ = subst AllDiffer (sym own_same) own.differ;
    between = lists_same s t b.rest same_beside.1.1.1.0 ∙ own.between;
    void_empty = void_taken s t into e.list wrote es number into_boxes is_box own.void_empty;
    plain_lists = subst (HoldPlain t) (sym (λ i. same_ids es number i ++ inner_ids (nodes_same i))) (plain_taken s t into e.list wrote (box_ids es ++ inner) apart.1.1.1.1 own.plain_lists);
    classes = subst ClassesFit (sym (same_classes es number)) own.classes;
    known = subst (λ (cs : List Class). AllKnown cs (nodes_of (ids_of b) t)) (sym (same_classes es number)) (subst (AllKnown (classes_of (ids_of b))) (sym nodes_same) own.known);
  }

  parts_same : AllSame s t (inner_ids (list_at s b.held) ++ inner_ids (list_at s b.page ++ list_at s b.waiting))
  parts_same = subst (AllSame s t) (inner-append (list_at s b.held) (list_at s b.page ++ list_at s b.waiting)) same_inner

  two_same : AllSame s t (inner_ids (list_at s b.page) ++ inner_ids (list_at s b.waiting))
  two_same = subst (AllSame s t) (inner-append (list_at s b.page) (list_at s b.waiting)) (same-right s t (inner_ids (list_at s b.held)) (inner_ids (list_at s b.page ++ list_at s b.waiting)) parts_same)

  list_same : (l : ℕ) → get t.lists l ≡ get s.lists l → AllSame s t (inner_ids (list_at s l)) → plain_list t l ≡ plain_list s l
  list_same l same inside = ap (map (plain_of (list_at t))) (lists_same s t l same) ∙ view_same s t (list_at s l) inside

  -- the builder, with the box of the class void
  module _ (d : Builder) (ids : ids_of d ≡ taken_ids) (frozen : d.frozen ≡ b.frozen) (stopped : d.stopped ≡ b.stopped) (opened : d.opened ≡ b.opened) (course : d.course ≡ b.course) where
    pub taken_contents : contents_of d t ≡ record (contents_of b s) { boxes = with_void number (contents_of b s).boxes }
    taken_contents =
        (λ i. record {
          classes = map (λ x. x.class) (ids i).boxes;
          boxes = map (boxed_of t) (ids i).boxes;
          page = plain_list t (ids i).page;
          waiting = plain_list t (ids i).waiting;
          held = plain_list t (ids i).held;
          frozen = frozen i;
          stopped = stopped i;
        })
        ∙ (λ i. record {
          classes = same_classes es number i;
          boxes = boxes_taken s t into e.list wrote es number into_boxes is_box i;
          page = list_same b.page same_beside.0 (same-left s t (inner_ids (list_at s b.page)) (inner_ids (list_at s b.waiting)) two_same) i;
          waiting = list_same b.waiting same_beside.1.0 (same-right s t (inner_ids (list_at s b.page)) (inner_ids (list_at s b.waiting)) two_same) i;
          held = list_same b.held same_beside.1.1.0 (same-left s t (inner_ids (list_at s b.held)) (inner_ids (list_at s b.page ++ list_at s b.waiting)) parts_same) i;
          frozen = b.frozen;
          stopped = b.stopped;
        })

    pub taken_sound : IsSound d t
    taken_sound =
        sound_from b d s t sound (subst (λ i. IsOwned i t) (sym ids) own_taken) opened frozen stopped (ap (λ (c : Contents). c.page) taken_contents)
        (page_free d.frozen d.stopped d.course (contents_of b s) (contents_of d t) (frozen ∙ none.frozen) (ap (λ (c : Contents). c.page) taken_contents)
        (subst (λ k. IsPageSoFar d.frozen d.stopped k (contents_of b s)) (sym course) (subst (λ x. IsPageSoFar d.frozen x b.course (contents_of b s)) (sym stopped) (subst (λ x. IsPageSoFar x b.stopped b.course (contents_of b s)) (sym frozen) sound.page))))

    pub taken_keeps : (q : ℕ) → Lacks q (owned (ids_of b) s) → Lacks q (owned (ids_of d) t)
    taken_keeps q l = subst (Lacks q) (sym (ap (λ i. owned i t) ids ∙ own_same)) l

  pub taken_others : (q : ℕ) → q ≢ into → Lacks q (owned (ids_of b) s) → get t.lists q ≡ get s.lists q
  taken_others q ne l = wrote.others q ne (not_box q (lacks-left q (box_ids es) inner l.1.1.1.1))

  pub taken_is : Taken s t into (box_content (contents_of b s).boxes number)
  taken_is = record {
    nodes = list_at s e.list;
    live = wrote.first_live;
    joined = wrote.first;
    leaves = leaves_are s es number e h own.void_empty;
    plain_nodes = subst (λ (x : ClassList). AllPlain (list_at s x.list)) h.is (plain_at s es h.place e h.first.within (plain-left s (box_ids es) inner own.plain_lists));
  }
