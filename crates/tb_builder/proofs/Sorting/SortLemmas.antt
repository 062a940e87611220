-- The nodes of a page that fires are sorted, one by one.
use Rattle.std.proofs.Common.{◌≡◌, ◌≢◌, refl, sym, subst, ◌∙◌, ap, ℕ, ◌+◌, ◌<◌, Bool, true, false, List, [], ◌∷◌, ◌++◌, map, length, take, drop, Option, Some, None, is_some, append_assoc, append-nil, arith}
use Rattle.std.specs.Prelude.{ℤ, pos, ◌+ℤ◌, ◌-ℤ◌, int_le, ◌==◌, ◌||◌, ◌&&◌, option_to_list, not, nat_lt, if◌then◌else◌}
use Rattle.std.specs.FinMap.{get, insert}
use Rattle.std.proofs.lemmas.Bool.{true≢false}
use Rattle.std.proofs.lemmas.Bool.Decides.{nat_tests}
use Rattle.std.proofs.lemmas.List.{map-append, length-map}
use Rattle.std.proofs.lemmas.List.Elements.{filter-append}
use Rattle.tb_pool.specs.Lists.{Lists, list_at, with_list}
use Rattle.tb_node.specs.declared.Node.{Node}
use Rattle.tb_node.specs.declared.Insertion.{Insertion}
use Rattle.tb_scaled.specs.Scaled.{min_ℤ}
use Rattle.tb_node.specs.declared.Sums.{Sums}
use Rattle.tb_node.specs.Sums.{sums_of, list_shrink}
use Rattle.tb_break.specs.declared.Found.{Found}
use Rattle.tb_break.specs.Split.{split_of}
use Rattle.tb_node.specs.Fit.{shapes, NodesFit}
use Rattle.tb_node.specs.SmallAmounts.{IsAmount}
use Rattle.tb_node.specs.PlainNodes.{leaf_shape, node_shape, Inserted, inserted_of, PlainKind, plain, ins, act, PlainNode, plain_of, on_line, is_insertion_kind, without_insertions, plain_list}
use Rattle.tb_node.specs.Roles.{insertion_of_kind}
use Rattle.tb_insert.specs.declared.Class.{Class}
use Rattle.tb_insert.specs.Account.{ClassBox, class_box, insertions, goal_after, class_height, skip_shapes, met_classes, scaled_by, clamped, unscaled_room, has_split, Frozen, Label, whole, split, late, Labelled, label_of, labelled, labelled_with}
use Rattle.tb_insert.specs.AccountEntries.{cut_in, last_let_in}
use Rattle.tb_insert.proofs.AccountLemmas.{leaf_shapes, labelled-append}
use Rattle.tb_builder.specs.declared.Share.{Share}
use Rattle.tb_builder.specs.declared.Share.TheVariants.{All, Front}
use Rattle.tb_builder.specs.declared.Builder.{Builder}
use Rattle.tb_builder.specs.FiredPages.{Boxed, box_after, held_insertions}
use Rattle.tb_builder.specs.Ownership.{Lacks, inner_ids, ids_of, owned, has_class, ClassesFit, AllKnown, classes_of, IsOwned}
use Rattle.tb_builder.specs.Contents.{Contents, contents_of}
use Rattle.tb_builder.specs.PageEvents.{SizesFit, InsertedFits}
use Rattle.tb_builder.specs.Firing.{share_of, share_told, share_held, box_shared, BeginsVanishing, IsShareWithin, SharesOut, SortsTo, Sorted, IsMarkedAt, EachFits, NoInsertions, IsBody, begins_with_insertion}
use Rattle.tb_builder.proofs.LegalPlaces.CourseLemmas.{no_insertion}
use Rattle.tb_builder.proofs.Turns.FreezeLemmas.{plain_insertion, no_inner}
use Rattle.tb_builder.proofs.Ownership.OwnedLemmas.{AllSame, view_same, inner-append, known-left, known-right, known-append}
use Rattle.tb_builder.proofs.Sorting.ShareLemmas.{told_label, boxes_one, held_one}
use Rattle.tb_builder.proofs.Ownership.StoreMoves.{Got, got_two, list_got, live_got, list_kept, live_kept, live_has, one_got, one_other}
use Rattle.tb_builder.proofs.Ownership.RelistLemmas.{frame_own, frame_owned, frame_held, frame_page, frame_waiting, frame_boxes, same_lacking, Relisted, relisted_own, relisted_keeps, relisted_held, relisted_page, relisted_waiting, relisted_boxes}
use Rattle.tb_builder.proofs.Sorting.GiveLemmas.{class_there}
use Rattle.tb_builder.proofs.Sorting.RestLemmas.{split-vanishes}

-- ---- the share of a label is within the insertion's list

abbrev IsLabelWithin : Label → Inserted → Type 0
IsLabelWithin whole i = Unit {0}
IsLabelWithin (split f) i = BeginsVanishing (drop f.index (map leaf_shape i.inner))
IsLabelWithin late i = Unit {0}

label_choice : (i : Inserted) (a t : Bool) (f : Found) → BeginsVanishing (drop f.index (map leaf_shape i.inner)) → IsLabelWithin (if a then late else (if t then whole else split f)) i
label_choice i true t f e = tt
label_choice i false true f e = tt
label_choice i false false f e = e

within_of : (l : Label) (i : Inserted) → IsLabelWithin l i → IsShareWithin (share_of l i) (map leaf_shape i.inner)
within_of whole i h = tt
within_of (split f) i h = by_test (nat_lt f.index (length i.inner)) refl
  where
    by_test : (t : Bool) → nat_lt f.index (length i.inner) ≡ t → IsShareWithin (if t then Front f.index else All) (map leaf_shape i.inner)
    by_test true e = let len : length (map leaf_shape i.inner) ≡ length i.inner = length-map i.inner leaf_shape in (grind (arith, nat_tests, e, len), h)
    by_test false e = tt
within_of late i h = tt

label_within : (z : Frozen) (ls : List Labelled) (before : List PlainNode) (i : Inserted) → IsShareWithin (share_of (label_of z ls before i) i) (map leaf_shape i.inner)
label_within z ls before i =
    let c : ClassBox = class_box z.classes i.class in
    let goal : ℤ = goal_after z ls (i ∷ insertions ls) in
    let height : ℤ = class_height z.classes ls i.class in
    let s : Sums = sums_of z.limit (map node_shape before) in
    let shrink : ℤ = s.shrink +ℤ list_shrink (skip_shapes (met_classes z.classes (i ∷ insertions ls))) in
    let scaled : ℤ = scaled_by c.class.factor i.height in
    let room : ℤ = goal -ℤ s.total -ℤ s.depth in
    let height_there : ℤ = clamped (min_ℤ (unscaled_room c.class.factor room) (c.class.limit -ℤ height)) in
    within_of (label_of z ls before i) i
    (label_choice i (has_split ls i.class) ((int_le scaled (pos 0) || int_le scaled (room +ℤ shrink)) && int_le (height +ℤ i.height) c.class.limit)
    (split_of height_there i.split_depth (map leaf_shape i.inner)) (split-vanishes height_there i.split_depth (map leaf_shape i.inner)))

-- ---- facts about the first node

class_below : (cs : List Class) (k : ℕ) → ClassesFit cs → has_class cs k ≡ true → k < 256
class_below [] k fit h = absurd (true≢false (sym h))
class_below (c ∷ cs) k fit h = by_class (c.number == k) refl h (λ x. class_below cs k fit.3 x)
  where
    by_class : (t : Bool) → (c.number == k) ≡ t → (t || has_class cs k) ≡ true → (has_class cs k ≡ true → k < 256) → k < 256
    by_class true e h later = let same : c.number ≡ k = grind (arith, nat_tests, e) in subst (λ x. x < 256) same fit.1
    by_class false e h later = later h

module _ (b : Builder) (s : Lists Node) (n : Node) (ns : List Node) (i : Insertion) (own : IsOwned (ids_of b) s) (first : list_at s b.page ≡ n ∷ ns) (is : insertion_of_kind n.kind ≡ Some i) where
  pub first_class : i.class < 256
  first_class = class_below (classes_of (ids_of b)) i.class own.classes (class_there (ids_of b) s n ns i own first is)

  abbrev this : Inserted
  this = inserted_of (list_at s) i

  abbrev this_node : PlainNode
  this_node = record { line = n.line; kind = ins this }

  abbrev behind : List PlainNode
  behind = map (plain_of (list_at s)) ns

  page_first : plain_list s b.page ≡ this_node ∷ behind
  page_first = ap (map (plain_of (list_at s))) first ∙ ap (λ m. m ∷ behind) (plain_insertion (list_at s) n i is)

  first_fits : EachFits (plain_list s b.page) → InsertedFits this
  first_fits fit = (fit [] this_node behind (sym page_first)).kind_fits

  pub first_nodes : EachFits (plain_list s b.page) → NodesFit (shapes s i.list)
  first_nodes fit = subst NodesFit (leaf_shapes (list_at s i.list)) (first_fits fit).nodes

  pub first_sizes : EachFits (plain_list s b.page) → SizesFit (shapes s i.list)
  first_sizes fit = subst SizesFit (leaf_shapes (list_at s i.list)) (first_fits fit).sizes

  pub first_top : EachFits (plain_list s b.page) → IsAmount i.split_top
  first_top fit = (first_fits fit).top

  -- ---- an insertion

  module _ (z : Frozen) (before : List PlainNode) (index : ℕ) (share : Share) (at : index ≡ length before)
      (told : share ≡ share_told (cut_in (labelled z (before ++ plain_list s b.page)) i.class) (last_let_in (labelled z (before ++ plain_list s b.page)) i.class) index) where
    abbrev label_here : Label
    label_here = label_of z (labelled z before) before this

    abbrev labelled_here : Labelled
    labelled_here = record { index = length before; line = n.line; inserted = this; label = label_here }

    share_is : share ≡ share_of label_here this
    share_is =
        told
        ∙ (λ j. share_told (cut_in (labelled z (before ++ page_first j)) i.class) (last_let_in (labelled z (before ++ page_first j)) i.class) (at j))
        ∙ told_label z before behind n.line this

    pub share_within : IsShareWithin share (shapes s i.list)
    share_within = subst (λ x. IsShareWithin x (shapes s i.list)) (sym share_is) (subst (IsShareWithin (share_of label_here this)) (leaf_shapes (list_at s i.list)) (label_within z (labelled z before) before this))

    labels_are : labelled z (before ++ this_node ∷ []) ≡ labelled z before ++ labelled_here ∷ []
    labels_are = labelled-append z before this_node

    pub sorted_insertion : (boxes : List Boxed) (marked body new : List PlainNode) (d : Contents) → new ≡ body → d.page ≡ behind → d.boxes ≡ map (box_shared share this) (contents_of b s).boxes
        → d.held ≡ (contents_of b s).held ++ on_line n.line (share_held share this) → Sorted z boxes marked (contents_of b s) body before → Sorted z boxes marked d new (before ++ take 1 (plain_list s b.page))
    sorted_insertion boxes marked body new d same page boxes_is held_is h = subst (λ ps. Sorted z boxes marked d new (before ++ take 1 ps)) (sym page_first) (record {
      whole = append_assoc before (this_node ∷ []) d.page ∙ ap (λ ps. before ++ this_node ∷ ps) page ∙ ap (λ ps. before ++ ps) (sym page_first) ∙ h.whole;
      body_is = same ∙ h.body_is ∙ sym (without-insertion before);
      boxes_are = boxes_is ∙ (λ j. map (box_shared (share_is j) this) (h.boxes_are j)) ∙ sym (boxes_one (labelled z before) labelled_here boxes) ∙ ap (λ ls. map (box_after ls) boxes) (sym labels_are);
      held_are = held_is ∙ (λ j. h.held_are j ++ on_line n.line (share_held (share_is j) this)) ∙ sym (held_one (labelled z before) labelled_here) ∙ ap held_insertions (sym labels_are);
    })
      where
        without-insertion : (before : List PlainNode) → without_insertions (before ++ this_node ∷ []) ≡ without_insertions before
        without-insertion before = filter-append (λ (x : PlainNode). not (is_insertion_kind x.kind)) before (this_node ∷ []) ∙ append-nil (without_insertions before)

-- the account says what becomes of the first insertion
pub marked_within : (b : Builder) (s : Lists Node) (n : Node) (ns : List Node) (i : Insertion) (index : ℕ) (share : Share) → IsOwned (ids_of b) s → list_at s b.page ≡ n ∷ ns → insertion_of_kind n.kind ≡ Some i
    → (m : IsMarkedAt b.course.account index (plain_list s b.page)) → share ≡ share_told (cut_in (labelled m.z (m.before ++ plain_list s b.page)) i.class) (last_let_in (labelled m.z (m.before ++ plain_list s b.page)) i.class) index
    → IsShareWithin share (shapes s i.list)
marked_within b s n ns i index share own first is m told = share_within b s n ns i own first is m.z m.before index share m.index_is told

-- ---- the insertion was settled

module _ (b d : Builder) (s t : Lists Node) (n : Node) (i : Insertion) (share : Share) (body : ℕ) (settled : SharesOut b s d t n i share) (free : IsBody b s body) where
  body_same : get t.lists body ≡ get s.lists body
  body_same = settled.takes.sorts.frame.others body free.apart

  pub settled_sorts : SortsTo b s d t body
  settled_sorts = record {
    own = settled.takes.sorts.own;
    others = λ q ne h. settled.takes.sorts.frame.others q h;
    keeps = settled.takes.sorts.frame.apart;
    builder = settled.takes.sorts.builder;
    classes = settled.takes.sorts.classes;
    waiting = settled.takes.sorts.waiting;
    body_live = live_kept s t body body_same free.live;
    body_plain = ap inner_ids (list_kept s t body body_same) ∙ free.plain;
  }

  pub settled_body : plain_list t body ≡ plain_list s body
  settled_body = ap (map (plain_of (list_at t))) (list_kept s t body body_same) ∙ view_same s t (list_at s body) (subst (AllSame s t) (sym free.plain) tt)

-- the page is one node shorter
module _ (b d : Builder) (s t : Lists Node) (n : Node) (i : Insertion) (share : Share) (settled : SharesOut b s d t n i share) where
  pub settled_left : (ns : List Node) → list_at s b.page ≡ n ∷ ns → length (list_at t b.page) + 1 ≡ length (list_at s b.page)
  settled_left ns first =
      let id : d.page ≡ b.page = ap (λ (x : Builder). x.page) settled.takes.sorts.builder in
      let e : length (plain_list t d.page) ≡ length (map (plain_of (list_at s)) ns) = ap length (settled.takes.page ns first) in
      let f : length (list_at t b.page) ≡ length ns = ap (λ x. length (list_at t x)) (sym id) ∙ sym (length-map (list_at t d.page) (plain_of (list_at t))) ∙ e ∙ length-map ns (plain_of (list_at s)) in
      omega (arith, f, ap length first)

-- ---- a node that is no insertion goes to the body

pub plain_labels : (z : Frozen) (ls : List Labelled) (before : List PlainNode) (line : ℕ) (k : PlainKind) → is_insertion_kind k ≡ false → labelled_with z ls before line k ≡ ls
plain_labels z ls before line (plain m) e = refl
plain_labels z ls before line (ins i) e = absurd (true≢false e)
plain_labels z ls before line (act a) e = refl

-- a node that is no insertion
none_there : (o : Option Insertion) → is_some o ≡ false → o ≡ None
none_there None e = refl
none_there (Some i) e = cc

inner-none : (ns : List Node) → NoInsertions ns → inner_ids ns ≡ []
inner-none [] h = refl
inner-none (n ∷ ns) h = (λ j. option_to_list (no_inner n.kind (none_there (insertion_of_kind n.kind) h.0) j) ++ inner-none ns h.1 j)

without-none : (held : ℕ → List Node) (ns : List Node) → NoInsertions ns → without_insertions (map (plain_of held) ns) ≡ map (plain_of held) ns
without-none held [] h = refl
without-none held (n ∷ ns) h =
    ap (λ t. if t then plain_of held n ∷ without_insertions (map (plain_of held) ns) else without_insertions (map (plain_of held) ns)) (ap not (no_insertion held n.kind (none_there (insertion_of_kind n.kind) h.0)))
    ∙ ap (λ ms. plain_of held n ∷ ms) (without-none held ns h.1)

pub labels-none : (z : Frozen) (held : ℕ → List Node) (before : List PlainNode) (ns : List Node) → NoInsertions ns → labelled z (before ++ map (plain_of held) ns) ≡ labelled z before
labels-none z held before [] h = ap (labelled z) (append-nil before)
labels-none z held before (n ∷ ns) h =
    let m : PlainNode = plain_of held n in
    ap (labelled z) (sym (append_assoc before (m ∷ []) (map (plain_of held) ns)))
    ∙ labels-none z held (before ++ m ∷ []) ns h.1
    ∙ labelled-append z before m ∙ plain_labels z (labelled z before) before n.line m.kind (no_insertion held n.kind (none_there (insertion_of_kind n.kind) h.0))

-- a list that begins with an insertion is not empty
pub never_empty : (ns : List Node) → ns ≡ [] → begins_with_insertion ns ≡ true → ⊥
never_empty ns e h = true≢false (sym h ∙ ap begins_with_insertion e)

pub first_insertion : (ns : List Node) (n : Node) (ms : List Node) → ns ≡ n ∷ ms → begins_with_insertion ns ≡ true → insertion_of_kind n.kind ≡ None → ⊥
first_insertion ns n ms e h none = true≢false (sym h ∙ ap begins_with_insertion e ∙ ap is_some none)

-- nodes at the front of the page, none of them an insertion, go to the body
module _ (b : Builder) (s t : Lists Node) (xs ns : List Node) (body : ℕ) (own : IsOwned (ids_of b) s) (first : list_at s b.page ≡ xs ++ ns) (none : NoInsertions xs)
    (free : IsBody b s body) (e : t.lists ≡ insert (with_list s b.page ns) body (list_at s body ++ xs)) where
  abbrev middle : Lists Node
  middle = record { lists = with_list s b.page ns; spare = s.spare }

  g : Got s t b.page body ns (list_at s body ++ xs)
  g = got_two s t b.page body ns (list_at s body ++ xs) (λ x. free.apart.0 (sym x)) e

  -- the page and what waits
  front_is : list_at s b.page ++ list_at s b.waiting ≡ xs ++ (ns ++ list_at s b.waiting)
  front_is = ap (λ ps. ps ++ list_at s b.waiting) first ∙ append_assoc xs ns (list_at s b.waiting)

  w : Relisted (ids_of b) s middle (list_at s b.held) ns (list_at s b.waiting)
  w = record {
    held_is = one_other s middle b.page b.held ns (λ x. own.differ.0.1.0 (sym x)) refl ∙ live_has s b.held own.live.1.1.0;
    page_is = one_got s middle b.page ns refl;
    waiting_is = one_other s middle b.page b.waiting ns (λ x. own.differ.0.0 (sym x)) refl ∙ live_has s b.waiting own.live.1.0;
    others = λ q nh np nw. one_other s middle b.page q ns np refl;
    inner_is =
        inner-append (list_at s b.held) (ns ++ list_at s b.waiting)
        ∙ ap (λ is. inner_ids (list_at s b.held) ++ (is ++ inner_ids (ns ++ list_at s b.waiting))) (sym (inner-none xs none))
        ∙ ap (λ is. inner_ids (list_at s b.held) ++ is) (sym (inner-append xs (ns ++ list_at s b.waiting)))
        ∙ sym (inner-append (list_at s b.held) (xs ++ (ns ++ list_at s b.waiting)))
        ∙ ap (λ ps. inner_ids (list_at s b.held ++ ps)) (sym front_is);
    known_is =
        let all = subst (λ ps. AllKnown (classes_of (ids_of b)) (list_at s b.held ++ ps)) front_is own.known in
        known-append (classes_of (ids_of b)) (list_at s b.held) (ns ++ list_at s b.waiting)
        (known-left (classes_of (ids_of b)) (list_at s b.held) (xs ++ (ns ++ list_at s b.waiting)) all)
        (known-right (classes_of (ids_of b)) xs (ns ++ list_at s b.waiting) (known-right (classes_of (ids_of b)) (list_at s b.held) (xs ++ (ns ++ list_at s b.waiting)) all));
  }

  middle_own : IsOwned (ids_of b) middle
  middle_own = relisted_own (ids_of b) s middle (list_at s b.held) ns (list_at s b.waiting) own w

  beyond : (q : ℕ) → q ≢ body → get t.lists q ≡ get middle.lists q
  beyond q ne = ap (λ m. get m q) e ∙ one_other middle (record { lists = insert middle.lists body (list_at s body ++ xs); spare = s.spare }) body q (list_at s body ++ xs) ne refl

  same : AllSame middle t (owned (ids_of b) middle)
  same = same_lacking middle t body (owned (ids_of b) middle) beyond (relisted_keeps (ids_of b) s middle (list_at s b.held) ns (list_at s b.waiting) own w body free.apart)

  bare_still : inner_ids (list_at s body ++ xs) ≡ []
  bare_still = inner-append (list_at s body) xs ∙ (λ j. free.plain j ++ inner-none xs none j)

  pub run_sorts : SortsTo b s b t body
  run_sorts = record {
    own = frame_own (ids_of b) middle t middle_own same;
    others = λ q ne h. g.others q h.0 ne;
    keeps = λ q h. subst (Lacks q) (sym (frame_owned (ids_of b) middle t middle_own same)) (relisted_keeps (ids_of b) s middle (list_at s b.held) ns (list_at s b.waiting) own w q h);
    builder = refl;
    classes = refl;
    waiting = frame_waiting (ids_of b) middle t middle_own same ∙ relisted_waiting (ids_of b) s middle (list_at s b.held) ns (list_at s b.waiting) own w;
    body_live = live_got t body (list_at s body ++ xs) g.second;
    body_plain = ap inner_ids (list_got t body (list_at s body ++ xs) g.second) ∙ bare_still;
  }

  -- the page is the rest
  pub run_left : list_at t b.page ≡ ns
  run_left = list_got t b.page ns g.first

  abbrev run : List PlainNode
  run = map (plain_of (list_at s)) xs

  page_was : plain_list s b.page ≡ run ++ map (plain_of (list_at s)) ns
  page_was = ap (map (plain_of (list_at s))) first ∙ map-append (plain_of (list_at s)) xs ns

  body_grown : plain_list t body ≡ plain_list s body ++ run
  body_grown =
      ap (map (plain_of (list_at t))) (list_got t body (list_at s body ++ xs) g.second)
      ∙ view_same s t (list_at s body ++ xs) (subst (AllSame s t) (sym bare_still) tt)
      ∙ map-append (plain_of (list_at s)) (list_at s body) xs

  pub run_sorted : (z : Frozen) (boxes : List Boxed) (marked before : List PlainNode) → Sorted z boxes marked (contents_of b s) (plain_list s body) before
      → Sorted z boxes marked (contents_of b t) (plain_list t body) (before ++ map (plain_of (list_at s)) xs)
  run_sorted z boxes marked before h = record {
    whole = append_assoc before run (plain_list t b.page)
        ∙ ap (λ ps. before ++ (run ++ ps)) (frame_page (ids_of b) middle t middle_own same ∙ relisted_page (ids_of b) s middle (list_at s b.held) ns (list_at s b.waiting) own w)
        ∙ ap (λ ps. before ++ ps) (sym page_was) ∙ h.whole;
    body_is = body_grown ∙ (λ j. h.body_is j ++ sym (without-none (list_at s) xs none) j) ∙ sym (filter-append (λ (x : PlainNode). not (is_insertion_kind x.kind)) before run);
    boxes_are = frame_boxes (ids_of b) middle t middle_own same ∙ relisted_boxes (ids_of b) s middle (list_at s b.held) ns (list_at s b.waiting) own w ∙ h.boxes_are ∙ ap (λ ls. map (box_after ls) boxes) (sym labels);
    held_are = frame_held (ids_of b) middle t middle_own same ∙ relisted_held (ids_of b) s middle (list_at s b.held) ns (list_at s b.waiting) own w ∙ h.held_are ∙ ap held_insertions (sym labels);
  }
    where
      labels : labelled z (before ++ run) ≡ labelled z before
      labels = labels-none z (list_at s) before xs none
