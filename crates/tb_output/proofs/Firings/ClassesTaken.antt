-- The boxes of classes are taken one after another, and in the end all of them were.
use Rattle.std.proofs.Common.{◌≡◌, ◌≢◌, refl, sym, subst, ◌∙◌, ap, ℕ, suc, ◌+◌, ◌<◌, ◌≤◌, Bool, true, false, List, [], ◌∷◌, ◌++◌, length, take, get_or, Option, Some, None, unwrap_or, arith}
use Rattle.std.specs.Prelude.{◌==◌, ◌||◌, All, if◌then◌else◌}
use Rattle.std.specs.List.{AllByRecursion}
use Rattle.std.proofs.lemmas.List.{length-map, map-append, take_all, take_more}
use Rattle.std.proofs.lemmas.List.Elements.{All-nil}
use Rattle.std.proofs.Math.Bool.{or-true}
use Rattle.tb_break.proofs.EachLemmas.{all-join, all-map}
use Rattle.tb_pool.specs.Lists.{Lists, IsLive, list_at}
use Rattle.tb_pool.specs.Frame.{IsNoneOf, OnlyChanged}
use Rattle.tb_pool.proofs.FrameLemmas.{none-join, frame-then}
use Rattle.tb_node.specs.declared.Node.{Node}
use Rattle.tb_node.specs.Fit.{IsSizedLeaf}
use Rattle.tb_node.specs.PlainNodes.{Leaf, leaf_of}
use Rattle.tb_insert.specs.declared.Class.{Class}
use Rattle.tb_builder.specs.declared.Builder.{Builder}
use Rattle.tb_builder.specs.FiredPages.{Boxed, content_of, box_content}
use Rattle.tb_builder.specs.Contents.{Contents, contents_of, box_count}
use Rattle.tb_builder.specs.SizedContents.{AreBoxesOf}
use Rattle.tb_builder.specs.Contributions.{NoPage, with_void}
use Rattle.tb_builder.specs.Ownership.{has_class}
use Rattle.tb_builder.specs.Courses.{IsSound}
use Rattle.tb_builder.proofs.Ownership.StoreSized.{leaves-back, boxes_of}
use Rattle.tb_column.specs.declared.NoteBox.{NoteBox}
use Rattle.tb_column.specs.Column.{Notes}
use Rattle.tb_column.specs.Page.{AreLeaves}
use Rattle.tb_column.specs.Notes.{note_shown, notes_shown, note_lists, note_count, AreRisingFrom, IsNote}
use Rattle.tb_column.specs.Ranges.{IsSizedGlue, IsSizedRule}
use Rattle.tb_output.specs.State.{with_notes, notes_in}
use Rattle.tb_output.specs.Machine.{AreClassesFrom}
use Rattle.tb_builder.specs.BuilderLists.{builder_lists}
use Rattle.tb_output.specs.Firing.{AreSizedBoxes}
use Rattle.tb_output.specs.Notes.{IsLeafList, AreOwnLists, BoxesTaken, AreKnownNotes, NotesTaken}
use Rattle.tb_sheet.proofs.StandLemmas.{Stands, list-same, live-same}
use Rattle.tb_output.proofs.FiringWork.StandLemmas.{notes-same, frame-stands, frame-free}
use Rattle.tb_sheet.proofs.ListsApart.{distinct-join}
use Rattle.tb_output.proofs.FiringWork.ApartLemmas.{live-apart}
use Rattle.tb_output.proofs.StepLaws.ClassBoxes.{own-content, later-notes}
use Rattle.tb_output.proofs.Firings.VoidBoxes.{all-voids, voids-after, contents-other, notes-after, differ-before, known-at}

-- ---- one class after others

module _ (store new : Lists Node) where
  leaves-stand : (ls : List ℕ) → AllByRecursion (Stands store new) ls → AllByRecursion (IsLeafList store) ls → AllByRecursion (IsLeafList new) ls
  leaves-stand [] e h = tt
  leaves-stand (l ∷ ls) e h = (record { live = live-same store new l e.0 h.0.live; leaves = subst AreLeaves (sym (list-same store new l e.0)) h.0.leaves }, leaves-stand ls e.1 h.1)

live-lists : (store : Lists Node) (ls : List ℕ) → AllByRecursion (IsLeafList store) ls → AllByRecursion (IsLive store) ls
live-lists store ls h = all-map (IsLeafList store) (IsLive store) (λ l x. x.live) ls h

module _ (b mid now : Builder) (store middle new : Lists Node) (frame : OnlyChanged (builder_lists b store) (builder_lists mid middle) store middle) where
  -- lists that were live before are none of these
  fresh-lists : (xs ys : List ℕ) → ((q : ℕ) → IsLive store q → IsNoneOf q (builder_lists b store) → IsNoneOf q xs) → ((q : ℕ) → IsLive middle q → IsNoneOf q (builder_lists mid middle) → IsNoneOf q ys)
      → (q : ℕ) → IsLive store q → IsNoneOf q (builder_lists b store) → IsNoneOf q (xs ++ ys)
  fresh-lists xs ys first second q live none =
      let step = frame q live none in
      none-join q xs ys (first q live none) (second q (live-same store middle q step.0 live) step.1)

  module _ (cs : List Class) (c : Class) (xs ys : List NoteBox) (differ : AllByRecursion (λ d. d.number ≢ c.number) cs) (first : BoxesTaken cs xs b mid store middle) (second : BoxesTaken (c ∷ []) ys mid now middle new)
      (later : OnlyChanged (builder_lists mid middle) (builder_lists now new) middle new) where
    live-first : AllByRecursion (IsLive middle) (note_lists xs)
    live-first = live-lists middle (note_lists xs) first.lists

    stand-first : AllByRecursion (Stands middle new) (note_lists xs)
    stand-first = frame-stands (builder_lists mid middle) (builder_lists now new) middle new later (note_lists xs) live-first first.own.free

    one-more : notes_in (c ∷ []) (contents_of mid middle).boxes ≡ notes_in (c ∷ []) (contents_of b store).boxes
    one-more =
        ap (λ (x : Contents). notes_in (c ∷ []) x.boxes) first.contents
        ∙ ap (λ o. with_notes c o []) (contents-other cs c.number differ (contents_of b store).boxes)

    pub class-after : BoxesTaken (cs ++ c ∷ []) (xs ++ ys) b now store new
    class-after = record {
      contents =
          second.contents ∙ (λ i. record (first.contents i) { boxes = with_void c.number (first.contents i).boxes })
          ∙ ap (λ bs. record (contents_of b store) { boxes = bs }) (sym (voids-after cs c (contents_of b store).boxes));
      shown =
          map-append (note_shown new) xs ys
          ∙ (λ i. (notes-same middle new xs stand-first ∙ first.shown) i ++ (second.shown ∙ one-more) i)
          ∙ sym (notes-after cs c (contents_of b store).boxes);
      lists = subst (AllByRecursion (IsLeafList new)) (sym (map-append (λ (n : NoteBox). n.list) xs ys)) (all-join (IsLeafList new) (note_lists xs) (note_lists ys) (leaves-stand middle new (note_lists xs) stand-first first.lists) second.lists);
      own = subst (λ ls. AreOwnLists ls b now store new) (sym (map-append (λ (n : NoteBox). n.list) xs ys)) (record {
        apart = distinct-join (note_lists xs) (note_lists ys) first.own.apart second.own.apart (live-apart middle (builder_lists mid middle) (note_lists xs) (note_lists ys) live-first first.own.free second.own.fresh);
        fresh = fresh-lists (note_lists xs) (note_lists ys) first.own.fresh second.own.fresh;
        free = all-join (λ l. IsNoneOf l (builder_lists now new)) (note_lists xs) (note_lists ys)
            (frame-free (builder_lists mid middle) (builder_lists now new) middle new later (note_lists xs) live-first first.own.free) second.own.free;
      });
    }

-- ---- so many classes

-- the boxes of the first so many classes were taken; the builder is sound, and its lists alone changed
pub record TakenSoFar (classes : List Class) (k : ℕ) (notes : List NoteBox) (b now : Builder) (store new : Lists Node) : Type 0 where
  pub taken : BoxesTaken (take k classes) notes b now store new
  pub sound : IsSound now new
  pub frame : OnlyChanged (builder_lists b store) (builder_lists now new) store new

pub none-so-far : (classes : List Class) (b : Builder) (store : Lists Node) → IsSound b store → TakenSoFar classes 0 [] b b store store
none-so-far classes b store sound = record {
  taken = record { contents = refl; shown = refl; lists = tt; own = record { apart = tt; fresh = λ q live none. tt; free = tt } };
  sound = sound;
  frame = λ q live none. (refl, none);
}

module _ (classes : List Class) (k : ℕ) (c d : Class) (notes : List NoteBox) (b now : Builder) (store new : Lists Node) (lt : k < length classes) (is : c ≡ get_or classes k d) (h : TakenSoFar classes k notes b now store new) where
  pub so-far-awaits : NoPage (contents_of b store) → NoPage (contents_of now new)
  so-far-awaits a = subst NoPage (sym h.taken.contents) (record { page = a.page; frozen = a.frozen })

  pub so-far-known : (contents_of b store).classes ≡ classes → has_class (contents_of now new).classes c.number ≡ true
  so-far-known known =
      ap (λ (x : Contents). has_class x.classes c.number) h.taken.contents
      ∙ ap (λ cs. has_class cs c.number) known ∙ ap (λ (x : Class). has_class classes x.number) is ∙ known-at classes k d lt

  pub so-far-frame : (next : Builder) (last : Lists Node) → OnlyChanged (builder_lists now new) (builder_lists next last) new last → OnlyChanged (builder_lists b store) (builder_lists next last) store last
  so-far-frame next last later = frame-then (builder_lists b store) (builder_lists now new) (builder_lists next last) store new last h.frame later

  pub so-far-next : (own : List NoteBox) (next : Builder) (last : Lists Node) → AreClassesFrom 0 classes → BoxesTaken (c ∷ []) own now next new last → IsSound next last → OnlyChanged (builder_lists now new) (builder_lists next last) new last
      → TakenSoFar classes (k + 1) (notes ++ own) b next store last
  so-far-next own next last rising second sound later = record {
    taken = subst (λ cs. BoxesTaken cs (notes ++ own) b next store last) (sym (take_more classes k d lt ∙ ap (λ (x : Class). take k classes ++ x ∷ []) (sym is)))
        (class-after b now next store new last h.frame (take k classes) c notes own
        (subst (λ (x : Class). AllByRecursion (λ d. d.number ≢ x.number) (take k classes)) (sym is) (differ-before 0 classes k d rising lt).0)
        h.taken second later);
    sound = sound;
    frame = so-far-frame next last later;
  }

-- ---- all classes

abbrev AreRising : ℕ → List Notes → Type 0
AreRising k [] = Unit {0}
AreRising k (n ∷ ns) = (k ≤ n.class) × AreRising (suc n.class) ns

rising-less : (j k : ℕ) (ns : List Notes) → j ≤ k → AreRising k ns → AreRising j ns
rising-less j k [] less h = tt
rising-less j k (n ∷ ns) less h = (let first = h.0 in omega (arith, less, first), h.1)

rising-with : (k : ℕ) (c : Class) (o : Option (List Leaf)) (ns : List Notes) → k ≤ c.number → AreRising (suc c.number) ns → AreRising k (with_notes c o ns)
rising-with k c None ns less h = rising-less k (suc c.number) ns (omega (arith, less)) h
rising-with k c (Some inner) ns less h = (less, h)

rising-in : (k : ℕ) (cs : List Class) (bs : List Boxed) → AreClassesFrom k cs → AreRising k (notes_in cs bs)
rising-in k [] bs h = tt
rising-in k (c ∷ cs) bs h = rising-with k c (box_content bs c.number) (notes_in cs bs) h.0 (rising-in (suc c.number) cs bs h.2)

rising-shown : (store : Lists Node) (k : ℕ) (ns : List NoteBox) → AreRising k (notes_shown store ns) → AreRisingFrom k ns
rising-shown store k [] h = tt
rising-shown store k (n ∷ ns) h = (h.0, rising-shown store (suc n.class) ns h.1)

-- the insertions of a box: their class is one of these, and glue, rule and nodes are sized
record FromBox (cs : List Class) (n : Notes) : Type 0 where
  known : has_class cs n.class ≡ true
  rule : IsSizedRule (unwrap_or n.below None)
  skip : IsSizedGlue n.skip
  sized : All IsSizedLeaf n.inner

sized-by : (t : Bool) (x y : Option (List Leaf)) → All IsSizedLeaf (content_of x) → All IsSizedLeaf (content_of y) → All IsSizedLeaf (content_of (if t then x else y))
sized-by true x y h k = h
sized-by false x y h k = k

pub sized-content : (bs : List Boxed) (k : ℕ) → AreSizedBoxes bs → All IsSizedLeaf (content_of (box_content bs k))
sized-content [] k h = All-nil IsSizedLeaf
sized-content (b ∷ bs) k h = sized-by (b.number == k) b.content (box_content bs k) h.0 (sized-content bs k h.1)

known-own : (cs : List Class) → AllByRecursion (λ c. has_class cs c.number ≡ true) cs
known-own [] = tt
known-own (c ∷ cs) = (
  known-at (c ∷ cs) 0 c (omega arith),
  all-map (λ d. has_class cs d.number ≡ true) (λ d. has_class (c ∷ cs) d.number ≡ true) (λ d h. ap (λ t. (c.number == d.number) || t) h ∙ or-true (c.number == d.number)) cs (known-own cs),
)

module _ (all : List Class) where
  from-with : (c : Class) (o : Option (List Leaf)) (ns : List Notes) → has_class all c.number ≡ true → IsSizedGlue c.skip → IsSizedRule (unwrap_or c.below None) → All IsSizedLeaf (content_of o) → AllByRecursion (FromBox all) ns → AllByRecursion (FromBox all) (with_notes c o ns)
  from-with c None ns known skip rule sized h = h
  from-with c (Some inner) ns known skip rule sized h = (record { known = known; rule = rule; skip = skip; sized = sized }, h)

  from-in : (k : ℕ) (cs : List Class) (bs : List Boxed) → AllByRecursion (λ c. has_class all c.number ≡ true) cs → AreClassesFrom k cs → AreSizedBoxes bs → AllByRecursion (FromBox all) (notes_in cs bs)
  from-in k [] bs known rising sized = tt
  from-in k (c ∷ cs) bs known rising sized = from-with c (box_content bs c.number) (notes_in cs bs) known.0 rising.1 rising.3 (sized-content bs c.number sized) (from-in (suc c.number) cs bs known.1 rising.2 sized)

  known-shown : (store : Lists Node) (ns : List NoteBox) → AllByRecursion (FromBox all) (notes_shown store ns) → AreKnownNotes all ns
  known-shown store [] h = tt
  known-shown store (n ∷ ns) h = (h.0.known, known-shown store ns h.1)

  each-note : (store : Lists Node) (ns : List NoteBox) → note_count store ns ≤ 8388608 → AllByRecursion (IsLeafList store) (note_lists ns) → AllByRecursion (FromBox all) (notes_shown store ns) → AllByRecursion (IsNote store) ns
  each-note store [] few lists from = tt
  each-note store (n ∷ ns) few lists from = (
    record {
      list = record { live = lists.0.live; leaves = lists.0.leaves; sized = leaves-back (list_at store n.list) from.0.sized; few = omega (arith, few) };
      rule = from.0.rule;
      skip = from.0.skip;
    },
    each-note store ns (omega (arith, few)) lists.1 from.1,
  )

-- how many nodes these insertions have
abbrev pub inner_count : List Notes → ℕ
inner_count [] = 0
inner_count (n ∷ ns) = length n.inner + inner_count ns

count-shown : (store : Lists Node) (ns : List NoteBox) → note_count store ns ≡ inner_count (notes_shown store ns)
count-shown store [] = refl
count-shown store (n ∷ ns) = λ i. sym (length-map (list_at store n.list) leaf_of) i + count-shown store ns i

count-with : (c : Class) (o : Option (List Leaf)) (ns : List Notes) → inner_count (with_notes c o ns) ≤ length (content_of o) + inner_count ns
count-with c None ns = omega arith
count-with c (Some inner) ns = omega arith

pub count-in : (k : ℕ) (cs : List Class) (bs : List Boxed) → AreClassesFrom k cs → AreBoxesOf cs bs → inner_count (notes_in cs bs) ≤ box_count bs
count-in k [] bs rising h = omega arith
count-in k (c ∷ cs) [] rising h = absurd h
count-in k (c ∷ cs) (b ∷ bs) rising h =
    let same = h.0 in
    let less : b.number < suc c.number = omega (arith, same) in
    let e : notes_in (c ∷ cs) (b ∷ bs) ≡ with_notes c b.content (notes_in cs bs) = λ i. with_notes c (own-content c b bs h.0 i) (later-notes (suc c.number) cs b bs less rising.2 i) in
    let all = ap inner_count e in
    let first = count-with c b.content (notes_in cs bs) in
    let later = count-in (suc c.number) cs bs rising.2 h.1 in
    omega (arith, all, first, later)

pub all-taken : (classes : List Class) (k : ℕ) (notes : List NoteBox) (b now : Builder) (store new : Lists Node) → length classes ≤ k → AreClassesFrom 0 classes → (contents_of b store).classes ≡ classes
    → AreSizedBoxes (contents_of b store).boxes → box_count (contents_of b store).boxes ≤ 8388608 → TakenSoFar classes k notes b now store new → NotesTaken classes notes b now store new
all-taken classes k notes b now store new whole rising known sized few h = record {
  contents = taken.contents ∙ ap (λ bs. record (contents_of b store) { boxes = bs }) (all-voids classes (contents_of b store).boxes boxes);
  shown = taken.shown;
  rising = rising-shown new 0 notes (subst (AreRising 0) (sym taken.shown) (rising-in 0 classes (contents_of b store).boxes rising));
  each = each-note classes new notes (let a = count in omega (arith, a, few)) taken.lists from;
  known = known-shown classes new notes from;
  few = count;
  own = taken.own;
}
  where
    taken : BoxesTaken classes notes b now store new
    taken = subst (λ cs. BoxesTaken cs notes b now store new) (take_all k classes whole) h.taken

    boxes : AreBoxesOf classes (contents_of b store).boxes
    boxes = subst (λ cs. AreBoxesOf cs (contents_of b store).boxes) known (boxes_of store b.boxes)

    from : AllByRecursion (FromBox classes) (notes_shown new notes)
    from = subst (AllByRecursion (FromBox classes)) (sym taken.shown) (from-in classes 0 classes (contents_of b store).boxes (known-own classes) rising sized)

    count : note_count new notes ≤ box_count (contents_of b store).boxes
    count =
        let a = count-shown new notes in
        let e = ap inner_count taken.shown in
        let less = count-in 0 classes (contents_of b store).boxes rising boxes in
        omega (arith, a, e, less)
