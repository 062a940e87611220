-- The boxes of the insertions that stand on a page, among all of them.
use Rattle.std.proofs.Common.{◌≡◌, refl, sym, ap, ◌∙◌, subst, ℕ, zero, suc, ◌+◌, ◌<◌, ◌≤◌, ◌==◌, Bool, true, false, not, List, [], ◌∷◌, length, take, get_or, Option, Some, arith}
use Rattle.std.specs.Prelude.{if◌then◌else◌, IsSome}
use Rattle.std.specs.List.{AllByRecursion}
use Rattle.std.specs.FinMap.{get}
use Rattle.std.proofs.lemmas.Bool.{true≢false}
use Rattle.std.proofs.lemmas.Bool.Decides.{nat_tests}
use Rattle.tb_pool.specs.Lists.{Lists, IsLive}
use Rattle.tb_pool.specs.Frame.{IsNoneOf}
use Rattle.tb_node.specs.declared.Node.{Node}
use Rattle.tb_column.specs.declared.NoteBox.{NoteBox}
use Rattle.tb_column.specs.Column.{standing_notes}
use Rattle.tb_column.specs.Notes.{note_shown, notes_shown, note_lists, note_count, AreDistinct, AreRisingFrom, IsNote, AreNotes}
use Rattle.tb_column.specs.ColumnChanges.{AreJoined}
use Rattle.tb_column.proofs.NoteLemmas.{rising-at}
use Rattle.tb_output.specs.Notes.{standing_boxes}

-- what is shown of them
pub shown-standing : (store : Lists Node) (ns : List NoteBox) → notes_shown store (standing_boxes ns) ≡ standing_notes (notes_shown store ns)
shown-standing store [] = refl
shown-standing store (n ∷ ns) = by_test (not (n.class == 255)) (shown-standing store ns)
  where
    by_test : (b : Bool) → notes_shown store (standing_boxes ns) ≡ standing_notes (notes_shown store ns)
        → notes_shown store (if b then n ∷ standing_boxes ns else standing_boxes ns) ≡ (if b then note_shown store n ∷ standing_notes (notes_shown store ns) else standing_notes (notes_shown store ns))
    by_test true e = ap (λ ms. note_shown store n ∷ ms) e
    by_test false e = e

pub none-standing : (q : ℕ) (ns : List NoteBox) → IsNoneOf q (note_lists ns) → IsNoneOf q (note_lists (standing_boxes ns))
none-standing q [] h = tt
none-standing q (n ∷ ns) h = by_test (not (n.class == 255)) (none-standing q ns h.1)
  where
    by_test : (b : Bool) → IsNoneOf q (note_lists (standing_boxes ns)) → IsNoneOf q (note_lists (if b then n ∷ standing_boxes ns else standing_boxes ns))
    by_test true k = (h.0, k)
    by_test false k = k

distinct-standing : (ns : List NoteBox) → AreDistinct (note_lists ns) → AreDistinct (note_lists (standing_boxes ns))
distinct-standing [] h = tt
distinct-standing (n ∷ ns) h = by_test (not (n.class == 255)) (distinct-standing ns h.1)
  where
    by_test : (b : Bool) → AreDistinct (note_lists (standing_boxes ns)) → AreDistinct (note_lists (if b then n ∷ standing_boxes ns else standing_boxes ns))
    by_test true k = (none-standing n.list ns h.0, k)
    by_test false k = k

rising-more : (j k : ℕ) (ns : List NoteBox) → j ≤ k → AreRisingFrom k ns → AreRisingFrom j ns
rising-more j k [] le h = tt
rising-more j k (n ∷ ns) le h = (omega (arith, le, h.0), h.1)

rising-standing : (k : ℕ) (ns : List NoteBox) → AreRisingFrom k ns → AreRisingFrom k (standing_boxes ns)
rising-standing k [] h = tt
rising-standing k (n ∷ ns) h = by_test (not (n.class == 255)) (rising-standing (suc n.class) ns h.1)
  where
    by_test : (b : Bool) → AreRisingFrom (suc n.class) (standing_boxes ns) → AreRisingFrom k (if b then n ∷ standing_boxes ns else standing_boxes ns)
    by_test true r = (h.0, r)
    by_test false r = rising-more k (suc n.class) (standing_boxes ns) (omega (arith, h.0)) r

each-standing : (P : NoteBox → Type 0) (ns : List NoteBox) → AllByRecursion P ns → AllByRecursion P (standing_boxes ns)
each-standing P [] h = tt
each-standing P (n ∷ ns) h = by_test (not (n.class == 255)) (each-standing P ns h.1)
  where
    by_test : (b : Bool) → AllByRecursion P (standing_boxes ns) → AllByRecursion P (if b then n ∷ standing_boxes ns else standing_boxes ns)
    by_test true k = (h.0, k)
    by_test false k = k

pub count-standing : (store : Lists Node) (ns : List NoteBox) → note_count store (standing_boxes ns) ≤ note_count store ns
count-standing store [] = omega arith
count-standing store (n ∷ ns) = by_test (not (n.class == 255)) (count-standing store ns)
  where
    by_test : (b : Bool) → note_count store (standing_boxes ns) ≤ note_count store ns → note_count store (if b then n ∷ standing_boxes ns else standing_boxes ns) ≤ note_count store (n ∷ ns)
    by_test true k = omega (arith, k)
    by_test false k = omega (arith, k)

pub notes-standing : (store : Lists Node) (body : ℕ) (ns : List NoteBox) → AreNotes store body ns → AreNotes store body (standing_boxes ns)
notes-standing store body ns h = record {
  rising = rising-standing 0 ns h.rising;
  apart = (none-standing body ns h.apart.0, distinct-standing ns h.apart.1);
  each = each-standing (IsNote store) ns h.each;
}

-- ---- the last class decides

-- one of another class stands
stands : (n : NoteBox) (ns : List NoteBox) → n.class < 255 → standing_boxes (n ∷ ns) ≡ n ∷ standing_boxes ns
stands n ns h = let e : (n.class == 255) ≡ false = grind (arith, nat_tests, h) in ap (λ t. if not t then n ∷ standing_boxes ns else standing_boxes ns) e

stands-not : (n : NoteBox) (ns : List NoteBox) → n.class ≡ 255 → standing_boxes (n ∷ ns) ≡ standing_boxes ns
stands-not n ns h = let e : (n.class == 255) ≡ true = grind (arith, nat_tests, h) in ap (λ t. if not t then n ∷ standing_boxes ns else standing_boxes ns) e

-- a class before the last one is below 255
before-last : (n m : NoteBox) (ms : List NoteBox) (k j : ℕ) (d : NoteBox) → AreRisingFrom k (n ∷ m ∷ ms) → j + 1 ≡ length (m ∷ ms) → (get_or (m ∷ ms) j d).class ≤ 255 → n.class < 255
before-last n m ms k j d h e most = let r = rising-at (suc n.class) (m ∷ ms) h.1 j d (omega (arith, e)) in omega (arith, r, most)

pub all-standing : (k : ℕ) (ns : List NoteBox) (i : ℕ) (d : NoteBox) → AreRisingFrom k ns → i + 1 ≡ length ns → (get_or ns i d).class < 255 → standing_boxes ns ≡ ns
all-standing k [] i d h e less = absurd (omega (arith, e))
all-standing k (n ∷ []) zero d h e less = stands n [] less
all-standing k (n ∷ []) (suc i) d h e less = absurd (omega (arith, e))
all-standing k (n ∷ m ∷ ms) zero d h e less = absurd (omega (arith, e))
all-standing k (n ∷ m ∷ ms) (suc i) d h e less =
    let tail : i + 1 ≡ length (m ∷ ms) = omega (arith, e) in
    stands n (m ∷ ms) (before-last n m ms k i d h tail (omega (arith, less)))
    ∙ ap (λ xs. n ∷ xs) (all-standing (suc n.class) (m ∷ ms) i d h.1 tail less)

pub front-standing : (k : ℕ) (ns : List NoteBox) (i : ℕ) (d : NoteBox) → AreRisingFrom k ns → i + 1 ≡ length ns → (get_or ns i d).class ≡ 255 → standing_boxes ns ≡ take i ns
front-standing k [] i d h e last = absurd (omega (arith, e))
front-standing k (n ∷ []) zero d h e last = stands-not n [] last
front-standing k (n ∷ []) (suc i) d h e last = absurd (omega (arith, e))
front-standing k (n ∷ m ∷ ms) zero d h e last = absurd (omega (arith, e))
front-standing k (n ∷ m ∷ ms) (suc i) d h e last =
    let tail : i + 1 ≡ length (m ∷ ms) = omega (arith, e) in
    stands n (m ∷ ms) (before-last n m ms k i d h tail (omega (arith, last)))
    ∙ ap (λ xs. n ∷ xs) (front-standing (suc n.class) (m ∷ ms) i d h.1 tail last)

-- ---- all are live once those that stand have joined a text

-- one that does not stand has another list than those that do
add-standing : (n : NoteBox) (ls : List ℕ) (ks : List NoteBox) → IsNoneOf n.list (note_lists ks) → AllByRecursion (λ k. (k.class == 255) ≡ true → IsNoneOf k.list ls) ks → AllByRecursion (λ k. (k.class == 255) ≡ true → IsNoneOf k.list (n.list ∷ ls)) ks
add-standing n ls [] none h = tt
add-standing n ls (k ∷ ks) none h = ((λ e. ((λ same. none.0 (sym same)), h.0 e)), add-standing n ls ks none.1 h.1)

apart-standing : (ns : List NoteBox) → AreDistinct (note_lists ns) → AllByRecursion (λ k. (k.class == 255) ≡ true → IsNoneOf k.list (note_lists (standing_boxes ns))) ns
apart-standing [] h = tt
apart-standing (n ∷ ns) h = by_test (n.class == 255) refl (apart-standing ns h.1)
  where
    by_test : (b : Bool) → (n.class == 255) ≡ b → AllByRecursion (λ k. (k.class == 255) ≡ true → IsNoneOf k.list (note_lists (standing_boxes ns))) ns
        → AllByRecursion (λ (k : NoteBox). (k.class == 255) ≡ true → IsNoneOf k.list (note_lists (if not b then n ∷ standing_boxes ns else standing_boxes ns))) (n ∷ ns)
    by_test true e k = ((λ last. none-standing n.list ns h.0), k)
    by_test false e k = ((λ last. absurd (true≢false (sym last ∙ e))), add-standing n (note_lists (standing_boxes ns)) ns h.0 k)

module _ (body : ℕ) (all : List NoteBox) (old new : Lists Node) (same : (q : ℕ) → IsNoneOf q (body ∷ note_lists (standing_boxes all)) → get new.lists q ≡ get old.lists q) where
  live-from : (ns : List NoteBox) → AllByRecursion (λ n. IsLive old n.list) ns → IsNoneOf body (note_lists ns) → AllByRecursion (λ k. (k.class == 255) ≡ true → IsNoneOf k.list (note_lists (standing_boxes all))) ns
      → AllByRecursion (λ n. get new.lists n.list ≡ Some []) (standing_boxes ns) → AllByRecursion (λ n. IsLive new n.list) ns
  live-from [] live none apart empty = tt
  live-from (n ∷ ns) live none apart empty = by_test (n.class == 255) refl (live-from ns live.1 none.1 apart.1) empty
    where
      by_test : (b : Bool) → (n.class == 255) ≡ b → (AllByRecursion (λ n. get new.lists n.list ≡ Some []) (standing_boxes ns) → AllByRecursion (λ n. IsLive new n.list) ns)
          → AllByRecursion (λ (m : NoteBox). get new.lists m.list ≡ Some []) (if not b then n ∷ standing_boxes ns else standing_boxes ns) → AllByRecursion (λ n. IsLive new n.list) (n ∷ ns)
      by_test true e rest empty =
          let kept : get new.lists n.list ≡ get old.lists n.list = same n.list ((λ x. none.0 (sym x)), apart.0 e) in
          (subst (λ (o : Option (List Node)). IsSome o) (sym kept) live.0, rest empty)
      by_test false e rest empty = (subst (λ (o : Option (List Node)). IsSome o) (sym empty.0) refl, rest empty.1)

notes-live : (store : Lists Node) (ns : List NoteBox) → AllByRecursion (IsNote store) ns → AllByRecursion (λ n. IsLive store n.list) ns
notes-live store [] h = tt
notes-live store (n ∷ ns) h = (h.0.list.live, notes-live store ns h.1)

pub live-joined : (old new : Lists Node) (body : ℕ) (ns : List NoteBox) → AreNotes old body ns → AreJoined body (standing_boxes ns) old new → AllByRecursion (λ n. IsLive new n.list) ns
live-joined old new body ns notes joined = live-from body ns old new joined.others ns (notes-live old ns notes.each) notes.apart.0 (apart-standing ns notes.apart.1) joined.emptied

pub live-notes : (store : Lists Node) (body : ℕ) (ns : List NoteBox) → AreNotes store body ns → AllByRecursion (λ n. IsLive store n.list) ns
live-notes store body ns notes = notes-live store ns notes.each
