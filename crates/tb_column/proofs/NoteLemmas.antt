-- Insertions of one class after another join a text.
use Rattle.std.proofs.Common.{◌≡◌, ◌≢◌, refl, sym, ap, ◌∙◌, subst, ℕ, ℤ, zero, suc, ◌+◌, ◌<◌, ◌≤◌, ◌==◌, Bool, true, false, true≢false, List, [], ◌∷◌, ◌++◌, length, take, drop, get_or, append_assoc, append-nil, Option, Some, unwrap_or, is_some, arith}
use Rattle.std.specs.Prelude.{if◌then◌else◌}
use Rattle.std.specs.List.{AllByRecursion}
use Rattle.std.specs.FinMap.{get, insert}
use Rattle.std.proofs.lemmas.List.{map-append}
use Rattle.std.proofs.lemmas.List.Elements.{filter-append}
use Rattle.tb_pool.specs.Lists.{Lists, IsLive, list_at, with_list}
use Rattle.tb_pool.specs.Frame.{IsNoneOf}
use Rattle.tb_pool.proofs.FrameLemmas.{none-front, none-back}
use Rattle.tb_pool.proofs.MapLemmas.{get-insert_same, get-insert_other}
use Rattle.tb_node.specs.declared.Node.{Node}
use Rattle.tb_param.specs.declared.Params.{Params}
use Rattle.tb_column.specs.declared.NoteBox.{NoteBox}
use Rattle.tb_column.specs.declared.Standing.{Standing}
use Rattle.tb_column.specs.declared.Standing.TheVariants as standings
use Rattle.tb_column.specs.Column.{standing_of, is_at}
use Rattle.tb_column.specs.Notes.{note_lists, boxes_at, boxes_among, AreRisingFrom, AreDistinct, AreApart}
use Rattle.tb_column.specs.ColumnChanges.{AreJoined}
use Rattle.tb_column.specs.TextColumns.{class_above, above_length, above_count, notes_list}
use Rattle.tb_column.proofs.StoreLemmas.{list-get}

-- ---- rising classes

-- each class is at least as great as its place, so there are no more classes than numbers
pub rising-at : (k : ℕ) (ns : List NoteBox) → AreRisingFrom k ns → (i : ℕ) (d : NoteBox) → i < length ns → k + i ≤ (get_or ns i d).class
rising-at k [] h i d lt = absurd (omega arith)
rising-at k (n ∷ ns) h zero d lt = omega (arith, h.0)
rising-at k (n ∷ ns) h (suc i) d lt = omega (arith, h.0, rising-at (suc n.class) ns h.1 i d (omega arith))

-- ---- how many nodes are above the insertions

pub above_length-le : (class : ℕ) → above_length class ≤ 6
above_length-le class = by_test (class == 254)
  where
    by_test : (b : Bool) → (if b then 6 else 4) ≤ 6
    by_test true = omega arith
    by_test false = omega arith

pub above_count-append : (ms ns : List NoteBox) → above_count (ms ++ ns) ≡ above_count ms + above_count ns
above_count-append [] ns = omega arith
above_count-append (m ∷ ms) ns = omega (arith, above_count-append ms ns)

pub above_count-snoc : (ns : List NoteBox) (n : NoteBox) → above_count (ns ++ n ∷ []) ≡ above_count ns + above_length n.class
above_count-snoc ns n = omega (arith, above_count-append ns (n ∷ []))

pub notes_list-snoc : (p : Params) (kern : Option ℤ) (store : Lists Node) (ns : List NoteBox) (n : NoteBox) → notes_list p kern store (ns ++ n ∷ []) ≡ notes_list p kern store ns ++ (class_above p kern n ++ list_at store n.list)
notes_list-snoc p kern store [] n = append-nil (class_above p kern n ++ list_at store n.list)
notes_list-snoc p kern store (m ∷ ns) n =
    ap (λ (xs : List Node). (class_above p kern m ++ list_at store m.list) ++ xs) (notes_list-snoc p kern store ns n)
    ∙ sym (append_assoc (class_above p kern m ++ list_at store m.list) (notes_list p kern store ns) (class_above p kern n ++ list_at store n.list))

-- ---- the insertions that stand somewhere

-- a class stands at one place alone
at-same : (s x : Standing) → is_at s x ≡ true → s ≡ x
at-same standings.Above standings.Above h = refl
at-same standings.Feet standings.Feet h = refl
at-same standings.Below standings.Below h = refl
at-same standings.Above x h = cc
at-same standings.Feet x h = cc
at-same standings.Below x h = cc

at-one : (s t x : Standing) → is_at s t ≡ false → is_at s x ≡ true → is_at t x ≡ true → ⊥
at-one s t x other h k = true≢false (sym (subst (λ y. is_at s y ≡ true) (sym (at-same t x k)) h) ∙ other)

kept-one : (s : Standing) (b : Bool) (n : NoteBox) → is_at s (standing_of n.class n.below) ≡ b → boxes_at s (n ∷ []) ≡ (if b then n ∷ [] else [])
kept-one s b n e = ap (λ t. if t then n ∷ [] else []) e

-- one more, or none, is behind the first ones
pub at-more : (s : Standing) (b : Bool) (ns : List NoteBox) (n : NoteBox) → is_at s (standing_of n.class n.below) ≡ b → boxes_at s (ns ++ n ∷ []) ≡ boxes_at s ns ++ (if b then n ∷ [] else [])
at-more s b ns n e = filter-append (λ (m : NoteBox). is_at s (standing_of m.class m.below)) ns (n ∷ []) ∙ ap (λ ms. boxes_at s ns ++ ms) (kept-one s b n e)

split-at : (ns : List NoteBox) (i : ℕ) (d : NoteBox) → i < length ns → ns ≡ take i ns ++ get_or ns i d ∷ drop (suc i) ns
split-at [] i d lt = absurd (omega arith)
split-at (n ∷ ns) zero d lt = refl
split-at (n ∷ ns) (suc i) d lt = ap (λ ms. n ∷ ms) (split-at ns i d (omega arith))

-- what is before the next one, and what is behind it
at-split : (s : Standing) (ns : List NoteBox) (i : ℕ) (n : NoteBox) → i < length ns → n ≡ get_or ns i n → is_at s (standing_of n.class n.below) ≡ true → boxes_at s ns ≡ boxes_at s (take i ns) ++ n ∷ boxes_at s (drop (suc i) ns)
at-split s ns i n lt is e =
    ap (boxes_at s) (split-at ns i n lt ∙ ap (λ (m : NoteBox). take i ns ++ m ∷ drop (suc i) ns) (sym is))
    ∙ filter-append (λ (m : NoteBox). is_at s (standing_of m.class m.below)) (take i ns) (n ∷ drop (suc i) ns)
    ∙ ap (λ t. boxes_at s (take i ns) ++ (if t then n ∷ boxes_at s (drop (suc i) ns) else boxes_at s (drop (suc i) ns))) e

all-at : (P : NoteBox → Type 0) (s : Standing) (ns : List NoteBox) → AllByRecursion P ns → AllByRecursion P (boxes_at s ns)
all-at P s [] h = tt
all-at P s (n ∷ ns) h = by_test (is_at s (standing_of n.class n.below)) (all-at P s ns h.1)
  where
    by_test : (b : Bool) → AllByRecursion P (boxes_at s ns) → AllByRecursion P (if b then n ∷ boxes_at s ns else boxes_at s ns)
    by_test true k = (h.0, k)
    by_test false k = k

none-at : (q : ℕ) (s : Standing) (ns : List NoteBox) → IsNoneOf q (note_lists ns) → IsNoneOf q (note_lists (boxes_at s ns))
none-at q s [] h = tt
none-at q s (n ∷ ns) h = by_test (is_at s (standing_of n.class n.below)) (none-at q s ns h.1)
  where
    by_test : (b : Bool) → IsNoneOf q (note_lists (boxes_at s ns)) → IsNoneOf q (note_lists (if b then n ∷ boxes_at s ns else boxes_at s ns))
    by_test true k = (h.0, k)
    by_test false k = k

distinct-at : (s : Standing) (ns : List NoteBox) → AreDistinct (note_lists ns) → AreDistinct (note_lists (boxes_at s ns))
distinct-at s [] h = tt
distinct-at s (n ∷ ns) h = by_test (is_at s (standing_of n.class n.below)) (distinct-at s ns h.1)
  where
    by_test : (b : Bool) → AreDistinct (note_lists (boxes_at s ns)) → AreDistinct (note_lists (if b then n ∷ boxes_at s ns else boxes_at s ns))
    by_test true k = (none-at n.list s ns h.0, k)
    by_test false k = k

-- another list than one more
add-one : (m : NoteBox) (ls : List ℕ) (ks : List NoteBox) → IsNoneOf m.list (note_lists ks) → AllByRecursion (λ k. IsNoneOf k.list ls) ks → AllByRecursion (λ k. IsNoneOf k.list (m.list ∷ ls)) ks
add-one m ls [] none h = tt
add-one m ls (k ∷ ks) none h = (((λ e. none.0 (sym e)), h.0), add-one m ls ks none.1 h.1)

-- the lists that stand at one place are none of those at another
at-apart : (s t : Standing) → is_at s t ≡ false → (ns : List NoteBox) → AreDistinct (note_lists ns) → AllByRecursion (λ k. IsNoneOf k.list (note_lists (boxes_at t ns))) (boxes_at s ns)
at-apart s t other [] h = tt
at-apart s t other (n ∷ ns) h = by_tests (is_at s (standing_of n.class n.below)) (is_at t (standing_of n.class n.below)) refl refl (at-apart s t other ns h.1)
  where
    by_tests : (a b : Bool) → is_at s (standing_of n.class n.below) ≡ a → is_at t (standing_of n.class n.below) ≡ b → AllByRecursion (λ k. IsNoneOf k.list (note_lists (boxes_at t ns))) (boxes_at s ns)
        → AllByRecursion (λ (k : NoteBox). IsNoneOf k.list (note_lists (if b then n ∷ boxes_at t ns else boxes_at t ns))) (if a then n ∷ boxes_at s ns else boxes_at s ns)
    by_tests true true e f k = absurd (at-one s t (standing_of n.class n.below) other e f)
    by_tests true false e f k = (none-at n.list t ns h.0, k)
    by_tests false true e f k = add-one n (note_lists (boxes_at t ns)) (boxes_at s ns) (none-at n.list s ns h.0) k
    by_tests false false e f k = k

-- ---- two lists of boxes, one behind the other

pub all-joined : (P : NoteBox → Type 0) (xs ys : List NoteBox) → AllByRecursion P xs → AllByRecursion P ys → AllByRecursion P (xs ++ ys)
all-joined P [] ys h k = k
all-joined P (x ∷ xs) ys h k = (h.0, all-joined P xs ys h.1 k)

pub all-front : (P : NoteBox → Type 0) (xs ys : List NoteBox) → AllByRecursion P (xs ++ ys) → AllByRecursion P xs
all-front P [] ys h = tt
all-front P (x ∷ xs) ys h = (h.0, all-front P xs ys h.1)

pub all-back : (P : NoteBox → Type 0) (xs ys : List NoteBox) → AllByRecursion P (xs ++ ys) → AllByRecursion P ys
all-back P [] ys h = h
all-back P (x ∷ xs) ys h = all-back P xs ys h.1

none-joined : (q : ℕ) (xs ys : List NoteBox) → IsNoneOf q (note_lists xs) → IsNoneOf q (note_lists ys) → IsNoneOf q (note_lists (xs ++ ys))
none-joined q [] ys h k = k
none-joined q (x ∷ xs) ys h k = (h.0, none-joined q xs ys h.1 k)

all-none-joined : (xs ys ks : List NoteBox) → AllByRecursion (λ k. IsNoneOf k.list (note_lists xs)) ks → AllByRecursion (λ k. IsNoneOf k.list (note_lists ys)) ks → AllByRecursion (λ k. IsNoneOf k.list (note_lists (xs ++ ys))) ks
all-none-joined xs ys [] h k = tt
all-none-joined xs ys (n ∷ ks) h k = (none-joined n.list xs ys h.0 k.0, all-none-joined xs ys ks h.1 k.1)

distinct-joined : (xs ys : List NoteBox) → AreDistinct (note_lists xs) → AreDistinct (note_lists ys) → AllByRecursion (λ k. IsNoneOf k.list (note_lists ys)) xs → AreDistinct (note_lists (xs ++ ys))
distinct-joined [] ys d e h = e
distinct-joined (x ∷ xs) ys d e h = (none-joined x.list xs ys d.0 h.0, distinct-joined xs ys d.1 e h.1)

-- ---- footnotes with what stands below them, and what stands above them

-- what holds of each of these, if it holds of each
pub all-among : (P : NoteBox → Type 0) (feet : Bool) (ns : List NoteBox) → AllByRecursion P ns → AllByRecursion P (boxes_among feet ns)
all-among P true ns h = all-joined P (boxes_at standings.Feet ns) (boxes_at standings.Below ns) (all-at P standings.Feet ns h) (all-at P standings.Below ns h)
all-among P false ns h = all-at P standings.Above ns h

all-three : (P : NoteBox → Type 0) (ns : List NoteBox) → AllByRecursion P (boxes_at standings.Above ns) → AllByRecursion P (boxes_at standings.Feet ns) → AllByRecursion P (boxes_at standings.Below ns) → AllByRecursion P ns
all-three P [] h k l = tt
all-three P (n ∷ ns) h k l = by_place (all-three P ns) (standing_of n.class n.below) h k l
  where
    by_place : (AllByRecursion P (boxes_at standings.Above ns) → AllByRecursion P (boxes_at standings.Feet ns) → AllByRecursion P (boxes_at standings.Below ns) → AllByRecursion P ns)
        → (x : Standing) → AllByRecursion P (if is_at standings.Above x then n ∷ boxes_at standings.Above ns else boxes_at standings.Above ns)
        → AllByRecursion P (if is_at standings.Feet x then n ∷ boxes_at standings.Feet ns else boxes_at standings.Feet ns)
        → AllByRecursion P (if is_at standings.Below x then n ∷ boxes_at standings.Below ns else boxes_at standings.Below ns) → AllByRecursion P (n ∷ ns)
    by_place rest standings.Above h k l = (h.0, rest h.1 k l)
    by_place rest standings.Feet h k l = (k.0, rest h k.1 l)
    by_place rest standings.Below h k l = (l.0, rest h k l.1)

-- what holds of both holds of each
pub all-both : (P : NoteBox → Type 0) (ns : List NoteBox) → AllByRecursion P (boxes_among false ns) → AllByRecursion P (boxes_among true ns) → AllByRecursion P ns
all-both P ns h k = all-three P ns h (all-front P (boxes_at standings.Feet ns) (boxes_at standings.Below ns) k) (all-back P (boxes_at standings.Feet ns) (boxes_at standings.Below ns) k)

-- an amount of boxes that adds up, of all of them
module _ (amount : List NoteBox → ℕ) (one : NoteBox → ℕ) (none : amount [] ≡ 0) (more : (n : NoteBox) (ns : List NoteBox) → amount (n ∷ ns) ≡ one n + amount ns) where
  sum-joined : (xs ys : List NoteBox) → amount (xs ++ ys) ≡ amount xs + amount ys
  sum-joined [] ys = omega (arith, none)
  sum-joined (x ∷ xs) ys = omega (arith, more x (xs ++ ys), more x xs, sum-joined xs ys)

  sum-three : (ns : List NoteBox) → amount (boxes_at standings.Above ns) + amount (boxes_at standings.Feet ns) + amount (boxes_at standings.Below ns) ≡ amount ns
  sum-three [] = omega (arith, none)
  sum-three (n ∷ ns) = by_place (standing_of n.class n.below) (sum-three ns)
    where
      by_place : (x : Standing) → amount (boxes_at standings.Above ns) + amount (boxes_at standings.Feet ns) + amount (boxes_at standings.Below ns) ≡ amount ns
          → amount (if is_at standings.Above x then n ∷ boxes_at standings.Above ns else boxes_at standings.Above ns) + amount (if is_at standings.Feet x then n ∷ boxes_at standings.Feet ns else boxes_at standings.Feet ns)
          + amount (if is_at standings.Below x then n ∷ boxes_at standings.Below ns else boxes_at standings.Below ns) ≡ amount (n ∷ ns)
      by_place standings.Above e = omega (arith, e, more n ns, more n (boxes_at standings.Above ns))
      by_place standings.Feet e = omega (arith, e, more n ns, more n (boxes_at standings.Feet ns))
      by_place standings.Below e = omega (arith, e, more n ns, more n (boxes_at standings.Below ns))

  pub sum-both : (ns : List NoteBox) → amount (boxes_among false ns) + amount (boxes_among true ns) ≡ amount ns
  sum-both ns = omega (arith, sum-joined (boxes_at standings.Feet ns) (boxes_at standings.Below ns), sum-three ns)

pub count-both : (ns : List NoteBox) → above_count (boxes_among false ns) + above_count (boxes_among true ns) ≡ above_count ns
count-both ns = sum-both above_count (λ n. above_length n.class) refl (λ m ms. refl) ns

none-among : (q : ℕ) (feet : Bool) (ns : List NoteBox) → IsNoneOf q (note_lists ns) → IsNoneOf q (note_lists (boxes_among feet ns))
none-among q true ns h = none-joined q (boxes_at standings.Feet ns) (boxes_at standings.Below ns) (none-at q standings.Feet ns h) (none-at q standings.Below ns h)
none-among q false ns h = none-at q standings.Above ns h

distinct-notes : (feet : Bool) (ns : List NoteBox) → AreDistinct (note_lists ns) → AreDistinct (note_lists (boxes_among feet ns))
distinct-notes true ns h = distinct-joined (boxes_at standings.Feet ns) (boxes_at standings.Below ns) (distinct-at standings.Feet ns h) (distinct-at standings.Below ns h) (at-apart standings.Feet standings.Below refl ns h)
distinct-notes false ns h = distinct-at standings.Above ns h

pub distinct-among : (body : ℕ) (feet : Bool) (ns : List NoteBox) → AreDistinct (body ∷ note_lists ns) → AreDistinct (body ∷ note_lists (boxes_among feet ns))
distinct-among body feet ns h = (none-among body feet ns h.0, distinct-notes feet ns h.1)

-- the list of each class above footnotes is none of the others, and the other way round
pub footnotes-apart : (ns : List NoteBox) → AreDistinct (note_lists ns) → AllByRecursion (λ k. IsNoneOf k.list (note_lists (boxes_among true ns))) (boxes_among false ns)
footnotes-apart ns h =
    all-none-joined (boxes_at standings.Feet ns) (boxes_at standings.Below ns) (boxes_at standings.Above ns) (at-apart standings.Above standings.Feet refl ns h) (at-apart standings.Above standings.Below refl ns h)

pub others-apart : (ns : List NoteBox) → AreDistinct (note_lists ns) → AllByRecursion (λ k. IsNoneOf k.list (note_lists (boxes_among false ns))) (boxes_among true ns)
others-apart ns h =
    all-joined (λ k. IsNoneOf k.list (note_lists (boxes_at standings.Above ns))) (boxes_at standings.Feet ns) (boxes_at standings.Below ns)
    (at-apart standings.Feet standings.Above refl ns h) (at-apart standings.Below standings.Above refl ns h)

-- ---- lists that differ

none-middle : (q : ℕ) (done : List NoteBox) (n : NoteBox) (rest : List NoteBox) → IsNoneOf q (note_lists (done ++ n ∷ rest)) → n.list ≢ q
none-middle q [] n rest h = h.0
none-middle q (m ∷ done) n rest h = none-middle q done n rest h.1

pub none-done : (q : ℕ) (done rest : List NoteBox) → IsNoneOf q (note_lists (done ++ rest)) → IsNoneOf q (note_lists done)
none-done q [] rest h = tt
none-done q (m ∷ done) rest h = (h.0, none-done q done rest h.1)

distinct-middle : (done : List NoteBox) (n : NoteBox) (rest : List NoteBox) → AreDistinct (note_lists (done ++ n ∷ rest)) → IsNoneOf n.list (note_lists done)
distinct-middle [] n rest h = tt
distinct-middle (m ∷ done) n rest h = ((λ e. none-middle m.list done n rest h.0 (sym e)), distinct-middle done n rest h.1)

-- the list of a class is neither the text's nor that of an earlier class
pub record IsNextNote (body : ℕ) (done : List NoteBox) (n : NoteBox) : Type 0 where
  pub text : n.list ≢ body
  pub done_text : IsNoneOf body (note_lists done)
  pub earlier : IsNoneOf n.list (note_lists done)

pub next_note : (body : ℕ) (done : List NoteBox) (n : NoteBox) (rest : List NoteBox) → AreDistinct (body ∷ note_lists (done ++ n ∷ rest)) → IsNextNote body done n
next_note body done n rest h = record { text = none-middle body done n rest h.0; done_text = none-done body done (n ∷ rest) h.0; earlier = distinct-middle done n rest h.1 }

all-middle : (P : NoteBox → Type 0) (done : List NoteBox) (n : NoteBox) (rest : List NoteBox) → AllByRecursion P (done ++ n ∷ rest) → P n
all-middle P [] n rest h = h.0
all-middle P (m ∷ done) n rest h = all-middle P done n rest h.1

-- what the loop over all classes has of the next one that it joins
pub record IsTurn (store : Lists Node) (body : ℕ) (done : List NoteBox) (n : NoteBox) (all : List NoteBox) : Type 0 where
  pub next : IsNextNote body done n
  pub live : IsLive store n.list
  pub room : above_count done + above_length n.class ≤ above_count all

pub next_turn : (store : Lists Node) (body : ℕ) (s : Standing) (ns : List NoteBox) (i : ℕ) (n : NoteBox) → AreApart store body (boxes_at s ns) → i < length ns → n ≡ get_or ns i n → is_at s (standing_of n.class n.below) ≡ true
    → IsTurn store body (boxes_at s (take i ns)) n (boxes_at s ns)
next_turn store body s ns i n can lt is e =
    let done = boxes_at s (take i ns) in
    let rest = boxes_at s (drop (suc i) ns) in
    let parts = at-split s ns i n lt is e in
    record {
      next = next_note body done n rest (subst (λ ms. AreDistinct (body ∷ note_lists ms)) parts can.apart);
      live = all-middle (λ m. IsLive store m.list) done n rest (subst (AllByRecursion (λ m. IsLive store m.list)) parts can.live);
      room = omega (arith, ap above_count parts, above_count-append done (n ∷ rest));
    }

-- ---- the classes join the text one by one

-- these classes have joined the text
pub record JoinedSoFar (p : Params) (kern : Option ℤ) (body : ℕ) (s0 : Lists Node) (done : List NoteBox) (s : Lists Node) : Type 0 where
  pub text : list_at s body ≡ list_at s0 body ++ notes_list p kern s0 done
  pub live : IsLive s body
  pub lists : AreJoined body done s0 s
  pub spare : s0.spare ≤ s.spare + above_count done

-- what the map has after a list took all of another
module _ (s s' : Lists Node) (body : ℕ) (n : NoteBox) (xs : List Node) (text : n.list ≢ body) (e : s'.lists ≡ insert (with_list s body xs) n.list []) where
  get-body : get s'.lists body ≡ Some xs
  get-body = ap (λ m. get m body) e ∙ get-insert_other (with_list s body xs) n.list [] body (λ h. text (sym h)) ∙ get-insert_same s.lists body xs

  get-note : get s'.lists n.list ≡ Some []
  get-note = ap (λ m. get m n.list) e ∙ get-insert_same (with_list s body xs) n.list []

  get-others : (q : ℕ) → q ≢ body → q ≢ n.list → get s'.lists q ≡ get s.lists q
  get-others q a b = ap (λ m. get m q) e ∙ get-insert_other (with_list s body xs) n.list [] q b ∙ get-insert_other s.lists body xs q a

  emptied-on : (done : List NoteBox) → IsNoneOf body (note_lists done) → IsNoneOf n.list (note_lists done) → AllByRecursion (λ m. get s.lists m.list ≡ Some []) done
      → AllByRecursion (λ m. get s'.lists m.list ≡ Some []) (done ++ n ∷ [])
  emptied-on [] a b h = (get-note, tt)
  emptied-on (m ∷ ms) a b h = (get-others m.list a.0 b.0 ∙ h.0, emptied-on ms a.1 b.1 h.1)

module _ (p : Params) (kern : Option ℤ) (body : ℕ) (s0 : Lists Node) where
  pub joined_begin : IsLive s0 body → JoinedSoFar p kern body s0 [] s0
  joined_begin live = record { text = sym (append-nil (list_at s0 body)); live = live; lists = record { emptied = tt; others = λ q none. refl }; spare = omega arith }

  -- the list of the next class holds what it held
  pub next_same : (done : List NoteBox) (n : NoteBox) (s : Lists Node) → IsNextNote body done n → JoinedSoFar p kern body s0 done s → get s.lists n.list ≡ get s0.lists n.list
  next_same done n s next so = so.lists.others n.list ((λ e. next.text (sym e)), next.earlier)

  -- one more has joined it
  pub joined_go : (done : List NoteBox) (n : NoteBox) (s s' : Lists Node) → IsNextNote body done n → JoinedSoFar p kern body s0 done s
      → s'.lists ≡ insert (with_list s body (list_at s body ++ (class_above p kern n ++ list_at s n.list))) n.list [] → s.spare ≤ s'.spare + above_length n.class
      → JoinedSoFar p kern body s0 (done ++ n ∷ []) s'
  joined_go done n s s' next so e less =
      let xs = list_at s body ++ (class_above p kern n ++ list_at s n.list) in
      let held = list-get s0 s n.list (next_same done n s next so) in
      let there = get-body s s' body n xs next.text e in
      record {
        text =
            ap (λ o. unwrap_or o []) there
            ∙ ap (λ (ys : List Node). ys ++ (class_above p kern n ++ list_at s n.list)) so.text
            ∙ ap (λ (ys : List Node). (list_at s0 body ++ notes_list p kern s0 done) ++ (class_above p kern n ++ ys)) held
            ∙ append_assoc (list_at s0 body) (notes_list p kern s0 done) (class_above p kern n ++ list_at s0 n.list)
            ∙ ap (λ (ys : List Node). list_at s0 body ++ ys) (sym (notes_list-snoc p kern s0 done n));
        live = ap (λ o. is_some o) there;
        lists = record {
          emptied = emptied-on s s' body n xs next.text e done next.done_text next.earlier so.lists.emptied;
          others = λ q none.
              let apart = subst (IsNoneOf q) (map-append (λ (m : NoteBox). m.list) done (n ∷ [])) none.1 in
              let last = none-back q (note_lists done) (n.list ∷ []) apart in
              get-others s s' body n xs next.text e q (λ h. none.0 (sym h)) (λ h. last.0 (sym h)) ∙ so.lists.others q (none.0, none-front q (note_lists done) (n.list ∷ []) apart);
        };
        spare = omega (arith, less, so.spare, above_count-snoc done n);
      }

-- ---- footnotes, and what stands below them, join after all others

module _ (body : ℕ) (ns : List NoteBox) (a b c : Lists Node) (d : AreDistinct (body ∷ note_lists ns)) (f : AreJoined body (boxes_among false ns) a b) where
  -- their lists are as they were before
  pub footnotes-same : AllByRecursion (λ n. get b.lists n.list ≡ get a.lists n.list) (boxes_among true ns)
  footnotes-same = go (boxes_among true ns) (none-among body true ns d.0) (others-apart ns d.1)
    where
      go : (ks : List NoteBox) → IsNoneOf body (note_lists ks) → AllByRecursion (λ k. IsNoneOf k.list (note_lists (boxes_among false ns))) ks → AllByRecursion (λ n. get b.lists n.list ≡ get a.lists n.list) ks
      go [] none apart = tt
      go (k ∷ ks) none apart = (f.others k.list ((λ e. none.0 (sym e)), apart.0), go ks none.1 apart.1)

  pub both-joined : AreJoined body (boxes_among true ns) b c → AreJoined body ns a c
  both-joined t = record {
    emptied = all-both (λ n. get c.lists n.list ≡ Some []) ns (go (boxes_among false ns) (none-among body false ns d.0) (footnotes-apart ns d.1) f.emptied) t.emptied;
    others = λ q none. t.others q (none.0, none-among q true ns none.1) ∙ f.others q (none.0, none-among q false ns none.1);
  }
    where
      go : (ks : List NoteBox) → IsNoneOf body (note_lists ks) → AllByRecursion (λ k. IsNoneOf k.list (note_lists (boxes_among true ns))) ks → AllByRecursion (λ k. get b.lists k.list ≡ Some []) ks → AllByRecursion (λ k. get c.lists k.list ≡ Some []) ks
      go [] none apart h = tt
      go (k ∷ ks) none apart h = (t.others k.list ((λ e. none.0 (sym e)), apart.0) ∙ h.0, go ks none.1 apart.1 h.1)
