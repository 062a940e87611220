-- Worked pages: what the arrival of an insertion requires, and what holds after it.
use Rattle.std.proofs.Common.{◌≡◌, refl, sym, subst, ◌∙◌, ap, ℕ, zero, suc, ◌+◌, ◌<◌, ◌≤◌, ℤ, pos, Bool, true, false, List, [], ◌∷◌, ◌++◌, length, take, get_or, Some, None, is_some, unwrap_or, add-one, arith}
use Rattle.std.specs.Prelude.{◌==◌, ◌||◌, ◌≤ℤ◌, map, All}
use Rattle.std.specs.FinMap.{get}
use Rattle.std.proofs.Math.Seq.{take-suc}
use Rattle.std.proofs.lemmas.Bool.{true≢false, eqb-true}
use Rattle.std.proofs.lemmas.Int.{ints}
use Rattle.std.proofs.lemmas.List.{length-map, map-append}
use Rattle.std.proofs.lemmas.List.Elements.{All-from_recursion}
use Rattle.tb_scaled.specs.Scaled.{badness_of}
use Rattle.tb_pool.specs.Lists.{Lists, IsLive, list_at, with_list}
use Rattle.tb_pool.proofs.MapLemmas.{get-insert_same, get-insert_other}
use Rattle.tb_node.specs.declared.Node.{Node}
use Rattle.tb_node.specs.declared.What.TheVariants.{Blank}
use Rattle.tb_node.specs.NodeSums.{added_node}
use Rattle.tb_node.specs.SmallAmounts.{IsAmount, IsSmall}
use Rattle.tb_node.specs.declared.Insertion.{Insertion}
use Rattle.tb_node.specs.Shape.{Shape}
use Rattle.tb_node.specs.Sums.{sums_of}
use Rattle.tb_node.specs.PlainNodes.{shape_of, Inserted, inserted_of, ins as an_insertion, plain, hbox, PlainNode, node_shape}
use Rattle.tb_node.specs.Fit.{shapes, NodesFit, SumsFit, IsSized, IsExtent, IsDimension}
use Rattle.tb_node.proofs.FitLemmas.{nodes_fit, sums_fit}
use Rattle.tb_break.specs.Scan.{Scanned, empty_scan}
use Rattle.tb_break.specs.Cost.{page_badness, cost_of_badness}
use Rattle.tb_insert.specs.declared.Class.{Class}
use Rattle.tb_insert.specs.declared.Account.{Account}
use Rattle.tb_insert.specs.Account.{Frozen, class_box, class_height, labelled, terms_after, insertions, is_met}
use Rattle.tb_insert.specs.AccountEntries.{Differ, numbered, boxed, IsAccountOf, IsScanOfPage, ComesTo, met_scan}
use Rattle.tb_insert.specs.Terms.{sums_with}
use Rattle.tb_insert.specs.Arrival.{InnerFits, ClassFits, ArriveFits, PageFits}
use Rattle.tb_insert.specs.WorkedPages.{worked_box, worked_note, short_nodes, long_nodes, single_node, footnotes, worked_classes, worked_page, worked_notes, note_node, first_notes, StandsAt}
use Rattle.tb_insert.proofs.StandsLemmas.{stands-plain}
use Rattle.tb_insert.proofs.TermLemmas.{skipped, sums-other, scan_plain, arrive_fits}

-- ---- lists

other_list : (first s t : Lists Node) (l : ℕ) (xs : List Node) → get first.lists l ≡ None → t.lists ≡ with_list s l xs → (q : ℕ) → IsLive first q → get t.lists q ≡ get s.lists q
other_list first s t l xs none e q live = ap (λ m. get m q) e ∙ get-insert_other s.lists l xs q (λ x. true≢false (sym live ∙ ap (λ k. is_some (get first.lists k)) x ∙ ap is_some none))

-- opening a list leaves the others
pub opened_others : (s t : Lists Node) (l : ℕ) → get s.lists l ≡ None → t.lists ≡ with_list s l [] → (q : ℕ) → IsLive s q → get t.lists q ≡ get s.lists q
opened_others s t l none e = other_list s s t l [] none e

-- a list got the next of these nodes
pub list_step : (s t : Lists Node) (l : ℕ) (all : List Node) (k : ℕ) (d : Node) → k < length all → get s.lists l ≡ Some (take k all) → t.lists ≡ with_list s l (list_at s l ++ get_or all k d ∷ []) → get t.lists l ≡ Some (take (k + 1) all)
list_step s t l all k d within made e =
    ap (λ m. get m l) e
    ∙ get-insert_same s.lists l (list_at s l ++ get_or all k d ∷ [])
    ∙ ap Some (ap (λ o. unwrap_or o [] ++ get_or all k d ∷ []) made ∙ sym (ap (λ j. take j all) (add-one k) ∙ take-suc all k d within))

-- other lists that were live before it was opened stay
pub list_step_others : (first s t : Lists Node) (l : ℕ) (xs : List Node) → get first.lists l ≡ None → t.lists ≡ with_list s l xs → ((q : ℕ) → IsLive first q → get s.lists q ≡ get first.lists q) → (q : ℕ) → IsLive first q → get t.lists q ≡ get first.lists q
list_step_others first s t l xs none e same q live = other_list first s t l xs none e q live ∙ same q live

-- ---- amounts

amount : (k : ℕ) → k < 1152921504606846976 → IsAmount (pos k)
amount k h = record { low = omega (arith, ints); high = omega (arith, ints) }

-- what holds of both classes holds of each
heights_of : (f : ℕ → ℤ) → IsAmount (f 254) → IsAmount (f 253) → (k : ℕ) → numbered worked_classes k ≡ true → IsAmount (f k)
heights_of f a b k h = by_tests (254 == k) (253 == k) refl refl h
  where
    by_tests : (t u : Bool) → (254 == k) ≡ t → (253 == k) ≡ u → (t || (u || false)) ≡ true → IsAmount (f k)
    by_tests true u e g h = subst (λ n. IsAmount (f n)) (eqb-true 254 k e) a
    by_tests false true e g h = subst (λ n. IsAmount (f n)) (eqb-true 253 k g) b
    by_tests false false e g h = absurd (true≢false (sym h))

-- the sums of a page of insertions of class 254
skipped_small : IsSmall (record { total = pos 0; depth = pos 0; stretch = pos 3000 ∷ pos 0 ∷ pos 0 ∷ pos 0 ∷ []; shrink = pos 2000 })
skipped_small = record {
  total = amount 0 (omega arith);
  depth = amount 0 (omega arith);
  stretch = (amount 3000 (omega arith), (amount 0 (omega arith), (amount 0 (omega arith), (amount 0 (omega arith), tt))));
  shrink = amount 2000 (omega arith);
}

heights_at : (page : List PlainNode) (a b : ℕ) → class_height worked_classes (labelled worked_page page) 254 ≡ pos a → class_height worked_classes (labelled worked_page page) 253 ≡ pos b → a < 1152921504606846976 → b < 1152921504606846976
    → (k : ℕ) → numbered worked_classes k ≡ true → IsAmount (class_height worked_classes (labelled worked_page page) k)
heights_at page a b e g small_a small_b = heights_of (λ k. class_height worked_classes (labelled worked_page page) k) (subst IsAmount (sym e) (amount a small_a)) (subst IsAmount (sym g) (amount b small_b))

-- the page with the first k insertions fits, for each k
pub first_fits : (k : ℕ) → k < 5 → PageFits worked_page (first_notes (suc k))
unfolding page_badness cost_of_badness badness_of
first_fits zero h = record {
  sums = skipped_small;
  goal = amount 888000 (omega arith);
  penalties = amount 0 (omega arith);
  heights = heights_at (first_notes 1) 100000 40000 refl refl (omega arith) (omega arith);
}
first_fits (suc zero) h = record {
  sums = skipped_small;
  goal = amount 788000 (omega arith);
  penalties = amount 0 (omega arith);
  heights = heights_at (first_notes 2) 200000 40000 refl refl (omega arith) (omega arith);
}
first_fits (suc (suc zero)) h = record {
  sums = skipped_small;
  goal = amount 538000 (omega arith);
  penalties = amount 0 (omega arith);
  heights = heights_at (first_notes 3) 450000 40000 refl refl (omega arith) (omega arith);
}
first_fits (suc (suc (suc zero))) h = record {
  sums = skipped_small;
  goal = amount 538000 (omega arith);
  penalties = amount 77 (omega arith);
  heights = heights_at (first_notes 4) 450000 40000 refl refl (omega arith) (omega arith);
}
first_fits (suc (suc (suc (suc zero)))) h = record {
  sums = skipped_small;
  goal = amount 468000 (omega arith);
  penalties = amount 77 (omega arith);
  heights = heights_at (first_notes 5) 450000 140000 refl refl (omega arith) (omega arith);
}
first_fits (suc (suc (suc (suc (suc k))))) h = absurd (omega (arith, h))

-- the page with one more
pub next_page : (k : ℕ) (i : Inserted) → k < 5 → i ≡ get_or worked_notes k i → first_notes (k + 1) ≡ first_notes k ++ note_node i ∷ []
next_page zero i h e = sym (ap (λ x. note_node x ∷ []) e)
next_page (suc zero) i h e = sym (ap (λ x. first_notes 1 ++ note_node x ∷ []) e)
next_page (suc (suc zero)) i h e = sym (ap (λ x. first_notes 2 ++ note_node x ∷ []) e)
next_page (suc (suc (suc zero))) i h e = sym (ap (λ x. first_notes 3 ++ note_node x ∷ []) e)
next_page (suc (suc (suc (suc zero)))) i h e = sym (ap (λ x. first_notes 4 ++ note_node x ∷ []) e)
next_page (suc (suc (suc (suc (suc k))))) i h e = absurd (omega (arith, h))

page_length : (k : ℕ) → k < 5 → k ≡ length (first_notes k)
page_length zero h = refl
page_length (suc zero) h = refl
page_length (suc (suc zero)) h = refl
page_length (suc (suc (suc zero))) h = refl
page_length (suc (suc (suc (suc zero)))) h = refl
page_length (suc (suc (suc (suc (suc k))))) h = absurd (omega (arith, h))

-- ---- the list of an insertion

extent : (k : ℕ) → k ≤ 1073741823 → IsExtent (pos k)
extent k h = record { low = omega (arith, ints); high = omega (arith, ints) }

nothing : IsDimension (pos 0)
nothing = record { low = omega (arith, ints); high = omega (arith, ints) }

pub short_sized : All IsSized (map shape_of short_nodes)
short_sized = All-from_recursion IsSized (map shape_of short_nodes) ((extent 40000 (omega arith), extent 0 (omega arith)), ((nothing, nothing, nothing), ((extent 60000 (omega arith), extent 0 (omega arith)), tt)))

pub long_sized : All IsSized (map shape_of long_nodes)
long_sized = All-from_recursion IsSized (map shape_of long_nodes) ((extent 250000 (omega arith), extent 0 (omega arith)), ((nothing, nothing, nothing), ((extent 150000 (omega arith), extent 0 (omega arith)), tt)))

pub single_sized : All IsSized (map shape_of single_node)
single_sized = All-from_recursion IsSized (map shape_of single_node) ((extent 600000 (omega arith), extent 0 (omega arith)), tt)

-- an insertion whose list has these nodes can be split
pub inner_fits : (store : Lists Node) (ins : Insertion) (ns : List Node) → IsLive store ins.list → list_at store ins.list ≡ ns → ins.split_depth ≡ pos 0 → All IsSized (map shape_of ns) → length ns ≤ 8388608 → InnerFits store ins
inner_fits store ins ns live e depth sized few = record {
  live = live;
  nodes = subst (λ xs. NodesFit (map shape_of xs)) (sym e) (nodes_fit (map shape_of ns) sized);
  sums = subst (λ d. SumsFit d (shapes store ins.list)) (sym depth) (subst (λ xs. SumsFit (pos 0) (map shape_of xs)) (sym e) (sums_fit (pos 0) (map shape_of ns) (omega (arith, ints)) (record { sized = sized; few = let l = length-map {B = Shape} ns shape_of in omega arith })));
  depth = subst IsAmount (sym depth) (amount 0 (omega arith));
  depth_low = subst (λ d. pos 0 ≤ℤ d) (sym depth) (omega (arith, ints));
}

-- ---- the class of an insertion

class_fits : (k : ℕ) → numbered worked_classes k ≡ true → ClassFits (class_box worked_classes k).class
class_fits k h = by_tests (254 == k) (253 == k) refl refl h
  where
    by_tests : (t u : Bool) → (254 == k) ≡ t → (253 == k) ≡ u → (t || (u || false)) ≡ true → ClassFits (class_box worked_classes k).class
    by_tests true u e g h = subst (λ n. ClassFits (class_box worked_classes n).class) (eqb-true 254 k e) (record { factor = amount 1000 (omega arith); stretch = amount 3000 (omega arith); shrink = amount 2000 (omega arith) })
    by_tests false true e g h = subst (λ n. ClassFits (class_box worked_classes n).class) (eqb-true 253 k g) (record { factor = amount 500 (omega arith); stretch = amount 0 (omega arith); shrink = amount 0 (omega arith) })
    by_tests false false e g h = absurd (true≢false (sym h))

pub class_number : (k : ℕ) → numbered worked_classes k ≡ true → (class_box worked_classes k).class.number ≡ k
class_number k h = by_tests (254 == k) (253 == k) refl refl h
  where
    by_tests : (t u : Bool) → (254 == k) ≡ t → (253 == k) ≡ u → (t || (u || false)) ≡ true → (class_box worked_classes k).class.number ≡ k
    by_tests true u e g h = subst (λ n. (class_box worked_classes n).class.number ≡ n) (eqb-true 254 k e) refl
    by_tests false true e g h = subst (λ n. (class_box worked_classes n).class.number ≡ n) (eqb-true 253 k g) refl
    by_tests false false e g h = absurd (true≢false (sym h))

pub class_small : (k : ℕ) → numbered worked_classes k ≡ true → k < 256
class_small k h = by_tests (254 == k) (253 == k) refl refl h
  where
    by_tests : (t u : Bool) → (254 == k) ≡ t → (253 == k) ≡ u → (t || (u || false)) ≡ true → k < 256
    by_tests true u e g h = let x = eqb-true 254 k e in omega (arith, x)
    by_tests false true e g h = let x = eqb-true 253 k g in omega (arith, x)
    by_tests false false e g h = absurd (true≢false (sym h))

-- ---- an insertion arrives

-- an insertion of one of the classes comes to the end of a page
module _ (store : Lists Node) (a : Account) (s : Scanned) (i : Insertion) (class : Class) (size : ℤ) (index : ℕ) (page marked : List PlainNode)
    (known : numbered worked_classes i.class ≡ true) (class_is : class ≡ (class_box worked_classes i.class).class) (size_is : size ≡ (class_box worked_classes i.class).size) (place : index ≡ length page)
    (stands : IsAccountOf a worked_page page marked) (scan : IsScanOfPage s worked_page page) where
  number : class.number ≡ i.class
  number = ap (λ (c : Class). c.number) class_is ∙ class_number i.class known

  own : class_box worked_classes i.class ≡ boxed class size
  own = λ j. boxed (sym class_is j) (sym size_is j)

  pub comes : ComesTo worked_page page s class size index
  comes = record {
    numbered_so = subst (λ k. numbered worked_classes k ≡ true) (sym number) known;
    own = subst (λ k. class_box worked_classes k ≡ boxed class size) (sym number) own;
    place = place;
    scan = scan;
  }

  pub fits : InnerFits store i → PageFits worked_page (page ++ note_node (inserted_of (list_at store) i) ∷ []) → ArriveFits store a s i class size
  fits inner after = arrive_fits store a s i 7 class size index worked_page page marked number (class_small i.class known) stands comes inner (subst ClassFits (sym class_is) (class_fits i.class known)) after

  pub scan_after : (t : Scanned) → t ≡ met_scan (is_met (insertions (labelled worked_page page)) i.class) s class → IsScanOfPage t worked_page (page ++ note_node (inserted_of (list_at store) i) ∷ [])
  scan_after t e = record {
    under = ap (λ (x : Scanned). x.max_depth) e ∙ depth (is_met (insertions (labelled worked_page page)) i.class) ∙ scan.under;
    sums =
        ap (λ (x : Scanned). x.sums) e ∙ skipped worked_page page s 7 (inserted_of (list_at store) i) (is_met (insertions (labelled worked_page page)) i.class) class size stands.differ known own refl scan
        ∙ ap (λ x. sums_with x (terms_after worked_page (page ++ note_node (inserted_of (list_at store) i) ∷ []))) (sym (ap (sums_of (pos 0)) (map-append node_shape page (note_node (inserted_of (list_at store) i) ∷ [])) ∙ sums-other (pos 0) (map node_shape page)));
  }
    where
      depth : (m : Bool) → (met_scan m s class).max_depth ≡ s.max_depth
      depth true = refl
      depth false = refl

-- the next of the insertions comes to a page of those before it
module _ (store : Lists Node) (a : Account) (s : Scanned) (i : Insertion) (class : Class) (size : ℤ) (k : ℕ) (few : k < 5)
    (known : numbered worked_classes i.class ≡ true) (class_is : class ≡ (class_box worked_classes i.class).class) (size_is : size ≡ (class_box worked_classes i.class).size)
    (next : inserted_of (list_at store) i ≡ get_or worked_notes k (inserted_of (list_at store) i)) (at : StandsAt a s k) where
  pub next_fits : InnerFits store i → ArriveFits store a s i class size
  next_fits inner = fits store a s i class size k (first_notes k) at.marked known class_is size_is (page_length k few) at.account at.scan inner
      (subst (PageFits worked_page) (ap first_notes (sym (add-one k)) ∙ next_page k (inserted_of (list_at store) i) few next) (first_fits k few))

  pub next_stands : (b : Account) (t : Scanned)
      → ((z : Frozen) (page marked : List PlainNode) (line : ℕ) → IsAccountOf a z page marked → ComesTo z page s class size k → IsAccountOf b z (page ++ record { line = line; kind = an_insertion (inserted_of (list_at store) i) } ∷ []) marked)
      → ((z : Frozen) (page marked : List PlainNode) → IsAccountOf a z page marked → t ≡ met_scan (is_met (insertions (labelled z page)) i.class) s class)
      → StandsAt b t (k + 1)
  next_stands b t account scan = record {
    marked = at.marked;
    account = subst (λ ns. IsAccountOf b worked_page ns at.marked) (sym (next_page k (inserted_of (list_at store) i) few next)) (account worked_page (first_notes k) at.marked 7 at.account (comes store a s i class size k (first_notes k) at.marked known class_is size_is (page_length k few) at.account at.scan));
    scan = subst (IsScanOfPage t worked_page) (sym (next_page k (inserted_of (list_at store) i) few next)) (scan_after store a s i class size k (first_notes k) at.marked known class_is size_is (page_length k few) at.account at.scan t (scan worked_page (first_notes k) at.marked at.account));
  }

-- the class of the next of the insertions is one of the two
pub next_known : (k : ℕ) (i : Inserted) → k < 5 → i ≡ get_or worked_notes k i → numbered worked_classes i.class ≡ true
next_known zero i h e = ap (λ x. numbered worked_classes x.class) e
next_known (suc zero) i h e = ap (λ x. numbered worked_classes x.class) e
next_known (suc (suc zero)) i h e = ap (λ x. numbered worked_classes x.class) e
next_known (suc (suc (suc zero))) i h e = ap (λ x. numbered worked_classes x.class) e
next_known (suc (suc (suc (suc zero)))) i h e = ap (λ x. numbered worked_classes x.class) e
next_known (suc (suc (suc (suc (suc k))))) i h e = absurd (omega (arith, h))

-- ---- the insertions of the tests

module _ (store : Lists Node) (ins : Insertion) (class l : ℕ) (ns : List Node) (h : ℤ) (made : get store.lists l ≡ Some ns)
    (is : ins ≡ record { class = class; list = l; height = h; split_depth = pos 0; split_top = pos 0; floating = pos 77 }) where
  pub note_inserted : inserted_of (list_at store) ins ≡ worked_note class ns h
  note_inserted = ap (inserted_of (list_at store)) is ∙ ap (λ o. worked_note class (unwrap_or o []) h) made

  pub note_inner : All IsSized (map shape_of ns) → length ns ≤ 8388608 → InnerFits store ins
  note_inner sized few =
      inner_fits store ins ns (subst (IsLive store) (sym list) (ap is_some made)) (ap (list_at store) list ∙ ap (λ o. unwrap_or o []) made) (ap (λ (i : Insertion). i.split_depth) is) sized few
    where
      list : ins.list ≡ l
      list = ap (λ (i : Insertion). i.list) is

-- a new account and a new scan
pub new_stands : (a : Account) (s : Scanned) → ((z : Frozen) → z.goal ≡ pos 1000000 → Differ z.classes → IsAccountOf a z [] []) → s ≡ empty_scan (pos 0) → StandsAt a s 0
new_stands a s account e = record {
  marked = [];
  account = account worked_page refl (refl, (refl, tt));
  scan = record { under = ap (λ (x : Scanned). x.max_depth) e; sums = ap (λ (x : Scanned). x.sums) e };
}

-- ---- pages with one insertion

abbrev high_box : PlainNode
high_box = record { line = 7; kind = plain (hbox Blank (pos 940000) (pos 0)) }

split_fits : PageFits worked_page (high_box ∷ note_node (worked_note 254 short_nodes (pos 100000)) ∷ [])
unfolding page_badness cost_of_badness badness_of
split_fits = record {
  sums = record {
    total = amount 940000 (omega arith);
    depth = amount 0 (omega arith);
    stretch = (amount 3000 (omega arith), (amount 0 (omega arith), (amount 0 (omega arith), (amount 0 (omega arith), tt))));
    shrink = amount 2000 (omega arith);
  };
  goal = amount 948000 (omega arith);
  penalties = amount 0 (omega arith);
  heights = heights_at (high_box ∷ note_node (worked_note 254 short_nodes (pos 100000)) ∷ []) 40000 40000 refl refl (omega arith) (omega arith);
}

end_fits : PageFits worked_page (note_node (worked_note 254 single_node (pos 600000)) ∷ [])
unfolding page_badness cost_of_badness badness_of
end_fits = record {
  sums = skipped_small;
  goal = amount 388000 (omega arith);
  penalties = record { low = omega (arith, ints); high = omega (arith, ints) };
  heights = heights_at (note_node (worked_note 254 single_node (pos 600000)) ∷ []) 600000 40000 refl refl (omega arith) (omega arith);
}

module _ (store : Lists Node) (a : Account) (s : Scanned) (i : Insertion) (class : Class) (at : StandsAt a s 0) (class_is : class ≡ footnotes) (inner : InnerFits store i) where
  pub end_arrives : inserted_of (list_at store) i ≡ worked_note 254 single_node (pos 600000) → ArriveFits store a s i class (pos 0)
  end_arrives e =
      fits store a s i class (pos 0) 0 [] at.marked (ap (λ (x : Inserted). numbered worked_classes x.class) e) (class_is ∙ sym (ap (λ (x : Inserted). (class_box worked_classes x.class).class) e)) (sym (ap (λ (x : Inserted). (class_box worked_classes x.class).size) e)) refl at.account at.scan inner
      (subst (λ x. PageFits worked_page (note_node x ∷ [])) (sym e) end_fits)

  pub split_arrives : (t : Scanned) (n : Node) → n ≡ worked_box (pos 940000) → t ≡ record s { sums = added_node s.max_depth s.sums (shape_of n) } → inserted_of (list_at store) i ≡ worked_note 254 short_nodes (pos 100000) → ArriveFits store a t i class (pos 0)
  split_arrives t n box_is add e =
      fits store a t i class (pos 0) 1 (high_box ∷ []) at.marked (ap (λ (x : Inserted). numbered worked_classes x.class) e) (class_is ∙ sym (ap (λ (x : Inserted). (class_box worked_classes x.class).class) e)) (sym (ap (λ (x : Inserted). (class_box worked_classes x.class).size) e)) refl
      (stands-plain a worked_page [] at.marked high_box refl at.account) (scan_plain worked_page [] s t high_box refl at.scan (add ∙ ap (λ (x : Node). record s { sums = added_node s.max_depth s.sums (shape_of x) }) box_is)) inner
      (subst (λ x. PageFits worked_page (high_box ∷ note_node x ∷ [])) (sym e) split_fits)
