-- Worked pages with insertions of class 254: what the arrival of an insertion requires, and what holds after it.
use Rattle.std.proofs.Common.{◌≡◌, refl, sym, subst, ◌∙◌, ap, ℕ, ◌<◌, ◌≤◌, ℤ, pos, Bool, true, false, List, [], ◌∷◌, ◌++◌, length, Some, is_some, unwrap_or, arith, None}
use Rattle.std.specs.Prelude.{◌==◌, ◌||◌, ◌≤ℤ◌, map, All}
use Rattle.std.specs.FinMap.{get}
use Rattle.std.proofs.lemmas.Bool.{true≢false, eqb-true}
use Rattle.std.proofs.lemmas.Int.{ints}
use Rattle.std.proofs.lemmas.List.{length-map, map-append}
use Rattle.std.proofs.lemmas.List.Elements.{All-from_recursion}
use Rattle.tb_scaled.specs.Scaled.{badness_of}
use Rattle.tb_scaled.specs.Glue.{fixed_glue}
use Rattle.tb_pool.specs.Lists.{Lists, IsLive, list_at}
use Rattle.tb_node.specs.declared.Node.{Node}
use Rattle.tb_node.specs.declared.What.TheVariants.{Blank}
use Rattle.tb_node.specs.declared.Insertion.{Insertion}
use Rattle.tb_node.specs.NodeSums.{added_node}
use Rattle.tb_node.specs.SmallAmounts.{IsAmount, IsSmall}
use Rattle.tb_node.specs.Shape.{Shape}
use Rattle.tb_node.specs.Sums.{sums_of}
use Rattle.tb_node.specs.PlainNodes.{leaf_of, shape_of, Inserted, inserted_of, ins as an_insertion, plain, hbox, skip, PlainNode, node_shape, is_insertion_kind}
use Rattle.tb_node.specs.Fit.{shapes, NodesFit, SumsFit, IsSized, IsExtent, IsDimension}
use Rattle.tb_node.proofs.FitLemmas.{nodes_fit, sums_fit}
use Rattle.tb_break.specs.Scan.{Scanned, empty_scan}
use Rattle.tb_break.specs.Cost.{page_badness, cost_of_badness}
use Rattle.tb_insert.specs.declared.Class.{Class}
use Rattle.tb_insert.specs.declared.Account.{Account}
use Rattle.tb_insert.specs.Account.{ClassBox, Frozen, class_box, class_height, labelled, terms_after, insertions, is_met}
use Rattle.tb_insert.specs.AccountEntries.{Differ, numbered, boxed, IsAccountOf, IsScanOfPage, ComesTo, met_scan}
use Rattle.tb_insert.specs.Terms.{sums_with}
use Rattle.tb_insert.specs.Arrival.{InnerFits, ClassFits, ArriveFits, PageFits}
use Rattle.tb_insert.specs.WorkedPages.{worked_box, worked_glue, note_node}
use Rattle.tb_insert.proofs.StandsLemmas.{stands-plain}
use Rattle.tb_insert.proofs.TermLemmas.{skipped, sums-other, scan_plain, arrive_fits}

-- ---- what is worked

-- class 254 without a skip, and its number alone
abbrev pub only_class : ℤ → Class
only_class limit = record { number = 254; factor = pos 1000; limit = limit; below = None; skip = fixed_glue (pos 0) }

abbrev pub only_classes : ℤ → List ClassBox
only_classes limit = boxed (only_class limit) (pos 0) ∷ []

-- a page of this goal, whose insertions may take this much
abbrev pub page_of : ℤ → ℤ → Frozen
page_of goal limit = record { goal = goal; limit = pos 0; classes = only_classes limit }

-- an insertion of these nodes
abbrev pub noted : List Node → ℤ → Inserted
noted ns height = record { class = 254; inner = map leaf_of ns; height = height; split_depth = pos 186778; split_top = pos 10; floating = pos 20000 }

-- a box of 10 sp, and glue, as nodes of a page
abbrev pub page_box : PlainNode
page_box = record { line = 7; kind = plain (hbox Blank (pos 10) (pos 0)) }

abbrev pub page_glue : PlainNode
page_glue = record { line = 7; kind = plain (skip (fixed_glue (pos 0))) }

-- the lists of the insertions
abbrev pub two_boxes : List Node
two_boxes = worked_box (pos 15) ∷ worked_glue ∷ worked_box (pos 15) ∷ []

abbrev pub box_of_five : List Node
box_of_five = worked_box (pos 5) ∷ []

abbrev pub box_of_eight : List Node
box_of_eight = worked_box (pos 8) ∷ []

-- ---- amounts

-- small numbers are amounts, extents and dimensions
amount : (k : ℕ) → k < 1152921504606846976 → IsAmount (pos k)
amount k h = record { low = omega (arith, ints); high = omega (arith, ints) }

extent : (k : ℕ) → k ≤ 1073741823 → IsExtent (pos k)
extent k h = record { low = omega (arith, ints); high = omega (arith, ints) }

none : IsDimension (pos 0)
none = record { low = omega (arith, ints); high = omega (arith, ints) }

-- the boxes and the glue of the lists are sized
pub two_sized : All IsSized (map shape_of two_boxes)
two_sized = All-from_recursion IsSized (map shape_of two_boxes) ((extent 15 (omega arith), extent 0 (omega arith)), ((none, none, none), ((extent 15 (omega arith), extent 0 (omega arith)), tt)))

pub five_sized : All IsSized (map shape_of box_of_five)
five_sized = All-from_recursion IsSized (map shape_of box_of_five) ((extent 5 (omega arith), extent 0 (omega arith)), tt)

pub eight_sized : All IsSized (map shape_of box_of_eight)
eight_sized = All-from_recursion IsSized (map shape_of box_of_eight) ((extent 8 (omega arith), extent 0 (omega arith)), tt)

-- what holds of the class holds of each
height_of : (limit : ℤ) (f : ℕ → ℤ) → IsAmount (f 254) → (k : ℕ) → numbered (only_classes limit) k ≡ true → IsAmount (f k)
height_of limit f a k h = by_test (254 == k) refl h
  where
    by_test : (t : Bool) → (254 == k) ≡ t → (t || false) ≡ true → IsAmount (f k)
    by_test true e h = subst (λ n. IsAmount (f n)) (eqb-true 254 k e) a
    by_test false e h = absurd (true≢false (sym h))

-- the heights of the classes on a page fit if that of class 254 does
height_at : (goal limit : ℤ) (page : List PlainNode) (a : ℕ) → class_height (only_classes limit) (labelled (page_of goal limit) page) 254 ≡ pos a → a < 1152921504606846976
    → (k : ℕ) → numbered (only_classes limit) k ≡ true → IsAmount (class_height (only_classes limit) (labelled (page_of goal limit) page) k)
height_at goal limit page a e small = height_of limit (λ k. class_height (only_classes limit) (labelled (page_of goal limit) page) k) (subst IsAmount (sym e) (amount a small))

-- the sums of a page of this height fit
small_sums : (k : ℕ) → k < 1152921504606846976 → IsSmall (record { total = pos k; depth = pos 0; stretch = pos 0 ∷ pos 0 ∷ pos 0 ∷ pos 0 ∷ []; shrink = pos 0 })
small_sums k h = record {
  total = amount k h;
  depth = amount 0 (omega arith);
  stretch = (amount 0 (omega arith), (amount 0 (omega arith), (amount 0 (omega arith), (amount 0 (omega arith), tt))));
  shrink = amount 0 (omega arith);
}

-- ---- the pages

-- two boxes, and an insertion that is split
abbrev pub split_page : List PlainNode
split_page = page_box ∷ page_glue ∷ page_box ∷ note_node (noted two_boxes (pos 30)) ∷ []

-- its sums, goal and penalties fit
pub split_fits : PageFits (page_of (pos 45) (pos 1073741823)) split_page
unfolding page_badness cost_of_badness badness_of
split_fits = record {
  sums = small_sums 20 (omega arith);
  goal = amount 30 (omega arith);
  penalties = amount 0 (omega arith);
  heights = height_at (pos 45) (pos 1073741823) split_page 15 refl (omega arith);
}

-- so do those with a late insertion behind it
pub late_fits : PageFits (page_of (pos 45) (pos 1073741823)) (split_page ++ note_node (noted box_of_five (pos 5)) ∷ [])
unfolding page_badness cost_of_badness badness_of
late_fits = record {
  sums = small_sums 20 (omega arith);
  goal = amount 30 (omega arith);
  penalties = amount 20000 (omega arith);
  heights = height_at (pos 45) (pos 1073741823) (split_page ++ note_node (noted box_of_five (pos 5)) ∷ []) 15 refl (omega arith);
}

-- those of a box and of an insertion over its limit fit
pub limit_fits : PageFits (page_of (pos 30) (pos 5)) (page_box ∷ note_node (noted box_of_eight (pos 8)) ∷ [])
unfolding page_badness cost_of_badness badness_of
limit_fits = record {
  sums = small_sums 10 (omega arith);
  goal = amount 22 (omega arith);
  penalties = record { low = omega (arith, ints); high = omega (arith, ints) };
  heights = height_at (pos 30) (pos 5) (page_box ∷ note_node (noted box_of_eight (pos 8)) ∷ []) 8 refl (omega arith);
}

-- ---- nodes come to a page

-- the account and the scan are those of this page, which has no mark
pub record AtPage (a : Account) (s : Scanned) (z : Frozen) (page : List PlainNode) : Type 0 where
  pub account : IsAccountOf a z page []
  pub scan : IsScanOfPage s z page

-- a new account and a new scan are those of the empty page
pub at_none : (goal limit : ℤ) (a : Account) (s : Scanned) → ((z : Frozen) → z.goal ≡ goal → Differ z.classes → IsAccountOf a z [] []) → s ≡ empty_scan (pos 0) → AtPage a s (page_of goal limit) []
at_none goal limit a s account e = record {
  account = account (page_of goal limit) refl (refl, tt);
  scan = record { under = ap (λ (x : Scanned). x.max_depth) e; sums = ap (λ (x : Scanned). x.sums) e };
}

-- a node that is no insertion is added
pub at_plain : (a : Account) (s t : Scanned) (z : Frozen) (page : List PlainNode) (n : Node) (m : PlainNode) → is_insertion_kind m.kind ≡ false → shape_of n ≡ node_shape m → t ≡ record s { sums = added_node s.max_depth s.sums (shape_of n) }
    → AtPage a s z page → AtPage a t z (page ++ m ∷ [])
at_plain a s t z page n m h same add at = record {
  account = stands-plain a z page [] m h at.account;
  scan = scan_plain z page s t m h at.scan (add ∙ ap (λ x. record s { sums = added_node s.max_depth s.sums x }) same);
}

-- a box, glue and a box come to an empty page
pub at_boxes : (goal limit : ℤ) (a : Account) (s t u v : Scanned) (n m o : Node) → ((z : Frozen) → z.goal ≡ goal → Differ z.classes → IsAccountOf a z [] []) → s ≡ empty_scan (pos 0)
    → n ≡ worked_box (pos 10) → m ≡ worked_glue → o ≡ worked_box (pos 10)
    → t ≡ record s { sums = added_node s.max_depth s.sums (shape_of n) } → u ≡ record t { sums = added_node t.max_depth t.sums (shape_of m) } → v ≡ record u { sums = added_node u.max_depth u.sums (shape_of o) }
    → AtPage a v (page_of goal limit) (page_box ∷ page_glue ∷ page_box ∷ [])
at_boxes goal limit a s t u v n m o account none_yet first second third one two three =
    let z = page_of goal limit in
    at_plain a u v z (page_box ∷ page_glue ∷ []) o page_box refl (ap shape_of third) three
    (at_plain a t u z (page_box ∷ []) m page_glue refl (ap shape_of second) two
    (at_plain a s t z [] n page_box refl (ap shape_of first) one (at_none goal limit a s account none_yet)))

-- an insertion of these nodes comes to the end of a page
module _ (goal limit : ℤ) (store : Lists Node) (a : Account) (s : Scanned) (i : Insertion) (class : Class) (l : ℕ) (ns : List Node) (height : ℤ) (page : List PlainNode)
    (class_is : class ≡ only_class limit) (made : get store.lists l ≡ Some ns)
    (is : i ≡ record { class = 254; list = l; height = height; split_depth = pos 186778; split_top = pos 10; floating = pos 20000 })
    (sized : All IsSized (map shape_of ns)) (few : length ns ≤ 8388608) (at : AtPage a s (page_of goal limit) page) where
  -- what the store has of the insertion
  inserted : inserted_of (list_at store) i ≡ noted ns height
  inserted = ap (inserted_of (list_at store)) is ∙ ap (λ o. noted (unwrap_or o []) height) made

  list_is : i.list ≡ l
  list_is = ap (λ (x : Insertion). x.list) is

  listed : list_at store i.list ≡ ns
  listed = ap (list_at store) list_is ∙ ap (λ o. unwrap_or o []) made

  depth_is : i.split_depth ≡ pos 186778
  depth_is = ap (λ (x : Insertion). x.split_depth) is

  class_of : i.class ≡ 254
  class_of = ap (λ (x : Insertion). x.class) is

  -- its list can be split
  inner : InnerFits store i
  inner = record {
    live = subst (IsLive store) (sym list_is) (ap is_some made);
    nodes = subst (λ xs. NodesFit (map shape_of xs)) (sym listed) (nodes_fit (map shape_of ns) sized);
    sums = subst (λ d. SumsFit d (shapes store i.list)) (sym depth_is) (subst (λ xs. SumsFit (pos 186778) (map shape_of xs)) (sym listed) (sums_fit (pos 186778) (map shape_of ns) (omega (arith, ints)) (record { sized = sized; few = let e = length-map {B = Shape} ns shape_of in omega arith })));
    depth = subst IsAmount (sym depth_is) (amount 186778 (omega arith));
    depth_low = subst (λ d. pos 0 ≤ℤ d) (sym depth_is) (omega (arith, ints));
  }

  own : ClassFits class
  own = subst ClassFits (sym class_is) (record { factor = amount 1000 (omega arith); stretch = amount 0 (omega arith); shrink = amount 0 (omega arith) })

  -- it comes to the end of the page
  comes : (index : ℕ) → index ≡ length page → ComesTo (page_of goal limit) page s class (pos 0) index
  comes index place = record {
    numbered_so = ap (λ (x : Class). numbered (only_classes limit) x.number) class_is;
    own = ap (λ (x : Class). class_box (only_classes limit) x.number) class_is ∙ sym (ap (λ (x : Class). boxed x (pos 0)) class_is);
    place = place;
    scan = at.scan;
  }

  -- what its arrival requires
  pub arrives : PageFits (page_of goal limit) (page ++ note_node (noted ns height) ∷ []) → ArriveFits store a s i class (pos 0)
  arrives after =
      arrive_fits store a s i 7 class (pos 0) (length page) (page_of goal limit) page [] (ap (λ (x : Class). x.number) class_is ∙ sym class_of) (subst (λ k. k < 256) (sym class_of) (omega arith)) at.account (comes (length page) refl) inner own
      (subst (λ x. PageFits (page_of goal limit) (page ++ note_node x ∷ [])) (sym inserted) after)

  -- then the account and the scan are those of the page with it
  pub at_note : (b : Account) (t : Scanned) (index : ℕ) → index ≡ length page
      → ((z : Frozen) (page marked : List PlainNode) (line : ℕ) → IsAccountOf a z page marked → ComesTo z page s class (pos 0) index → IsAccountOf b z (page ++ record { line = line; kind = an_insertion (inserted_of (list_at store) i) } ∷ []) marked)
      → ((z : Frozen) (page marked : List PlainNode) → IsAccountOf a z page marked → t ≡ met_scan (is_met (insertions (labelled z page)) i.class) s class)
      → AtPage b t (page_of goal limit) (page ++ note_node (noted ns height) ∷ [])
  at_note b t index place account scan = subst (λ x. AtPage b t (page_of goal limit) (page ++ note_node x ∷ [])) inserted (record {
    account = account (page_of goal limit) page [] 7 at.account (comes index place);
    scan = record {
      under = ap (λ (x : Scanned). x.max_depth) met ∙ depth (is_met (insertions (labelled (page_of goal limit) page)) i.class) ∙ at.scan.under;
      sums =
          ap (λ (x : Scanned). x.sums) met
          ∙ skipped (page_of goal limit) page s 7 (inserted_of (list_at store) i) (is_met (insertions (labelled (page_of goal limit) page)) i.class) class (pos 0) at.account.differ known own_box refl at.scan
          ∙ ap (λ x. sums_with x (terms_after (page_of goal limit) (page ++ note_node (inserted_of (list_at store) i) ∷ []))) (sym (ap (sums_of (pos 0)) (map-append node_shape page (note_node (inserted_of (list_at store) i) ∷ [])) ∙ sums-other (pos 0) (map node_shape page)));
    };
  })
    where
      met : t ≡ met_scan (is_met (insertions (labelled (page_of goal limit) page)) i.class) s class
      met = scan (page_of goal limit) page [] at.account

      known : numbered (only_classes limit) i.class ≡ true
      known = ap (numbered (only_classes limit)) class_of

      own_box : class_box (only_classes limit) i.class ≡ boxed class (pos 0)
      own_box = ap (class_box (only_classes limit)) class_of ∙ sym (ap (λ (x : Class). boxed x (pos 0)) class_is)

      depth : (m : Bool) → (met_scan m s class).max_depth ≡ s.max_depth
      depth true = refl
      depth false = refl
