-- What `next` requires holds of contents whose nodes are sized and not too many.
use Rattle.std.proofs.Common.{◌≡◌, sym, subst, ◌∙◌, ap, ℕ, ◌+◌, ◌*◌, ◌≤◌, ℤ, pos, ◌+ℤ◌, ◌-ℤ◌, Bool, true, false, List, [], ◌∷◌, ◌++◌, length, take, drop, None, Some, length-append, arith}
use Rattle.std.specs.Prelude.{map, All, ◌==◌, ◌||◌, ◌&&◌, int_le, nat_le, int_lt, unsigned_abs, if◌then◌else◌}
use Rattle.std.proofs.lemmas.Int.{ints}
use Rattle.std.proofs.lemmas.List.{length-map, take-append-drop}
use Rattle.std.proofs.lemmas.List.Elements.{All-nil, All-cons, All-head, All-tail, All-map, All-weaker, All-append, All-push, All-filter, All-take, All-drop}
use Rattle.tb_scaled.specs.Scaled.{eject_penalty, inf_penalty, min_ℤ}
use Rattle.tb_scaled.specs.declared.Order.{Order}
use Rattle.tb_scaled.specs.declared.Order.TheVariants.{Normal, Fil, Fill, Filll}
use Rattle.tb_node.specs.declared.Sums.{Sums}
use Rattle.tb_node.specs.Fit.{IsDimension, IsExtent, IsPenalty, IsSized, IsSizedLeaf}
use Rattle.tb_node.specs.SmallAmounts.{IsAmount}
use Rattle.tb_node.specs.Shape.{Shape, box, glue, kern, penalty, other}
use Rattle.tb_node.specs.PlainNodes.{Leaf, leaf_shape, Inserted, PlainKind, plain, ins, act, PlainNode, node_shape, skip}
use Rattle.tb_node.specs.Sums.{sums_of, size_of, limited_depth, list_stretch, list_shrink}
use Rattle.tb_node.proofs.FitLemmas.{IsWithin, sized-fits, nodes_fit, size_within, list_stretch_within, list_shrink_within, summed-fits, sums_fit, extent_small, dimension_small}
use Rattle.tb_break.specs.Places.{ends_lasting, begins_with_glue, split_penalty}
use Rattle.tb_break.specs.Split.{split_of}
use Rattle.tb_break.specs.PageTop.{pruned_nodes, pruned_at, top_glue}
use Rattle.tb_break.proofs.LastLemmas.{split-last_least}
use Rattle.tb_insert.specs.declared.Class.{Class}
use Rattle.tb_insert.specs.Account.{ClassBox, Frozen, Label, whole, split, late, Labelled, class_box, taken, taken_by, scaled_by, insertions, is_met, met_classes, class_charge, insertion_charge, skip_shapes, class_height, has_split, label_where, label_of, labelled_with, labelled_from, labelled, goal_after, clamped, unscaled_room, penalty_of, penalties_of}
use Rattle.tb_insert.specs.Arrival.{ClassFits, PageFits}
use Rattle.tb_builder.specs.declared.Ask.{Ask}
use Rattle.tb_builder.specs.Reach.{holds_box}
use Rattle.tb_builder.specs.FiredPages.{Boxed, content_of, box_content, box_size, class_for, class_boxes}
use Rattle.tb_builder.specs.Contents.{Contents, frozen_with, frozen_of, ahead_of, laid, kind_count, node_count, box_count}
use Rattle.tb_builder.specs.Ownership.{ClassesFit}
use Rattle.tb_builder.specs.PageEvents.{SizesFit, InsertedFits, KindFits, NodeFits, LaidFits, BoxesFit, NextFits}
use Rattle.tb_builder.specs.Pageable.{IsSizedInserted, IsSizedKind, IsSizedOnPage, IsFactor, IsSizedClass, IsSizedBox, IsGoal, IsPageable}
use Rattle.tb_builder.proofs.LegalPlaces.ChargeLemmas.{abs_of, of_abs, scaled_within, few_classes, in_boxes, boxes_once}

-- ---- parts of lists

module _ {X : Type 0} (P : X → Type 0) where
  front : (xs ys : List X) → All P (xs ++ ys) → All P xs
  front [] ys h = All-nil P
  front (x ∷ xs) ys h = All-cons P x xs (All-head P x (xs ++ ys) h) (front xs ys (All-tail P x (xs ++ ys) h))

  inside : (xs : List X) (y : X) (ys : List X) → All P (xs ++ y ∷ ys) → P y
  inside [] y ys h = All-head P y ys h
  inside (x ∷ xs) y ys h = inside xs y ys (All-tail P x (xs ++ y ∷ ys) h)

pub count-append : (ms ns : List PlainNode) → node_count (ms ++ ns) ≡ node_count ms + node_count ns
count-append [] ns = omega arith
count-append (m ∷ ms) ns = let e = count-append ms ns in omega arith

one_at_least : (k : PlainKind) → 1 ≤ kind_count k
one_at_least (plain m) = omega arith
one_at_least k = omega arith

pub length_counted : (ns : List PlainNode) → length ns ≤ node_count ns
length_counted [] = omega arith
length_counted (n ∷ ns) = let one = one_at_least n.kind in let rest = length_counted ns in omega arith

-- ---- amounts

pub extent_goal : (z : ℤ) → IsExtent z → IsGoal z
extent_goal z h = record { low = let a = h.low in grind (arith, ints, a); high = let a = h.high in grind (arith, ints, a) }

pub goal_amount : (z : ℤ) → IsGoal z → IsAmount z
goal_amount z h = record { low = omega (arith, ints); high = omega (arith, ints) }

pub size_amount : (k : ℕ) (z : ℤ) → k ≤ 8388608 → IsWithin (2147483646 * k) z → IsAmount z
size_amount k z few h = record { low = omega (arith, ints); high = omega (arith, ints) }

pub wider : (a b : ℕ) (z : ℤ) → a ≤ b → IsWithin a z → IsWithin b z
wider a b z le h = record { low = omega (arith, ints); high = omega (arith, ints) }

-- ---- an insertion's list

leaves_sized : (ls : List Leaf) → All IsSizedLeaf ls → All IsSized (map leaf_shape ls)
leaves_sized ls h = All-map IsSized leaf_shape ls h

pub sizes_fit : (ns : List Shape) → All IsSized ns → length ns ≤ 8388608 → SizesFit ns
sizes_fit ns h few before rest e =
    let shorter : length before ≤ length ns = omega (arith, length-append before rest, ap length e) in
    size_amount (length before) (size_of before) (omega (arith, shorter, few)) (size_within before (front IsSized before rest (subst (All IsSized) (sym e) h)))

inserted_fits : (i : Inserted) → IsSizedInserted i → length i.inner ≤ 8388608 → InsertedFits i
inserted_fits i s few =
    let sized = leaves_sized i.inner s.inner in
    let short : length (map leaf_shape i.inner) ≤ 8388608 = omega (arith, few, length-map {B = Shape} i.inner) in
    record {
      nodes = nodes_fit (map leaf_shape i.inner) sized;
      sums = sums_fit i.split_depth (map leaf_shape i.inner) s.split_depth.low (record { sized = sized; few = short });
      sizes = sizes_fit (map leaf_shape i.inner) sized short;
      depth = extent_small i.split_depth s.split_depth;
      depth_low = s.split_depth.low;
      top = extent_small i.split_top s.split_top;
    }

kind_fits : (k : PlainKind) → IsSizedKind k → kind_count k ≤ 8388608 → KindFits k
kind_fits (plain m) s few = tt
kind_fits (ins i) s few = inserted_fits i s (omega (arith, few))
kind_fits (act a) s few = tt

-- ---- the place at which an insertion is split

legal_within : (before rest : List Shape) (p : ℤ) → All IsSized rest → split_penalty before rest ≡ Some p → IsWithin 1073741824 p
legal_within before [] p h e = let same : eject_penalty ≡ p = cc in subst (IsWithin 1073741824) same (record { low = omega (arith, ints); high = omega (arith, ints) })
legal_within before (box x d ∷ rest) p h e = cc
legal_within before (glue g ∷ rest) p h e = by_test (ends_lasting before) e
  where
    by_test : (b : Bool) → (if b then Some (pos 0) else None) ≡ Some p → IsWithin 1073741824 p
    by_test true e = let same : pos 0 ≡ p = cc in subst (IsWithin 1073741824) same (record { low = omega (arith, ints); high = omega (arith, ints) })
    by_test false e = cc
legal_within before (kern w ∷ rest) p h e = by_test (begins_with_glue rest) e
  where
    by_test : (b : Bool) → (if b then Some (pos 0) else None) ≡ Some p → IsWithin 1073741824 p
    by_test true e = let same : pos 0 ≡ p = cc in subst (IsWithin 1073741824) same (record { low = omega (arith, ints); high = omega (arith, ints) })
    by_test false e = cc
legal_within before (penalty q ∷ rest) p h e = by_test (int_lt q inf_penalty) (All-head IsSized (penalty q) rest h) e
  where
    by_test : (b : Bool) → IsPenalty q → (if b then Some q else None) ≡ Some p → IsWithin 1073741824 p
    by_test true s e = let same : q ≡ p = cc in subst (IsWithin 1073741824) same (record { low = omega (arith, ints); high = omega (arith, ints) })
    by_test false s e = cc
legal_within before (other ∷ rest) p h e = cc

found_penalty : (h d : ℤ) (ns : List Shape) → All IsSized ns → IsWithin 1073741824 (split_of h d ns).penalty
found_penalty h d ns s = let l = split-last_least h d ns in by_test (nat_le (split_of h d ns).index (length ns)) l.legal
  where
    by_test : (b : Bool) → (if b then split_penalty (take (split_of h d ns).index ns) (drop (split_of h d ns).index ns) else None) ≡ Some (split_of h d ns).penalty → IsWithin 1073741824 (split_of h d ns).penalty
    by_test true e = legal_within (take (split_of h d ns).index ns) (drop (split_of h d ns).index ns) (split_of h d ns).penalty (All-drop IsSized (split_of h d ns).index ns s) e
    by_test false e = cc

found_size : (h d : ℤ) (ns : List Shape) → All IsSized ns → IsWithin (2147483646 * length ns) (split_of h d ns).size
found_size h d ns s =
    let k = (split_of h d ns).index in
    let l = split-last_least h d ns in
    let shorter : length (take k ns) ≤ length ns = omega (arith, length-append (take k ns) (drop k ns), ap length (take-append-drop k ns)) in
    subst (IsWithin (2147483646 * length ns)) (both_sums (size_of (take k ns)) (limited_depth d (take k ns)) ∙ sym l.size_is)
    (wider (2147483646 * length (take k ns)) (2147483646 * length ns) (size_of (take k ns)) (omega (arith, shorter)) (size_within (take k ns) (All-take IsSized k ns s)))
  where
    both_sums : (a b : ℤ) → a ≡ (a -ℤ b) +ℤ b
    both_sums a b = omega (arith, ints)

-- ---- labels

record LabelFits (l : Labelled) : Type 0 where
  taken_within : IsWithin (2147483646 * length l.inserted.inner) (taken l)
  penalty_within : IsWithin 1073741824 (penalty_of l.label l.inserted)

record LabelWithin (lab : Label) (i : Inserted) : Type 0 where
  taken_in : IsWithin (2147483646 * length i.inner) (taken_by lab i)
  penalty_in : IsWithin 1073741824 (penalty_of lab i)

whole_within : (i : Inserted) → IsSizedInserted i → LabelWithin whole i
whole_within i s = record {
  taken_in = subst (λ z. IsWithin (2147483646 * length i.inner) z) (sym s.height) (wider (2147483646 * length (map leaf_shape i.inner)) (2147483646 * length i.inner) (size_of (map leaf_shape i.inner)) (omega (arith, length-map {B = Shape} i.inner)) (size_within (map leaf_shape i.inner) (leaves_sized i.inner s.inner)));
  penalty_in = record { low = omega (arith, ints); high = omega (arith, ints) };
}

split_within : (h d : ℤ) (i : Inserted) → IsSizedInserted i → LabelWithin (split (split_of h d (map leaf_shape i.inner))) i
split_within h d i s = record {
  taken_in = wider (2147483646 * length (map leaf_shape i.inner)) (2147483646 * length i.inner) (split_of h d (map leaf_shape i.inner)).size (omega (arith, length-map {B = Shape} i.inner)) (found_size h d (map leaf_shape i.inner) (leaves_sized i.inner s.inner));
  penalty_in = found_penalty h d (map leaf_shape i.inner) (leaves_sized i.inner s.inner);
}

late_within : (i : Inserted) → IsSizedInserted i → LabelWithin late i
late_within i s = record {
  taken_in = record { low = omega (arith, ints); high = omega (arith, ints) };
  penalty_in = let f = s.floating in record { low = omega (arith, ints); high = omega (arith, ints) };
}

by_room : (t : Bool) (h d : ℤ) (i : Inserted) → IsSizedInserted i → LabelWithin (if t then whole else split (split_of h d (map leaf_shape i.inner))) i
by_room true h d i s = whole_within i s
by_room false h d i s = split_within h d i s

where_within : (c : ClassBox) (goal height : ℤ) (s : Sums) (shrink : ℤ) (i : Inserted) → IsSizedInserted i → LabelWithin (label_where c goal height s shrink i) i
where_within c goal height s shrink i sized =
    by_room ((int_le (scaled_by c.class.factor i.height) (pos 0) || int_le (scaled_by c.class.factor i.height) ((goal -ℤ s.total -ℤ s.depth) +ℤ shrink)) && int_le (height +ℤ i.height) c.class.limit)
    (clamped (min_ℤ (unscaled_room c.class.factor (goal -ℤ s.total -ℤ s.depth)) (c.class.limit -ℤ height))) i.split_depth i sized

by_late : (t : Bool) (lab : Label) (i : Inserted) → LabelWithin lab i → LabelWithin late i → LabelWithin (if t then late else lab) i
by_late true lab i w l = l
by_late false lab i w l = w

label_within : (z : Frozen) (ls : List Labelled) (before : List PlainNode) (i : Inserted) → IsSizedInserted i → LabelWithin (label_of z ls before i) i
label_within z ls before i sized =
    let met = i ∷ insertions ls in
    let s = sums_of z.limit (map node_shape before) in
    by_late (has_split ls i.class) (label_where (class_box z.classes i.class) (goal_after z ls met) (class_height z.classes ls i.class) s (s.shrink +ℤ list_shrink (skip_shapes (met_classes z.classes met))) i) i
    (where_within (class_box z.classes i.class) (goal_after z ls met) (class_height z.classes ls i.class) s (s.shrink +ℤ list_shrink (skip_shapes (met_classes z.classes met))) i sized) (late_within i sized)

-- the nodes in the insertions
inner_count : List Labelled → ℕ
inner_count [] = 0
inner_count (l ∷ ls) = length l.inserted.inner + inner_count ls

-- the labels of a page, and their sums
record LabelsFit (ls : List Labelled) (count : ℕ) : Type 0 where
  all : All LabelFits ls
  inner : inner_count ls ≤ count
  few : length ls ≤ count

inner-push : (ls : List Labelled) (l : Labelled) → inner_count (ls ++ l ∷ []) ≡ inner_count ls + length l.inserted.inner
unfolding inner_count
inner-push [] l = omega arith
inner-push (m ∷ ms) l = let e = inner-push ms l in omega arith

with_fits : (z : Frozen) (ls : List Labelled) (before : List PlainNode) (line : ℕ) (k : PlainKind) (count : ℕ) → IsSizedKind k → LabelsFit ls count → LabelsFit (labelled_with z ls before line k) (count + kind_count k)
with_fits z ls before line (plain m) count s h = record { all = h.all; inner = let a = h.inner in omega arith; few = let a = h.few in omega arith }
with_fits z ls before line (ins i) count s h =
    let w = label_within z ls before i s in
    record {
      all = All-push LabelFits ls (record { index = length before; line = line; inserted = i; label = label_of z ls before i }) h.all (record { taken_within = w.taken_in; penalty_within = w.penalty_in });
      inner = let a = h.inner in let e = inner-push ls (record { index = length before; line = line; inserted = i; label = label_of z ls before i }) in omega arith;
      few = let a = h.few in omega (arith, length-append ls (record { index = length before; line = line; inserted = i; label = label_of z ls before i } ∷ []));
    }
with_fits z ls before line (act x) count s h = record { all = h.all; inner = let a = h.inner in omega arith; few = let a = h.few in omega arith }

from_fits : (z : Frozen) (ls : List Labelled) (before ns : List PlainNode) (count : ℕ) → All IsSizedOnPage ns → LabelsFit ls count → LabelsFit (labelled_from z ls before ns) (count + node_count ns)
from_fits z ls before [] count s h = record { all = h.all; inner = let a = h.inner in omega arith; few = let a = h.few in omega arith }
from_fits z ls before (n ∷ ns) count s h =
    let r = from_fits z (labelled_with z ls before n.line n.kind) (before ++ n ∷ []) ns (count + kind_count n.kind) (All-tail IsSizedOnPage n ns s)
    (with_fits z ls before n.line n.kind count (All-head IsSizedOnPage n ns s).kind h) in
    record { all = r.all; inner = let a = r.inner in omega arith; few = let a = r.few in omega arith }

labels_fit : (z : Frozen) (ns : List PlainNode) → All IsSizedOnPage ns → LabelsFit (labelled z ns) (node_count ns)
unfolding inner_count
labels_fit z ns s =
    let r = from_fits z [] [] ns 0 s (record { all = All-nil LabelFits; inner = omega arith; few = omega arith }) in
    record { all = r.all; inner = let a = r.inner in omega arith; few = let a = r.few in omega arith }

-- ---- the terms of a page

-- a class with what its box holds
pub record IsSizedClassBox (c : ClassBox) : Type 0 where
  pub class : IsSizedClass c.class
  pub size : IsWithin 9007199254740992 c.size

-- what all boxes hold
abbrev pub size_total : List ClassBox → ℕ
size_total [] = 0
size_total (c ∷ cs) = unsigned_abs c.size + size_total cs

pub record IsSizedFrozen (z : Frozen) : Type 0 where
  pub goal : IsGoal z.goal
  pub limit : IsExtent z.limit
  pub classes : All IsSizedClassBox z.classes
  pub few : length z.classes ≤ 256
  pub total : size_total z.classes ≤ 9007199254740992

pub nothing_within : (b : ℕ) → IsWithin b (pos 0)
nothing_within b = record { low = omega (arith, ints); high = omega (arith, ints) }

box_factor : (cs : List ClassBox) (k : ℕ) → All IsSizedClassBox cs → IsFactor (class_box cs k).class.factor
box_factor [] k h = record { low = omega (arith, ints); high = omega (arith, ints) }
box_factor (c ∷ cs) k h = by_test (c.class.number == k) (box_factor cs k (All-tail IsSizedClassBox c cs h))
  where
    by_test : (b : Bool) → IsFactor (class_box cs k).class.factor → IsFactor (if b then c else class_box cs k).class.factor
    by_test true later = (All-head IsSizedClassBox c cs h).class.factor
    by_test false later = later

box_within : (cs : List ClassBox) (k : ℕ) → All IsSizedClassBox cs → IsWithin 9007199254740992 (class_box cs k).size
box_within [] k h = nothing_within 9007199254740992
box_within (c ∷ cs) k h = by_test (c.class.number == k) (box_within cs k (All-tail IsSizedClassBox c cs h))
  where
    by_test : (b : Bool) → IsWithin 9007199254740992 (class_box cs k).size → IsWithin 9007199254740992 (if b then c else class_box cs k).size
    by_test true later = (All-head IsSizedClassBox c cs h).size
    by_test false later = later

more_within : (a b : ℕ) (x y : ℤ) → IsWithin a x → IsWithin b y → IsWithin (a + b) (x +ℤ y)
more_within a b x y p q = record { low = omega (arith, ints); high = omega (arith, ints) }

charge_within : (cs : List ClassBox) (ls : List Labelled) → All IsSizedClassBox cs → All LabelFits ls → IsWithin (21474836460 * inner_count ls) (insertion_charge cs ls)
unfolding inner_count
charge_within cs [] h l = record { low = omega (arith, ints); high = omega (arith, ints) }
charge_within cs (m ∷ ms) h l =
    let here = (All-head LabelFits m ms l).taken_within in
    wider (10 * (2147483646 * length m.inserted.inner) + 21474836460 * inner_count ms) (21474836460 * (length m.inserted.inner + inner_count ms)) _ (omega arith)
    (more_within (10 * (2147483646 * length m.inserted.inner)) (21474836460 * inner_count ms) (scaled_by (class_box cs m.inserted.class).class.factor (taken m)) (insertion_charge cs ms)
    (scaled_within (2147483646 * length m.inserted.inner) (class_box cs m.inserted.class).class.factor (taken m) (box_factor cs m.inserted.class h) here)
    (charge_within cs ms h (All-tail LabelFits m ms l)))

height_within : (cs : List ClassBox) (ls : List Labelled) (k : ℕ) → All IsSizedClassBox cs → All LabelFits ls → IsWithin (9007199254740992 + 2147483646 * inner_count ls) (class_height cs ls k)
unfolding inner_count
height_within cs [] k h l = wider 9007199254740992 (9007199254740992 + 2147483646 * 0) (class_box cs k).size (omega arith) (box_within cs k h)
height_within cs (m ∷ ms) k h l = by_test (m.inserted.class == k) (height_within cs ms k h (All-tail LabelFits m ms l))
  where
    by_test : (b : Bool) → IsWithin (9007199254740992 + 2147483646 * inner_count ms) (class_height cs ms k) → IsWithin (9007199254740992 + 2147483646 * (length m.inserted.inner + inner_count ms)) (if b then taken m +ℤ class_height cs ms k else class_height cs ms k)
    by_test true rest =
        wider (2147483646 * length m.inserted.inner + (9007199254740992 + 2147483646 * inner_count ms)) (9007199254740992 + 2147483646 * (length m.inserted.inner + inner_count ms)) _ (omega arith)
        (more_within (2147483646 * length m.inserted.inner) (9007199254740992 + 2147483646 * inner_count ms) (taken m) (class_height cs ms k) (All-head LabelFits m ms l).taken_within rest)
    by_test false rest = wider (9007199254740992 + 2147483646 * inner_count ms) (9007199254740992 + 2147483646 * (length m.inserted.inner + inner_count ms)) _ (omega arith) rest

penalties_within : (ls : List Labelled) → All LabelFits ls → IsWithin (1073741824 * length ls) (penalties_of ls)
penalties_within [] l = record { low = omega (arith, ints); high = omega (arith, ints) }
penalties_within (m ∷ ms) l =
    wider (1073741824 + 1073741824 * length ms) (1073741824 * length (m ∷ ms)) _ (omega arith)
    (more_within 1073741824 (1073741824 * length ms) (penalty_of m.label m.inserted) (penalties_of ms) (All-head LabelFits m ms l).penalty_within (penalties_within ms (All-tail LabelFits m ms l)))

dimension_within : (z : ℤ) → IsDimension z → IsWithin 1073741823 z
dimension_within z h = record { low = omega (arith, ints); high = omega (arith, ints) }

class_within : (cs : List ClassBox) → All IsSizedClassBox cs → IsWithin (10 * size_total cs + 1073741823 * length cs) (class_charge cs)
class_within [] h = record { low = omega (arith, ints); high = omega (arith, ints) }
class_within (c ∷ cs) h =
    let here = All-head IsSizedClassBox c cs h in
    wider ((10 * unsigned_abs c.size + 1073741823) + (10 * size_total cs + 1073741823 * length cs)) (10 * size_total (c ∷ cs) + 1073741823 * length (c ∷ cs)) _ (omega arith)
    (more_within (10 * unsigned_abs c.size + 1073741823) (10 * size_total cs + 1073741823 * length cs) (scaled_by c.class.factor c.size +ℤ c.class.skip.width) (class_charge cs)
    (more_within (10 * unsigned_abs c.size) 1073741823 (scaled_by c.class.factor c.size) c.class.skip.width (scaled_within (unsigned_abs c.size) c.class.factor c.size here.class.factor (of_abs (unsigned_abs c.size) c.size (omega arith))) (dimension_within c.class.skip.width here.class.width))
    (class_within cs (All-tail IsSizedClassBox c cs h)))

total_met : (cs : List ClassBox) (is : List Inserted) → size_total (met_classes cs is) ≤ size_total cs
total_met [] is = omega arith
total_met (c ∷ cs) is = by_test (is_met is c.class.number) (total_met cs is)
  where
    by_test : (b : Bool) → size_total (met_classes cs is) ≤ size_total cs → size_total (if b then c ∷ met_classes cs is else met_classes cs is) ≤ size_total (c ∷ cs)
    by_test true r = omega (arith, r)
    by_test false r = omega (arith, r)

few_met : (cs : List ClassBox) (is : List Inserted) → length (met_classes cs is) ≤ length cs
few_met [] is = omega arith
few_met (c ∷ cs) is = by_test (is_met is c.class.number) (few_met cs is)
  where
    by_test : (b : Bool) → length (met_classes cs is) ≤ length cs → length (if b then c ∷ met_classes cs is else met_classes cs is) ≤ length (c ∷ cs)
    by_test true r = omega arith
    by_test false r = omega arith

met_sized : (cs : List ClassBox) (is : List Inserted) → All IsSizedClassBox cs → All IsSizedClassBox (met_classes cs is)
met_sized cs is h = All-filter (λ c. is_met is c.class.number) IsSizedClassBox cs h

skips_sized : (cs : List ClassBox) → All IsSizedClassBox cs → All IsSized (skip_shapes cs)
skips_sized cs h = All-map IsSized (λ (c : ClassBox). glue c.class.skip) cs (All-weaker IsSizedClassBox (λ c. IsSized (glue c.class.skip)) (λ c s. (s.class.width, s.class.stretch, s.class.shrink)) cs h)

goal_small : (goal charge taken : ℤ) (total classes inner : ℕ) → total ≤ 9007199254740992 → classes ≤ 256 → inner ≤ 8388608 → IsGoal goal → IsWithin (10 * total + 1073741823 * classes) charge → IsWithin (21474836460 * inner) taken → IsAmount ((goal -ℤ charge) -ℤ taken)
goal_small goal charge taken total classes inner t a b g c i = record { low = omega (arith, ints); high = omega (arith, ints) }

height_small : (inner : ℕ) (z : ℤ) → inner ≤ 8388608 → IsWithin (9007199254740992 + 2147483646 * inner) z → IsAmount z
height_small inner z few h = record { low = omega (arith, ints); high = omega (arith, ints) }

penalties_small : (k : ℕ) (z : ℤ) → k ≤ 8388608 → IsWithin (1073741824 * k) z → IsAmount z
penalties_small k z few h = record { low = omega (arith, ints); high = omega (arith, ints) }

both_small : (k j : ℕ) (x y : ℤ) → k ≤ 8388608 → j ≤ 256 → IsWithin (1073741823 * k) x → IsWithin (1073741823 * j) y → IsAmount (x +ℤ y)
both_small k j x y a b p q = record { low = omega (arith, ints); high = omega (arith, ints) }

page_fits : (z : Frozen) (ns : List PlainNode) → IsSizedFrozen z → All IsSizedOnPage ns → node_count ns ≤ 8388608 → PageFits z ns
page_fits z ns f s few =
    let ls = labelled z ns in
    let labels = labels_fit z ns s in
    let met = met_classes z.classes (insertions ls) in
    let met_few : length met ≤ 256 = let a = few_met z.classes (insertions ls) in let b = f.few in omega arith in
    let met_all = met_sized z.classes (insertions ls) f.classes in
    let shapes : All IsSized (map node_shape ns) = All-map IsSized node_shape ns (All-weaker IsSizedOnPage (λ n. IsSized (node_shape n)) (λ n h. h.shape) ns s) in
    let short : length (map node_shape ns) ≤ 8388608 = let a = length_counted ns in omega (arith, length-map {B = Shape} ns) in
    let bare = summed-fits z.limit (map node_shape ns) f.limit.low (record { sized = shapes; few = short }) in
    let skips = skips_sized met met_all in
    let skips_few : length (skip_shapes met) ≤ 256 = omega (arith, length-map {B = Shape} met) in
    let stretch : (o : Order) → IsAmount (list_stretch o (map node_shape ns) +ℤ list_stretch o (skip_shapes met)) = λ o. both_small (length (map node_shape ns)) (length (skip_shapes met)) (list_stretch o (map node_shape ns)) (list_stretch o (skip_shapes met)) short skips_few (list_stretch_within o (map node_shape ns) shapes) (list_stretch_within o (skip_shapes met) skips) in
    record {
      sums = record {
        total = bare.total;
        depth = bare.depth;
        stretch = (stretch Normal, (stretch Fil, (stretch Fill, (stretch Filll, tt))));
        shrink = both_small (length (map node_shape ns)) (length (skip_shapes met)) (list_shrink (map node_shape ns)) (list_shrink (skip_shapes met)) short skips_few (list_shrink_within (map node_shape ns) shapes) (list_shrink_within (skip_shapes met) skips);
      };
      goal = goal_small z.goal (class_charge met) (insertion_charge z.classes ls) (size_total met) (length met) (inner_count ls) (let a = total_met z.classes (insertions ls) in let b = f.total in omega (arith, a, b)) met_few (let a = labels.inner in omega arith) f.goal (class_within met met_all) (charge_within z.classes ls f.classes labels.all);
      penalties = penalties_small (length ls) (penalties_of ls) (let a = labels.few in omega arith) (penalties_within ls labels.all);
      heights = λ k known. height_small (inner_count ls) (class_height z.classes ls k) (let a = labels.inner in omega arith) (height_within z.classes ls k f.classes labels.all);
    }

-- ---- what is laid out

node_fits : (n : PlainNode) → IsSizedOnPage n → kind_count n.kind ≤ 8388608 → NodeFits n
node_fits n s few = record { small = sized-fits (node_shape n) s.shape; kind_fits = kind_fits n.kind s.kind few }

factor_small : (z : ℤ) → IsFactor z → IsAmount z
factor_small z h = record { low = omega (arith, ints); high = omega (arith, ints) }

-- a sized class fits
pub class-fits : (c : Class) → IsSizedClass c → ClassFits c
class-fits c h = record { factor = factor_small c.factor h.factor; stretch = dimension_small c.skip.stretch h.stretch; shrink = dimension_small c.skip.shrink h.shrink }

pub laid_fits : (z : Frozen) (ns : List PlainNode) → IsSizedFrozen z → All IsSizedOnPage ns → node_count ns ≤ 8388608 → LaidFits z ns
laid_fits z ns f s few = record {
  pages = λ before rest e. page_fits z before f (front IsSizedOnPage before rest (subst (All IsSizedOnPage) (sym e) s)) (omega (arith, few, count-append before rest, ap node_count e));
  nodes = λ before n rest e. node_fits n (inside IsSizedOnPage before n rest (subst (All IsSizedOnPage) (sym e) s)) (omega (arith, few, count-append before (n ∷ rest), ap node_count e));
  classes = All-weaker IsSizedClassBox (λ (c : ClassBox). ClassFits c.class) (λ c h. class-fits c.class h.class) z.classes f.classes;
}

pub glue_sized : (t h : ℤ) → IsExtent t → IsExtent h → IsSized (glue (top_glue t h))
glue_sized t h a b = (record { low = grind (arith, ints, a, b); high = grind (arith, ints, a, b) }, record { low = omega (arith, ints); high = omega (arith, ints) }, record { low = omega (arith, ints); high = omega (arith, ints) })

at_sized : (t : ℤ) (s : Shape) (n : PlainNode) (ns pruned : List PlainNode) → IsExtent t → IsSized s → IsSizedOnPage n → All IsSizedOnPage ns → All IsSizedOnPage pruned → All IsSizedOnPage (pruned_at (λ m g. record { line = m.line; kind = plain (skip g) }) t s n ns pruned)
at_sized t (box h d) n ns pruned a s here rest later = All-cons IsSizedOnPage (record { line = n.line; kind = plain (skip (top_glue t h)) }) (n ∷ ns) (record { shape = glue_sized t h a s.0; kind = tt }) (All-cons IsSizedOnPage n ns here rest)
at_sized t other n ns pruned a s here rest later = All-cons IsSizedOnPage n pruned here later
at_sized t k n ns pruned a s here rest later = later

pub pruned_sized : (t : ℤ) (ns : List PlainNode) → IsExtent t → All IsSizedOnPage ns → All IsSizedOnPage (pruned_nodes t ns)
pruned_sized t [] a h = All-nil IsSizedOnPage
pruned_sized t (n ∷ ns) a h =
    let here = All-head IsSizedOnPage n ns h in
    let rest = All-tail IsSizedOnPage n ns h in
    at_sized t (node_shape n) n ns (pruned_nodes t ns) a here.shape here rest (pruned_sized t ns a rest)

at_count : (t : ℤ) (s : Shape) (n : PlainNode) (ns pruned : List PlainNode) → node_count pruned ≤ node_count ns + 1 → node_count (pruned_at (λ m g. record { line = m.line; kind = plain (skip g) }) t s n ns pruned) ≤ node_count (n ∷ ns) + 1
at_count t (box h d) n ns pruned le = omega arith
at_count t s n ns pruned le = omega arith

pub pruned_nodes_longer : (t : ℤ) (ns : List PlainNode) → node_count (pruned_nodes t ns) ≤ node_count ns + 1
pruned_nodes_longer t [] = omega arith
pruned_nodes_longer t (n ∷ ns) = at_count t (node_shape n) n ns (pruned_nodes t ns) (pruned_nodes_longer t ns)

-- ---- the class boxes

pub content_sized : (bs : List Boxed) (k : ℕ) → All IsSizedBox bs → All IsSizedLeaf (content_of (box_content bs k))
content_sized [] k h = All-nil IsSizedLeaf
content_sized (b ∷ bs) k h = by_test (b.number == k) (content_sized bs k (All-tail IsSizedBox b bs h))
  where
    by_test : (t : Bool) → All IsSizedLeaf (content_of (box_content bs k)) → All IsSizedLeaf (content_of (if t then b.content else box_content bs k))
    by_test true later = All-head IsSizedBox b bs h
    by_test false later = later

content_few : (bs : List Boxed) (k : ℕ) → length (content_of (box_content bs k)) ≤ box_count bs
content_few [] k = omega arith
content_few (b ∷ bs) k = by_test (b.number == k) (content_few bs k)
  where
    by_test : (t : Bool) → length (content_of (box_content bs k)) ≤ box_count bs → length (content_of (if t then b.content else box_content bs k)) ≤ box_count (b ∷ bs)
    by_test true r = omega arith
    by_test false r = omega arith

pub boxes_fit : (bs : List Boxed) → All IsSizedBox bs → box_count bs ≤ 4194304 → BoxesFit bs
boxes_fit [] h few = tt
boxes_fit (b ∷ bs) h few = (
  sizes_fit (map leaf_shape (content_of b.content)) (leaves_sized (content_of b.content) (All-head IsSizedBox b bs h)) (omega (arith, few, length-map {B = Shape} (content_of b.content))),
  boxes_fit bs (All-tail IsSizedBox b bs h) (omega (arith, few)),
)

content_within : (ls : List Leaf) → All IsSizedLeaf ls → length ls ≤ 4194304 → IsWithin 9007199254740992 (size_of (map leaf_shape ls))
content_within ls h few = wider (2147483646 * length (map leaf_shape ls)) 9007199254740992 (size_of (map leaf_shape ls)) (omega (arith, few, length-map {B = Shape} ls)) (size_within (map leaf_shape ls) (leaves_sized ls h))

-- a class is sized as a page has it
sized_for : (ask : Ask) (c : Class) → IsSized (glue ask.foot_skip) → IsSizedClass c → IsSizedClass (class_for ask c)
sized_for ask c feet h = record { factor = h.factor; width = by_test (c.number == 254); stretch = stretch_by (c.number == 254); shrink = shrink_by (c.number == 254) }
  where
    by_test : (t : Bool) → IsDimension (if t then ask.foot_skip else c.skip).width
    by_test true = feet.0
    by_test false = h.width

    stretch_by : (t : Bool) → IsDimension (if t then ask.foot_skip else c.skip).stretch
    stretch_by true = feet.1
    stretch_by false = h.stretch

    shrink_by : (t : Bool) → IsDimension (if t then ask.foot_skip else c.skip).shrink
    shrink_by true = feet.2
    shrink_by false = h.shrink

pub class_boxes_sized : (ask : Ask) (cs : List Class) (bs : List Boxed) → IsSized (glue ask.foot_skip) → All IsSizedClass cs → All IsSizedBox bs → box_count bs ≤ 4194304 → All IsSizedClassBox (class_boxes ask cs bs)
class_boxes_sized ask cs bs feet h b few =
    let boxed : Class → ClassBox = λ c. record { class = class_for ask c; size = box_size (box_content bs c.number) } in
    All-map IsSizedClassBox boxed cs (All-weaker IsSizedClass (λ c. IsSizedClassBox (boxed c))
    (λ c s. record { class = sized_for ask c feet s; size = content_within (content_of (box_content bs c.number)) (content_sized bs c.number b) (let r = content_few bs c.number in omega (arith, r, few)) }) cs h)

content_abs : (ls : List Leaf) → All IsSizedLeaf ls → unsigned_abs (size_of (map leaf_shape ls)) ≤ 2147483646 * length ls
content_abs ls h = let a = abs_of (2147483646 * length (map leaf_shape ls)) (size_of (map leaf_shape ls)) (size_within (map leaf_shape ls) (leaves_sized ls h)) in omega (arith, a, length-map {B = Shape} ls leaf_shape)

boxes_total : (ask : Ask) (cs : List Class) (bs : List Boxed) → All IsSizedBox bs → size_total (class_boxes ask cs bs) ≤ 2147483646 * in_boxes bs cs
boxes_total ask [] bs b = omega arith
boxes_total ask (c ∷ cs) bs b =
    let here = content_abs (content_of (box_content bs c.number)) (content_sized bs c.number b) in
    let later = boxes_total ask cs bs b in
    omega (arith, here, later)

-- what the boxes of classes hold, each counted once
pub class_boxes_total : (ask : Ask) (cs : List Class) (bs : List Boxed) → ClassesFit cs → All IsSizedBox bs → box_count bs ≤ 4194304 → size_total (class_boxes ask cs bs) ≤ 9007199254740992
class_boxes_total ask cs bs c b few = let a = boxes_total ask cs bs b in let once = boxes_once bs cs c in omega (arith, a, once, few)

-- ---- the contents

pub contents_fit : (c : Contents) (ask : Ask) → IsPageable c ask → NextFits c ask
contents_fit c ask p = record {
  asked = record { goal = goal_amount ask.goal p.asked_goal; depth = extent_small ask.max_depth p.asked_depth; depth_low = p.asked_depth.low; top_skip = extent_small ask.top_skip p.top_skip };
  boxes = boxes_fit c.boxes p.boxes (let a = p.few in omega arith);
  laid_fits = laid_fits (frozen_of c ask) (laid c ask) frozen (All-append IsSizedOnPage c.page (ahead_of c ask) p.page ahead) (let a = p.few in let b = ahead_count in omega (arith, count-append c.page (ahead_of c ask)));
}
  where
    ahead : All IsSizedOnPage (ahead_of c ask)
    ahead = by_box (holds_box c.page)
      where
        by_box : (b : Bool) → All IsSizedOnPage (if b then c.waiting else pruned_nodes ask.top_skip c.waiting)
        by_box true = p.waiting
        by_box false = pruned_sized ask.top_skip c.waiting p.top_skip p.waiting

    ahead_count : node_count (ahead_of c ask) ≤ node_count c.waiting + 1
    ahead_count = by_box (holds_box c.page)
      where
        by_box : (b : Bool) → node_count (if b then c.waiting else pruned_nodes ask.top_skip c.waiting) ≤ node_count c.waiting + 1
        by_box true = omega arith
        by_box false = pruned_nodes_longer ask.top_skip c.waiting

    -- what the page is made for
    made : Ask
    made = frozen_with c.frozen ask

    frozen : IsSizedFrozen (frozen_of c ask)
    frozen = record {
      goal = p.goal;
      limit = p.limit;
      classes = class_boxes_sized made c.classes c.boxes p.feet p.classes p.boxes (let a = p.few in omega arith);
      few = let a = few_classes c.classes p.classes_fit in omega (arith, a, length-map {B = ClassBox} c.classes);
      total = class_boxes_total made c.classes c.boxes p.classes_fit p.boxes (let f = p.few in omega arith);
    }
