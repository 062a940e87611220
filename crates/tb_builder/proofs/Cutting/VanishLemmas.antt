-- At the break of a page or of an insertion's list, the rest begins with a node that vanishes at the top of a page.
use Rattle.std.proofs.Common.{◌≡◌, refl, sym, subst, ◌∙◌, ap, ℕ, ℤ, pos, Bool, true, false, List, [], ◌∷◌, ◌++◌, length, drop, filter, cond, map, None, Some, append_assoc, append-nil, arith, drop_at}
use Rattle.std.specs.Prelude.{if◌then◌else◌, int_lt, int_le, ◌<ℤ◌, ◌≤ℤ◌, ◌-ℤ◌, ◌+ℤ◌, ◌||◌, ◌&&◌}
use Rattle.std.specs.List.{AllByRecursion}
use Rattle.std.proofs.lemmas.Int.{ints}
use Rattle.tb_break.proofs.EachLemmas.{all-join, all-back}
use Rattle.tb_scaled.specs.Scaled.{inf_penalty, eject_penalty, awful_bad, min_ℤ}
use Rattle.tb_node.specs.declared.Sums.{Sums}
use Rattle.tb_node.specs.Shape.{Shape, box, glue, kern, penalty, other, is_discardable}
use Rattle.tb_node.specs.Sums.{sums_of, list_shrink}
use Rattle.tb_node.specs.PlainNodes.{Matter, skip, kerned, pen, matter_shape, leaf_shape, Inserted, PlainKind, plain, ins, act, PlainNode, node_shape, without_acts}
use Rattle.tb_break.specs.declared.Found.{Found}
use Rattle.tb_break.specs.Places.{legal_penalty, ends_lasting, begins_with_glue, last_or}
use Rattle.tb_break.specs.Best.{Breakpoint, is_stop, up_to_stop, least_cost, cheapest, best_or}
use Rattle.tb_break.specs.Split.{breakpoint_at, with_place, split_places, end_place, split_of}
use Rattle.tb_break.proofs.ScanLemmas.{cost_at_most}
use Rattle.tb_break.proofs.LastLemmas.{best_or-last}
use Rattle.tb_insert.specs.Terms.{Terms}
use Rattle.tb_insert.specs.Account.{ClassBox, Frozen, Label, whole, split, late, Labelled, scaled_by, clamped, unscaled_room, class_box, class_height, goal_after, insertions, skip_shapes, met_classes, has_split, label_where, label_of, labelled_with, labelled_from, labelled}
use Rattle.tb_builder.specs.Reach.{tried, Reach, also_reached, page_place, stopped_at, reach_at_place, reach_at, reach_node, reach_from, breakpoints}
use Rattle.tb_builder.specs.FiredPages.{from_break, no_place}

-- ---- lists

-- the list is empty, or its first node is glue, a kern or a penalty
abbrev pub BeginsVanishing : List Shape → Type 0
BeginsVanishing [] = Unit {0}
BeginsVanishing (n ∷ ns) = is_discardable n ≡ true

-- the best of some places is one of them, if they cost at most what an overfull one does
best_in : (P : Breakpoint → Type 0) (d : Breakpoint) (bs : List Breakpoint) → ((b : Breakpoint) → P b → b.cost ≤ℤ awful_bad) → AllByRecursion P bs → (bs ≡ [] → ⊥) → P (best_or d bs)
best_in P d [] cheap h some = absurd (some refl)
best_in P d (b ∷ bs) cheap h some =
    let l = best_or-last d b bs (cheap b h.0) in
    let r : AllByRecursion P (l.before ++ best_or d (b ∷ bs) ∷ l.after) = subst (AllByRecursion P) l.whole h in
    (all-back P l.before (best_or d (b ∷ bs) ∷ l.after) r).0

-- ---- an insertion's list

module _ (h d : ℤ) (ns : List Shape) where
  abbrev SplitsAt : Breakpoint → Type 0
  SplitsAt b = BeginsVanishing (drop b.place ns)

  at_cut : (before rest : List Shape) → before ++ rest ≡ ns → (p : ℤ) → BeginsVanishing rest → SplitsAt (breakpoint_at (length before) (sums_of d before) h p (pos 0))
  at_cut before rest e p v = subst (λ xs. BeginsVanishing (drop (length before) xs)) e (subst BeginsVanishing (sym (drop_at before rest (length before) refl)) v)

  cut_where : (t : Bool) (before rest : List Shape) (p : ℤ) (later : List Breakpoint) → before ++ rest ≡ ns → BeginsVanishing rest → AllByRecursion SplitsAt later
      → AllByRecursion SplitsAt (with_place (if t then Some p else None) (λ q. breakpoint_at (length before) (sums_of d before) h q (pos 0)) later)
  cut_where true before rest p later e v k = (at_cut before rest e p v, k)
  cut_where false before rest p later e v k = k

  cut_at : (before : List Shape) (n : Shape) (rest : List Shape) (later : List Breakpoint) → before ++ n ∷ rest ≡ ns → AllByRecursion SplitsAt later
      → AllByRecursion SplitsAt (with_place (legal_penalty before (n ∷ rest)) (λ q. breakpoint_at (length before) (sums_of d before) h q (pos 0)) later)
  cut_at before (box a b) rest later e k = k
  cut_at before (glue g) rest later e k = cut_where (ends_lasting before) before (glue g ∷ rest) (pos 0) later e refl k
  cut_at before (kern w) rest later e k = cut_where (begins_with_glue rest) before (kern w ∷ rest) (pos 0) later e refl k
  cut_at before (penalty p) rest later e k = cut_where (int_lt p inf_penalty) before (penalty p ∷ rest) p later e refl k
  cut_at before other rest later e k = k

  cuts : (before rest : List Shape) → before ++ rest ≡ ns → AllByRecursion SplitsAt (split_places h d before rest)
  cuts before [] e = (at_cut before [] e eject_penalty tt, tt)
  cuts before (n ∷ rest) e = cut_at before n rest (split_places h d (before ++ n ∷ []) rest) e (cuts (before ++ n ∷ []) rest (append_assoc before (n ∷ []) rest ∙ e))

  kept : (f : Breakpoint → Bool) (bs : List Breakpoint) → AllByRecursion SplitsAt bs → AllByRecursion SplitsAt (filter f bs)
  kept f [] k = tt
  kept f (b ∷ bs) k = by_test (f b) (kept f bs k.1)
    where
      by_test : (t : Bool) → AllByRecursion SplitsAt (filter f bs) → AllByRecursion SplitsAt (cond t (b ∷ filter f bs) (filter f bs))
      by_test true later = (k.0, later)
      by_test false later = later

  last_of : (e : Breakpoint) (bs : List Breakpoint) → SplitsAt e → AllByRecursion SplitsAt bs → SplitsAt (last_or e bs)
  last_of e [] p k = p
  last_of e (b ∷ bs) p k = last_of b bs k.0 k.1

  up_to : (bs : List Breakpoint) → AllByRecursion SplitsAt bs → AllByRecursion SplitsAt (up_to_stop bs)
  up_to [] k = tt
  up_to (b ∷ bs) k = by_stop (is_stop b) (up_to bs k.1)
    where
      by_stop : (t : Bool) → AllByRecursion SplitsAt (up_to_stop bs) → AllByRecursion SplitsAt (if t then b ∷ [] else (b ∷ up_to_stop bs))
      by_stop true later = (k.0, tt)
      by_stop false later = (k.0, later)

  -- at the split of a list, the rest is empty or begins with a node that vanishes
  pub split_vanishes : BeginsVanishing (drop (split_of h d ns).index ns)
  split_vanishes =
      let places = up_to (split_places h d [] ns) (cuts [] ns refl) in
      last_of (end_place h d ns) (cheapest (up_to_stop (split_places h d [] ns))) (at_cut ns [] (append-nil ns) eject_penalty tt)
      (kept (λ b. int_le b.cost (least_cost (up_to_stop (split_places h d [] ns)))) (up_to_stop (split_places h d [] ns)) places)

-- ---- the insertions of a page

abbrev pub VanishesBehind : Label → Inserted → Type 0
VanishesBehind whole i = Unit {0}
VanishesBehind (split f) i = BeginsVanishing (drop f.index (map leaf_shape i.inner))
VanishesBehind late i = Unit {0}

-- after the break of each insertion that is split comes a node that vanishes, or nothing
abbrev pub AllVanish : List Labelled → Type 0
AllVanish = AllByRecursion (λ l. VanishesBehind l.label l.inserted)

by_room : (i : Inserted) (t : Bool) (f : Found) → BeginsVanishing (drop f.index (map leaf_shape i.inner)) → VanishesBehind (if t then whole else split f) i
by_room i true f h = tt
by_room i false f h = h

where_vanishes : (c : ClassBox) (goal height : ℤ) (s : Sums) (shrink : ℤ) (i : Inserted) → VanishesBehind (label_where c goal height s shrink i) i
where_vanishes c goal height s shrink i =
    by_room i ((int_le (scaled_by c.class.factor i.height) (pos 0) || int_le (scaled_by c.class.factor i.height) ((goal -ℤ s.total -ℤ s.depth) +ℤ shrink)) && int_le (height +ℤ i.height) c.class.limit)
    (split_of (clamped (min_ℤ (unscaled_room c.class.factor (goal -ℤ s.total -ℤ s.depth)) (c.class.limit -ℤ height))) i.split_depth (map leaf_shape i.inner))
    (split_vanishes _ i.split_depth (map leaf_shape i.inner))

by_late : (i : Inserted) (t : Bool) (l : Label) → VanishesBehind l i → VanishesBehind (if t then late else l) i
by_late i true l h = tt
by_late i false l h = h

label_vanishes : (z : Frozen) (ls : List Labelled) (before : List PlainNode) (i : Inserted) → VanishesBehind (label_of z ls before i) i
label_vanishes z ls before i =
    let met = i ∷ insertions ls in
    let s = sums_of z.limit (map node_shape before) in
    by_late i (has_split ls i.class) _ (where_vanishes (class_box z.classes i.class) (goal_after z ls met) (class_height z.classes ls i.class) s (s.shrink +ℤ list_shrink (skip_shapes (met_classes z.classes met))) i)

with_vanish : (z : Frozen) (ls : List Labelled) (before : List PlainNode) (line : ℕ) (k : PlainKind) → AllVanish ls → AllVanish (labelled_with z ls before line k)
with_vanish z ls before line (plain m) h = h
with_vanish z ls before line (ins i) h =
    all-join (λ l. VanishesBehind l.label l.inserted) ls (record { index = length before; line = line; inserted = i; label = label_of z ls before i } ∷ []) h (label_vanishes z ls before i, tt)
with_vanish z ls before line (act a) h = h

from_vanish : (z : Frozen) (ls : List Labelled) (before ns : List PlainNode) → AllVanish ls → AllVanish (labelled_from z ls before ns)
from_vanish z ls before [] h = h
from_vanish z ls before (n ∷ ns) h = from_vanish z (labelled_with z ls before n.line n.kind) (before ++ n ∷ []) ns (with_vanish z ls before n.line n.kind h)

pub labels_vanish : (z : Frozen) (ns : List PlainNode) → AllVanish (labelled z ns)
labels_vanish z ns = from_vanish z [] [] ns tt

-- ---- a page

-- at the place is a node that vanishes, and the place costs at most what an overfull one does
pub record IsBreakIn (passed beyond : List PlainNode) (b : Breakpoint) : Type 0 where
  pub vanishes : BeginsVanishing (map node_shape (drop b.place passed ++ beyond))
  pub cheap : b.cost ≤ℤ awful_bad

-- what is passed begins with the nodes before, and at each place that is reached is a node that vanishes
record Vanishing (before : List PlainNode) (w : Reach) : Type 0 where
  after : List PlainNode
  passed : w.passed ≡ before ++ after
  places : AllByRecursion (IsBreakIn w.passed w.beyond) (breakpoints w.reached)

longer : (before after : List PlainNode) (n : PlainNode) (w : Reach) → w.passed ≡ (before ++ n ∷ []) ++ after → w.passed ≡ before ++ n ∷ after
longer before after n w e = e ∙ append_assoc before (n ∷ []) after

-- a place before a node that vanishes
here : (before after beyond passed : List PlainNode) (n : PlainNode) (b : Breakpoint) → b.place ≡ length before → passed ≡ before ++ n ∷ after → is_discardable (node_shape n) ≡ true → BeginsVanishing (map node_shape (drop b.place passed ++ beyond))
here before after beyond passed n b p e v =
    subst (λ ns. BeginsVanishing (map node_shape (ns ++ beyond))) (sym ((λ i. drop (p i) (e i)) ∙ drop_at before (n ∷ after) (length before) refl)) v

module _ (limit : ℤ) (terms : List PlainNode → Terms) where
  at_stop : (before : List PlainNode) (n : PlainNode) (rest : List PlainNode) (b : Breakpoint) → b.place ≡ length before → b.cost ≤ℤ awful_bad → is_discardable (node_shape n) ≡ true → Vanishing before (stopped_at before n rest b)
  at_stop before n rest b p c v = record {
    after = [];
    passed = sym (append-nil before);
    places = (record { vanishes = subst (λ ns. BeginsVanishing (map node_shape (ns ++ n ∷ rest))) (sym (ap (λ k. drop k before) p ∙ ap (drop (length before)) (sym (append-nil before)) ∙ drop_at before [] (length before) refl)) v; cheap = c }, tt);
  }

  at_place : (before : List PlainNode) (n : PlainNode) (rest : List PlainNode) (later : Reach) (b : Breakpoint) → b.place ≡ length before → b.cost ≤ℤ awful_bad → is_discardable (node_shape n) ≡ true → Vanishing (before ++ n ∷ []) later → Vanishing before (reach_at_place before n rest later b)
  at_place before n rest later b p c v h = by_stop (is_stop b)
    where
      by_stop : (t : Bool) → Vanishing before (if t then stopped_at before n rest b else also_reached (tried n.line b) later)
      by_stop true = at_stop before n rest b p c v
      by_stop false = record {
        after = n ∷ h.after;
        passed = longer before h.after n later h.passed;
        places = (record { vanishes = here before h.after later.beyond later.passed n b p (longer before h.after n later h.passed) v; cheap = c }, h.places);
      }

  passes : (before : List PlainNode) (n : PlainNode) (later : Reach) → Vanishing (before ++ n ∷ []) later → Vanishing before later
  passes before n later h = record { after = n ∷ h.after; passed = longer before h.after n later h.passed; places = h.places }

  by_penalty : (before : List PlainNode) (n : PlainNode) (rest : List PlainNode) (later : Reach) (t : Bool) (p : ℤ) → (t ≡ true → p <ℤ pos 10000) → is_discardable (node_shape n) ≡ true → Vanishing (before ++ n ∷ []) later → Vanishing before (reach_at limit terms before n rest later (if t then Some p else None))
  by_penalty before n rest later true p low v h = at_place before n rest later (page_place limit terms before p) refl (cost_at_most (page_place limit terms before p).badness p (terms before).penalties (low refl)) v h
  by_penalty before n rest later false p low v h = passes before n later h

  free : (t : Bool) → t ≡ true → pos 0 <ℤ pos 10000
  free t e = omega (arith, ints)

  legal : (p : ℤ) → int_lt p inf_penalty ≡ true → p <ℤ pos 10000
  legal p e = grind (arith, ints, e)

  matter_at : (before : List PlainNode) (l : ℕ) (m : Matter) (rest : List PlainNode) (later : Reach) → Vanishing (before ++ record { line = l; kind = plain m } ∷ []) later
      → Vanishing before (reach_at limit terms before (record { line = l; kind = plain m }) rest later (legal_penalty (map node_shape before) (matter_shape m ∷ map node_shape (without_acts rest))))
  matter_at before l (skip g) rest later h = by_penalty before (record { line = l; kind = plain (skip g) }) rest later (ends_lasting (map node_shape before)) (pos 0) (free _) refl h
  matter_at before l (kerned g) rest later h = by_penalty before (record { line = l; kind = plain (kerned g) }) rest later (begins_with_glue (map node_shape (without_acts rest))) (pos 0) (free _) refl h
  matter_at before l (pen p) rest later h = by_penalty before (record { line = l; kind = plain (pen p) }) rest later (int_lt p inf_penalty) p (legal p) refl h
  matter_at before l m rest later h = passes before (record { line = l; kind = plain m }) later h

  node_at : (before : List PlainNode) (l : ℕ) (k : PlainKind) (rest : List PlainNode) (later : Reach) → Vanishing (before ++ without_acts (record { line = l; kind = k } ∷ [])) later → Vanishing before (reach_node limit terms before (record { line = l; kind = k }) rest later k)
  node_at before l (plain m) rest later h = matter_at before l m rest later h
  node_at before l (ins i) rest later h = passes before (record { line = l; kind = ins i }) later h
  node_at before l (act a) rest later h = record { after = h.after; passed = h.passed ∙ ap (λ ns. ns ++ h.after) (append-nil before); places = h.places }

  vanishing : (before rest : List PlainNode) → Vanishing before (reach_from limit terms before rest)
  vanishing before [] = record { after = []; passed = sym (append-nil before); places = tt }
  vanishing before (n ∷ rest) = node_at before n.line n.kind rest (reach_from limit terms (before ++ without_acts (n ∷ [])) rest) (vanishing (before ++ without_acts (n ∷ [])) rest)

  -- if a place was reached, the list from the page's break on begins with a node that vanishes
  pub break_vanishes : (before ns : List PlainNode) → (breakpoints (reach_from limit terms before ns).reached ≡ [] → ⊥) → BeginsVanishing (map node_shape (from_break (reach_from limit terms before ns)))
  break_vanishes before ns some =
      let w = reach_from limit terms before ns in
      (best_in (IsBreakIn w.passed w.beyond) no_place (breakpoints w.reached) (λ b h. h.cheap) (vanishing before ns).places some).vanishes
