-- A run begins with four firings without a page for each float, note, clear, change of columns and page that is made higher at most.
use Rattle.std.proofs.Common.{◌≡◌, refl, sym, ap, subst, ℕ, zero, suc, ℤ, ◌+◌, ◌*◌, ◌≤◌, ◌==◌, inl, inr, Bool, true, false, List, [], ◌∷◌, ◌++◌, map, None, arith}
use Rattle.std.specs.Prelude.{int_le, ◌&&◌, if◌then◌else◌}
use Rattle.tb_scaled.specs.Scaled.{eject_penalty}
use Rattle.tb_node.specs.declared.Act.{Act}
use Rattle.tb_node.specs.declared.Act.TheVariants as acts
use Rattle.tb_node.specs.PlainNodes.{act, PlainNode, on_line, clearpage_kinds}
use Rattle.tb_param.specs.declared.Params.{Params}
use Rattle.tb_param.specs.Release.{has_second}
use Rattle.tb_galley.specs.declared.Item.{Item}
use Rattle.tb_galley.specs.declared.ItemKind.{ItemKind}
use Rattle.tb_galley.specs.declared.ItemKind.TheVariants as items
use Rattle.tb_galley.specs.declared.Galley.{Galley}
use Rattle.tb_galley.specs.GalleyNodes.{plain_leaf, with_firings, item_kinds, two_after, params_after, item_nodes, expanded}
use Rattle.tb_galley.specs.Valid.{IsValid}
use Rattle.tb_insert.specs.declared.Class.{Class}
use Rattle.tb_builder.specs.FiredPages.{box_content}
use Rattle.tb_output.specs.State.{State, void_boxes, first_state}
use Rattle.tb_laws.proofs.NothingLost.StateWeights.{class_numbers}
use Rattle.tb_laws.proofs.Closed.Sorts.{pen_sort}
use Rattle.tb_laws.proofs.DeadCycles.WaitCosts.{sort_cost, wait_cost, cost-append}
use Rattle.tb_laws.proofs.DeadCycles.RaiseCounts.{list_raises, raises, content_raises, box_raises, state_raises, raises-append}
use Rattle.tb_laws.proofs.DeadCycles.EndedLemmas.{Ended, ended-both, free-ended}
use Rattle.tb_float.specs.Lists.{wide_part}
use Rattle.tb_laws.proofs.StepLaws.SideLemmas.{no-sides}
use Rattle.tb_laws.proofs.DeadCycles.CycleStates.{closed, starting, FloatsFit, Bounded}
use Rattle.tb_items.specs.Classes.{classes_of}
use Rattle.tb_laws.proofs.DeadCycles.SpacedLemmas.{Spaced, spaced-any, spaced-both, free-alone}
use Rattle.tb_laws.proofs.DeadCycles.HighStates.{cleared, BoundedHigh}
use Rattle.tb_laws.specs.DeadCycles.{cycling_count, cycling_items}
use Rattle.tb_laws.proofs.NothingLost.StartLemmas.{ItemFits, ItemsFit, start-kept}
use Rattle.tb_laws.proofs.NothingLost.ClosingStarts.{start-closing}
use Rattle.tb_laws.proofs.NothingLost.ClassLemmas.{valid-differ, valid-fit}
use Rattle.tb_laws.proofs.DeadCycles.CycleGoing.{Bound, skip-fits, skip-high}
use Rattle.tb_laws.proofs.DeadCycles.CycleRuns.{Cycled}
use Rattle.tb_laws.proofs.StepLaws.BreakSorts.{at-ordinary}

-- ---- what the items cost

high-cost : (q : ℤ) → int_le eject_penalty q ≡ true → sort_cost (pen_sort q) ≡ 0
high-cost q h = at-ordinary (sort_cost (pen_sort q) ≡ 0) (λ x. pen_sort q ≡ x) q h (λ e. ap sort_cost e) (λ e. ap sort_cost e) refl

-- nodes cost what waits and four for each raise
abbrev pub full_cost : List PlainNode → ℕ
full_cost ns = wait_cost ns + 4 * raises ns

-- an item costs four at most, and nothing if it is no float, note, clear or change of columns and makes no page higher
item-cost : (ks : List ℕ) (p : Params) (two : Bool) (line : ℕ) (k : ItemKind) → ItemFits ks k → full_cost (on_line line (item_kinds p two k)) ≤ 4 * cycling_count k
item-cost ks p two line (items.Penalty n) f = let h : sort_cost (pen_sort n) ≡ 0 = high-cost n f in omega arith
item-cost ks p two line (items.Enlarge by true) f = omega arith
item-cost ks p two line (items.Enlarge by false) f = omega arith
item-cost ks p two line (items.Float x vert) f = by_taking (has_second p && two && x.wide) vert
  where
    by_taking : (t u : Bool) → full_cost (on_line line (if t then act (acts.Take x) ∷ [] else with_firings (acts.Take x) u)) ≤ 4
    by_taking true u = omega arith
    by_taking false true = omega arith
    by_taking false false = omega arith
item-cost ks p two line (items.Foot class foot) f = subst (λ u. 0 + 4 * ((if u then list_raises (map plain_leaf foot) else 0) + 0) ≤ 0) (sym f.1) (omega arith)
item-cost ks p two line (items.Margin x true) f = omega arith
item-cost ks p two line (items.Margin x false) f = omega arith
item-cost ks p two line (items.PageBreak zero) f = omega arith
item-cost ks p two line (items.PageBreak (suc zero)) f = omega arith
item-cost ks p two line (items.PageBreak (suc (suc zero))) f = omega arith
item-cost ks p two line (items.PageBreak (suc (suc (suc zero)))) f = omega arith
item-cost ks p two line (items.PageBreak (suc (suc (suc (suc n))))) f = omega arith
item-cost ks p two line (items.NoPageBreak zero) f = omega arith
item-cost ks p two line (items.NoPageBreak (suc zero)) f = omega arith
item-cost ks p two line (items.NoPageBreak (suc (suc zero))) f = omega arith
item-cost ks p two line (items.NoPageBreak (suc (suc (suc zero)))) f = omega arith
item-cost ks p two line (items.NoPageBreak (suc (suc (suc (suc n))))) f = omega arith
item-cost ks p two line k f = omega arith

full-append : (xs ys : List PlainNode) → full_cost (xs ++ ys) ≡ full_cost xs + full_cost ys
full-append xs ys =
    let a : wait_cost (xs ++ ys) ≡ wait_cost xs + wait_cost ys = cost-append xs ys in
    let b : raises (xs ++ ys) ≡ raises xs + raises ys = raises-append xs ys in
    omega arith

items-cost : (ks : List ℕ) (p : Params) (two : Bool) (ns : List Item) → ItemsFit ks ns → full_cost (item_nodes p two ns) ≤ 4 * cycling_items ns
items-cost ks p two [] f = omega arith
items-cost ks p two (n ∷ ns) f =
    let after = two_after two n.kind in
    let later = params_after p n.kind in
    let a : full_cost (on_line n.line (item_kinds p two n.kind) ++ item_nodes later after ns) ≡ full_cost (on_line n.line (item_kinds p two n.kind)) + full_cost (item_nodes later after ns) = full-append (on_line n.line (item_kinds p two n.kind)) (item_nodes later after ns) in
    let b : full_cost (on_line n.line (item_kinds p two n.kind)) ≤ 4 * cycling_count n.kind = item-cost ks p two n.line n.kind f.0 in
    let c : full_cost (item_nodes later after ns) ≤ 4 * cycling_items ns = items-cost ks later after ns f.1 in
    sums (full_cost (item_nodes p two (n ∷ ns))) (full_cost (on_line n.line (item_kinds p two n.kind))) (full_cost (item_nodes later after ns)) (cycling_count n.kind) (cycling_items ns) a b c
  where
    sums : (x y z i j : ℕ) → x ≡ y + z → y ≤ 4 * i → z ≤ 4 * j → x ≤ 4 * (i + j)
    sums x y z i j a b c = omega arith

-- the classes of a galley have these numbers
abbrev pub numbers : Galley → List ℕ
numbers g = class_numbers (classes_of g)

start-cost : (g : Galley) → ItemsFit (numbers g) g.items → full_cost (expanded g) ≤ 4 * cycling_items g.items + 3
unfolding expanded
start-cost g f =
    let a : full_cost (item_nodes g.params false g.items ++ on_line g.end_line clearpage_kinds) ≡ full_cost (item_nodes g.params false g.items) + full_cost (on_line g.end_line clearpage_kinds) = full-append (item_nodes g.params false g.items) (on_line g.end_line clearpage_kinds) in
    let b : full_cost (item_nodes g.params false g.items) ≤ 4 * cycling_items g.items = items-cost (numbers g) g.params false g.items f in
    sums (full_cost (item_nodes g.params false g.items ++ on_line g.end_line clearpage_kinds)) (full_cost (item_nodes g.params false g.items)) a b
  where
    sums : (x y : ℕ) → x ≡ y + 3 → y ≤ 4 * cycling_items g.items → x ≤ 4 * cycling_items g.items + 3
    sums x y h i = omega arith

-- an item that costs nothing at most has nothing that waits
no-cost : (x y : ℕ) → x + 4 * y ≤ 0 → x ≡ 0
no-cost x y h = omega arith

-- ---- each clear of the items comes behind its box

clear-ended : (line : ℕ) → Ended false (on_line line clearpage_kinds)
clear-ended line = (tt, (λ h. cc, (tt, (tt, (λ h. refl, tt)))))

firings-ended : (line : ℕ) (a : Act) (vert : Bool) → Ended false (on_line line (with_firings a vert))
firings-ended line a true = (tt, (λ h. cc, (tt, (λ h. cc, tt))))
firings-ended line a false = (tt, (λ h. cc, (tt, (λ h. cc, tt))))

free-item : (p : Params) (two : Bool) (line : ℕ) (k : ItemKind) → full_cost (on_line line (item_kinds p two k)) ≤ 0 → Ended false (on_line line (item_kinds p two k))
free-item p two line k h = free-ended false (on_line line (item_kinds p two k)) (no-cost (wait_cost (on_line line (item_kinds p two k))) (raises (on_line line (item_kinds p two k))) h)

item-ended : (ks : List ℕ) (p : Params) (two : Bool) (line : ℕ) (k : ItemKind) → ItemFits ks k → Ended false (on_line line (item_kinds p two k))
item-ended ks p two line (items.Float x vert) f = by_taking (has_second p && two && x.wide)
  where
    by_taking : (t : Bool) → Ended false (on_line line (if t then act (acts.Take x) ∷ [] else with_firings (acts.Take x) vert))
    by_taking true = (tt, tt)
    by_taking false = firings-ended line (acts.Take x) vert
item-ended ks p two line (items.Margin x vert) f = firings-ended line (acts.TakeMargin x) vert
item-ended ks p two line (items.Head x) f = (tt, tt)
item-ended ks p two line (items.Enlarge by star) f = (tt, tt)
item-ended ks p two line items.ClearPage f = clear-ended line
item-ended ks p two line items.OneColumn f = (tt, (λ h. cc, (tt, (tt, (λ h. refl, (tt, tt))))))
item-ended ks p two line items.TwoColumn f = (tt, (λ h. cc, (tt, (tt, (λ h. refl, (tt, tt))))))
item-ended ks p two line k f = free-item p two line k (item-cost ks p two line k f)

items-ended : (ks : List ℕ) (p : Params) (two : Bool) (ns : List Item) → ItemsFit ks ns → Ended false (item_nodes p two ns)
items-ended ks p two [] f = tt
items-ended ks p two (n ∷ ns) f =
    ended-both false (on_line n.line (item_kinds p two n.kind)) (item_nodes (params_after p n.kind) (two_after two n.kind) ns) (item-ended ks p two n.line n.kind f.0) (items-ended ks (params_after p n.kind) (two_after two n.kind) ns f.1)

start-ended : (g : Galley) → ItemsFit (numbers g) g.items → Ended false (expanded g)
unfolding expanded
start-ended g f =
    ended-both false (item_nodes g.params false g.items) (on_line g.end_line clearpage_kinds) (items-ended (numbers g) g.params false g.items f) (clear-ended g.end_line)

-- ---- a whatsit comes before each clear of the items

clear-spaced : (line : ℕ) → Spaced false (on_line line clearpage_kinds)
clear-spaced line = (tt, (λ h. cc, (tt, (tt, (λ h. refl, tt)))))

firings-spaced : (line : ℕ) (a : Act) (vert : Bool) → Spaced false (on_line line (with_firings a vert))
firings-spaced line a true = (tt, (λ h. cc, (tt, (λ h. cc, tt))))
firings-spaced line a false = (tt, (λ h. cc, (tt, (λ h. cc, tt))))

light-item : (p : Params) (two : Bool) (line : ℕ) (k : ItemKind) → full_cost (on_line line (item_kinds p two k)) ≤ 0 → Spaced false (on_line line (item_kinds p two k))
light-item p two line k h = free-alone false (on_line line (item_kinds p two k)) (no-cost (wait_cost (on_line line (item_kinds p two k))) (raises (on_line line (item_kinds p two k))) h)

item-spaced : (ks : List ℕ) (p : Params) (two : Bool) (line : ℕ) (k : ItemKind) → ItemFits ks k → Spaced false (on_line line (item_kinds p two k))
item-spaced ks p two line (items.Float x vert) f = by_taking (has_second p && two && x.wide)
  where
    by_taking : (t : Bool) → Spaced false (on_line line (if t then act (acts.Take x) ∷ [] else with_firings (acts.Take x) vert))
    by_taking true = (tt, tt)
    by_taking false = firings-spaced line (acts.Take x) vert
item-spaced ks p two line (items.Margin x vert) f = firings-spaced line (acts.TakeMargin x) vert
item-spaced ks p two line (items.Head x) f = (tt, tt)
item-spaced ks p two line (items.Enlarge by star) f = (tt, tt)
item-spaced ks p two line items.ClearPage f = clear-spaced line
item-spaced ks p two line items.OneColumn f = (tt, (λ h. cc, (tt, (tt, (λ h. refl, (tt, tt))))))
item-spaced ks p two line items.TwoColumn f = (tt, (λ h. cc, (tt, (tt, (λ h. refl, (tt, tt))))))
item-spaced ks p two line k f = light-item p two line k (item-cost ks p two line k f)

items-spaced : (ks : List ℕ) (p : Params) (two : Bool) (ns : List Item) → ItemsFit ks ns → Spaced false (item_nodes p two ns)
items-spaced ks p two [] f = tt
items-spaced ks p two (n ∷ ns) f =
    spaced-both false (on_line n.line (item_kinds p two n.kind)) (item_nodes (params_after p n.kind) (two_after two n.kind) ns) (item-spaced ks p two n.line n.kind f.0) (items-spaced ks (params_after p n.kind) (two_after two n.kind) ns f.1)

start-spaced : (g : Galley) → ItemsFit (numbers g) g.items → Spaced true (expanded g)
unfolding expanded
start-spaced g f =
    spaced-any true (item_nodes g.params false g.items ++ on_line g.end_line clearpage_kinds)
    (spaced-both false (item_nodes g.params false g.items) (on_line g.end_line clearpage_kinds) (items-spaced (numbers g) g.params false g.items f) (clear-spaced g.end_line))

-- ---- the first state, and the run

-- void boxes raise nothing
void-raises : (cs : List Class) → box_raises (void_boxes cs) ≡ 0
void-raises [] = refl
void-raises (c ∷ cs) = by_number (c.number == 255) (void-raises cs)
  where
    by_number : (t : Bool) → box_raises (void_boxes cs) ≡ 0 → content_raises (if t then None else box_content (void_boxes cs) 255) ≡ 0
    by_number true h = refl
    by_number false h = h

module _ (g : Galley) (valid : IsValid g) where
  items_fit : ItemsFit (numbers g) g.items
  items_fit = valid-fit g valid

  abbrev pub most : ℕ
  most = 4 * cycling_items g.items + 3

  abbrev first : State
  first = first_state g.params (classes_of g) (expanded g)

  -- no float is anywhere
  start-floats : FloatsFit g.params first
  start-floats = record {
    fit = record { top = tt; bottom = tt; deferred = tt; double = tt; second = tt };
    current = tt;
    single = λ h. (record { top = tt; bottom = tt; deferred = tt; double = tt; second = tt }, tt);
    double = record { wide = tt; none = λ h. refl };
    sides = no-sides (wide_part g.params);
    narrow = λ r. tt;
  }

  -- what waits and four for each raise are no more than the top
  start-room : wait_cost (expanded g) + 4 * state_raises first ≤ most
  start-room = sums (wait_cost (expanded g)) (raises (expanded g)) (box_raises first.boxes) (start-cost g items_fit) (void-raises (classes_of g))
    where
      sums : (x y e : ℕ) → x + 4 * y ≤ 4 * cycling_items g.items + 3 → e ≡ 0 → x + 4 * (y + 0 + e) ≤ 4 * cycling_items g.items + 3
      sums x y e h i = omega arith

  -- the bounds hold of the first state
  low-bounded : Bounded g.params (wait_cost (expanded g)) first
  low-bounded = record {
    again = 0;
    kind = closed;
    phase = starting;
    region = tt;
    holds = refl;
    at = tt;
    coming = λ e. cc;
    floats = start-floats;
    weight = sums (wait_cost (expanded g));
    bound = sums-with (wait_cost (expanded g));
  }
    where
      sums : (x : ℕ) → x + 2 * 0 + 0 ≤ x + 2 * 0
      sums x = omega arith

      sums-with : (x : ℕ) → 0 + x + 2 * 0 + 0 + 2 ≤ x + 3 + 2 * 0
      sums-with x = omega arith

  high-bounded : BoundedHigh g.params (wait_cost (expanded g)) first
  high-bounded = record {
    again = 0;
    stage = cleared;
    region = tt;
    holds = refl;
    coming = λ e. cc;
    floats = start-floats;
    weight = sums (wait_cost (expanded g));
    bound = sums-with (wait_cost (expanded g));
  }
    where
      sums : (x : ℕ) → x + 2 * 0 ≤ x + 3 * 0
      sums x = omega arith

      sums-with : (x : ℕ) → 0 + x + 2 * 0 + 2 ≤ x + 3 + 3 * 0
      sums-with x = omega arith

  start-bound : Bound (wait_cost (expanded g)) first
  start-bound = by_skip (int_le g.params.topskip g.params.textheight) refl
    where
      by_skip : (x : Bool) → int_le g.params.topskip g.params.textheight ≡ x → Bound (wait_cost (expanded g)) first
      by_skip true e = inl (skip-fits g.params.topskip g.params.textheight e, low-bounded)
      by_skip false e = inr (skip-high g.params.topskip g.params.textheight e, high-bounded)

  pub start-cycled : Cycled most first
  start-cycled = record {
    kept = start-kept g valid.params (valid-differ g valid) items_fit;
    closing = start-closing g valid.order items_fit;
    bounded = record { most = wait_cost (expanded g); bounded = start-bound; room = start-room };
    ended = start-ended g items_fit;
    spaced = start-spaced g items_fit;
  }
