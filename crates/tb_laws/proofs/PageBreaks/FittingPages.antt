-- If all of a page without insertions fits up to a forced break, it breaks there.
use Rattle.std.proofs.Common.{◌≡◌, refl, sym, ◌∙◌, ap, subst, ℕ, ℤ, pos, Bool, true, false, ◌||◌, List, [], ◌∷◌, ◌++◌, map, length, Option, Some, None, inl, inr, ◌⊎◌, arith}
use Rattle.std.specs.Prelude.{filter, ◌+ℤ◌, ◌-ℤ◌, ◌≤ℤ◌, int_lt, int_le, if◌then◌else◌}
use Rattle.std.specs.List.{AllByRecursion}
use Rattle.std.proofs.lemmas.Int.{ints}
use Rattle.std.proofs.lemmas.List.{append_assoc, append-nil}
use Rattle.std.proofs.lemmas.Option.{same_Some}
use Rattle.std.proofs.lemmas.Bool.{or_right}
use Rattle.tb_scaled.specs.declared.Order.TheVariants.{Normal}
use Rattle.tb_scaled.specs.Scaled.{eject_penalty, inf_penalty, awful_bad, inf_bad, badness_of, min_ℤ}
use Rattle.tb_node.specs.declared.Sums.{Sums}
use Rattle.tb_node.specs.Shape.{Shape}
use Rattle.tb_node.specs.PlainNodes.{hbox, rule, skip, kerned, pen, mark, note, whatsit, PlainKind, plain, ins, act, PlainNode, node_shape, without_acts}
use Rattle.tb_node.specs.Sums.{amount_at, room_of, size_of, depth_from, list_stretch, list_shrink, sums_of}
use Rattle.tb_break.specs.Cost.{finite_stretch, stretches_infinitely, page_badness, cost_of_badness}
use Rattle.tb_break.specs.Places.{last_or, ends_lasting}
use Rattle.tb_break.specs.Best.{Breakpoint, is_stop, least_cost, best_or}
use Rattle.tb_break.specs.Split.{breakpoint_at}
use Rattle.tb_insert.specs.Terms.{Terms, bare_terms, sums_with}
use Rattle.tb_builder.specs.Reach.{tried, Reach, also_reached, page_place, stopped_at, reach_at_place, reach_at, reach_node, reach_from, breakpoints}

-- ---- slim nodes

-- a node that takes no height, except glue, and neither shrinks nor stretches finitely
abbrev pub Slim : PlainKind → Type 0
Slim (plain (hbox w h d)) = (h ≡ pos 0) × (d ≡ pos 0)
Slim (plain (rule name h d)) = ⊥
Slim (plain (skip g)) = (pos 0 ≤ℤ g.width) × (g.shrink ≡ pos 0) × (amount_at Normal g.order g.stretch ≡ pos 0)
Slim (plain (kerned w)) = ⊥
Slim (plain (pen p)) = ⊥
Slim (plain (mark name)) = Unit {0}
Slim (plain (note name)) = Unit {0}
Slim (plain whatsit) = Unit {0}
Slim (ins i) = ⊥
Slim (act a) = ⊥

abbrev pub AllSlim : List PlainNode → Type 0
AllSlim = AllByRecursion (λ n. Slim n.kind)

abbrev shapes : List PlainNode → List Shape
shapes ns = map node_shape ns

pub slim-both : (xs ys : List PlainNode) → AllSlim xs → AllSlim ys → AllSlim (xs ++ ys)
slim-both [] ys a b = b
slim-both (x ∷ xs) ys a b = (a.0, slim-both xs ys a.1 b)

slim-kind : (l : ℕ) (k : PlainKind) (ns : List PlainNode) → Slim k → list_stretch Normal (shapes ns) ≡ pos 0 → list_shrink (shapes ns) ≡ pos 0 → (list_stretch Normal (shapes (record { line = l; kind = k } ∷ ns)) ≡ pos 0) × (list_shrink (shapes (record { line = l; kind = k } ∷ ns)) ≡ pos 0)
slim-kind l (plain (hbox w h d)) ns s a b = (grind (arith, ints, a), grind (arith, ints, b))
slim-kind l (plain (skip g)) ns s a b = (grind (arith, ints, a, s.2), grind (arith, ints, b, s.1))
slim-kind l (plain (mark name)) ns s a b = (grind (arith, ints, a), grind (arith, ints, b))
slim-kind l (plain (note name)) ns s a b = (grind (arith, ints, a), grind (arith, ints, b))
slim-kind l (plain whatsit) ns s a b = (grind (arith, ints, a), grind (arith, ints, b))
slim-kind l k ns s a b = absurd s

pub slim-sums : (ns : List PlainNode) → AllSlim ns → (list_stretch Normal (shapes ns) ≡ pos 0) × (list_shrink (shapes ns) ≡ pos 0)
slim-sums [] s = (refl, refl)
slim-sums (n ∷ ns) s = let h = slim-sums ns s.1 in slim-kind n.line n.kind ns s.0 h.0 h.1

depth-kind : (l : ℕ) (k : PlainKind) (ns : List PlainNode) → Slim k → ((d : ℤ) → d ≡ pos 0 → depth_from d (shapes ns) ≡ pos 0) → (d : ℤ) → d ≡ pos 0 → depth_from d (shapes (record { line = l; kind = k } ∷ ns)) ≡ pos 0
depth-kind l (plain (hbox w x y)) ns s h d e = h y s.1
depth-kind l (plain (skip g)) ns s h d e = h (pos 0) refl
depth-kind l (plain (mark name)) ns s h d e = h d e
depth-kind l (plain (note name)) ns s h d e = h d e
depth-kind l (plain whatsit) ns s h d e = h d e
depth-kind l k ns s h d e = absurd s

pub slim-depth : (ns : List PlainNode) → AllSlim ns → (d : ℤ) → d ≡ pos 0 → depth_from d (shapes ns) ≡ pos 0
slim-depth [] s d e = e
slim-depth (n ∷ ns) s d e = depth-kind n.line n.kind ns s.0 (λ d e. slim-depth ns s.1 d e) d e

size-kind : (l : ℕ) (k : PlainKind) (ns : List PlainNode) → Slim k → size_of (shapes ns) ≤ℤ size_of (shapes (record { line = l; kind = k } ∷ ns))
size-kind l (plain (hbox w h d)) ns s = grind (arith, ints, s.0, s.1)
size-kind l (plain (skip g)) ns s = grind (arith, ints, s.0)
size-kind l (plain (mark name)) ns s = grind (arith, ints)
size-kind l (plain (note name)) ns s = grind (arith, ints)
size-kind l (plain whatsit) ns s = grind (arith, ints)
size-kind l k ns s = absurd s

pub size-both : (xs ys : List PlainNode) → size_of (shapes (xs ++ ys)) ≡ size_of (shapes xs) +ℤ size_of (shapes ys)
size-both [] ys = grind (arith, ints)
size-both (x ∷ xs) ys = sums (room_of (node_shape x)) (size_of (shapes xs)) (size_of (shapes ys)) (size_of (shapes (xs ++ ys))) (size-both xs ys)
  where
    sums : (r a b c : ℤ) → c ≡ a +ℤ b → r +ℤ c ≡ (r +ℤ a) +ℤ b
    sums r a b c h = omega (arith, ints)

slim-size : (ns : List PlainNode) → AllSlim ns → pos 0 ≤ℤ size_of (shapes ns)
slim-size [] s = grind (arith, ints)
slim-size (n ∷ ns) s =
    let h : pos 0 ≤ℤ size_of (shapes ns) = slim-size ns s.1 in
    let k : size_of (shapes ns) ≤ℤ size_of (shapes (n ∷ ns)) = size-kind n.line n.kind ns s.0 in
    grind (arith, ints, h, k)

-- ---- the cost of a place that fits

-- what holds of the badness 0 and of 10000 holds of that of a place that fits, if nothing stretches finitely or shrinks
fitting-badness : (P : ℤ → Type 0) → P (pos 0) → P inf_bad → (s : Sums) (goal : ℤ) → s.total ≤ℤ goal → s.shrink ≡ pos 0 → finite_stretch s.stretch ≡ pos 0 → P (page_badness s goal)
unfolding page_badness badness_of
fitting-badness P a b s goal h i j =
    by_less (int_lt s.total goal) (int_lt s.shrink (s.total -ℤ goal)) (over s.total s.shrink goal h i)
  where
    over : (t z g : ℤ) → t ≤ℤ g → z ≡ pos 0 → int_lt z (t -ℤ g) ≡ false
    over t z g h i = grind (arith, ints, h, i)

    if_badness : (t : Bool) (x y : ℤ) → P x → P y → P (if t then x else y)
    if_badness true x y u v = u
    if_badness false x y u v = v

    none : (t z : ℤ) → z ≡ pos 0 → P (badness_of t z)
    none t z e = subst (λ y. P (badness_of t y)) (sym e) (if_badness (int_le t (pos 0)) (pos 0) inf_bad a b)

    by_less : (t u : Bool) → u ≡ false → P (if t then (if stretches_infinitely s.stretch then pos 0 else badness_of (goal -ℤ s.total) (finite_stretch s.stretch)) else (if u then awful_bad else badness_of (s.total -ℤ goal) s.shrink))
    by_less true u e = if_badness (stretches_infinitely s.stretch) (pos 0) (badness_of (goal -ℤ s.total) (finite_stretch s.stretch)) a (none (goal -ℤ s.total) (finite_stretch s.stretch) j)
    by_less false true e = let no : ⊥ = grind (arith, e) in absurd no
    by_less false false e = none (s.total -ℤ goal) s.shrink i

-- without a penalty the place is no stop and costs more than a forced break
abbrev Dear : ℤ → ℤ → Type 0
Dear q b = (int_le awful_bad (cost_of_badness b (pos 0) (pos 0)) ≡ false) × (int_le (cost_of_badness b (pos 0) (pos 0)) q ≡ false)

dear-zero : (q : ℤ) → int_le q eject_penalty ≡ true → Dear q (pos 0)
unfolding cost_of_badness
dear-zero q h = (refl, grind (arith, ints, h))

dear-bad : (q : ℤ) → int_le q eject_penalty ≡ true → Dear q inf_bad
unfolding cost_of_badness
dear-bad q h = (refl, grind (arith, ints, h))

-- a forced break costs its penalty
abbrev Costs : ℤ → ℤ → Type 0
Costs q b = cost_of_badness b q (pos 0) ≡ q

costs-zero : (q : ℤ) → int_le q eject_penalty ≡ true → Costs q (pos 0)
unfolding cost_of_badness
costs-zero q h = rw h refl

costs-bad : (q : ℤ) → int_le q eject_penalty ≡ true → Costs q inf_bad
unfolding cost_of_badness
costs-bad q h = rw h refl

-- ---- the places up to the forced break

-- the last of these places is the best: it alone costs q, and the others more
pub record LastBest (q : ℤ) (place : ℕ) (bs : List Breakpoint) : Type 0 where
  pub last : Breakpoint
  pub at : last.place ≡ place
  pub least : least_cost bs ≡ q
  pub only : filter (λ b. int_le b.cost q) bs ≡ last ∷ []

-- so the page breaks there
pub best-last : (d : Breakpoint) (q : ℤ) (place : ℕ) (bs : List Breakpoint) → (h : LastBest q place bs) → best_or d bs ≡ h.last
best-last d q place bs h = ap (last_or d) (ap (λ (x : ℤ). filter (λ b. int_le b.cost x) bs) h.least ∙ h.only)

one-last : (q : ℤ) (b : Breakpoint) → q ≤ℤ awful_bad → b.cost ≡ q → LastBest q b.place (b ∷ [])
one-last q b m e = record { last = b; at = refl; least = grind (arith, ints, e, m); only = by_test (int_le b.cost q) (grind (arith, ints, e)) }
  where
    by_test : (t : Bool) → t ≡ true → (if t then b ∷ [] else []) ≡ b ∷ []
    by_test true h = refl
    by_test false h = let no : ⊥ = grind (arith, h) in absurd no

one-more : (q : ℤ) (place : ℕ) (b : Breakpoint) (bs : List Breakpoint) → int_le b.cost q ≡ false → LastBest q place bs → LastBest q place (b ∷ bs)
one-more q place b bs d h = record { last = h.last; at = h.at; least = least b.cost (least_cost bs) d h.least; only = by_test (int_le b.cost q) d }
  where
    least : (c m : ℤ) → int_le c q ≡ false → m ≡ q → min_ℤ c m ≡ q
    least c m k e = grind (arith, ints, e, k)

    by_test : (t : Bool) → t ≡ false → (if t then b ∷ filter (λ c. int_le c.cost q) bs else filter (λ c. int_le c.cost q) bs) ≡ h.last ∷ []
    by_test true e = let no : ⊥ = grind (arith, e) in absurd no
    by_test false e = h.only

-- the slim nodes before the forced break are passed, and the page breaks there
pub record BreaksAt (q : ℤ) (before rest : List PlainNode) (w : Reach) : Type 0 where
  pub passed : w.passed ≡ before
  pub beyond : w.beyond ≡ rest
  pub fires : w.fires ≡ true
  pub best : LastBest q (length before) (breakpoints w.reached)

module _ (limit goal : ℤ) (deep : pos 0 ≤ℤ limit) (terms : List PlainNode → Terms) (bare : (ns : List PlainNode) → AllSlim ns → terms ns ≡ bare_terms goal) (q : ℤ) (forced : int_le q eject_penalty ≡ true) where
  slim-place : (P : ℤ → Type 0) → P (pos 0) → P inf_bad → (before : List PlainNode) → AllSlim before → size_of (shapes before) ≤ℤ goal → P (page_badness (sums_with (sums_of limit (shapes before)) (bare_terms goal)) goal)
  slim-place P a b before s h =
      let z = slim-sums before s in
      let d = slim-depth before s (pos 0) refl in
      fitting-badness P a b (sums_with (sums_of limit (shapes before)) (bare_terms goal)) goal (total (size_of (shapes before)) (depth_from (pos 0) (shapes before)) h d) (shrink (list_shrink (shapes before)) z.1) (shrink (list_stretch Normal (shapes before)) z.0)
    where
      total : (n d : ℤ) → n ≤ℤ goal → d ≡ pos 0 → (n -ℤ min_ℤ d limit) ≤ℤ goal
      total n d h e = grind (arith, ints, h, e, deep)

      shrink : (n : ℤ) → n ≡ pos 0 → (n +ℤ pos 0) ≡ pos 0
      shrink n e = grind (arith, ints, e)

  -- a place without a penalty before the forced break
  pub free-place : (before : List PlainNode) → AllSlim before → size_of (shapes before) ≤ℤ goal → (is_stop (page_place limit terms before (pos 0)) ≡ false) × (int_le (page_place limit terms before (pos 0)).cost q ≡ false)
  free-place before s h = subst (λ (t : Terms). let b = breakpoint_at (length before) (sums_with (sums_of limit (shapes before)) t) t.goal (pos 0) t.penalties in (is_stop b ≡ false) × (int_le b.cost q ≡ false)) (sym (bare before s)) (stops (slim-place (Dear q) (dear-zero q forced) (dear-bad q forced) before s h))
    where
      b : ℤ
      b = page_badness (sums_with (sums_of limit (shapes before)) (bare_terms goal)) goal

      stops : Dear q (page_badness (sums_with (sums_of limit (shapes before)) (bare_terms goal)) goal) → ((int_le awful_bad (cost_of_badness (page_badness (sums_with (sums_of limit (shapes before)) (bare_terms goal)) goal) (pos 0) (pos 0)) || false) ≡ false) × (int_le (cost_of_badness (page_badness (sums_with (sums_of limit (shapes before)) (bare_terms goal)) goal) (pos 0) (pos 0)) q ≡ false)
      stops d = (grind (arith, d.0), d.1)

  -- the forced break
  forced-place : (before : List PlainNode) → AllSlim before → size_of (shapes before) ≤ℤ goal → (page_place limit terms before q).cost ≡ q
  forced-place before s h = subst (λ (t : Terms). (breakpoint_at (length before) (sums_with (sums_of limit (shapes before)) t) t.goal q t.penalties).cost ≡ q) (sym (bare before s)) (slim-place (Costs q) (costs-zero q forced) (costs-bad q forced) before s h)

  place-step : (before : List PlainNode) (n : PlainNode) (rest behind beyond : List PlainNode) (later : Reach) → AllSlim before → size_of (shapes before) ≤ℤ goal → BreaksAt q behind beyond later → (o : Option ℤ) → (o ≡ None) ⊎ (o ≡ Some (pos 0)) → BreaksAt q behind beyond (reach_at limit terms before n rest later o)
  place-step before n rest behind beyond later s h r None e = r
  place-step before n rest behind beyond later s h r (Some x) (inl e) = cc
  place-step before n rest behind beyond later s h r (Some x) (inr e) =
      subst (λ (y : ℤ). BreaksAt q behind beyond (reach_at_place before n rest later (page_place limit terms before y))) (sym (same_Some x (pos 0) e)) (by_stop (is_stop (page_place limit terms before (pos 0))) (free-place before s h).0)
    where
      by_stop : (t : Bool) → t ≡ false → BreaksAt q behind beyond (if t then stopped_at before n rest (page_place limit terms before (pos 0)) else also_reached (tried n.line (page_place limit terms before (pos 0))) later)
      by_stop true k = let no : ⊥ = grind (arith, k) in absurd no
      by_stop false k = record { passed = r.passed; beyond = r.beyond; fires = r.fires; best = one-more q (length behind) (page_place limit terms before (pos 0)) (breakpoints later.reached) (free-place before s h).1 r.best }

  maybe : (t : Bool) → ((if t then Some (pos 0) else None) ≡ None) ⊎ ((if t then Some (pos 0) else None) ≡ Some (pos 0))
  maybe true = inr refl
  maybe false = inl refl

  -- a slim node is passed
  slim-step : (before : List PlainNode) (l : ℕ) (k : PlainKind) (rest behind beyond : List PlainNode) (later : Reach) → Slim k → AllSlim before → size_of (shapes before) ≤ℤ goal → BreaksAt q behind beyond later → BreaksAt q behind beyond (reach_node limit terms before (record { line = l; kind = k }) rest later k)
  slim-step before l (plain (hbox w x d)) rest behind beyond later k s h r = r
  slim-step before l (plain (skip g)) rest behind beyond later k s h r = place-step before (record { line = l; kind = plain (skip g) }) rest behind beyond later s h r (if ends_lasting (shapes before) then Some (pos 0) else None) (maybe (ends_lasting (shapes before)))
  slim-step before l (plain (mark name)) rest behind beyond later k s h r = r
  slim-step before l (plain (note name)) rest behind beyond later k s h r = r
  slim-step before l (plain whatsit) rest behind beyond later k s h r = r
  slim-step before l x rest behind beyond later k s h r = absurd k

  kept-slim : (n : PlainNode) → Slim n.kind → without_acts (n ∷ []) ≡ n ∷ []
  kept-slim n s = at n.kind s
    where
      at : (k : PlainKind) → Slim k → without_acts (record { line = n.line; kind = k } ∷ []) ≡ record { line = n.line; kind = k } ∷ []
      at (plain m) s = refl
      at (ins i) s = refl
      at (act a) s = absurd s

  stops-here : (before : List PlainNode) (l : ℕ) (tail : List PlainNode) → AllSlim before → size_of (shapes before) ≤ℤ goal → BreaksAt q before (record { line = l; kind = plain (pen q) } ∷ tail) (reach_from limit terms before (record { line = l; kind = plain (pen q) } ∷ tail))
  stops-here before l tail s h = by_legal (int_lt q inf_penalty) (grind (arith, ints, forced))
    where
      n : PlainNode
      n = record { line = l; kind = plain (pen q) }

      later : Reach
      later = reach_from limit terms (before ++ without_acts (record { line = l; kind = plain (pen q) } ∷ [])) tail

      by_stop : (t : Bool) → t ≡ true → BreaksAt q before (record { line = l; kind = plain (pen q) } ∷ tail) (if t then stopped_at before (record { line = l; kind = plain (pen q) }) tail (page_place limit terms before q) else also_reached (tried l (page_place limit terms before q)) (reach_from limit terms (before ++ without_acts (record { line = l; kind = plain (pen q) } ∷ [])) tail))
      by_stop true e = record { passed = refl; beyond = refl; fires = refl; best = one-last q (page_place limit terms before q) (grind (arith, ints, forced)) (forced-place before s h) }
      by_stop false e = let no : ⊥ = grind (arith, e) in absurd no

      by_legal : (t : Bool) → t ≡ true → BreaksAt q before (record { line = l; kind = plain (pen q) } ∷ tail) (reach_at limit terms before (record { line = l; kind = plain (pen q) }) tail (reach_from limit terms (before ++ without_acts (record { line = l; kind = plain (pen q) } ∷ [])) tail) (if t then Some q else None))
      by_legal true e = by_stop (is_stop (page_place limit terms before q)) (or_right (int_le awful_bad (page_place limit terms before q).cost) (int_le q eject_penalty) forced)
      by_legal false e = let no : ⊥ = grind (arith, e) in absurd no

  pub breaks-at : (before ns : List PlainNode) (l : ℕ) (tail : List PlainNode) → AllSlim before → AllSlim ns → size_of (shapes (before ++ ns)) ≤ℤ goal → BreaksAt q (before ++ ns) (record { line = l; kind = plain (pen q) } ∷ tail) (reach_from limit terms before (ns ++ record { line = l; kind = plain (pen q) } ∷ tail))
  breaks-at before [] l tail s u h = subst (λ (xs : List PlainNode). BreaksAt q xs (record { line = l; kind = plain (pen q) } ∷ tail) (reach_from limit terms before (record { line = l; kind = plain (pen q) } ∷ tail))) (sym (append-nil before)) (stops-here before l tail s (subst (λ (xs : List PlainNode). size_of (shapes xs) ≤ℤ goal) (append-nil before) h))
  breaks-at before (n ∷ ns) l tail s u h =
      let one : AllSlim (before ++ n ∷ []) = slim-both before (n ∷ []) s (u.0, tt) in
      let e : (before ++ n ∷ []) ++ ns ≡ before ++ n ∷ ns = append_assoc before (n ∷ []) ns in
      let k : without_acts (n ∷ []) ≡ n ∷ [] = kept-slim n u.0 in
      let r : BreaksAt q ((before ++ n ∷ []) ++ ns) (record { line = l; kind = plain (pen q) } ∷ tail) (reach_from limit terms (before ++ n ∷ []) (ns ++ record { line = l; kind = plain (pen q) } ∷ tail)) = breaks-at (before ++ n ∷ []) ns l tail one u.1 (subst (λ (xs : List PlainNode). size_of (shapes xs) ≤ℤ goal) (sym e) h) in
      let r' : BreaksAt q (before ++ n ∷ ns) (record { line = l; kind = plain (pen q) } ∷ tail) (reach_from limit terms (before ++ without_acts (n ∷ [])) (ns ++ record { line = l; kind = plain (pen q) } ∷ tail)) = subst (λ (xs : List PlainNode). BreaksAt q (before ++ n ∷ ns) (record { line = l; kind = plain (pen q) } ∷ tail) (reach_from limit terms (before ++ xs) (ns ++ record { line = l; kind = plain (pen q) } ∷ tail))) (sym k) (subst (λ (xs : List PlainNode). BreaksAt q xs (record { line = l; kind = plain (pen q) } ∷ tail) (reach_from limit terms (before ++ n ∷ []) (ns ++ record { line = l; kind = plain (pen q) } ∷ tail))) e r) in
      slim-step before n.line n.kind (ns ++ record { line = l; kind = plain (pen q) } ∷ tail) (before ++ n ∷ ns) (record { line = l; kind = plain (pen q) } ∷ tail) (reach_from limit terms (before ++ without_acts (n ∷ [])) (ns ++ record { line = l; kind = plain (pen q) } ∷ tail)) u.0 s (low before (n ∷ ns) s u h) r'
    where
      low : (xs ys : List PlainNode) → AllSlim xs → AllSlim ys → size_of (shapes (xs ++ ys)) ≤ℤ goal → size_of (shapes xs) ≤ℤ goal
      low xs ys a b h =
          let i : size_of (shapes (xs ++ ys)) ≡ size_of (shapes xs) +ℤ size_of (shapes ys) = size-both xs ys in
          let j : pos 0 ≤ℤ size_of (shapes ys) = slim-size ys b in
          sums (size_of (shapes xs)) (size_of (shapes ys)) (size_of (shapes (xs ++ ys))) i j h
        where
          sums : (x y z : ℤ) → z ≡ x +ℤ y → pos 0 ≤ℤ y → z ≤ℤ goal → x ≤ℤ goal
          sums x y z i j h = grind (arith, ints, i, j, h)
