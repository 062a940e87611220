-- A page that begins with a mark, note or whatsit and has one box of no size breaks before its top glue, if the top skip is higher than the page.
use Rattle.std.proofs.Common.{◌≡◌, refl, sym, ◌∙◌, ap, subst, ℕ, ℤ, pos, Bool, true, false, not, List, [], ◌∷◌, ◌++◌, map, length, Some, None, arith}
use Rattle.std.specs.Prelude.{filter, ◌+ℤ◌, ◌-ℤ◌, ◌≤ℤ◌, ◌<ℤ◌, int_lt, int_le, if◌then◌else◌}
use Rattle.std.specs.List.{AllByRecursion}
use Rattle.std.proofs.lemmas.Int.{ints}
use Rattle.std.proofs.lemmas.List.{append_assoc, append-nil}
use Rattle.std.proofs.lemmas.Bool.{or_right, or_parts}
use Rattle.tb_scaled.specs.Scaled.{eject_penalty, inf_penalty, awful_bad, badness_of, min_ℤ, max_ℤ}
use Rattle.tb_node.specs.declared.Sums.{Sums}
use Rattle.tb_node.specs.declared.What.{What}
use Rattle.tb_node.specs.Shape.{Shape, is_discardable}
use Rattle.tb_node.specs.PlainNodes.{hbox, rule, skip, kerned, pen, mark, note, whatsit, PlainKind, plain, ins, act, PlainNode, node_shape, without_acts}
use Rattle.tb_node.specs.Sums.{size_of, depth_from, list_shrink, sums_of}
use Rattle.tb_break.specs.PageTop.{pruned_nodes, top_glue}
use Rattle.tb_break.specs.Cost.{stretches_infinitely, finite_stretch, page_badness, cost_of_badness}
use Rattle.tb_break.specs.Places.{last_or, ends_lasting}
use Rattle.tb_break.specs.Best.{Breakpoint, is_stop, best_or}
use Rattle.tb_break.specs.Split.{breakpoint_at}
use Rattle.tb_insert.specs.Terms.{Terms, bare_terms, sums_with}
use Rattle.tb_insert.specs.Account.{ClassBox, Frozen, terms_after}
use Rattle.tb_builder.specs.Reach.{Reach, tried, also_reached, page_place, stopped_at, reach_at, reach_from, breakpoints}
use Rattle.tb_builder.specs.FiredPages.{no_place, page_break}
use Rattle.tb_laws.proofs.PageBreaks.FittingPages.{AllSlim, slim-both, size-both, slim-sums, slim-depth, free-place}
use Rattle.tb_laws.proofs.PageBreaks.FittingFired.{Topmost, AllTopmost, flat_box, break_at, bare-page}

-- ---- the cost of an overfull place

overfull-badness : (s : Sums) (goal : ℤ) → goal <ℤ s.total → s.shrink ≡ pos 0 → page_badness s goal ≡ awful_bad
unfolding page_badness
overfull-badness s goal h i = by_tests (int_lt s.total goal) (int_lt s.shrink (s.total -ℤ goal)) (not-less s.total goal h) (over s.total s.shrink goal h i)
  where
    not-less : (t g : ℤ) → g <ℤ t → int_lt t g ≡ false
    not-less t g h = grind (arith, ints, h)

    over : (t z g : ℤ) → g <ℤ t → z ≡ pos 0 → int_lt z (t -ℤ g) ≡ true
    over t z g h i = grind (arith, ints, h, i)

    by_tests : (t u : Bool) → t ≡ false → u ≡ true → (if t then (if stretches_infinitely s.stretch then pos 0 else badness_of (goal -ℤ s.total) (finite_stretch s.stretch)) else (if u then awful_bad else badness_of (s.total -ℤ goal) s.shrink)) ≡ awful_bad
    by_tests true u h i = let no : ⊥ = grind (arith, h) in absurd no
    by_tests false true h i = refl
    by_tests false false h i = let no : ⊥ = grind (arith, i) in absurd no

overfull-cost : (s : Sums) (goal q : ℤ) → goal <ℤ s.total → s.shrink ≡ pos 0 → cost_of_badness (page_badness s goal) q (pos 0) ≡ awful_bad
unfolding cost_of_badness
overfull-cost s goal q h i = rw (overfull-badness s goal h i) refl

-- of two places the first is the best if only the second is overfull
first-best : (d b e : Breakpoint) → b.cost <ℤ awful_bad → e.cost ≡ awful_bad → best_or d (b ∷ e ∷ []) ≡ b
first-best d b e h i = ap (λ (x : ℤ). last_or d (filter (λ c. int_le c.cost x) (b ∷ e ∷ []))) (least b.cost e.cost h i) ∙ by_tests (int_le b.cost b.cost) (int_le e.cost b.cost) (grind (arith, ints)) (more b.cost e.cost h i)
  where
    least : (x y : ℤ) → x <ℤ awful_bad → y ≡ awful_bad → min_ℤ x (min_ℤ y awful_bad) ≡ x
    least x y h i = grind (arith, ints, h, i)

    more : (x y : ℤ) → x <ℤ awful_bad → y ≡ awful_bad → int_le y x ≡ false
    more x y h i = grind (arith, ints, h, i)

    by_tests : (t u : Bool) → t ≡ true → u ≡ false → last_or d (if t then b ∷ (if u then e ∷ [] else []) else (if u then e ∷ [] else [])) ≡ b
    by_tests true false h i = refl
    by_tests true true h i = let no : ⊥ = grind (arith, i) in absurd no
    by_tests false u h i = let no : ⊥ = grind (arith, h) in absurd no

-- ---- nodes that stay at the top of a page

-- a mark, note or whatsit
abbrev pub Lasting : PlainKind → Type 0
Lasting (plain (hbox w h d)) = ⊥
Lasting (plain (rule name h d)) = ⊥
Lasting (plain (skip g)) = ⊥
Lasting (plain (kerned w)) = ⊥
Lasting (plain (pen p)) = ⊥
Lasting (plain (mark name)) = Unit {0}
Lasting (plain (note name)) = Unit {0}
Lasting (plain whatsit) = Unit {0}
Lasting (ins i) = ⊥
Lasting (act a) = ⊥

abbrev pub AllLasting : List PlainNode → Type 0
AllLasting = AllByRecursion (λ n. Lasting n.kind)

abbrev shapes : List PlainNode → List Shape
shapes ns = map node_shape ns

lasting-kind : (l : ℕ) (k : PlainKind) (ns : List PlainNode) → Lasting k → AllSlim ns × (size_of (shapes ns) ≡ pos 0) → AllSlim (record { line = l; kind = k } ∷ ns) × (size_of (shapes (record { line = l; kind = k } ∷ ns)) ≡ pos 0)
lasting-kind l (plain (mark name)) ns k e = ((tt, e.0), grind (arith, ints, e.1))
lasting-kind l (plain (note name)) ns k e = ((tt, e.0), grind (arith, ints, e.1))
lasting-kind l (plain whatsit) ns k e = ((tt, e.0), grind (arith, ints, e.1))
lasting-kind l x ns k e = absurd k

lasting-slim : (ns : List PlainNode) → AllLasting ns → AllSlim ns × (size_of (shapes ns) ≡ pos 0)
lasting-slim [] h = (tt, refl)
lasting-slim (n ∷ ns) h = lasting-kind n.line n.kind ns h.0 (lasting-slim ns h.1)

lasting-both : (xs ys : List PlainNode) → AllLasting xs → AllLasting ys → AllLasting (xs ++ ys)
lasting-both [] ys a b = b
lasting-both (x ∷ xs) ys a b = (a.0, lasting-both xs ys a.1 b)

kind-lasts : (l : ℕ) (k : PlainKind) → Lasting k → not (is_discardable (node_shape (record { line = l; kind = k }))) ≡ true
kind-lasts l (plain (mark name)) k = refl
kind-lasts l (plain (note name)) k = refl
kind-lasts l (plain whatsit) k = refl
kind-lasts l x k = absurd k

last-lasts : (d : Bool) (ns : List PlainNode) → d ≡ true → AllLasting ns → last_or d (map (λ n. not (is_discardable n)) (shapes ns)) ≡ true
last-lasts d [] e h = e
last-lasts d (n ∷ ns) e h = last-lasts (not (is_discardable (node_shape n))) ns (kind-lasts n.line n.kind h.0) h.1

-- a list of such nodes that is not empty ends with one
abbrev pub HasFirst : List PlainNode → Type 0
HasFirst [] = ⊥
HasFirst (n ∷ ns) = Unit {0}

ends-lasting : (ns : List PlainNode) → HasFirst ns → AllLasting ns → ends_lasting (shapes ns) ≡ true
ends-lasting [] f h = absurd f
ends-lasting (n ∷ ns) f h = last-lasts (not (is_discardable (node_shape n))) ns (kind-lasts n.line n.kind h.0) h.1

-- ---- the page

-- one place is reached, and it is overfull
record Overfull (w : Reach) : Type 0 where
  pub point : Breakpoint
  pub points : breakpoints w.reached ≡ point ∷ []
  pub cost : point.cost ≡ awful_bad

module _ (limit goal : ℤ) (deep : pos 0 ≤ℤ limit) (terms : List PlainNode → Terms) (bare : (ns : List PlainNode) → AllSlim ns → terms ns ≡ bare_terms goal) (q : ℤ) (forced : int_le q eject_penalty ≡ true) (t : ℤ) (base : pos 0 ≤ℤ goal) (high : goal <ℤ t) where
  abbrev glue_at : ℕ → PlainNode
  glue_at l = record { line = l; kind = plain (skip (top_glue t (pos 0))) }

  -- the place after the box
  over-cost : (xs : List PlainNode) → AllSlim xs → goal <ℤ size_of (shapes xs) → (page_place limit terms xs q).cost ≡ awful_bad
  over-cost xs s h =
      let z = slim-sums xs s in
      let d = slim-depth xs s (pos 0) refl in
      subst (λ (u : Terms). (breakpoint_at (length xs) (sums_with (sums_of limit (shapes xs)) u) u.goal q u.penalties).cost ≡ awful_bad) (sym (bare xs s))
      (overfull-cost (sums_with (sums_of limit (shapes xs)) (bare_terms goal)) goal q (total (size_of (shapes xs)) (depth_from (pos 0) (shapes xs)) h d) (shrink (list_shrink (shapes xs)) z.1))
    where
      total : (n d : ℤ) → goal <ℤ n → d ≡ pos 0 → goal <ℤ (n -ℤ min_ℤ d limit)
      total n d h e = grind (arith, ints, h, e, deep)

      shrink : (n : ℤ) → n ≡ pos 0 → (n +ℤ pos 0) ≡ pos 0
      shrink n e = grind (arith, ints, e)

  stops-over : (xs : List PlainNode) (l : ℕ) (tail : List PlainNode) → (page_place limit terms xs q).cost ≡ awful_bad → Overfull (reach_from limit terms xs (break_at l q ∷ tail))
  stops-over xs l tail c = by_legal (int_lt q inf_penalty) (grind (arith, ints, forced))
    where
      by_stop : (u : Bool) → u ≡ true → Overfull (if u then stopped_at xs (break_at l q) tail (page_place limit terms xs q) else also_reached (tried l (page_place limit terms xs q)) (reach_from limit terms (xs ++ without_acts (break_at l q ∷ [])) tail))
      by_stop true e = record { point = page_place limit terms xs q; points = refl; cost = c }
      by_stop false e = let no : ⊥ = grind (arith, e) in absurd no

      by_legal : (u : Bool) → u ≡ true → Overfull (reach_at limit terms xs (break_at l q) tail (reach_from limit terms (xs ++ without_acts (break_at l q ∷ [])) tail) (if u then Some q else None))
      by_legal true e = by_stop (is_stop (page_place limit terms xs q)) (or_right (int_le awful_bad (page_place limit terms xs q).cost) (int_le q eject_penalty) forced)
      by_legal false e = let no : ⊥ = grind (arith, e) in absurd no

  -- the best place is the one at the top glue
  at-glue : (xs : List PlainNode) (l b : ℕ) (c : What) (k : ℕ) (tail : List PlainNode) → AllLasting xs → ends_lasting (shapes xs) ≡ true → (page_break (reach_from limit terms xs (glue_at l ∷ flat_box b c ∷ break_at k q ∷ tail))).place ≡ length xs
  at-glue xs l b c k tail h e = by_lasting (ends_lasting (shapes xs)) e
    where
      slim : AllSlim xs
      slim = (lasting-slim xs h).0

      size : size_of (shapes xs) ≡ pos 0
      size = (lasting-slim xs h).1

      page : List PlainNode
      page = (xs ++ glue_at l ∷ []) ++ flat_box b c ∷ []

      wide : (m : ℤ) → pos 0 ≤ℤ max_ℤ m (pos 0)
      wide m = grind (arith, ints)

      page_slim : AllSlim ((xs ++ glue_at l ∷ []) ++ flat_box b c ∷ [])
      page_slim = slim-both (xs ++ glue_at l ∷ []) (flat_box b c ∷ []) (slim-both xs (glue_at l ∷ []) slim ((wide (t -ℤ pos 0), refl, refl), tt)) ((refl, refl), tt)

      over : goal <ℤ size_of (shapes ((xs ++ glue_at l ∷ []) ++ flat_box b c ∷ []))
      over = sums (size_of (shapes xs)) (size_of (shapes (xs ++ glue_at l ∷ []))) (size_of (shapes ((xs ++ glue_at l ∷ []) ++ flat_box b c ∷ []))) (size-both xs (glue_at l ∷ [])) (size-both (xs ++ glue_at l ∷ []) (flat_box b c ∷ [])) size
        where
          sums : (a g n : ℤ) → g ≡ a +ℤ (max_ℤ (t -ℤ pos 0) (pos 0) +ℤ pos 0) → n ≡ g +ℤ ((pos 0 +ℤ pos 0) +ℤ pos 0) → a ≡ pos 0 → goal <ℤ n
          sums a g n i j o = grind (arith, ints, i, j, o, base, high)

      later : Reach
      later = reach_from limit terms ((xs ++ glue_at l ∷ []) ++ flat_box b c ∷ []) (break_at k q ∷ tail)

      full : Overfull (reach_from limit terms ((xs ++ glue_at l ∷ []) ++ flat_box b c ∷ []) (break_at k q ∷ tail))
      full = stops-over ((xs ++ glue_at l ∷ []) ++ flat_box b c ∷ []) k tail (over-cost ((xs ++ glue_at l ∷ []) ++ flat_box b c ∷ []) page_slim over)

      fits : size_of (shapes xs) ≤ℤ goal
      fits = under (size_of (shapes xs)) size
        where
          under : (a : ℤ) → a ≡ pos 0 → a ≤ℤ goal
          under a i = grind (arith, ints, i, base)

      first : Breakpoint
      first = page_place limit terms xs (pos 0)

      free : is_stop (page_place limit terms xs (pos 0)) ≡ false
      free = (free-place limit goal deep terms bare q forced xs slim fits).0

      low : (page_place limit terms xs (pos 0)).cost <ℤ awful_bad
      low = not-awful (page_place limit terms xs (pos 0)).cost (or_parts (int_le awful_bad (page_place limit terms xs (pos 0)).cost) (int_le (page_place limit terms xs (pos 0)).penalty eject_penalty) free).0
        where
          not-awful : (x : ℤ) → int_le awful_bad x ≡ false → x <ℤ awful_bad
          not-awful x h = grind (arith, ints, h)

      best : best_or no_place (page_place limit terms xs (pos 0) ∷ breakpoints (reach_from limit terms ((xs ++ glue_at l ∷ []) ++ flat_box b c ∷ []) (break_at k q ∷ tail)).reached) ≡ page_place limit terms xs (pos 0)
      best = ap (λ bs. best_or no_place (page_place limit terms xs (pos 0) ∷ bs)) full.points ∙ first-best no_place (page_place limit terms xs (pos 0)) full.point low full.cost

      by_stop : (u : Bool) → u ≡ false → (page_break (if u then stopped_at xs (glue_at l) (flat_box b c ∷ break_at k q ∷ tail) (page_place limit terms xs (pos 0)) else also_reached (tried l (page_place limit terms xs (pos 0))) (reach_from limit terms ((xs ++ glue_at l ∷ []) ++ flat_box b c ∷ []) (break_at k q ∷ tail)))).place ≡ length xs
      by_stop true i = let no : ⊥ = grind (arith, i) in absurd no
      by_stop false i = ap (λ (x : Breakpoint). x.place) best

      by_lasting : (u : Bool) → u ≡ true → (page_break (reach_at limit terms xs (glue_at l) (flat_box b c ∷ break_at k q ∷ tail) (reach_from limit terms ((xs ++ glue_at l ∷ []) ++ flat_box b c ∷ []) (break_at k q ∷ tail)) (if u then Some (pos 0) else None))).place ≡ length xs
      by_lasting true i = by_stop (is_stop (page_place limit terms xs (pos 0))) free
      by_lasting false i = let no : ⊥ = grind (arith, i) in absurd no

  lasting-step : (P : Reach → Type 0) (before : List PlainNode) (l : ℕ) (k : PlainKind) (rest : List PlainNode) → Lasting k → P (reach_from limit terms (before ++ record { line = l; kind = k } ∷ []) rest) → P (reach_from limit terms before (record { line = l; kind = k } ∷ rest))
  lasting-step P before l (plain (mark name)) rest k r = r
  lasting-step P before l (plain (note name)) rest k r = r
  lasting-step P before l (plain whatsit) rest k r = r
  lasting-step P before l x rest k r = absurd k

  -- so the page breaks before its top glue
  pub breaks-before : (before xs : List PlainNode) (l b : ℕ) (c : What) (k : ℕ) (tail : List PlainNode) → AllLasting before → AllLasting xs → HasFirst (before ++ xs) → (page_break (reach_from limit terms before (xs ++ glue_at l ∷ flat_box b c ∷ break_at k q ∷ tail))).place ≡ length (before ++ xs)
  breaks-before before [] l b c k tail h i f =
      let e : before ++ [] ≡ before = append-nil before in
      at-glue before l b c k tail h (ends-lasting before (subst HasFirst e f) h) ∙ ap length (sym e)
  breaks-before before (x ∷ xs) l b c k tail h i f =
      let e : (before ++ x ∷ []) ++ xs ≡ before ++ x ∷ xs = append_assoc before (x ∷ []) xs in
      let r : (page_break (reach_from limit terms (before ++ x ∷ []) (xs ++ glue_at l ∷ flat_box b c ∷ break_at k q ∷ tail))).place ≡ length ((before ++ x ∷ []) ++ xs) = breaks-before (before ++ x ∷ []) xs l b c k tail (lasting-both before (x ∷ []) h (i.0, tt)) i.1 (subst HasFirst (sym e) f) in
      lasting-step (λ w. (page_break w).place ≡ length (before ++ x ∷ xs)) before x.line x.kind (xs ++ glue_at l ∷ flat_box b c ∷ break_at k q ∷ tail) i.0 (r ∙ ap length e)

-- ---- the top of a page whose first box has no size

-- marks, notes and whatsits, and the top glue
pub record TopShape (t : ℤ) (xs : List PlainNode) : Type 0 where
  pub lasting : List PlainNode
  pub line : ℕ
  pub all : AllLasting lasting
  pub whole : xs ≡ lasting ++ record { line = line; kind = plain (skip (top_glue t (pos 0))) } ∷ []

parts : {X : Type 0} (x y : X) (xs ys : List X) → x ∷ xs ≡ y ∷ ys → (x ≡ y) × (xs ≡ ys)
parts x y xs ys e = (cc, cc)

module _ (t : ℤ) (b : ℕ) (c : What) (rest : List PlainNode) where
  abbrev Splits : List PlainNode → List PlainNode → Type 0
  Splits ns xs = AllTopmost xs → ns ≡ xs ++ flat_box b c ∷ rest → TopShape t xs

  -- a node that stays is the first of the front
  shape-more : (n : PlainNode) (ns xs : List PlainNode) → Lasting n.kind → (n.kind ≡ plain (hbox c (pos 0) (pos 0)) → ⊥) → ((ys : List PlainNode) → Splits ns ys) → Splits (n ∷ ns) xs
  shape-more n ns [] k apart h v e = absurd (apart (ap (λ (y : PlainNode). y.kind) (parts n (flat_box b c) ns rest e).0))
  shape-more n ns (x ∷ xs) k apart h v e =
      let p : (n ≡ x) × (ns ≡ xs ++ flat_box b c ∷ rest) = parts n x ns (xs ++ flat_box b c ∷ rest) e in
      let r : TopShape t xs = h xs v.1 p.1 in
      record { lasting = n ∷ r.lasting; line = r.line; all = (k, r.all); whole = ap (λ y. y ∷ xs) (sym p.0) ∙ ap (λ ys. n ∷ ys) r.whole }

  -- a node that cannot be in such a front is not its first
  shape-not : (n : PlainNode) (ns xs : List PlainNode) → (Topmost n.kind → ⊥) → (n.kind ≡ plain (hbox c (pos 0) (pos 0)) → ⊥) → Splits (n ∷ ns) xs
  shape-not n ns [] k apart v e = absurd (apart (ap (λ (y : PlainNode). y.kind) (parts n (flat_box b c) ns rest e).0))
  shape-not n ns (x ∷ xs) k apart v e = absurd (k (subst (λ (y : PlainNode). Topmost y.kind) (sym (parts n x ns (xs ++ flat_box b c ∷ rest) e).0) v.0))

  -- the top glue and the box
  shape-box : (l : ℕ) (x : ℤ) (n : PlainNode) (ns xs : List PlainNode) → (n.kind ≡ plain (hbox c (pos 0) (pos 0)) → x ≡ pos 0) → (Topmost n.kind → ⊥) → Splits (record { line = l; kind = plain (skip (top_glue t x)) } ∷ n ∷ ns) xs
  shape-box l x n ns [] z k v e = let apart : plain (skip (top_glue t x)) ≡ plain (hbox c (pos 0) (pos 0)) = ap (λ (y : PlainNode). y.kind) (parts (record { line = l; kind = plain (skip (top_glue t x)) }) (flat_box b c) (n ∷ ns) rest e).0 in cc
  shape-box l x n ns (y ∷ []) z k v e =
      let p = parts (record { line = l; kind = plain (skip (top_glue t x)) }) y (n ∷ ns) (flat_box b c ∷ rest) e in
      let q = parts n (flat_box b c) ns rest p.1 in
      record { lasting = []; line = l; all = tt; whole = ap (λ w. w ∷ []) (sym p.0) ∙ ap (λ w. record { line = l; kind = plain (skip (top_glue t w)) } ∷ []) (z (ap (λ (w : PlainNode). w.kind) q.0)) }
  shape-box l x n ns (y ∷ u ∷ us) z k v e =
      let p = parts (record { line = l; kind = plain (skip (top_glue t x)) }) y (n ∷ ns) (u ∷ us ++ flat_box b c ∷ rest) e in
      let q = parts n u ns (us ++ flat_box b c ∷ rest) p.1 in
      absurd (k (subst (λ (w : PlainNode). Topmost w.kind) (sym q.0) v.1.0))

  shape-kind : (l : ℕ) (k : PlainKind) (ns xs : List PlainNode) → ((ys : List PlainNode) → Splits (pruned_nodes t ns) ys) → Splits (pruned_nodes t (record { line = l; kind = k } ∷ ns)) xs
  shape-kind l (plain (hbox w x d)) ns xs h v e = shape-box l x (record { line = l; kind = plain (hbox w x d) }) ns xs (λ i. cc) (λ i. i) v e
  shape-kind l (plain (rule name x d)) ns xs h v e = shape-box l x (record { line = l; kind = plain (rule name x d) }) ns xs (λ i. cc) (λ i. i) v e
  shape-kind l (plain (mark name)) ns xs h v e = shape-more (record { line = l; kind = plain (mark name) }) (pruned_nodes t ns) xs tt (λ i. cc) h v e
  shape-kind l (plain (note name)) ns xs h v e = shape-more (record { line = l; kind = plain (note name) }) (pruned_nodes t ns) xs tt (λ i. cc) h v e
  shape-kind l (plain whatsit) ns xs h v e = shape-more (record { line = l; kind = plain whatsit }) (pruned_nodes t ns) xs tt (λ i. cc) h v e
  shape-kind l (ins i) ns xs h v e = shape-not (record { line = l; kind = ins i }) (pruned_nodes t ns) xs (λ i. i) (λ i. cc) v e
  shape-kind l (act a) ns xs h v e = shape-not (record { line = l; kind = act a }) (pruned_nodes t ns) xs (λ i. i) (λ i. cc) v e
  shape-kind l k ns xs h v e = h xs v e

  pub pruned-shape : (ns xs : List PlainNode) → Splits (pruned_nodes t ns) xs
  pruned-shape [] [] v e = cc
  pruned-shape [] (x ∷ xs) v e = cc
  pruned-shape (n ∷ ns) xs v e = shape-kind n.line n.kind ns xs (λ ys u i. pruned-shape ns ys u i) v e

-- ---- the page of one class

module _ (goal limit t q : ℤ) (cs : List ClassBox) (deep : pos 0 ≤ℤ limit) (forced : int_le q eject_penalty ≡ true) (base : pos 0 ≤ℤ goal) (high : goal <ℤ t) where
  abbrev frozen : Frozen
  frozen = record { goal = goal; limit = limit; classes = cs }

  -- what waits breaks before its top glue, and not at the forced break
  pub high-breaks : (ns lasting : List PlainNode) (l b : ℕ) (w : What) (k : ℕ) (tail : List PlainNode) → AllLasting lasting → HasFirst lasting → pruned_nodes t ns ≡ lasting ++ record { line = l; kind = plain (skip (top_glue t (pos 0))) } ∷ flat_box b w ∷ break_at k q ∷ tail → (page_break (reach_from limit (terms_after frozen) [] (pruned_nodes t ns))).place ≡ length lasting
  high-breaks ns lasting l b w k tail h f e = subst (λ (xs : List PlainNode). (page_break (reach_from limit (terms_after frozen) [] xs)).place ≡ length lasting) (sym e) (breaks-before limit goal deep (terms_after frozen) (λ xs s. bare-page goal limit cs xs s) q forced t base high [] lasting l b w k tail tt h f)
