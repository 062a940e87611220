-- What a plain page reaches that is broken by force where a longer page goes on: it breaks there.
use Rattle.std.proofs.Common.{◌≡◌, refl, sym, subst, ◌∙◌, ap, ℕ, ℤ, Bool, true, false, List, [], ◌∷◌, ◌++◌, map, filter, length, Option, Some, None, true≢false, arith}
use Rattle.std.specs.Prelude.{pos, ◌≤ℤ◌, ◌||◌, ◌&&◌, int_lt, int_le, if◌then◌else◌}
use Rattle.std.proofs.lemmas.Int.{ints}
use Rattle.tb_scaled.specs.Scaled.{awful_bad, inf_penalty, eject_penalty, min_ℤ}
use Rattle.tb_node.specs.PlainNodes.{Matter, hbox, rule, skip, kerned, pen, mark, note, whatsit, PlainKind, plain, ins, act, PlainNode, node_shape, without_acts}
use Rattle.tb_break.specs.Best.{Breakpoint, is_stop, least_cost, best_or}
use Rattle.tb_break.specs.Places.{last_or, begins_with_glue, ends_lasting}
use Rattle.tb_insert.specs.Terms.{Terms}
use Rattle.tb_builder.specs.Reach.{Reached, acted, tried, Reach, also_reached, page_place, stopped_at, reach_at, reach_node, reach_from, breakpoints}
use Rattle.tb_builder.specs.FiredPages.{no_place}
use Rattle.tb_output.specs.State.{State}
use Rattle.tb_steps.specs.Run.{progress}
use Rattle.tb_best.specs.PlacePrices.{AreDear, tries_among}
use Rattle.tb_best.specs.PlainPages.{is_plain, all_plain}
use Rattle.tb_best.proofs.SteadyNodes.{first-false}
use Rattle.tb_best.proofs.PlacePricesReach.{forced-cost, passed_by, HasPlace}

pub first-true : (a b : Bool) → (a && b) ≡ true → a ≡ true
first-true true b h = refl
first-true false b h = h

pub second-true : (a b : Bool) → (a && b) ≡ true → b ≡ true
second-true true b h = h
second-true false b h = absurd (true≢false (sym h))

-- ---- the best place

-- the last place has the cost of a forced break, and none before it costs less
pub data EndsCheap : List Breakpoint → Type 0 where
  last_one : (b : Breakpoint) → b.cost ≡ eject_penalty → EndsCheap (b ∷ [])
  one_more : (b : Breakpoint) (bs : List Breakpoint) → eject_penalty ≤ℤ b.cost → EndsCheap bs → EndsCheap (b ∷ bs)

least-ends : {bs : List Breakpoint} → EndsCheap bs → least_cost bs ≡ eject_penalty
least-ends (last_one b e) = ap (λ c. min_ℤ c awful_bad) e
least-ends (one_more b bs h x) = ap (min_ℤ b.cost) (least-ends x) ∙ by (int_le b.cost eject_penalty) refl
  where
    by : (t : Bool) → int_le b.cost eject_penalty ≡ t → (if t then b.cost else eject_penalty) ≡ eject_penalty
    by true e = grind (arith, ints, h, e)
    by false e = refl

-- so the last of these that cost no more than that is the last of all
kept-last : (c : ℤ) → c ≡ eject_penalty → {bs : List Breakpoint} → EndsCheap bs → (d e : Breakpoint) → last_or d (filter (λ b. int_le b.cost c) bs) ≡ last_or e bs
kept-last c is (last_one b h) d e = by (int_le b.cost c) (grind (arith, ints, is, h))
  where
    by : (t : Bool) → t ≡ true → last_or d (if t then b ∷ [] else []) ≡ b
    by true f = refl
    by false f = absurd (true≢false (sym f))
kept-last c is (one_more b bs h x) d e = by (int_le b.cost c) (λ f. kept-last c is x f b)
  where
    by : (t : Bool) → ((f : Breakpoint) → last_or f (filter (λ b. int_le b.cost c) bs) ≡ last_or b bs) → last_or d (if t then b ∷ filter (λ b. int_le b.cost c) bs else filter (λ b. int_le b.cost c) bs) ≡ last_or b bs
    by true ih = ih b
    by false ih = ih d

pub best-last : {bs : List Breakpoint} → EndsCheap bs → best_or no_place bs ≡ last_or no_place bs
best-last {bs = bs} x = kept-last (least_cost bs) (least-ends x) x no_place no_place

-- ---- the page that is broken

-- no act is reached
abbrev pub NoActs : List Reached → Type 0
NoActs [] = Unit {0}
NoActs (acted a ∷ rs) = ⊥
NoActs (tried line b ∷ rs) = NoActs rs

module _ (limit : ℤ) (terms : List PlainNode → Terms) (line on : ℕ) (m : Matter) (q : ℤ) (more rest : List PlainNode) where
  abbrev node : PlainNode
  node = record { line = line; kind = plain m }

  abbrev cut : PlainNode
  cut = record { line = on; kind = plain (pen eject_penalty) }

  -- the second page passes these nodes and breaks, where the first goes on; where the first tried no place that costs less than a forced break, that is its best place
  pub record IsCut (passed : List PlainNode) (w v : Reach) : Type 0 where
    pub fires : v.fires ≡ true
    pub passes : v.passed ≡ passed
    pub leaves : v.beyond ≡ cut ∷ rest
    pub no_acts : NoActs v.reached
    pub place : (d : Breakpoint) → (last_or d (breakpoints v.reached)).place ≡ length passed
    pub cheap : (least : ℤ) (s : State) → AreDear (tries_among (progress w.reached least s).events) → EndsCheap (breakpoints v.reached)

  either-stop : (t : Bool) → (t || true) ≡ true
  either-stop true = refl
  either-stop false = refl

  at-cut : (before : List PlainNode) (later : Reach) → (reach_at limit terms before node more later (Some q)).fires ≡ false
      → IsCut before (reach_at limit terms before node more later (Some q)) (reach_from limit terms before (cut ∷ rest))
  at-cut before later h = by_stop (is_stop b) refl h
    where
      b : Breakpoint
      b = page_place limit terms before q

      c : Breakpoint
      c = page_place limit terms before eject_penalty

      beyond : Reach
      beyond = reach_from limit terms (before ++ without_acts (cut ∷ [])) rest

      stops : (w : Reach) → c.cost ≡ eject_penalty → (t : Bool) → t ≡ true → IsCut before w (if t then stopped_at before cut rest c else also_reached (tried on c) beyond)
      stops w e true f = record { fires = refl; passes = refl; leaves = refl; no_acts = tt; place = λ d. refl; cheap = λ least s dear. last_one c e }
      stops w e false f = absurd (true≢false (sym f))

      by_stop : (t : Bool) → is_stop b ≡ t → (if t then stopped_at before node more b else also_reached (tried line b) later).fires ≡ false
          → IsCut before (if t then stopped_at before node more b else also_reached (tried line b) later) (reach_from limit terms before (cut ∷ rest))
      by_stop true e f = absurd (true≢false f)
      by_stop false e f =
          stops (also_reached (tried line b) later) (forced-cost b.badness q (terms before).penalties (first-false (int_le awful_bad b.cost) (int_le b.penalty eject_penalty) e)) (is_stop c) (either-stop (int_le awful_bad c.cost))

  -- one more place before
  past : (passed : List PlainNode) (w v : Reach) (l : ℕ) (b : Breakpoint) → IsCut passed w v → IsCut passed (also_reached (tried l b) w) (also_reached (tried l b) v)
  past passed w v l b x = record {
    fires = x.fires;
    passes = x.passes;
    leaves = x.leaves;
    no_acts = x.no_acts;
    place = λ d. x.place b;
    cheap = λ least s dear. one_more b (breakpoints v.reached) dear.0 (x.cheap (min_ℤ least b.cost) s dear.1);
  }

  past-one : (passed : List PlainNode) (w v : Reach) (l : ℕ) (b : Breakpoint) → IsCut passed w v → IsCut passed (also_reached (tried l b) w) v
  past-one passed w v l b x = record {
    fires = x.fires;
    passes = x.passes;
    leaves = x.leaves;
    no_acts = x.no_acts;
    place = x.place;
    cheap = λ least s dear. x.cheap (min_ℤ least b.cost) s dear.1;
  }

  module _ (passed before : List PlainNode) (x : PlainNode) (r s : List PlainNode) (w v : Reach) (ih : w.fires ≡ false → IsCut passed w v) where
    both-at : (o : Option ℤ) → (reach_at limit terms before x r w o).fires ≡ false → IsCut passed (reach_at limit terms before x r w o) (reach_at limit terms before x s v o)
    both-at None h = ih h
    both-at (Some p) h = by_stop (is_stop b) h
      where
        b : Breakpoint
        b = page_place limit terms before p

        by_stop : (t : Bool) → (if t then stopped_at before x r b else also_reached (tried x.line b) w).fires ≡ false
            → IsCut passed (if t then stopped_at before x r b else also_reached (tried x.line b) w) (if t then stopped_at before x s b else also_reached (tried x.line b) v)
        by_stop true e = absurd (true≢false e)
        by_stop false e = past passed w v x.line b (ih e)

    one-at : (p : ℤ) → (reach_at limit terms before x r w (Some p)).fires ≡ false → IsCut passed (reach_at limit terms before x r w (Some p)) v
    one-at p h = by_stop (is_stop b) h
      where
        b : Breakpoint
        b = page_place limit terms before p

        by_stop : (t : Bool) → (if t then stopped_at before x r b else also_reached (tried x.line b) w).fires ≡ false
            → IsCut passed (if t then stopped_at before x r b else also_reached (tried x.line b) w) v
        by_stop true e = absurd (true≢false e)
        by_stop false e = past-one passed w v x.line b (ih e)

    kern-at : (g f : Bool) → (f ≡ true → g ≡ true) → (reach_at limit terms before x r w (if g then Some (pos 0) else None)).fires ≡ false
        → IsCut passed (reach_at limit terms before x r w (if g then Some (pos 0) else None)) (reach_at limit terms before x s v (if f then Some (pos 0) else None))
    kern-at true true glue h = both-at (Some (pos 0)) h
    kern-at true false glue h = one-at (pos 0) h
    kern-at false true glue h = absurd (true≢false (sym (glue refl)))
    kern-at false false glue h = ih h

  kind-cut : (passed before : List PlainNode) (l : ℕ) (k : PlainKind) (r s : List PlainNode) (w v : Reach) → is_plain k ≡ true
      → (begins_with_glue (map node_shape (without_acts s)) ≡ true → begins_with_glue (map node_shape (without_acts r)) ≡ true) → (w.fires ≡ false → IsCut passed w v)
      → (reach_node limit terms before (record { line = l; kind = k }) r w k).fires ≡ false
      → IsCut passed (reach_node limit terms before (record { line = l; kind = k }) r w k) (reach_node limit terms before (record { line = l; kind = k }) s v k)
  kind-cut passed before l (plain (hbox a b d)) r s w v e glue ih h = ih h
  kind-cut passed before l (plain (rule a b d)) r s w v e glue ih h = ih h
  kind-cut passed before l (plain (skip g)) r s w v e glue ih h = both-at passed before (record { line = l; kind = plain (skip g) }) r s w v ih (if ends_lasting (map node_shape before) then Some (pos 0) else None) h
  kind-cut passed before l (plain (kerned g)) r s w v e glue ih h = kern-at passed before (record { line = l; kind = plain (kerned g) }) r s w v ih (begins_with_glue (map node_shape (without_acts r))) (begins_with_glue (map node_shape (without_acts s))) glue h
  kind-cut passed before l (plain (pen p)) r s w v e glue ih h = both-at passed before (record { line = l; kind = plain (pen p) }) r s w v ih (if int_lt p inf_penalty then Some p else None) h
  kind-cut passed before l (plain (mark a)) r s w v e glue ih h = ih h
  kind-cut passed before l (plain (note a)) r s w v e glue ih h = ih h
  kind-cut passed before l (plain whatsit) r s w v e glue ih h = ih h
  kind-cut passed before l (ins i) r s w v e glue ih h = absurd (true≢false (sym e))
  kind-cut passed before l (act a) r s w v e glue ih h = absurd (true≢false (sym e))

  -- the glue that comes first, on both pages
  glue-kind : (l : ℕ) (k : PlainKind) (r s : List PlainNode) → is_plain k ≡ true
      → begins_with_glue (map node_shape (without_acts (record { line = l; kind = k } ∷ s))) ≡ begins_with_glue (map node_shape (without_acts (record { line = l; kind = k } ∷ r)))
  glue-kind l (plain (hbox a b d)) r s e = refl
  glue-kind l (plain (rule a b d)) r s e = refl
  glue-kind l (plain (skip g)) r s e = refl
  glue-kind l (plain (kerned g)) r s e = refl
  glue-kind l (plain (pen p)) r s e = refl
  glue-kind l (plain (mark a)) r s e = refl
  glue-kind l (plain (note a)) r s e = refl
  glue-kind l (plain whatsit) r s e = refl
  glue-kind l (ins i) r s e = absurd (true≢false (sym e))
  glue-kind l (act a) r s e = absurd (true≢false (sym e))

  glue-behind : (xs : List PlainNode) → all_plain xs ≡ true → begins_with_glue (map node_shape (without_acts (xs ++ cut ∷ rest))) ≡ true → begins_with_glue (map node_shape (without_acts (xs ++ node ∷ more))) ≡ true
  glue-behind [] e h = absurd (true≢false (sym h))
  glue-behind (x ∷ xs) e h = sym (glue-kind x.line x.kind (xs ++ node ∷ more) (xs ++ cut ∷ rest) (first-true (is_plain x.kind) (all_plain xs) e)) ∙ h

  -- a plain page that is broken before a node at which a longer page has a place and goes on
  pub plain-reach : (before xs : List PlainNode) → all_plain xs ≡ true → HasPlace (passed_by before xs) m q → (reach_from limit terms before (xs ++ node ∷ more)).fires ≡ false
      → IsCut (passed_by before xs) (reach_from limit terms before (xs ++ node ∷ more)) (reach_from limit terms before (xs ++ cut ∷ rest))
  plain-reach before [] e place h = at-option (place line more) h
    where
      later : Reach
      later = reach_from limit terms (before ++ without_acts (node ∷ [])) more

      at-option : {o : Option ℤ} → o ≡ Some q → (reach_at limit terms before node more later o).fires ≡ false
          → IsCut before (reach_at limit terms before node more later o) (reach_from limit terms before (cut ∷ rest))
      at-option f =
          subst (λ o. (reach_at limit terms before node more later o).fires ≡ false → IsCut before (reach_at limit terms before node more later o) (reach_from limit terms before (cut ∷ rest))) (sym f) (at-cut before later)
  plain-reach before (x ∷ xs) e place h =
      let b = before ++ without_acts (x ∷ []) in
      kind-cut (passed_by b xs) before x.line x.kind (xs ++ node ∷ more) (xs ++ cut ∷ rest) (reach_from limit terms b (xs ++ node ∷ more)) (reach_from limit terms b (xs ++ cut ∷ rest))
      (first-true (is_plain x.kind) (all_plain xs) e) (glue-behind xs (second-true (is_plain x.kind) (all_plain xs) e))
      (plain-reach b xs (second-true (is_plain x.kind) (all_plain xs) e) place) h
