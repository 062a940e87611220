-- A break that is put in where a place would be: what is reached is that of the longer page, up to the place, which is forced.
use Rattle.std.proofs.Common.{◌≡◌, refl, sym, subst, ◌∙◌, ap, ℕ, ℤ, Bool, true, false, List, [], ◌∷◌, ◌++◌, map, Option, Some, None, append_assoc, append-nil, true≢false}
use Rattle.std.specs.Prelude.{pos, ◌+ℤ◌, ◌||◌, not, int_lt, int_le, if◌then◌else◌}
use Rattle.tb_scaled.specs.Scaled.{awful_bad, inf_bad, inf_penalty, eject_penalty, deplorable}
use Rattle.tb_node.specs.declared.Act.{Act}
use Rattle.tb_node.specs.Shape.{is_discardable}
use Rattle.tb_node.specs.PlainNodes.{Matter, hbox, rule, skip, kerned, pen, mark, note, whatsit, PlainKind, plain, ins, act, PlainNode, node_shape, without_acts, is_act_kind}
use Rattle.tb_break.specs.Best.{Breakpoint, is_stop}
use Rattle.tb_break.specs.Cost.{cost_of_badness}
use Rattle.tb_break.specs.Places.{last_or, begins_with_glue, ends_lasting, legal_penalty}
use Rattle.tb_break.specs.PageTop.{pruned_nodes}
use Rattle.tb_insert.specs.Terms.{Terms}
use Rattle.tb_builder.specs.Reach.{Reached, acted, tried, Reach, also_reached, page_place, stopped_at, reach_at, reach_at_place, reach_node, reach_from, holds_box}
use Rattle.tb_best.specs.PlacePrices.{sets_parameter, sets_any, is_place_behind}
use Rattle.tb_best.proofs.SteadyNodes.{first-false, second-false}
use Rattle.tb_best.proofs.PlacePricesParams.{ActsKeep}

-- ---- places

-- the place if its break is forced
abbrev pub forced_place : Breakpoint → Breakpoint
forced_place b = record b { penalty = eject_penalty; cost = eject_penalty }

-- one page breaks by force where another goes on: at a place of this line the first ends, and all else that it reached the other reached too; no act on the way sets a parameter
pub data BreaksOff (line : ℕ) : List Reached → List Reached → Type 0 where
  here : (b : Breakpoint) (rs : List Reached) → BreaksOff line (tried line b ∷ rs) (tried line (forced_place b) ∷ [])
  past_act : {rs qs : List Reached} (a : Act) → sets_parameter (act a) ≡ false → BreaksOff line rs qs → BreaksOff line (acted a ∷ rs) (acted a ∷ qs)
  past_try : {rs qs : List Reached} (l : ℕ) (b : Breakpoint) → BreaksOff line rs qs → BreaksOff line (tried l b ∷ rs) (tried l b ∷ qs)
  left_out : {rs qs : List Reached} (l : ℕ) (b : Breakpoint) → BreaksOff line rs qs → BreaksOff line (tried l b ∷ rs) qs

-- the acts of the page that breaks
pub broken-acts : {line : ℕ} {rs qs : List Reached} → BreaksOff line rs qs → ActsKeep qs
broken-acts (here b rs) = tt
broken-acts (past_act a e x) = (e, broken-acts x)
broken-acts (past_try l b x) = broken-acts x
broken-acts (left_out l b x) = broken-acts x

-- at a forced break the cost is -10000, if another break there is no stop
pub forced-cost : (b q i : ℤ) → int_le awful_bad (cost_of_badness b q i) ≡ false → cost_of_badness b eject_penalty i ≡ eject_penalty
unfolding cost_of_badness
forced-cost b q i h = by (int_le awful_bad b || int_le inf_bad i) h
  where
    by : (t : Bool) → int_le awful_bad (if t then awful_bad else (if int_le q eject_penalty then q else (if int_lt b inf_bad then b +ℤ q +ℤ i else deplorable))) ≡ false → (if t then awful_bad else eject_penalty) ≡ eject_penalty
    by true e = absurd (true≢false e)
    by false e = refl

-- ---- the nodes before

-- the nodes before a place, once these were passed
abbrev pub passed_by : List PlainNode → List PlainNode → List PlainNode
passed_by before [] = before
passed_by before (x ∷ xs) = passed_by (before ++ without_acts (x ∷ [])) xs

one-then : (x : PlainNode) (xs : List PlainNode) → without_acts (x ∷ []) ++ without_acts xs ≡ without_acts (x ∷ xs)
one-then x xs = by (not (is_act_kind x.kind))
  where
    by : (t : Bool) → (if t then x ∷ [] else []) ++ without_acts xs ≡ (if t then x ∷ without_acts xs else without_acts xs)
    by true = refl
    by false = refl

pub passed-all : (before xs : List PlainNode) → passed_by before xs ≡ before ++ without_acts xs
passed-all before [] = sym (append-nil before)
passed-all before (x ∷ xs) = passed-all (before ++ without_acts (x ∷ [])) xs ∙ append_assoc before (without_acts (x ∷ [])) (without_acts xs) ∙ ap (λ ns. before ++ ns) (one-then x xs)

-- behind a box, the last node lasts at the top of a page as it does in the list
abbrev lasts_or : Bool → List PlainNode → Bool
lasts_or d ns = last_or d (map (λ n. not (is_discardable n)) (map node_shape (without_acts ns)))

lasting-kind : (top : ℤ) (l : ℕ) (k : PlainKind) (ns : List PlainNode) → (holds_box ns ≡ true → (d e : Bool) → lasts_or d ns ≡ lasts_or e (pruned_nodes top ns)) → (d e : Bool)
    → holds_box (record { line = l; kind = k } ∷ ns) ≡ true → lasts_or d (record { line = l; kind = k } ∷ ns) ≡ lasts_or e (pruned_nodes top (record { line = l; kind = k } ∷ ns))
lasting-kind top l (plain (hbox w a b)) ns ih d e h = refl
lasting-kind top l (plain (rule w a b)) ns ih d e h = refl
lasting-kind top l (plain (skip g)) ns ih d e h = ih h false e
lasting-kind top l (plain (kerned g)) ns ih d e h = ih h false e
lasting-kind top l (plain (pen q)) ns ih d e h = ih h false e
lasting-kind top l (plain (mark w)) ns ih d e h = ih h true true
lasting-kind top l (plain (note w)) ns ih d e h = ih h true true
lasting-kind top l (plain whatsit) ns ih d e h = ih h true true
lasting-kind top l (ins i) ns ih d e h = ih h true true
lasting-kind top l (act a) ns ih d e h = ih h d e

lasting-stays : (top : ℤ) (ns : List PlainNode) → holds_box ns ≡ true → (d e : Bool) → lasts_or d ns ≡ lasts_or e (pruned_nodes top ns)
lasting-stays top [] h d e = absurd (true≢false (sym h))
lasting-stays top (n ∷ ns) h d e = lasting-kind top n.line n.kind ns (lasting-stays top ns) d e h

-- ---- the place

-- behind these nodes a place is legal before such a node, at this penalty
abbrev pub HasPlace : List PlainNode → Matter → ℤ → Type 0
HasPlace before m q = (line : ℕ) (rest : List PlainNode) → legal_penalty (map node_shape before) (map node_shape (record { line = line; kind = plain m } ∷ without_acts rest)) ≡ Some q

module _ (limit : ℤ) (terms : List PlainNode → Terms) (line : ℕ) (m : Matter) (q : ℤ) (more rest : List PlainNode) where
  abbrev node : PlainNode
  node = record { line = line; kind = plain m }

  abbrev cut : PlainNode
  cut = record { line = line; kind = plain (pen eject_penalty) }

  -- at the place one page goes on, and the other breaks
  at-cut : (before : List PlainNode) (later : Reach) → (reach_at limit terms before node more later (Some q)).fires ≡ false
      → BreaksOff line (reach_at limit terms before node more later (Some q)).reached (reach_from limit terms before (cut ∷ rest)).reached
  at-cut before later h = by_stop (is_stop b) refl h
    where
      b : Breakpoint
      b = page_place limit terms before q

      cut_is : int_le awful_bad b.cost ≡ false → (reach_from limit terms before (cut ∷ rest)).reached ≡ tried line (forced_place b) ∷ []
      cut_is e = ap (λ x. (reach_at_place before cut rest (reach_from limit terms (before ++ without_acts (cut ∷ [])) rest) x).reached) (ap (λ v. record b { penalty = eject_penalty; cost = v }) (forced-cost b.badness q (terms before).penalties e))

      by_stop : (t : Bool) → is_stop b ≡ t → (if t then stopped_at before node more b else also_reached (tried line b) later).fires ≡ false
          → BreaksOff line (if t then stopped_at before node more b else also_reached (tried line b) later).reached (reach_from limit terms before (cut ∷ rest)).reached
      by_stop true e f = absurd (true≢false f)
      by_stop false e f = subst (BreaksOff line (tried line b ∷ later.reached)) (sym (cut_is (first-false (int_le awful_bad b.cost) (int_le b.penalty eject_penalty) e))) (here b later.reached)

  -- ---- the nodes before it

  -- a place that both pages have
  both-at : (x : PlainNode) (before r s : List PlainNode) (w v : Reach) (o : Option ℤ) → (w.fires ≡ false → BreaksOff line w.reached v.reached)
      → (reach_at limit terms before x r w o).fires ≡ false → BreaksOff line (reach_at limit terms before x r w o).reached (reach_at limit terms before x s v o).reached
  both-at x before r s w v None ih h = ih h
  both-at x before r s w v (Some p) ih h = by_stop (is_stop b) h
    where
      b : Breakpoint
      b = page_place limit terms before p

      by_stop : (t : Bool) → (if t then stopped_at before x r b else also_reached (tried x.line b) w).fires ≡ false
          → BreaksOff line (if t then stopped_at before x r b else also_reached (tried x.line b) w).reached (if t then stopped_at before x s b else also_reached (tried x.line b) v).reached
      by_stop true e = absurd (true≢false e)
      by_stop false e = past_try x.line b (ih e)

  -- a place that the page has that goes on
  one-at : (x : PlainNode) (before r : List PlainNode) (w v : Reach) (p : ℤ) → (w.fires ≡ false → BreaksOff line w.reached v.reached)
      → (reach_at limit terms before x r w (Some p)).fires ≡ false → BreaksOff line (reach_at limit terms before x r w (Some p)).reached v.reached
  one-at x before r w v p ih h = by_stop (is_stop b) h
    where
      b : Breakpoint
      b = page_place limit terms before p

      by_stop : (t : Bool) → (if t then stopped_at before x r b else also_reached (tried x.line b) w).fires ≡ false
          → BreaksOff line (if t then stopped_at before x r b else also_reached (tried x.line b) w).reached v.reached
      by_stop true e = absurd (true≢false e)
      by_stop false e = left_out x.line b (ih e)

  -- before a kern that is last there is a place only if glue comes behind
  kern-at : (x : PlainNode) (before r s : List PlainNode) (w v : Reach) (g f : Bool) → (f ≡ true → g ≡ true) → (w.fires ≡ false → BreaksOff line w.reached v.reached)
      → (reach_at limit terms before x r w (if g then Some (pos 0) else None)).fires ≡ false
      → BreaksOff line (reach_at limit terms before x r w (if g then Some (pos 0) else None)).reached (reach_at limit terms before x s v (if f then Some (pos 0) else None)).reached
  kern-at x before r s w v true true glue ih h = both-at x before r s w v (Some (pos 0)) ih h
  kern-at x before r s w v true false glue ih h = one-at x before r w v (pos 0) ih h
  kern-at x before r s w v false true glue ih h = absurd (true≢false (sym (glue refl)))
  kern-at x before r s w v false false glue ih h = ih h

  -- the glue that comes first
  abbrev GlueFirst : List PlainNode → List PlainNode → Type 0
  GlueFirst r s = begins_with_glue (map node_shape (without_acts s)) ≡ true → begins_with_glue (map node_shape (without_acts r)) ≡ true

  glue-kind : (l : ℕ) (k : PlainKind) (r s : List PlainNode) → GlueFirst r s → GlueFirst (record { line = l; kind = k } ∷ r) (record { line = l; kind = k } ∷ s)
  glue-kind l (plain (hbox w a b)) r s ih h = h
  glue-kind l (plain (rule w a b)) r s ih h = h
  glue-kind l (plain (skip g)) r s ih h = h
  glue-kind l (plain (kerned g)) r s ih h = h
  glue-kind l (plain (pen p)) r s ih h = h
  glue-kind l (plain (mark w)) r s ih h = h
  glue-kind l (plain (note w)) r s ih h = h
  glue-kind l (plain whatsit) r s ih h = h
  glue-kind l (ins i) r s ih h = h
  glue-kind l (act a) r s ih h = ih h

  glue-first : (xs : List PlainNode) → GlueFirst (xs ++ node ∷ more) (xs ++ cut ∷ rest)
  glue-first [] h = absurd (true≢false (sym h))
  glue-first (x ∷ xs) h = glue-kind x.line x.kind (xs ++ node ∷ more) (xs ++ cut ∷ rest) (glue-first xs) h

  kind-cut : (before : List PlainNode) (l : ℕ) (k : PlainKind) (r s : List PlainNode) (w v : Reach) → sets_parameter k ≡ false → GlueFirst r s → (w.fires ≡ false → BreaksOff line w.reached v.reached)
      → (reach_node limit terms before (record { line = l; kind = k }) r w k).fires ≡ false
      → BreaksOff line (reach_node limit terms before (record { line = l; kind = k }) r w k).reached (reach_node limit terms before (record { line = l; kind = k }) s v k).reached
  kind-cut before l (plain (hbox a b d)) r s w v e glue ih h = ih h
  kind-cut before l (plain (rule a b d)) r s w v e glue ih h = ih h
  kind-cut before l (plain (skip g)) r s w v e glue ih h = both-at (record { line = l; kind = plain (skip g) }) before r s w v (if ends_lasting (map node_shape before) then Some (pos 0) else None) ih h
  kind-cut before l (plain (kerned g)) r s w v e glue ih h = kern-at (record { line = l; kind = plain (kerned g) }) before r s w v (begins_with_glue (map node_shape (without_acts r))) (begins_with_glue (map node_shape (without_acts s))) glue ih h
  kind-cut before l (plain (pen p)) r s w v e glue ih h = both-at (record { line = l; kind = plain (pen p) }) before r s w v (if int_lt p inf_penalty then Some p else None) ih h
  kind-cut before l (plain (mark a)) r s w v e glue ih h = ih h
  kind-cut before l (plain (note a)) r s w v e glue ih h = ih h
  kind-cut before l (plain whatsit) r s w v e glue ih h = ih h
  kind-cut before l (ins i) r s w v e glue ih h = ih h
  kind-cut before l (act a) r s w v e glue ih h = past_act a e (ih h)

  -- a page that does not fire, and the page that is broken before one of its nodes
  pub reach-cut : (before xs : List PlainNode) → sets_any xs ≡ false → HasPlace (passed_by before xs) m q → (reach_from limit terms before (xs ++ node ∷ more)).fires ≡ false
      → BreaksOff line (reach_from limit terms before (xs ++ node ∷ more)).reached (reach_from limit terms before (xs ++ cut ∷ rest)).reached
  reach-cut before [] steady place h = at-option (place line more) h
    where
      later : Reach
      later = reach_from limit terms (before ++ without_acts (node ∷ [])) more

      at-option : {o : Option ℤ} → o ≡ Some q → (reach_at limit terms before node more later o).fires ≡ false
          → BreaksOff line (reach_at limit terms before node more later o).reached (reach_from limit terms before (cut ∷ rest)).reached
      at-option e f =
          subst (λ o. (reach_at limit terms before node more later o).fires ≡ false → BreaksOff line (reach_at limit terms before node more later o).reached (reach_from limit terms before (cut ∷ rest)).reached) (sym e) (at-cut before later) f
  reach-cut before (x ∷ xs) steady place h =
      let b = before ++ without_acts (x ∷ []) in
      kind-cut before x.line x.kind (xs ++ node ∷ more) (xs ++ cut ∷ rest) (reach_from limit terms b (xs ++ node ∷ more)) (reach_from limit terms b (xs ++ cut ∷ rest))
      (first-false (sets_parameter x.kind) (sets_any xs) steady) (glue-first xs)
      (reach-cut b xs (second-false (sets_parameter x.kind) (sets_any xs) steady) place) h

-- ---- a place behind the nodes that wait

place-kind : (before ns : List PlainNode) (k : PlainKind) → is_place_behind ns k ≡ true → ends_lasting (map node_shape (without_acts ns)) ≡ ends_lasting (map node_shape before)
    → (m : Matter) × (q : ℤ) × (k ≡ plain m) × HasPlace before m q
place-kind before ns (plain (pen q)) h e = (pen q, q, refl, λ line rest. ap (λ t. if t then Some q else None) h)
place-kind before ns (plain (skip g)) h e = (skip g, pos 0, refl, λ line rest. ap (λ t. if t then Some (pos 0) else None) (sym e ∙ h))
place-kind before ns k h e = absurd (true≢false (sym h))

-- a place behind the nodes that wait is one behind those that do not vanish at the top of the page
pub place-behind : (top : ℤ) (ns : List PlainNode) (k : PlainKind) → holds_box ns ≡ true → is_place_behind ns k ≡ true
    → (m : Matter) × (q : ℤ) × (k ≡ plain m) × HasPlace (passed_by [] (pruned_nodes top ns)) m q
place-behind top ns k box h =
    place-kind (passed_by [] (pruned_nodes top ns)) ns k h (lasting-stays top ns box false false ∙ ap (λ xs. ends_lasting (map node_shape xs)) (sym (passed-all [] (pruned_nodes top ns))))
