-- Each place that is tried in a step has a badness of at least 0 and a penalty below 10000.
use Rattle.std.proofs.Common.{◌≡◌, refl, ℕ, ◌≤ℤ◌, ℤ, pos, Bool, true, false, List, [], ◌∷◌, ◌++◌, map, Option, Some, None, arith}
use Rattle.std.specs.Prelude.{negsuc, ◌<ℤ◌, ◌-ℤ◌, ◌*ℤ◌, ◌+ℤ◌, int_lt, int_le, int_div, IfSome, if◌then◌else◌}
use Rattle.std.proofs.lemmas.Int.{ints}
use Rattle.tb_scaled.specs.Scaled.{awful_bad, inf_bad, inf_penalty, badness_ratio, cubed_ratio, badness_of}
use Rattle.tb_node.specs.Shape.{Shape, box, glue, kern, penalty, other}
use Rattle.tb_node.specs.declared.Sums.{Sums}
use Rattle.tb_node.specs.PlainNodes.{PlainKind, plain, ins, act, PlainNode, node_shape, without_acts}
use Rattle.tb_break.specs.Best.{Breakpoint, is_stop}
use Rattle.tb_break.specs.Cost.{finite_stretch, stretches_infinitely, page_badness}
use Rattle.tb_break.specs.Places.{begins_with_glue, ends_lasting, legal_penalty}
use Rattle.tb_insert.specs.Terms.{Terms}
use Rattle.tb_insert.specs.Account.{terms_after}
use Rattle.tb_sheet.specs.Sheet.{PlainSent, warned}
use Rattle.tb_sheet.specs.declared.Warn.{Warn}
use Rattle.tb_builder.specs.declared.Try.{Try}
use Rattle.tb_builder.specs.Reach.{Reached, acted, tried, Reach, also_reached, page_place, reach_at, reach_node, reach_from, stopped_at, laid_out}
use Rattle.tb_builder.specs.FiredPages.{frozen_for}
use Rattle.tb_output.specs.State.{State}
use Rattle.tb_items.specs.RunEvents.{RunEvent, offered, sent}
use Rattle.tb_steps.specs.Run.{Step, ends, goes_on, step_events, step, ask_for}
use Rattle.tb_steps.proofs.RunTree.{served_at, step-is}
use Rattle.tb_steps.proofs.RunFolds.{RunLaw, StepHolds, step-holds}
use Rattle.tb_rate.specs.Rating.{IsTried}
use Rattle.tb_rate.specs.Tries.{later_champion, champion_or, last_champion}

-- ---- a place

cubed-by : (n : ℕ) (t : Bool) → pos 0 ≤ℤ (if t then inf_bad else int_div (pos n *ℤ pos n *ℤ pos n +ℤ pos 131072) (pos 262144))
cubed-by n true = omega (arith, ints)
cubed-by n false = omega (arith, ints)

low-cubed : (r : ℤ) → pos 0 ≤ℤ r → pos 0 ≤ℤ cubed_ratio r
low-cubed (pos n) h = cubed-by n (int_lt (pos 1290) (pos n))
low-cubed (negsuc n) h = absurd (omega (arith, ints))

ratio-by : (t s : ℕ) (u v : Bool) → pos 0 ≤ℤ (if u then int_div (pos t *ℤ pos 297) (pos s) else (if v then int_div (pos t) (int_div (pos s) (pos 297)) else pos t))
ratio-by t s true v = omega (arith, ints)
ratio-by t s false true = omega (arith, ints)
ratio-by t s false false = omega (arith, ints)

low-ratio : (t s : ℤ) → int_le t (pos 0) ≡ false → int_le s (pos 0) ≡ false → pos 0 ≤ℤ badness_ratio t s
low-ratio (pos t) (pos s) h k = ratio-by t s (int_le (pos t) (pos 7230584)) (int_le (pos 1663497) (pos s))
low-ratio (pos t) (negsuc s) h k = absurd (grind (arith, ints))
low-ratio (negsuc t) s h k = absurd (grind (arith, ints))

low-by : (t s : ℤ) (u v : Bool) → int_le t (pos 0) ≡ u → int_le s (pos 0) ≡ v → pos 0 ≤ℤ (if u then pos 0 else (if v then inf_bad else cubed_ratio (badness_ratio t s)))
low-by t s true v e f = omega (arith, ints)
low-by t s false true e f = omega (arith, ints)
low-by t s false false e f = low-cubed (badness_ratio t s) (low-ratio t s e f)

low-badness : (t s : ℤ) → pos 0 ≤ℤ badness_of t s
unfolding badness_of
low-badness t s = low-by t s (int_le t (pos 0)) (int_le s (pos 0)) refl refl

low-under : (s : Sums) (g : ℤ) (t : Bool) → pos 0 ≤ℤ (if t then pos 0 else badness_of (g -ℤ s.total) (finite_stretch s.stretch))
low-under s g true = omega (arith, ints)
low-under s g false = low-badness (g -ℤ s.total) (finite_stretch s.stretch)

low-over : (s : Sums) (g : ℤ) (t : Bool) → pos 0 ≤ℤ (if t then awful_bad else badness_of (s.total -ℤ g) s.shrink)
low-over s g true = omega (arith, ints)
low-over s g false = low-badness (s.total -ℤ g) s.shrink

low-either : (s : Sums) (g : ℤ) (t : Bool)
    → pos 0 ≤ℤ (if t then (if stretches_infinitely s.stretch then pos 0 else badness_of (g -ℤ s.total) (finite_stretch s.stretch)) else (if int_lt s.shrink (s.total -ℤ g) then awful_bad else badness_of (s.total -ℤ g) s.shrink))
low-either s g true = low-under s g (stretches_infinitely s.stretch)
low-either s g false = low-over s g (int_lt s.shrink (s.total -ℤ g))

low-page : (s : Sums) (g : ℤ) → pos 0 ≤ℤ page_badness s g
unfolding page_badness
low-page s g = low-either s g (int_lt s.total g)

-- the penalty of a legal place
abbrev IsBelow : Option ℤ → Type 0
IsBelow None = Unit {0}
IsBelow (Some p) = p <ℤ pos 10000

none-by : (t : Bool) → IsBelow (if t then Some (pos 0) else None)
none-by true = omega (arith, ints)
none-by false = tt

below-by : (p : ℤ) (t : Bool) → int_lt p inf_penalty ≡ t → IsBelow (if t then Some p else None)
below-by p true e = grind (arith, ints)
below-by p false e = tt

legal-below : (before ns : List Shape) → IsBelow (legal_penalty before ns)
legal-below before [] = tt
legal-below before (box h d ∷ rest) = tt
legal-below before (glue g ∷ rest) = none-by (ends_lasting before)
legal-below before (kern w ∷ rest) = none-by (begins_with_glue rest)
legal-below before (penalty p ∷ rest) = below-by p (int_lt p inf_penalty) refl
legal-below before (other ∷ rest) = tt

-- ---- what is reached

abbrev IsPlace : Reached → Type 0
IsPlace (acted a) = Unit {0}
IsPlace (tried line b) = (pos 0 ≤ℤ b.badness) × (b.penalty <ℤ pos 10000)

abbrev ArePlaces : List Reached → Type 0
ArePlaces [] = Unit {0}
ArePlaces (r ∷ rs) = IsPlace r × ArePlaces rs

module _ (limit : ℤ) (terms : List PlainNode → Terms) (before : List PlainNode) (n : PlainNode) (rest : List PlainNode) (later : Reach) (h : ArePlaces later.reached) where
  place-by : (b : Breakpoint) → IsPlace (tried n.line b) → (t : Bool) → ArePlaces (if t then stopped_at before n rest b else also_reached (tried n.line b) later).reached
  place-by b k true = (k, tt)
  place-by b k false = (k, h)

  at-place : (o : Option ℤ) → IsBelow o → ArePlaces (reach_at limit terms before n rest later o).reached
  at-place None k = h
  at-place (Some p) k =
      let b = page_place limit terms before p in
      place-by b (low-page b.sums b.goal, k) (is_stop b)

  node-places : (k : PlainKind) → ArePlaces (reach_node limit terms before n rest later k).reached
  node-places (plain m) = at-place (legal_penalty (map node_shape before) (map node_shape (n ∷ without_acts rest))) (legal-below (map node_shape before) (map node_shape (n ∷ without_acts rest)))
  node-places (ins i) = h
  node-places (act a) = (tt, h)

reached-places : (limit : ℤ) (terms : List PlainNode → Terms) (before ns : List PlainNode) → ArePlaces (reach_from limit terms before ns).reached
reached-places limit terms before [] = tt
reached-places limit terms before (n ∷ rest) = node-places limit terms before n rest _ (reached-places limit terms (before ++ without_acts (n ∷ [])) rest) n.kind

-- ---- the events of a step

-- each place among these is as the page builder tries it
abbrev pub AreTried : List RunEvent → Type 0
AreTried [] = Unit {0}
AreTried (offered t ∷ es) = IsTried t × AreTried es
AreTried (sent e ∷ es) = AreTried es

both-tried : (xs ys : List RunEvent) → AreTried xs → AreTried ys → AreTried (xs ++ ys)
both-tried [] ys h k = k
both-tried (offered t ∷ xs) ys h k = (h.0, both-tried xs ys h.1 k)
both-tried (sent e ∷ xs) ys h k = both-tried xs ys h k

sent-tried : (es : List PlainSent) → AreTried (map sent es)
sent-tried [] = tt
sent-tried (e ∷ es) = sent-tried es

warned-tried : (ws : List Warn) → AreTried (map (λ w. sent (warned w)) ws)
warned-tried [] = tt
warned-tried (w ∷ ws) = warned-tried ws

abbrev trying : RunLaw
trying = record {
  shows = record { holds = λ es rs. AreTried es; none = tt; both = λ es fs rs qs h k. both-tried es fs h k };
  between = λ s. Unit {0};
  within = λ o rs s. ArePlaces rs;
  begins = λ s h. reached-places (ask_for s).max_depth (terms_after (frozen_for (ask_for s) s.classes s.boxes)) [] (laid_out (ask_for s).top_skip [] s.waiting);
  tries = λ o line b least rs s h. ((record { badness = h.0.0; penalty = h.0.1 }, tt), h.1);
  acts = λ o s t a ws records rs m h. (warned-tried ws, h.1);
  fires = λ o s h. (sent-tried (served_at o s).sent, tt);
  stops = λ o s h. tt;
}

-- each place that is tried in a step
pub step-tried : (s : State) → AreTried (step_events (step s))
step-tried s = by_step (step s) (step-holds trying (step-is s) tt)
  where
    by_step : (x : Step) → StepHolds trying x → AreTried (step_events x)
    by_step (ends es rs e) h = h
    by_step (goes_on es rs t) h = h.0

-- ---- the break

later-tried : (t : Bool) (x : Try) (best : Option Try) → IsTried x → IfSome best IsTried → IfSome (if t then Some x else best) IsTried
later-tried true x best h k = h
later-tried false x best h k = k

champion-tried : (best : Option Try) (es : List RunEvent) → IfSome best IsTried → AreTried es → IfSome (champion_or best es) IsTried
champion-tried best [] k h = k
champion-tried best (offered t ∷ es) k h = champion-tried (later_champion best t) es (later-tried t.champion t best h.0 k) h.1
champion-tried best (sent e ∷ es) k h = champion-tried best es k h

-- the place at which a page broke
pub last-tried : (es : List RunEvent) → AreTried es → IfSome (last_champion es) IsTried
last-tried es h = champion-tried None es tt h
