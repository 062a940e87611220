-- A run of the page makeup ends because it is done, for its pages or for its nodes, and never for its steps.
use Rattle.std.proofs.Common.{◌≡◌, refl, sym, ◌∙◌, ap, ℕ, ℤ, zero, suc, pos, ◌+◌, ◌≤◌, inl, Bool, true, false, List, [], ◌∷◌, ◌++◌, length, Option, Some, None, add-zero, arith, length-append}
use Rattle.std.specs.Prelude.{pred, int_lt, ◌<ℤ◌, ◌≤ℤ◌, if◌then◌else◌}
use Rattle.std.proofs.lemmas.Int.{ints}
use Rattle.std.proofs.lemmas.Bool.{true≢false}
use Rattle.tb_node.specs.PlainNodes.{PlainKind, plain, ins, act, PlainNode, without_acts}
use Rattle.tb_param.specs.declared.Params.{Params}
use Rattle.tb_break.specs.Best.{Breakpoint, is_stop}
use Rattle.tb_insert.specs.Terms.{Terms}
use Rattle.tb_insert.specs.Account.{terms_after}
use Rattle.tb_builder.specs.Reach.{tried, Reach, also_reached, laid_out, page_place, stopped_at, reach_at_place, reach_at, reach_node, reach_from}
use Rattle.tb_builder.specs.FiredPages.{Fired, frozen_for}
use Rattle.tb_builder.specs.Contents.{node_count}
use Rattle.tb_sheet.specs.Sheet.{PlainSent}
use Rattle.tb_plain.specs.GalleyNodes.{made_up}
use Rattle.tb_plain.specs.Run.{MakeupState, MakeupEnd, done, page_limit, node_limit, MakeupRun, MakeupStep, ends, goes_on, makeup_ask, makeup_classes, void_boxes, makeup_reach, AtAct, no_act, at_act, after_node, first_act_by, first_act, meets_act, act_step, waiting_after, firing_step, last_step, makeup_step, step_tries, sent_of, makeup_from, one_act, act_count, steps_left, first_makeup, makeup_of}
use Rattle.tb_plain.specs.RunSteps.{HasReason, EndsHaveReasons}
use Rattle.tb_plain.proofs.StepLemmas.{acts-laid, Enough, Falls, step-falls, not-enough}
use Rattle.tb_plain.proofs.SentLemmas.{StepBy, run-sends}
use Rattle.tb_plain.proofs.ReachLemmas.{fired_here, makeup-cut, firing-cases, step-cases}

-- ---- an act that is reached waits

module _ (limit : ℤ) (terms : List PlainNode → Terms) where
  place-met : (before : List PlainNode) (n : PlainNode) (rest : List PlainNode) (later : Reach) (b : Breakpoint) → meets_act later.reached ≡ false → meets_act (reach_at_place before n rest later b).reached ≡ false
  place-met before n rest later b h = by_stop (is_stop b)
    where
      by_stop : (t : Bool) → meets_act (if t then stopped_at before n rest b else also_reached (tried n.line b) later).reached ≡ false
      by_stop true = refl
      by_stop false = h

  at-met : (before : List PlainNode) (n : PlainNode) (rest : List PlainNode) (later : Reach) (o : Option ℤ) → meets_act later.reached ≡ false → meets_act (reach_at limit terms before n rest later o).reached ≡ false
  at-met before n rest later None h = h
  at-met before n rest later (Some p) h = place-met before n rest later (page_place limit terms before p) h

  node-met : (before : List PlainNode) (n : PlainNode) (rest : List PlainNode) (later : Reach) (k : PlainKind) → one_act k ≡ 0 → meets_act later.reached ≡ false → meets_act (reach_node limit terms before n rest later k).reached ≡ false
  node-met before n rest later (plain m) e h = at-met before n rest later _ h
  node-met before n rest later (ins i) e h = h
  node-met before n rest later (act a) e h = let no : ⊥ = omega (arith, e) in absurd no

  none-met : (before rest : List PlainNode) → act_count rest ≡ 0 → meets_act (reach_from limit terms before rest).reached ≡ false
  none-met before [] e = refl
  none-met before (n ∷ rest) e = node-met before n rest (reach_from limit terms (before ++ without_acts (n ∷ [])) rest) n.kind (omega (arith, e)) (none-met (before ++ without_acts (n ∷ [])) rest (omega (arith, e)))

-- no act comes before the first
abbrev NoneBefore : AtAct → List PlainNode → Type 0
NoneBefore no_act ns = act_count ns ≡ 0
NoneBefore (at_act before a after) ns = act_count before ≡ 0

after-none : (n : PlainNode) (ns : List PlainNode) (x : AtAct) → one_act n.kind ≡ 0 → NoneBefore x ns → NoneBefore (after_node n x) (n ∷ ns)
after-none n ns no_act e h = omega (arith, e, h)
after-none n ns (at_act before a after) e h = omega (arith, e, h)

node-none : (l : ℕ) (k : PlainKind) (ns : List PlainNode) → NoneBefore (first_act ns) ns → (let m : PlainNode = record { line = l; kind = k } in NoneBefore (first_act_by m ns (first_act ns) k) (m ∷ ns))
node-none l (plain m) ns h = after-none (record { line = l; kind = plain m }) ns (first_act ns) refl h
node-none l (ins i) ns h = after-none (record { line = l; kind = ins i }) ns (first_act ns) refl h
node-none l (act a) ns h = refl

first-none : (ns : List PlainNode) → NoneBefore (first_act ns) ns
first-none [] = refl
first-none (n ∷ ns) = node-none n.line n.kind ns (first-none ns)

node-left : (l : ℕ) (k : PlainKind) (ns : List PlainNode) → act_count (without_acts ns) ≡ 0 → act_count (without_acts (record { line = l; kind = k } ∷ ns)) ≡ 0
node-left l (plain m) ns h = omega (arith, h)
node-left l (ins i) ns h = omega (arith, h)
node-left l (act a) ns h = h

none-left : (ns : List PlainNode) → act_count (without_acts ns) ≡ 0
none-left [] = refl
none-left (n ∷ ns) = node-left n.line n.kind ns (none-left ns)

-- ---- a step

-- why a run from a state ended
abbrev RunReason : Params → MakeupState → List PlainSent → MakeupEnd → Type 0
RunReason p s es done = Unit {0}
RunReason p s es (page_limit n) = (pred s.number + length es ≡ n) × (p.maxpages ≤ℤ pos n)
RunReason p s es (node_limit n) = p.maxnodes <ℤ pos n

-- a page that ships is numbered, and no act is on a page
abbrev StepReason : Params → MakeupState → MakeupStep → Type 0
StepReason p s (ends es e) = RunReason p s es e
StepReason p s (goes_on es t) = (pred s.number + length es ≡ pred t.number) × (act_count t.page ≡ 0)

act-reason : (p : Params) (s : MakeupState) (x : AtAct) → act_count s.page ≡ 0 → (act_count s.waiting ≡ 0 → ⊥) → NoneBefore x s.waiting → StepReason p s (act_step p s x)
act-reason p s no_act e some h = absurd (some h)
act-reason p s (at_act before a after) e some h =
    let laid : act_count (laid_out p.topskip s.page before) ≡ act_count s.page + act_count before = acts-laid p.topskip s.page before in
    (add-zero (pred s.number), omega (arith, laid, e, h))

next-number : (n : ℕ) → 1 ≤ n → pred n + 1 ≡ pred (n + 1)
next-number zero h = let no : ⊥ = omega arith in absurd no
next-number (suc n) h = omega arith

at-limit : (a : ℤ) (n : ℕ) → 1 ≤ n → int_lt a (pos n) ≡ true → a ≤ℤ pos (pred n)
at-limit a zero h e = let no : ⊥ = omega arith in absurd no
at-limit a (suc n) h e = grind (arith, ints, e)

above : (a : ℤ) (n : ℕ) → int_lt a (pos n) ≡ true → a <ℤ pos n
above a n e = grind (arith, ints, e)

firing-reason : (p : Params) (s : MakeupState) (f : Fired) → 1 ≤ s.number → StepReason p s (firing_step p s.number f)
firing-reason p s f n =
    firing-cases (StepReason p s) p s.number f (λ e. (add-zero (pred s.number), at-limit p.maxpages s.number n e)) (λ t e. above p.maxnodes (node_count (waiting_after p f)) e) (λ t. (next-number s.number n, refl))

last-reason : (p : Params) (s : MakeupState) (page : List PlainNode) → act_count page ≡ 0 → StepReason p s (last_step s page)
last-reason p s [] h = tt
last-reason p s (n ∷ ns) h = (add-zero (pred s.number), h)

step-reason : (p : Params) (s : MakeupState) → 1 ≤ s.number → act_count s.page ≡ 0 → StepReason p s (makeup_step p s)
step-reason p s n none = step-cases (StepReason p s) p s (λ m. act-reason p s (first_act s.waiting) none (some m) (first-none s.waiting)) (λ m. firing-reason p s (fired_here p w) n) (λ m e. last-reason p s w.passed passed)
  where
    w : Reach
    w = makeup_reach p s

    passed : act_count w.passed ≡ 0
    passed = ap act_count (makeup-cut p s).passed ∙ none-left (makeup-cut p s).front

    some : meets_act w.reached ≡ true → act_count s.waiting ≡ 0 → ⊥
    some m e =
        let laid : act_count (laid_out p.topskip s.page s.waiting) ≡ act_count s.page + act_count s.waiting = acts-laid p.topskip s.page s.waiting in
        true≢false (sym m ∙ none-met p.maxdepth (terms_after (frozen_for (makeup_ask p) (makeup_classes p) void_boxes)) [] (laid_out p.topskip s.page s.waiting) (omega (arith, laid, none, e)))

-- ---- the run

with-more : (p : Params) (s t : MakeupState) (es fs : List PlainSent) (e : MakeupEnd) → pred s.number + length es ≡ pred t.number → RunReason p t fs e → RunReason p s (es ++ fs) e
with-more p s t es fs done h r = tt
with-more p s t es fs (page_limit n) h r =
    let a : length (es ++ fs) ≡ length es + length fs = length-append es fs in
    let b : pred t.number + length fs ≡ n = r.0 in
    (omega (arith, a, b, h), r.1)
with-more p s t es fs (node_limit n) h r = r

by-reason : (p : Params) (s : MakeupState) (k : ℕ) → ((t : MakeupState) → 1 ≤ t.number → act_count t.page ≡ 0 → Enough p t k → RunReason p t (sent_of (makeup_from p k t)) (makeup_from p k t).end) → Enough p s (suc k) → (x : MakeupStep) → Falls p s x → StepReason p s x
    → StepBy (RunReason p s) (λ t. makeup_from p k t) x
by-reason p s k h enough (ends es e) falls r = r
by-reason p s k h enough (goes_on es t) falls r = with-more p s t es (sent_of (makeup_from p k t)) (makeup_from p k t).end r.0 (h t falls.0 r.1 (falls.1 k enough))

run-reason : (p : Params) (k : ℕ) (s : MakeupState) → 1 ≤ s.number → act_count s.page ≡ 0 → Enough p s k → RunReason p s (sent_of (makeup_from p k s)) (makeup_from p k s).end
unfolding makeup_from
run-reason p zero s n none enough = absurd (not-enough p s enough)
run-reason p (suc k) s n none enough =
    run-sends (RunReason p s) (λ t. makeup_from p k t) (step_tries p s) (makeup_step p s) (by-reason p s k (λ t i j x. run-reason p k t i j x) enough (makeup_step p s) (step-falls p s n) (step-reason p s n none))

from-first : (p : Params) (ns : List PlainNode) (es : List PlainSent) (e : MakeupEnd) → RunReason p (first_makeup ns) es e → HasReason p es e
from-first p ns es done r = tt
from-first p ns es (page_limit n) r = (let a : pred 1 + length es ≡ n = r.0 in omega arith, r.1)
from-first p ns es (node_limit n) r = r

pub ends_have_reasons : EndsHaveReasons
unfolding makeup_of
ends_have_reasons g = by_nodes (int_lt g.params.maxnodes (pos (node_count (made_up g)))) refl
  where
    first : MakeupState
    first = first_makeup (made_up g)

    r : MakeupRun
    r = makeup_from g.params (suc (steps_left g.params first)) first

    by_nodes : (t : Bool) → int_lt g.params.maxnodes (pos (node_count (made_up g))) ≡ t → HasReason g.params (sent_of (if t then record { events = []; end = node_limit (node_count (made_up g)) } else r)) (if t then record { events = []; end = node_limit (node_count (made_up g)) } else r).end
    by_nodes true e = above g.params.maxnodes (node_count (made_up g)) e
    by_nodes false e = from-first g.params (made_up g) (sent_of r) r.end (run-reason g.params (suc (steps_left g.params first)) first (omega arith) refl (inl (omega arith)))
