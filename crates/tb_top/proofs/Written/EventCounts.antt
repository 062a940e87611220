-- How many warnings and pages a step of a run sends: a warning for each act that it reaches and two at its firing, and a page for each
-- step of the page number.
use Rattle.std.proofs.Common.{◌≡◌, refl, ◌∙◌, ap, ℕ, suc, ◌+◌, ◌≤◌, Bool, true, false, List, [], ◌∷◌, ◌++◌, map, length, Option, Some, None, arith}
use Rattle.std.specs.Prelude.{ℤ, nat_abs, if◌then◌else◌}
use Rattle.tb_node.specs.Shape.{Shape, box}
use Rattle.tb_node.specs.declared.Act.{Act}
use Rattle.tb_node.specs.PlainNodes.{PlainKind, plain, ins, act, PlainNode, node_shape, skip, without_acts}
use Rattle.tb_param.specs.declared.Params.{Params}
use Rattle.tb_break.specs.Best.{Breakpoint, is_stop}
use Rattle.tb_break.specs.Places.{legal_penalty}
use Rattle.tb_break.specs.PageTop.{pruned_at, pruned_nodes}
use Rattle.tb_insert.specs.Terms.{Terms}
use Rattle.tb_insert.specs.Account.{terms_after}
use Rattle.tb_builder.specs.Reach.{Reached, acted, tried, Reach, also_reached, page_place, reach_at, reach_node, reach_from, stopped_at}
use Rattle.tb_builder.specs.FiredPages.{frozen_for}
use Rattle.tb_sheet.specs.Sheet.{PlainSent, warned}
use Rattle.tb_sheet.specs.declared.Warn.{Warn}
use Rattle.tb_output.specs.State.{State, Work, Recorded, begun}
use Rattle.tb_output.specs.Output.{after_page}
use Rattle.tb_output.proofs.KeptParams.{out-keeps-params}
use Rattle.tb_laws.proofs.StepLaws.SentCounts.{warning_count, page_count, warnings-append, pages-append, SendsFew, out-few}
use Rattle.tb_items.specs.RunEvents.{RunEvent, offered, sent}
use Rattle.tb_steps.specs.Run.{Step, ends, goes_on, step, ask_for}
use Rattle.tb_steps.proofs.RunTree.{ActMove, PageMoves, page_of, fired_at, served_at, WholePage, StepIs, step-is, takes_float, shows_try, does_act, rests, moves, fires_on, meets_page_limit, meets_node_limit, meets_cycle_limit, is_done, meets_full_pool}
use Rattle.tb_laws.specs.DviPages.{sent_among}
use Rattle.tb_laws.proofs.Defined.FuelLemmas.{SameCounts, page-counts}

-- ---- what is sent among events

pub among-append : (xs ys : List RunEvent) → sent_among (xs ++ ys) ≡ sent_among xs ++ sent_among ys
among-append [] ys = refl
among-append (offered t ∷ xs) ys = among-append xs ys
among-append (sent e ∷ xs) ys = ap (λ es. e ∷ es) (among-append xs ys)

pub among-sent : (es : List PlainSent) → sent_among (map sent es) ≡ es
among-sent [] = refl
among-sent (e ∷ es) = ap (λ xs. e ∷ xs) (among-sent es)

-- at most this many warnings, and this many pages
record Counts (warnings pages : ℕ) (es : List RunEvent) : Type 0 where
  few : warning_count (sent_among es) ≤ warnings
  all : page_count (sent_among es) ≡ pages

both : {a b c d : ℕ} (xs ys : List RunEvent) → Counts a b xs → Counts c d ys → Counts (a + c) (b + d) (xs ++ ys)
both xs ys h k =
    let e = ap warning_count (among-append xs ys) ∙ warnings-append (sent_among xs) (sent_among ys) in
    let f = ap page_count (among-append xs ys) ∙ pages-append (sent_among xs) (sent_among ys) in
    let i = h.few in let j = k.few in let l = h.all in let m = k.all in
    record { few = omega (arith, e, i, j); all = omega (arith, f, l, m) }

-- ---- acts

warnings-told : (ws : List Warn) → Counts (length ws) 0 (map (λ w. sent (warned w)) ws)
warnings-told [] = record { few = omega arith; all = refl }
warnings-told (w ∷ ws) = let h = warnings-told ws in let i = h.few in record { few = omega (arith, i); all = h.all }

large-once : (p : Params) (t : Bool) (w : Warn) → length (if t then w ∷ [] else []) ≤ 1
large-once p true w = omega arith
large-once p false w = omega arith

act-once : {p : Params} {s t : State} {a : Act} {ws : List Warn} {rs : List Recorded} → ActMove p s a t ws rs → length ws ≤ 1
act-once {p = p} (takes_float f r) = large-once p _ _
act-once m = omega arith

abbrev acts_among : List Reached → ℕ
acts_among [] = 0
acts_among (acted a ∷ rs) = suc (acts_among rs)
acts_among (tried line b ∷ rs) = acts_among rs

page-few : {rs qs : List Reached} {s t : State} {es : List RunEvent} {records : List Recorded} → PageMoves rs s es records qs t → Counts (acts_among rs) 0 es
page-few rests = record { few = omega arith; all = refl }
page-few (moves (shows_try line b least rs) x) = let h = page-few x in record { few = h.few; all = h.all }
page-few (moves {fs = fs} (does_act {ws = ws} a rs m) x) =
    let c = both (map (λ w. sent (warned w)) ws) fs (warnings-told ws) (page-few x) in
    let f = c.few in let k = act-once m in record { few = omega (arith, f, k); all = c.all }

-- ---- the acts that are reached

module _ (limit : ℤ) (terms : List PlainNode → Terms) (before : List PlainNode) (n : PlainNode) (rest : List PlainNode) (later : Reach) (k : ℕ) (few : acts_among later.reached ≤ k) where
  place-acts : (b : Breakpoint) (t : Bool) → acts_among (if t then stopped_at before n rest b else also_reached (tried n.line b) later).reached ≤ suc k
  place-acts b true = omega arith
  place-acts b false = omega (arith, few)

  at-acts : (o : Option ℤ) → acts_among (reach_at limit terms before n rest later o).reached ≤ suc k
  at-acts None = omega (arith, few)
  at-acts (Some p) = place-acts (page_place limit terms before p) (is_stop (page_place limit terms before p))

  node-acts : (c : PlainKind) → acts_among (reach_node limit terms before n rest later c).reached ≤ suc k
  node-acts (plain m) = at-acts (legal_penalty (map node_shape before) (map node_shape (n ∷ without_acts rest)))
  node-acts (ins i) = omega (arith, few)
  node-acts (act a) = omega (arith, few)

from-acts : (limit : ℤ) (terms : List PlainNode → Terms) (before ns : List PlainNode) → acts_among (reach_from limit terms before ns).reached ≤ length ns
from-acts limit terms before [] = omega arith
from-acts limit terms before (n ∷ rest) = node-acts limit terms before n rest _ (length rest) (from-acts limit terms (before ++ without_acts (n ∷ [])) rest) n.kind

pruned-longest : (top : ℤ) (ns : List PlainNode) → length (pruned_nodes top ns) ≤ suc (length ns)
pruned-longest top [] = omega arith
pruned-longest top (n ∷ ns) = by_shape (node_shape n) (pruned-longest top ns)
  where
    by_shape : (s : Shape) → length (pruned_nodes top ns) ≤ suc (length ns) → length (pruned_at (λ m g. record { line = m.line; kind = plain (skip g) }) top s n ns (pruned_nodes top ns)) ≤ suc (suc (length ns))
    by_shape (box h d) k = omega arith
    by_shape s k = omega (arith, k)

-- ---- a step

-- a step sends so few, and no more pages than may be
pub record SendsIn (s : State) (es : List RunEvent) : Type 0 where
  pub warnings : warning_count (sent_among es) ≤ length s.waiting + 3
  pub limit : s.page ≤ nat_abs s.params.maxpages + 1 → page_count (sent_among es) + s.page ≤ nat_abs s.params.maxpages + 1

-- if it goes on, the page number rose by the pages, and their limit is as before
abbrev pub SendsBy : State → Step → Type 0
SendsBy s (ends es rs e) = SendsIn s es
SendsBy s (goes_on es rs t) = SendsIn s es × (page_count (sent_among es) + s.page ≡ t.page) × (t.params.maxpages ≡ s.params.maxpages)

module _ (p : Params) (s : State) (es : List RunEvent) (w : Work) (start : Work) (none : start.sent ≡ []) (page : start.state.page ≡ s.page) (pages : p.maxpages ≡ s.params.maxpages) (few : Counts (length s.waiting + 1) 0 es) (h : SendsFew p 2 start w) where
  whole : List RunEvent
  whole = es ++ map sent w.sent

  told : warning_count (sent_among whole) ≤ length s.waiting + 3 × page_count (sent_among whole) + s.page ≡ w.state.page
  unfolding whole
  told =
      let e = ap warning_count (among-append es (map sent w.sent)) ∙ warnings-append (sent_among es) (sent_among (map sent w.sent)) ∙ ap (λ xs. warning_count (sent_among es) + warning_count xs) (among-sent w.sent) in
      let f = ap page_count (among-append es (map sent w.sent)) ∙ pages-append (sent_among es) (sent_among (map sent w.sent)) ∙ ap (λ xs. page_count (sent_among es) + page_count xs) (among-sent w.sent) in
      let a = few.few in let b = few.all in let c = h.warnings in let d = h.pages in
      let z = ap warning_count none in let y = ap page_count none in
      (omega (arith, e, a, c, z), omega (arith, f, b, d, y, page))

  sends-in : SendsIn s whole
  sends-in =
      let t = told in
      let u = t.1 in
      let m = ap nat_abs pages in
      record { warnings = t.0; limit = λ k. let l = h.limit (let q : start.state.page ≤ nat_abs p.maxpages + 1 = omega (arith, page, m, k) in q) in omega (arith, l, m, u) }

  fired-sends : SendsIn s (es ++ map sent w.sent) × (page_count (sent_among (es ++ map sent w.sent)) + s.page ≡ w.state.page)
  unfolding whole
  fired-sends = (sends-in, told.1)

quiet-in : (s : State) (es : List RunEvent) → Counts (length s.waiting + 1) 0 es → SendsIn s es
quiet-in s es h = let a = h.few in let b = h.all in record { warnings = omega (arith, a); limit = λ k. omega (arith, b, k) }

module _ {s : State} where
  on_page : {qs : List Reached} {t : State} {es : List RunEvent} {rs : List Recorded} → PageMoves (page_of s).reached s es rs qs t → Counts (length s.waiting + 1) 0 es
  on_page x =
      let c = page-few x in
      let a = from-acts (ask_for s).max_depth (terms_after (frozen_for (ask_for s) s.classes s.boxes)) [] (pruned_nodes (ask_for s).top_skip s.waiting) in
      let b = pruned-longest (ask_for s).top_skip s.waiting in
      let f = c.few in
      record { few = omega (arith, f, a, b); all = c.all }

  on_firing : {t : State} {es : List RunEvent} {rs : List Recorded} → WholePage s es rs t → SendsIn s (es ++ map sent (served_at s t).sent) × (page_count (sent_among (es ++ map sent (served_at s t).sent)) + s.page ≡ (served_at s t).state.page) × ((served_at s t).state.params.maxpages ≡ s.params.maxpages)
  on_firing {t = t} {es = es} x =
      let k : SameCounts s t = page-counts x in
      let sends = fired-sends t.params s es (served_at s t) (begun (after_page t (fired_at s t))) refl k.0 k.2 (on_page x) (out-few t.params t (fired_at s t)) in
      (sends.0, sends.1, ap (λ (q : Params). q.maxpages) (out-keeps-params t.params t (fired_at s t)) ∙ k.2)

  -- what a step of a run sends
  steps-send : {x : Step} → StepIs s x → SendsBy s x
  steps-send (fires_on x f r) = on_firing x
  steps-send (meets_page_limit x f r) = (on_firing x).0
  steps-send (meets_node_limit x f r n) = (on_firing x).0
  steps-send (meets_cycle_limit {es = es} x e c) = quiet-in s es (on_page x)
  steps-send (is_done {es = es} x e) = quiet-in s es (on_page x)
  steps-send (meets_full_pool {es = es} x e) = quiet-in s es (on_page x)

pub step-sends : (s : State) → SendsBy s (step s)
step-sends s = steps-send (step-is s)
