-- A run that is done shows the boxes and rules of its galley in their order, and ships no insertions and no acts.
use Rattle.std.proofs.Common.{◌≡◌, refl, sym, ◌∙◌, ap, subst, ℕ, true, false, List, [], ◌∷◌, ◌++◌, map, take, drop, arith, append_assoc}
use Rattle.std.specs.List.{AllByRecursion}
use Rattle.tb_node.specs.PlainNodes.{without_acts, without_insertions}
use Rattle.tb_insert.specs.Account.{Frozen, labelled}
use Rattle.tb_builder.specs.Reach.{Reached}
use Rattle.tb_builder.specs.FiredPages.{page_break, from_break, with_spent_break, fired_by, frozen_for}
use Rattle.tb_builder.proofs.FiredPages.PageWeights.{acted_weight}
use Rattle.tb_sheet.specs.declared.Warn.{Warn}
use Rattle.tb_sheet.specs.Sheet.{PlainSent, warned, shipped}
use Rattle.tb_galley.specs.declared.Galley.{Galley}
use Rattle.tb_galley.specs.GalleyNodes.{expanded}
use Rattle.tb_galley.specs.Valid.{IsValid}
use Rattle.tb_output.specs.State.{first_state, State, Recorded}
use Rattle.tb_output.specs.Output.{out}
use Rattle.tb_laws.proofs.NothingLost.StateWeights.{state_weight}
use Rattle.tb_laws.proofs.Closed.Sorts.{Stands, sorts-calm, acts-silent, CalmSort, light, blank, real, silent, pause, hold, serve, clear, odd, seen_after, Sort, Seen}
use Rattle.tb_laws.proofs.Closed.SortLemmas.{none, pruned-stands, sorts, sorts-append, take-drop}
use Rattle.tb_builder.specs.Reach.{Reached}
use Rattle.tb_steps.specs.Run.{Run, End, done, pool_full, dead_cycles, page_limit, node_limit, Step, ends, goes_on, held_count, run_of, ask_for}
use Rattle.tb_steps.proofs.RunTree.{PageMoves, served_at, StepIs, RunIs, galley-is, fires_on, is_done, runs_out, starts_too_full, ends_so, goes_on_so}
use Rattle.tb_steps.proofs.RunFolds.{PageLaw, page-holds}
use Rattle.tb_items.specs.RunEvents.{RunEvent, offered, sent}
use Rattle.tb_items.specs.Classes.{classes_of}
use Rattle.tb_laws.specs.Laws.{EndsDone}
use Rattle.tb_laws.proofs.DeadCycles.BoxesFirst.{HasReal}
use Rattle.tb_column.proofs.Within.{Within, itself, within-within, both-within}
use Rattle.tb_column.proofs.PrintedLines.{prints, left_prints, prints-append, prints-acts, prints-insertions, LeftPlain}
use Rattle.tb_sheet.proofs.PrintedSheets.{sheet_prints, sent_prints, SheetPlain, SentPlain}
use Rattle.tb_laws.proofs.InOrder.PrintedOutput.{state_prints, pruned-prints, spent-prints, OutReads, out-reads}
use Rattle.tb_laws.proofs.Closed.ClosingStates.{Closing}
use Rattle.tb_laws.proofs.NothingLost.ClosingActs.{ActsClosed}
use Rattle.tb_laws.proofs.NothingLost.ClosingRuns.{ones, weightless-prints, weightless-left, page_cut, page-after, closed-page, changes-fit, steps-close}
use Rattle.tb_laws.proofs.NothingLost.ClosingStarts.{start-closing}
use Rattle.tb_laws.proofs.NothingLost.StartLemmas.{start-kept}
use Rattle.tb_laws.proofs.DeadCycles.ValidPenalties.{interline-calm}
use Rattle.tb_laws.proofs.NothingLost.ClassLemmas.{valid-differ, valid-fit}
use Rattle.tb_laws.proofs.NothingLost.RunWeights.{After, Kept, page_of, cut_stands, weighs}
use Rattle.tb_builder.proofs.Cutting.CutLemmas.{acted_of}

-- ---- what events show

abbrev pub events_prints : List RunEvent → List ℕ
events_prints [] = []
events_prints (offered t ∷ es) = events_prints es
events_prints (sent (warned w) ∷ es) = events_prints es
events_prints (sent (shipped page sheet) ∷ es) = sheet_prints sheet ++ events_prints es

abbrev pub EventsPlain : List RunEvent → Type 0
EventsPlain [] = Unit {0}
EventsPlain (offered t ∷ es) = EventsPlain es
EventsPlain (sent (warned w) ∷ es) = EventsPlain es
EventsPlain (sent (shipped page sheet) ∷ es) = SheetPlain sheet × EventsPlain es

pub events-append : (xs ys : List RunEvent) → events_prints (xs ++ ys) ≡ events_prints xs ++ events_prints ys
events-append [] ys = refl
events-append (offered t ∷ xs) ys = events-append xs ys
events-append (sent (warned w) ∷ xs) ys = events-append xs ys
events-append (sent (shipped page sheet) ∷ xs) ys = ap (λ l. sheet_prints sheet ++ l) (events-append xs ys) ∙ sym (append_assoc (sheet_prints sheet) (events_prints xs) (events_prints ys))

plain-append : (xs ys : List RunEvent) → EventsPlain xs → EventsPlain ys → EventsPlain (xs ++ ys)
plain-append [] ys a b = b
plain-append (offered t ∷ xs) ys a b = plain-append xs ys a b
plain-append (sent (warned w) ∷ xs) ys a b = plain-append xs ys a b
plain-append (sent (shipped page sheet) ∷ xs) ys a b = (a.0, plain-append xs ys a.1 b)

sent-events : (es : List PlainSent) → events_prints (map sent es) ≡ sent_prints es
sent-events [] = refl
sent-events (warned w ∷ es) = sent-events es
sent-events (shipped page sheet ∷ es) = ap (λ l. sheet_prints sheet ++ l) (sent-events es)

sent-plain : (es : List PlainSent) → SentPlain es → EventsPlain (map sent es)
sent-plain [] h = tt
sent-plain (warned w ∷ es) h = sent-plain es h
sent-plain (shipped page sheet ∷ es) h = (h.0, sent-plain es h.1)

-- tries and warnings show nothing
abbrev Silent : List RunEvent → Type 0
Silent es = (events_prints es ≡ []) × EventsPlain es

silent-append : (xs ys : List RunEvent) → Silent xs → Silent ys → Silent (xs ++ ys)
silent-append xs ys a b = (events-append xs ys ∙ (λ i. a.0 i ++ b.0 i), plain-append xs ys a.1 b.1)

warnings-silent : (ws : List Warn) → Silent (map (λ w. sent (warned w)) ws)
warnings-silent [] = (refl, tt)
warnings-silent (w ∷ ws) = warnings-silent ws

abbrev silence : PageLaw
silence = record {
  shows = record { holds = λ es rs. Silent es; none = (refl, tt); both = λ es fs rs qs a b. silent-append es fs a b };
  holds = λ rs s. Unit {0};
  tries = λ line b least rs s h. ((refl, tt), tt);
  acts = λ s t a ws records rs m h. (warnings-silent ws, tt);
}

page-silent : {rs qs : List Reached} {s t : State} {es : List RunEvent} {records : List Recorded} → PageMoves rs s es records qs t → Silent es
page-silent x = (page-holds silence x tt).0

-- ---- a page while another is held

held-unreal : (xs ys : List Sort) (s : Seen) → AllByRecursion CalmSort xs → Stands s true (xs ++ ys) → HasReal xs → ⊥
held-unreal [] ys s c h r = r
held-unreal (light ∷ xs) ys s c h r = held-unreal xs ys (seen_after s light) c.1 h.1 r
held-unreal (blank ∷ xs) ys s c h r = held-unreal xs ys (seen_after s blank) c.1 h.1 r
held-unreal (real ∷ xs) ys s c h r = h.0
held-unreal (silent ∷ xs) ys s c h r = h.0
held-unreal (pause ∷ xs) ys s c h r = c.0
held-unreal (hold ∷ xs) ys s c h r = c.0
held-unreal (serve ∷ xs) ys s c h r = c.0
held-unreal (clear ∷ xs) ys s c h r = c.0
held-unreal (odd ∷ xs) ys s c h r = c.0

-- ---- a step

-- what is kept and what waits is in what the step sends and in what it leaves
abbrev pub StepReads : State → Step → Type 0
StepReads s (goes_on es rs t) = Within (state_prints s) (events_prints es ++ state_prints t) × EventsPlain es × LeftPlain t.left_column
StepReads s (ends es rs (done left)) = EventsPlain es
StepReads s (ends es rs (pool_full line live)) = Unit {0}
StepReads s (ends es rs (dead_cycles n)) = Unit {0}
StepReads s (ends es rs (page_limit n)) = Unit {0}
StepReads s (ends es rs (node_limit n)) = Unit {0}

module _ (s : State) (kept : Kept s) (closing : Closing s) (left_plain : LeftPlain s.left_column) where
  -- the page's list and the rest are what waited
  page-prints : prints (without_insertions (take (page_break (page_of s)).place (page_of s).passed)) ++ prints (with_spent_break (from_break (page_of s))) ≡ prints s.waiting
  page-prints =
      let w = page_of s in
      let k = (page_break w).place in
      let c = page_cut s kept closing in
      (λ i. prints-insertions (take k w.passed) i ++ spent-prints (drop k w.passed ++ w.beyond) i)
      ∙ sym (prints-append (take k w.passed) (drop k w.passed ++ w.beyond))
      ∙ ap prints (sym (take-drop k w.passed w.beyond))
      ∙ ap (λ l. prints (l ++ w.beyond)) c.passed
      ∙ prints-append (without_acts c.front) w.beyond
      ∙ ap (λ l. l ++ prints w.beyond) (prints-acts c.front)
      ∙ sym (prints-append c.front w.beyond)
      ∙ ap prints (sym c.whole)
      ∙ pruned-prints (ask_for s).top_skip s.waiting

  unreal : kept.placed.held ≡ true → HasReal (sorts (take (page_break (page_of s)).place (page_of s).passed)) → ⊥
  unreal e =
      let w = page_of s in
      let k = (page_break w).place in
      let c = page_cut s kept closing in
      let a : Stands none true (sorts (c.front ++ w.beyond)) = subst (λ l. Stands none true (sorts l)) c.whole (pruned-stands (ask_for s).top_skip s.waiting true (subst (λ b. Stands none b (sorts s.waiting)) e kept.placed.stands)) in
      let b : Stands none true (sorts (without_acts c.front) ++ sorts w.beyond) = acts-silent c.front (sorts w.beyond) none true (subst (Stands none true) (sorts-append c.front w.beyond) a) in
      let d : Stands none true (sorts (without_acts c.front ++ w.beyond)) = subst (Stands none true) (sym (sorts-append (without_acts c.front) w.beyond)) b in
      let g : Stands none true (sorts (take k w.passed ++ (drop k w.passed ++ w.beyond))) = subst (λ l. Stands none true (sorts l)) (ap (λ l. l ++ w.beyond) (sym c.passed) ∙ take-drop k w.passed w.beyond) d in
      held-unreal (sorts (take k w.passed)) (sorts (drop k w.passed ++ w.beyond)) none (sorts-calm (take k w.passed) (cut_stands ones s kept).calm) (subst (Stands none true) (sorts-append (take k w.passed) (drop k w.passed ++ w.beyond)) g)

  fired-reads : (t : State) → After ones (acted_weight ones (page_of s).reached) s t → ActsClosed closing.owed (acted_of (page_of s).reached) s t → (z : Frozen) → let f = fired_by (labelled z (take (page_break (page_of s)).place (page_of s).passed)) t.boxes (page_of s) in (out t.params t f).refused ≡ false → Within (state_prints s) (sent_prints (out t.params t f).sent ++ state_prints (out t.params t f).state) × SentPlain (out t.params t f).sent × LeftPlain (out t.params t f).state.left_column
  fired-reads t a d z r =
      let w = page_of s in
      let before = take (page_break w).place w.passed in
      let f = fired_by (labelled z before) t.boxes w in
      let stands = cut_stands ones s kept in
      let x : OutReads f t (out t.params t f) = out-reads t.params (interline-calm t.params a.ranges) t f before refl stands.calm stands.free kept.placed.held stands.rest unreal (λ h. a.held ∙ kept.placed.free h) a.sound.entries a.sound.columns (tt, d.left_plain left_plain) in
      (subst (λ l. Within l (sent_prints (out t.params t f).sent ++ state_prints (out t.params t f).state)) (λ i. (d.left i ++ prints (a.held i)) ++ page-prints i) (x.lines r), x.plain.0, x.plain.1)

  reads : {x : Step} → StepIs s x → StepReads s x
  reads (fires_on {es = es} {t = t} x f r) =
      let o = served_at s t in
      let e = page-silent x in
      let k = fired-reads t (page-after s kept closing x ones) (closed-page s kept closing x) (frozen_for (ask_for s) t.classes t.boxes) r in
      (subst (λ l. Within (state_prints s) (l ++ state_prints o.state)) (sym (events-append es (map sent o.sent) ∙ (λ i. e.0 i ++ sent-events o.sent i))) k.0, plain-append es (map sent o.sent) e.1 (sent-plain o.sent k.1), k.2)
  reads (is_done x u) = (page-silent x).1
  reads x = tt

-- ---- a run

-- what is kept and what waits is in what a run that is done ships, and that has no insertions and acts
pub record Reads (s : State) (r : Run) : Type 0 where
  pub lines : EndsDone r.end → Within (state_prints s) (events_prints r.events)
  pub plain_events : EndsDone r.end → EventsPlain r.events

-- a state that weighs nothing shows nothing
weightless-state : (s : State) → state_weight ones s ≡ 0 → state_prints s ≡ []
weightless-state s e =
    let a : left_prints s.left_column ≡ [] = weightless-left s.left_column (omega arith) in
    let b : prints s.held_page ≡ [] = weightless-prints s.held_page (omega arith) in
    let c : prints s.waiting ≡ [] = weightless-prints s.waiting (omega arith) in
    λ i. (a i ++ b i) ++ c i

never-reads : (s : State) (es : List RunEvent) (rs : List Recorded) (e : End) → (EndsDone e → ⊥) → Reads s (record { events = es; records = rs; end = e })
never-reads s es rs e n = record { lines = λ d. absurd (n d); plain_events = λ d. absurd (n d) }

run-reads : {s : State} {r : Run} → RunIs s r → Kept s → Closing s → LeftPlain s.left_column → Reads s r
run-reads (goes_on_so {s = s} {t = t} {es = es} {r = r} x y) k c l =
    let z = reads s k c l x in
    let later = run-reads y (weighs ones s k (changes-fit s k c ones) x).0 (steps-close s k c x).1 z.2 in
    record {
      lines = λ d. subst (Within (state_prints s)) (sym (events-append es r.events)) (within-within (state_prints s) (events_prints es ++ state_prints t) (events_prints es ++ events_prints r.events) z.0 (both-within (events_prints es) (events_prints es) (state_prints t) (events_prints r.events) (itself (events_prints es)) (later.lines d)));
      plain_events = λ d. plain-append es r.events z.1 (later.plain_events d);
    }
run-reads (ends_so {s = s} {es = es} (is_done x u)) k c l = record { lines = λ d. subst (λ y. Within y (events_prints es)) (sym (weightless-state s ((steps-close s k c (is_done x u)).1 ones))) tt; plain_events = λ d. (page-silent x).1 }
run-reads (ends_so {s = s} x) k c l = never-reads s _ _ _ (λ d. d)
run-reads (runs_out s) k c l = never-reads s [] [] (dead_cycles s.dead_cycles) (λ d. d)
run-reads (starts_too_full s) k c l = never-reads s [] [] (node_limit (held_count s)) (λ d. d)

-- the run of a valid galley
pub valid-reads : (g : Galley) → IsValid g → Reads (first_state g.params (classes_of g) (expanded g)) (run_of g)
valid-reads g v =
    let f = valid-fit g v in
    run-reads (galley-is g) (start-kept g v.params (valid-differ g v) f) (start-closing g v.order f) tt
