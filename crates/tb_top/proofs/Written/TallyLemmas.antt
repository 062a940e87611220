-- What a run counts stays in the range of the counts: pages by their limit, boxes and floats by the nodes of a page, and warnings by the
-- firings and the nodes that wait.
use Rattle.std.proofs.Common.{◌≡◌, refl, sym, subst, ◌∙◌, ap, ℕ, suc, ◌+◌, ◌*◌, ◌-◌, ◌^◌, ◌<◌, ◌≤◌, Bool, true, false, List, [], ◌∷◌, length, drop, get_or, drop-cons, arith}
use Rattle.std.specs.Prelude.{pred, nat_abs}
use Rattle.std.specs.List.{AllByRecursion}
use Rattle.std.proofs.lemmas.Nat.{mul-le}
use Rattle.tb_report.proofs.CountLemmas.{count_kinds-le}
use Rattle.tb_pool.specs.Lists.{Lists}
use Rattle.tb_node.specs.declared.Node.{Node}
use Rattle.tb_sheet.specs.Sheet.{PlainSent, warned, shipped}
use Rattle.tb_report.specs.declared.Totals.{Totals}
use Rattle.tb_report.specs.RunTotals.{is_item_box, is_float_box, sheet_nodes, no_totals, with_sent, AreCounts}
use Rattle.tb_output.specs.State.{State}
use Rattle.tb_laws.proofs.StepLaws.SentCounts.{warning_count, page_count}
use Rattle.tb_items.specs.declared.happenings.Happening.{Happening}
use Rattle.tb_items.specs.declared.happenings.Happening.TheVariants as happenings
use Rattle.tb_items.specs.RunEvents.{RunEvent, offered, sent}
use Rattle.tb_steps.specs.Run.{firings_left}
use Rattle.tb_items.specs.Happenings.{event_of, events_of, noted, ArePages}
use Rattle.tb_top.specs.PagesWritten.{node_total}
use Rattle.tb_laws.specs.DviPages.{sent_among}
use Rattle.tb_top.specs.Views.{with_events}
use Rattle.tb_top.proofs.Written.EventCounts.{SendsIn}
use Rattle.tb_top.proofs.Written.SentPages.{few-sent}
use Rattle.tb_steps.proofs.RunParams.{AreFewFirings}

-- ---- the totals of events

-- each page has at most 3 · 2^23 nodes
abbrev pub AreFewNodes : List PlainSent → Type 0
AreFewNodes es = AllByRecursion (λ e. node_total e ≤ 25165824) es

record HasGrown (es : List PlainSent) (t u : Totals) : Type 0 where
  pages : u.pages ≡ t.pages + page_count es
  warnings : u.warnings ≡ t.warnings + warning_count es
  boxes : u.boxes ≤ t.boxes + 25165824 * page_count es
  floats : u.floats ≤ t.floats + 25165824 * page_count es

grown : (es : List RunEvent) (t : Totals) → AreFewNodes (sent_among es) → HasGrown (sent_among es) t (with_events es t)
grown [] t few = record { pages = omega arith; warnings = omega arith; boxes = omega arith; floats = omega arith }
grown (offered a ∷ es) t few = let g = grown es t few in record { pages = g.pages; warnings = g.warnings; boxes = g.boxes; floats = g.floats }
grown (sent (warned w) ∷ es) t few =
    let g = grown es (with_sent (warned w) t) few.1 in
    let a = g.pages in let b = g.warnings in let c = g.boxes in let d = g.floats in
    record { pages = omega (arith, a); warnings = omega (arith, b); boxes = omega (arith, c); floats = omega (arith, d) }
grown (sent (shipped n sheet) ∷ es) t few =
    let g = grown es (with_sent (shipped n sheet) t) few.1 in
    let a = g.pages in let b = g.warnings in let c = g.boxes in let d = g.floats in
    let e = count_kinds-le is_item_box (sheet_nodes sheet) in
    let f = count_kinds-le is_float_box (sheet_nodes sheet) in
    let h = few.0 in
    record { pages = omega (arith, a); warnings = omega (arith, b); boxes = omega (arith, c, e, h); floats = omega (arith, d, f, h) }

-- the same events are sent, whatever is noted
pub noted-among : (wanted : Bool) (es : List RunEvent) → sent_among (noted wanted es) ≡ sent_among es
noted-among wanted [] = refl
noted-among true (offered a ∷ es) = noted-among true es
noted-among false (offered a ∷ es) = noted-among false es
noted-among wanted (sent e ∷ es) = ap (λ xs. e ∷ xs) (noted-among wanted es)

happened-few : (store : Lists Node) (hs : List Happening) → ArePages store hs → AreFewNodes (sent_among (events_of store hs))
happened-few store [] h = tt
happened-few store (happenings.Tried t ∷ hs) h = happened-few store hs h.1
happened-few store (happenings.Sent e ∷ hs) h = (few-sent store e h.0, happened-few store hs h.1)

pub step-few : (store : Lists Node) (hs : List Happening) (wanted : Bool) (es : List RunEvent) → ArePages store hs → events_of store hs ≡ noted wanted es → AreFewNodes (sent_among es)
step-few store hs wanted es pages is = subst AreFewNodes (ap sent_among is ∙ noted-among wanted es) (happened-few store hs pages)

-- ---- one event after another

counts-sent : (e : PlainSent) (t : Totals) → AreCounts (with_sent e t) → AreCounts t
counts-sent (warned w) t h = let a = h.pages in let b = h.boxes in let c = h.floats in let d = h.warnings in record { pages = a; boxes = b; floats = c; warnings = omega (arith, d) }
counts-sent (shipped n sheet) t h =
    let a = h.pages in let b = h.boxes in let c = h.floats in
    record { pages = omega (arith, a); boxes = omega (arith, b); floats = omega (arith, c); warnings = h.warnings }

counts-before : (es : List RunEvent) (t : Totals) → AreCounts (with_events es t) → AreCounts t
counts-before [] t h = h
counts-before (offered a ∷ es) t h = counts-before es t h
counts-before (sent e ∷ es) t h = counts-sent e t (counts-before es (with_sent e t) h)

counts-first : (e : RunEvent) (es : List RunEvent) (t : Totals) → AreCounts (with_events (e ∷ es) t) → AreCounts (with_events (e ∷ []) t)
counts-first (offered a) es t h = counts-before es t h
counts-first (sent e) es t h = counts-before es (with_sent e t) h

-- the counts with the next one are in range, if those with all are
pub counts-next : (store : Lists Node) (hs : List Happening) (k : ℕ) (h : Happening) (old now : Totals) → k < length hs → h ≡ get_or hs k h
    → with_events (events_of store (drop k hs)) now ≡ with_events (events_of store hs) old → AreCounts (with_events (events_of store hs) old) → AreCounts (with_events (event_of store h ∷ []) now)
counts-next store hs k h old now lt is same room =
    let from : drop k hs ≡ h ∷ drop (suc k) hs = drop-cons hs k h lt ∙ ap (λ (x : Happening). x ∷ drop (suc k) hs) (sym is) in
    counts-first (event_of store h) (events_of store (drop (suc k) hs)) now (subst (λ xs. AreCounts (with_events (events_of store xs) now)) from (subst AreCounts (sym same) room))

-- ---- the tally

-- in this state this much was counted: a page for each step of the page number, and less than 2^23 warnings for each firing
pub record IsTally (t : Totals) (s : State) : Type 0 where
  pub few : nat_abs s.params.maxpages ≤ 1000000
  pub pages : t.pages + 1 ≡ s.page
  pub limit : s.page ≤ nat_abs s.params.maxpages + 1
  pub boxes : t.boxes ≤ 25165824 * t.pages
  pub floats : t.floats ≤ 25165824 * t.pages
  pub warnings : t.warnings + 8388608 * firings_left s ≤ 8388624777216000000

pub tally-first : (s : State) → AreFewFirings s.params → s.page ≡ 1 → s.dead_cycles ≡ 0 → IsTally no_totals s
tally-first s few one none =
    let m = nat_abs s.params.maxpages in
    let d = nat_abs s.params.maxdeadcycles in
    let a : m ≤ 1000000 = few.pages in
    let b : d ≤ 1000000 = few.cycles in
    let q : pred s.page ≡ 0 = ap pred one in
    let less : (m - pred s.page) * (d + 1) ≤ 1000000 * 1000001 = mul-le (m - pred s.page) (d + 1) 1000000 1000001 (omega (arith, a)) (omega (arith, b)) in
    record { few = few.pages; pages = omega (arith, one); limit = omega (arith, one); boxes = omega arith; floats = omega arith; warnings = omega (arith, less, b) }

module _ (t : Totals) (s : State) (es : List RunEvent) (tally : IsTally t s) (sends : SendsIn s es) (waiting : length s.waiting ≤ 4194304) (nodes : AreFewNodes (sent_among es)) where
  counts-of : (left u v w : ℕ) → u + 8388608 * left ≤ 8388624777216000000 → w ≤ 4194307 → v ≡ u + w → v < 2 ^ 64
  counts-of left u v w h k e = omega (arith, h, k, e)

  pub tally-counts : AreCounts (with_events es t)
  tally-counts =
      let g = grown es t nodes in
      let a = g.pages in let b = g.warnings in let c = g.boxes in let d = g.floats in
      let e = tally.pages in let f = sends.limit tally.limit in let h = tally.few in
      let i = tally.boxes in let j = tally.floats in let k = sends.warnings in
      record {
        pages = omega (arith, a, e, f, h);
        boxes = omega (arith, a, c, e, f, h, i);
        floats = omega (arith, a, d, e, f, h, j);
        warnings = counts-of (firings_left s) t.warnings (with_events es t).warnings (warning_count (sent_among es)) tally.warnings (omega (arith, k, waiting)) b;
      }

  warnings-of : (left later u v w : ℕ) → u + 8388608 * left ≤ 8388624777216000000 → w ≤ 4194307 → v ≡ u + w → later < left → v + 8388608 * later ≤ 8388624777216000000
  warnings-of left later u v w h k e l = omega (arith, h, k, e, l)

  pub tally-next : (s' : State) → page_count (sent_among es) + s.page ≡ s'.page → s'.params.maxpages ≡ s.params.maxpages → firings_left s' < firings_left s → IsTally (with_events es t) s'
  tally-next s' page same fewer =
      let g = grown es t nodes in
      let a = g.pages in let b = g.warnings in let c = g.boxes in let d = g.floats in
      let e = tally.pages in let f = sends.limit tally.limit in
      let i = tally.boxes in let j = tally.floats in let k = sends.warnings in
      let l = tally.few in let m = ap nat_abs same in
      record {
        few = omega (arith, l, m);
        pages = omega (arith, a, e, page);
        limit = omega (arith, f, m, page);
        boxes = omega (arith, a, c, i);
        floats = omega (arith, a, d, j);
        warnings = warnings-of (firings_left s) (firings_left s') t.warnings (with_events es t).warnings (warning_count (sent_among es)) tally.warnings (omega (arith, k, waiting)) b fewer;
      }
