-- What a run of the page makeup counts stays in the range of the counts: pages by their limit, boxes and floats by the nodes of a page.
use Rattle.std.proofs.Common.{◌≡◌, refl, subst, ◌∙◌, ap, ℕ, zero, suc, pos, ◌+◌, ◌*◌, ◌-◌, ◌≤◌, Bool, true, false, List, [], ◌∷◌, ◌++◌, length, length-append, arith}
use Rattle.std.specs.Prelude.{pred, nat_abs, int_lt, if◌then◌else◌}
use Rattle.std.proofs.Math.Nat.{add_right_comm}
use Rattle.tb_report.proofs.CountLemmas.{count_kinds-le}
use Rattle.tb_pool.specs.Lists.{Lists}
use Rattle.tb_node.specs.declared.Node.{Node}
use Rattle.tb_node.specs.PlainNodes.{PlainNode}
use Rattle.tb_param.specs.declared.Params.{Params}
use Rattle.tb_builder.specs.FiredPages.{Fired, fired_of}
use Rattle.tb_builder.specs.Reach.{Reach}
use Rattle.tb_builder.specs.Contents.{node_count}
use Rattle.tb_sheet.specs.Sheet.{PlainSent, warned, shipped, one}
use Rattle.tb_report.specs.declared.Totals.{Totals}
use Rattle.tb_report.specs.RunTotals.{is_item_box, is_float_box, count_kinds, sheet_nodes, no_totals, with_sent, AreCounts}
use Rattle.tb_items.specs.declared.happenings.Happening.{Happening}
use Rattle.tb_items.specs.Happenings.{events_of, noted, ArePages}
use Rattle.tb_plain.specs.Firing.{holds_any, makeup_column}
use Rattle.tb_plain.specs.Report.{sent_totals}
use Rattle.tb_plain.specs.Run.{MakeupEvent, offers, sends, sent_among, sent_of, MakeupState, MakeupRun, MakeupStep, ends, goes_on, page_limit, node_limit, AtAct, no_act, at_act, first_act, meets_act, makeup_ask, makeup_classes, void_boxes, makeup_reach, act_step, waiting_after, shipping_step, firing_step, last_step, makeup_step, step_tries, makeup_from, makeup_of_state, steps_left, done, ejecting_nodes}
use Rattle.tb_plain.proofs.SentLemmas.{StepBy, run-sends}
use Rattle.tb_plain.proofs.StepLemmas.{page-less, within}
use Rattle.tb_makeup.specs.Makeup.{run_events}
use Rattle.tb_laws.specs.DviPages.{sent_among as sent_in}
use Rattle.tb_top.specs.Views.{with_events}
use Rattle.tb_top.proofs.Written.TallyLemmas.{AreFewNodes, step-few}

-- ---- totals

-- the totals with what is sent
abbrev pub with_all : List PlainSent → Totals → Totals
with_all [] t = t
with_all (e ∷ es) t = with_all es (with_sent e t)

pub with-events : (es : List MakeupEvent) (t : Totals) → with_events (run_events es) t ≡ with_all (sent_among es) t
with-events [] t = refl
with-events (offers a ∷ es) t = with-events es t
with-events (sends e ∷ es) t = with-events es (with_sent e t)

pub all-append : (es rest : List PlainSent) (t : Totals) → with_all (es ++ rest) t ≡ with_all rest (with_all es t)
all-append [] rest t = refl
all-append (e ∷ es) rest t = all-append es rest (with_sent e t)

sent-swap : (e f : PlainSent) (t : Totals) → with_sent e (with_sent f t) ≡ with_sent f (with_sent e t)
sent-swap (warned v) (warned w) t = refl
sent-swap (warned w) (shipped n x) t = refl
sent-swap (shipped n x) (warned w) t = refl
sent-swap (shipped n x) (shipped m y) t = λ i. record {
  pages = t.pages + 1 + 1;
  boxes = add_right_comm t.boxes (count_kinds is_item_box (sheet_nodes y)) (count_kinds is_item_box (sheet_nodes x)) i;
  floats = add_right_comm t.floats (count_kinds is_float_box (sheet_nodes y)) (count_kinds is_float_box (sheet_nodes x)) i;
  warnings = t.warnings;
}

sent-first : (e : PlainSent) (es : List PlainSent) (t : Totals) → with_all es (with_sent e t) ≡ with_sent e (with_all es t)
sent-first e [] t = refl
sent-first e (f ∷ es) t = ap (with_all es) (sent-swap f e t) ∙ sent-first e es (with_sent f t)

-- counted one after another, what is sent has its totals
pub all-totals : (es : List PlainSent) → with_all es no_totals ≡ sent_totals es
all-totals [] = refl
all-totals (e ∷ es) = sent-first e es no_totals ∙ ap (with_sent e) (all-totals es)

-- ---- the nodes of pages

pub few-append : (es rest : List PlainSent) → AreFewNodes es → AreFewNodes rest → AreFewNodes (es ++ rest)
few-append [] rest a b = b
few-append (e ∷ es) rest a b = (a.0, few-append es rest a.1 b)

among-run : (es : List MakeupEvent) → sent_in (run_events es) ≡ sent_among es
among-run [] = refl
among-run (offers t ∷ es) = among-run es
among-run (sends e ∷ es) = ap (λ xs. e ∷ xs) (among-run es)

-- what a turn sends has not too many nodes
pub few-sent : (store : Lists Node) (hs : List Happening) (wanted : Bool) (es : List MakeupEvent) → ArePages store hs → events_of store hs ≡ noted wanted (run_events es) → AreFewNodes (sent_among es)
few-sent store hs wanted es pages is = subst AreFewNodes (among-run es) (step-few store hs wanted (run_events es) pages is)

record HasAdded (n : ℕ) (t u : Totals) : Type 0 where
  pages : u.pages ≤ t.pages + n
  warnings : u.warnings ≤ t.warnings + n
  boxes : u.boxes ≤ t.boxes + 25165824 * n
  floats : u.floats ≤ t.floats + 25165824 * n

added : (es : List PlainSent) (t : Totals) → AreFewNodes es → HasAdded (length es) t (with_all es t)
added [] t few = record { pages = omega arith; warnings = omega arith; boxes = omega arith; floats = omega arith }
added (warned w ∷ es) t few =
    let g = added es (with_sent (warned w) t) few.1 in
    let a = g.pages in let b = g.warnings in let c = g.boxes in let d = g.floats in
    record { pages = omega (arith, a); warnings = omega (arith, b); boxes = omega (arith, c); floats = omega (arith, d) }
added (shipped n sheet ∷ es) t few =
    let g = added es (with_sent (shipped n sheet) t) few.1 in
    let a = g.pages in let b = g.warnings in let c = g.boxes in let d = g.floats in
    let e = count_kinds-le is_item_box (sheet_nodes sheet) in
    let f = count_kinds-le is_float_box (sheet_nodes sheet) in
    let h = few.0 in
    record { pages = omega (arith, a); warnings = omega (arith, b); boxes = omega (arith, c, e, h); floats = omega (arith, d, f, h) }

pub few-counts : (es : List PlainSent) → AreFewNodes es → length es ≤ 1000000 → AreCounts (with_all es no_totals)
few-counts es few l =
    let g = added es no_totals few in
    let a = g.pages in let b = g.warnings in let c = g.boxes in let d = g.floats in
    record { pages = omega (arith, a, l); boxes = omega (arith, c, l); floats = omega (arith, d, l); warnings = omega (arith, b, l) }

-- ---- the pages of a run

-- a step ships no more pages than are left
abbrev ShipsFew : Params → MakeupState → MakeupStep → Type 0
ShipsFew p s (ends es e) = length es ≤ nat_abs p.maxpages - pred s.number
ShipsFew p s (goes_on es u) = (1 ≤ u.number) × (length es + (nat_abs p.maxpages - pred u.number) ≤ nat_abs p.maxpages - pred s.number)

page-left : (m n : ℕ) → 1 ≤ n → n ≤ m → 1 ≤ m - pred n
page-left m zero h k = let no : ⊥ = omega arith in absurd no
page-left m (suc n) h k = omega arith

act-few : (p : Params) (s : MakeupState) (a : AtAct) → 1 ≤ s.number → ShipsFew p s (act_step p s a)
act-few p s no_act n = omega arith
act-few p s (at_act before a after) n = (n, omega arith)

firing-few : (p : Params) (s : MakeupState) (f : Fired) → 1 ≤ s.number → ShipsFew p s (firing_step p s.number f)
firing-few p s f n = by_pages (int_lt p.maxpages (pos s.number)) refl
  where
    sends : List PlainSent
    sends = shipped s.number (one (makeup_column p f)) ∷ []

    after : MakeupState
    after = record { page = []; waiting = waiting_after p f; number = s.number + 1 }

    by_nodes : (t : Bool) → s.number ≤ nat_abs p.maxpages → ShipsFew p s (if t then ends sends (node_limit (node_count (waiting_after p f))) else goes_on sends after)
    by_nodes true k = page-left (nat_abs p.maxpages) s.number n k
    by_nodes false k = let e = page-less (nat_abs p.maxpages) s.number n k in (omega arith, omega (arith, e))

    by_pages : (t : Bool) → int_lt p.maxpages (pos s.number) ≡ t → ShipsFew p s (if t then ends [] (page_limit (pred s.number)) else shipping_step p s.number f)
    by_pages true e = omega arith
    by_pages false e = by_nodes (int_lt p.maxnodes (pos (node_count (waiting_after p f)))) (within p.maxpages s.number e)

last-few : (p : Params) (s : MakeupState) (page : List PlainNode) → 1 ≤ s.number → ShipsFew p s (last_step s page)
last-few p s page n = by_any (holds_any page)
  where
    by_any : (t : Bool) → ShipsFew p s (if t then goes_on [] (record s { page = page; waiting = ejecting_nodes }) else ends [] done)
    by_any true = (n, omega arith)
    by_any false = omega arith

ships-few : (p : Params) (s : MakeupState) → 1 ≤ s.number → ShipsFew p s (makeup_step p s)
unfolding makeup_step
ships-few p s n = by_act (meets_act w.reached)
  where
    w : Reach
    w = makeup_reach p s

    fired : Fired
    fired = fired_of (makeup_ask p) (makeup_classes p) void_boxes w

    by_fires : (t : Bool) → ShipsFew p s (if t then firing_step p s.number fired else last_step s w.passed)
    by_fires true = firing-few p s fired n
    by_fires false = last-few p s w.passed n

    by_act : (t : Bool) → ShipsFew p s (if t then act_step p s (first_act s.waiting) else (if w.fires then firing_step p s.number fired else last_step s w.passed))
    by_act true = act-few p s (first_act s.waiting) n
    by_act false = by_fires w.fires

run-by-few : (p : Params) (fuel : ℕ) (s : MakeupState) → ((u : MakeupState) → 1 ≤ u.number → length (sent_of (makeup_from p fuel u)) ≤ nat_abs p.maxpages - pred u.number) → (t : MakeupStep) → ShipsFew p s t
    → StepBy (λ es e. length es ≤ nat_abs p.maxpages - pred s.number) (λ u. makeup_from p fuel u) t
run-by-few p fuel s later (ends es e) h = h
run-by-few p fuel s later (goes_on es u) h =
    let a = length-append es (sent_of (makeup_from p fuel u)) in
    let b = later u h.0 in
    let c = h.1 in
    omega (arith, a, b, c)

run-few : (p : Params) (fuel : ℕ) (s : MakeupState) → 1 ≤ s.number → length (sent_of (makeup_from p fuel s)) ≤ nat_abs p.maxpages - pred s.number
unfolding makeup_from
run-few p zero s n = omega arith
run-few p (suc fuel) s n =
    run-sends (λ es e. length es ≤ nat_abs p.maxpages - pred s.number) (λ u. makeup_from p fuel u) (step_tries p s) (makeup_step p s) (run-by-few p fuel s (λ u k. run-few p fuel u k) (makeup_step p s) (ships-few p s n))

-- a run ships no more pages than may be
pub makeup-few : (p : Params) (s : MakeupState) → s.number ≡ 1 → length (sent_of (makeup_of_state p s)) ≤ nat_abs p.maxpages
makeup-few p s first = by_nodes (int_lt p.maxnodes (pos (node_count s.waiting)))
  where
    by_nodes : (t : Bool) → length (sent_of (if t then (let r : MakeupRun = record { events = []; end = node_limit (node_count s.waiting) } in r) else makeup_from p (suc (steps_left p s)) s)) ≤ nat_abs p.maxpages
    by_nodes true = omega arith
    by_nodes false =
        let least : 1 ≤ s.number = omega (arith, first) in
        let a : length (sent_of (makeup_from p (suc (steps_left p s)) s)) ≤ nat_abs p.maxpages - pred s.number = run-few p (suc (steps_left p s)) s least in
        omega (arith, a)
