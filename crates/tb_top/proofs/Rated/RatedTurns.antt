-- A turn that is rated: its rating is that of the step, and the sum of the demerits stays in its range.
use Rattle.std.proofs.Common.{◌≡◌, refl, sym, subst, ◌∙◌, ap, ℕ, suc, ◌*◌, ◌+◌, ◌-◌, ◌<◌, ◌≤◌, inl, inr, ℤ, pos, true, List, [], ◌∷◌, ◌++◌, Option, None, Some, arith, append-nil}
use Rattle.std.specs.Prelude.{◌+ℤ◌, ◌≤ℤ◌, nat_abs, pred, int_lt, IfSome, if◌then◌else◌}
use Rattle.std.specs.Io.KnownBytes.{Appends}
use Rattle.std.proofs.KnownBytes.{Appends-trans}
use Rattle.std.proofs.lemmas.Int.{ints}
use Rattle.std.proofs.lemmas.Nat.{mul-le}
use Rattle.tb_io.specs.Faults.{Rose}
use Rattle.tb_io.specs.Sink.{AppendsPrefix}
use Rattle.tb_io.proofs.Appended.{prefix_on}
use Rattle.tb_param.specs.declared.Params.{Params}
use Rattle.tb_builder.specs.Contents.{kind_count, node_count}
use Rattle.tb_node.specs.PlainNodes.{PlainKind, plain, ins, act, PlainNode, is_insertion_kind}
use Rattle.tb_output.specs.declared.RunFault.{RunFault}
use Rattle.tb_output.specs.declared.RunFault.TheVariants as refused
use Rattle.tb_output.specs.State.{State}
use Rattle.tb_report.specs.declared.Totals.{Totals}
use Rattle.tb_report.specs.Lines.{end_lines}
use Rattle.tb_items.specs.declared.happenings.Happening.{Happening}
use Rattle.tb_items.specs.Happenings.{events_of, noted}
use Rattle.tb_items.specs.RunEvents.{RunEvent, offered, sent}
use Rattle.tb_run.specs.declared.routine.Routine.{Routine}
use Rattle.tb_run.specs.declared.routine.Ending.{Ending}
use Rattle.tb_run.specs.declared.routine.Ending.TheVariants as endings
use Rattle.tb_steps.specs.Run.{Run, End, done, pool_full, dead_cycles, page_limit, node_limit, Step, ends, goes_on, step, step_events, firings_left, held_count, run_of_state}
use Rattle.tb_run.specs.Routine.{held_in, state_of, IsFaultEnd, IsEnd, EndsAs, IsReady, over_limit}
use Rattle.tb_steps.proofs.RunParams.{AreFewFirings}
use Rattle.tb_rate.specs.declared.Rating.{Rating}
use Rattle.tb_rate.specs.declared.PlacePenalty.{PlacePenalty}
use Rattle.tb_rate.specs.Rating.{rating, IsTried}
use Rattle.tb_rate.specs.RatedRun.{floats_waiting, insertions_first, rating_by, demerits_if, more_demerits, demerits_at, demerits_of_state}
use Rattle.tb_rate.specs.RatingLines.{demerits_line}
use Rattle.tb_rate.specs.Tries.{last_champion, first_number}
use Rattle.tb_rate.proofs.TriedLemmas.{step-tried, last-tried}
use Rattle.tb_top.specs.declared.View.TheVariants as views
use Rattle.tb_top.specs.declared.PageFault.{PageFault}
use Rattle.tb_top.specs.declared.PageFault.TheVariants as faults
use Rattle.tb_top.specs.Pages.{end_fault, StopsText, RefusesText}
use Rattle.tb_top.specs.PagesWritten.{IsFaultRefusal, IsRefusalOf}
use Rattle.tb_top.specs.RatedReport.{rated_text}
use Rattle.tb_top.specs.RatedPages.{Rates, IsGreedy}
use Rattle.tb_top.specs.RatedWritten.{unless_ended, last_rated_lines, EndsWell, StopsWith, IsRated}
use Rattle.tb_top.proofs.Written.GoingLemmas.{header, refuses-text, failed-write}
use Rattle.tb_top.proofs.Written.FinishLemmas.{ClosesAt, over-some, over-none}
use Rattle.tb_top.proofs.Written.TurnLemmas.{ShowsStep}
use Rattle.tb_top.proofs.Rated.RatedGoing.{step_lines, turn_lines, last_text, RatedGoing, RatedClosing, rated-goes, rated-closes, rated-cut, rated-begins, rated-over}

-- ---- the rating of a turn

all-noted : (es : List RunEvent) → noted true es ≡ es
all-noted [] = refl
all-noted (offered t ∷ es) = ap (λ fs. offered t ∷ fs) (all-noted es)
all-noted (sent e ∷ es) = ap (λ fs. sent e ∷ fs) (all-noted es)

module _ (places : List PlacePenalty) (s : State) (q : Routine) where
  -- the rating as it is computed after a turn
  abbrev pub rating_now : Option Ending → List RunEvent → Option Rating
  rating_now o es = unless_ended o (rating (state_of q).params places (first_number (state_of q).number es) (last_champion es) (floats_waiting (state_of q).floats) (insertions_first (state_of q).waiting))

  rating-by-step : (o : Option Ending) (x : Step) → EndsAs q o x → rating_now o (step_events x) ≡ rating_by places s x
  rating-by-step None (ends es rs e) h = absurd h
  rating-by-step None (goes_on es rs u) h = λ i. rating (h i).params places (first_number (h i).number es) (last_champion es) (floats_waiting (h i).floats) (insertions_first (h i).waiting)
  rating-by-step (Some ending) (ends es rs e) h = refl
  rating-by-step (Some ending) (goes_on es rs u) h = absurd h

  module _ (hs : List Happening) (o : Option Ending) (shows : ShowsStep true s q hs o) where
    pub events-are : events_of q.store hs ≡ step_events (step s)
    events-are = shows.events ∙ all-noted (step_events (step s))

    -- it is that of the step
    pub rating-is : rating_now o (events_of q.store hs) ≡ rating_by places s (step s)
    rating-is = ap (rating_now o) events-are ∙ rating-by-step o (step s) shows.ended

    -- the place at which the page broke is as the page builder tries it
    pub break-tried : IfSome (last_champion (events_of q.store hs)) IsTried
    break-tried = subst (λ es. IfSome (last_champion es) IsTried) (sym events-are) (last-tried (step_events (step s)) (step-tried s))

    -- the lines that are written are those of the step
    pub lines-are : (r : Option Rating) → r ≡ rating_now o (events_of q.store hs) → turn_lines (events_of q.store hs) r ≡ step_lines places s (step s)
    lines-are r value = λ i. turn_lines (events-are i) ((value ∙ rating-is) i)

-- ---- the range of the sum

-- in this state the demerits are so few that those of all firings that are left fit
pub record IsSum (d : ℤ) (s : State) : Type 0 where
  pub low : pos 0 ≤ℤ d
  pub high : (d +ℤ pos (352689971456 * firings_left s)) ≤ℤ pos 352690676835942912000000

lifted : (n : ℕ) → n ≤ 352690676835942912000000 → (pos 0 +ℤ pos n) ≤ℤ pos 352690676835942912000000
lifted n h = omega (arith, ints, h)

pub sum-first : (s : State) → AreFewFirings s.params → s.page ≡ 1 → s.dead_cycles ≡ 0 → IsSum (pos 0) s
sum-first s few one none =
    let m = nat_abs s.params.maxpages in
    let c = nat_abs s.params.maxdeadcycles in
    let a : m ≤ 1000000 = few.pages in
    let b : c ≤ 1000000 = few.cycles in
    let q : pred s.page ≡ 0 = ap pred one in
    let less : (m - pred s.page) * (c + 1) ≤ 1000000 * 1000001 = mul-le (m - pred s.page) (c + 1) 1000000 1000001 (omega (arith, a)) (omega (arith, b)) in
    record { low = omega (arith, ints); high = lifted (352689971456 * firings_left s) (omega (arith, less, b)) }

sum-by : (d more : ℤ) (left later : ℕ) → (d +ℤ pos (352689971456 * left)) ≤ℤ pos 352690676835942912000000 → more ≤ℤ pos 352689971456 → later < left → ((d +ℤ more) +ℤ pos (352689971456 * later)) ≤ℤ pos 352690676835942912000000
sum-by d more left later h k l = omega (arith, ints, h, k, l)

low-by : (d more : ℤ) → pos 0 ≤ℤ d → pos 0 ≤ℤ more → pos 0 ≤ℤ (d +ℤ more)
low-by d more h k = omega (arith, ints, h, k)

pub sum-next : (d : ℤ) (s u : State) → IsSum d s → firings_left u < firings_left s → (r : Option Rating) → IfSome r IsRated → IsSum (d +ℤ demerits_if r) u
sum-next d s u h fewer None range = record { low = low-by d (pos 0) h.low (omega (arith, ints)); high = sum-by d (pos 0) (firings_left s) (firings_left u) h.high (omega (arith, ints)) fewer }
sum-next d s u h fewer (Some r) range = record { low = low-by d r.demerits h.low range.low; high = sum-by d r.demerits (firings_left s) (firings_left u) h.high range.high fewer }

pub sum-high : (d : ℤ) (s : State) → IsSum d s → d ≤ℤ pos 1000000000000000000000000000
sum-high d s h = let k = h.high in omega (arith, ints, k)

pub greedy-none : IsGreedy (pos 0)
greedy-none = record { low = omega (arith, ints); high = omega (arith, ints) }

pub greedy-sum : (d : ℤ) (s : State) → IsSum d s → IsGreedy d
greedy-sum d s h = record { low = h.low; high = sum-high d s h }

-- ---- the insertions that come first

kind-counted : (k : PlainKind) (m n : ℕ) → m ≤ n → (if is_insertion_kind k then suc m else 0) ≤ kind_count k + n
kind-counted (plain x) m n h = omega arith
kind-counted (ins i) m n h = omega (arith, h)
kind-counted (act a) m n h = omega arith

first-counted : (ns : List PlainNode) → insertions_first ns ≤ node_count ns
first-counted [] = omega arith
first-counted (n ∷ ns) = kind-counted n.kind (insertions_first ns) (node_count ns) (first-counted ns)

-- a routine that is ready has not too many of them
pub few-first : (r : Routine) → IsReady r → insertions_first (state_of r).waiting ≤ 4194304
few-first r ready =
    let a = first-counted (state_of r).waiting in
    let b = ready.settled.bounded.held in
    let c = ready.settled.bounded.few in
    omega (arith, a, b, c)

-- ---- a turn

-- the run ends as this ending says, and its last lines are left
pub record RatedClosesAt (places : List PlacePenalty) (r : Routine) (ending : Ending) (old now : Option (List ℕ)) (d : ℤ) (all : List RunEvent) (total : Option ℤ) (whole : List ℕ) : Type 0 where
  pub end : End
  pub is : IsEnd r ending end
  pub closing : RatedClosing places end old now d all total whole

module _ (places : List PlacePenalty) (s : State) (old now mid : Option (List ℕ)) (d : ℤ) (all : List RunEvent) (total : Option ℤ) (whole : List ℕ) (going : RatedGoing places s old now d all total whole) (low : 1 ≤ s.page)
    (q : Routine) (hs : List Happening) (o : Option Ending) (shows : ShowsStep true s q hs o) (r : Option Rating) (value : r ≡ rating_now places s q o (events_of q.store hs)) where
  lines : turn_lines (events_of q.store hs) r ≡ step_lines places s (step s)
  lines = lines-are places s q hs o shows r value

  rated : r ≡ rating_by places s (step s)
  rated = value ∙ rating-is places s q hs o shows

  -- writing it was cut short
  pub turn-cut : AppendsPrefix now mid (turn_lines (events_of q.store hs) r) → AppendsPrefix old mid whole
  turn-cut b = rated-cut places old now mid d all total whole s (step s) low refl going (subst (AppendsPrefix now mid) lines b)

  goes-by-step : (x : Step) → step s ≡ x → EndsAs q None x → Appends now mid (step_lines places s x) → RatedGoing places (state_of q) old mid (d +ℤ demerits_if (rating_by places s x)) all total whole
  goes-by-step (ends es rs e) is h b = absurd h
  goes-by-step (goes_on es rs u) is h b =
      subst (λ y. RatedGoing places y old mid (d +ℤ demerits_if (rating_by places s (goes_on es rs u))) all total whole) (sym h) (rated-goes places old now mid d all total whole s u es rs low is going b)

  -- the lists of what was sent were closed since
  pub turn-goes : (after : State) → after ≡ state_of q → o ≡ None → Appends now mid (turn_lines (events_of q.store hs) r) → RatedGoing places after old mid (d +ℤ demerits_if r) all total whole
  turn-goes after is none b =
      subst (λ y. RatedGoing places y old mid (d +ℤ demerits_if r) all total whole) (sym is)
      (subst (λ y. RatedGoing places (state_of q) old mid (d +ℤ demerits_if y) all total whole) (sym rated)
      (goes-by-step (step s) refl (subst (λ x. EndsAs q x (step s)) none shows.ended) (subst (Appends now mid) lines b)))

  closes-by-step : (ending : Ending) (x : Step) → step s ≡ x → EndsAs q (Some ending) x → Appends now mid (step_lines places s x) → RatedClosesAt places q ending old mid d all total whole
  closes-by-step ending (goes_on es rs u) is h b = absurd h
  closes-by-step ending (ends es rs e) is h b = record { end = e; is = h; closing = rated-closes places old now mid d all total whole s e es rs is going b }

  pub turn-closes : (ending : Ending) → o ≡ Some ending → Appends now mid (turn_lines (events_of q.store hs) r) → RatedClosesAt places q ending old mid d all total whole
  turn-closes ending some b = closes-by-step ending (step s) refl (subst (λ x. EndsAs q x (step s)) some shows.ended) (subst (Appends now mid) lines b)

-- ---- the beginning

-- a run from its first state, which the routine shows
module _ (places : List PlacePenalty) (first : State) (r : Routine) (old now : Option (List ℕ)) (o : Option Ending) (is : state_of r ≡ first) (a : Appends old now header) (over : o ≡ over_limit (state_of r).params (held_count (state_of r))) where
  abbrev p : Params
  p = (state_of r).params

  pub start-goes : o ≡ None → RatedGoing places (state_of r) old now (pos 0) (run_of_state first).events (demerits_of_state places first) (rated_text places first)
  start-goes none = rated-begins places first (state_of r) old now is a (over-none p (held_count (state_of r)) (int_lt p.maxnodes (pos (held_count (state_of r)))) refl (sym over ∙ none))

  pub start-closes : (ending : Ending) → o ≡ Some ending → RatedClosesAt places r ending old now (pos 0) (run_of_state first).events (demerits_of_state places first) (rated_text places first)
  start-closes ending some =
      let k = over-some p (held_count (state_of r)) ending (int_lt p.maxnodes (pos (held_count (state_of r)))) refl (sym over ∙ some) in
      record { end = node_limit (held_count (state_of r)); is = rw (k.1) refl; closing = rated-over places first (state_of r) old now is a (k.0) }

-- ---- the end

sum-of-all : (d : ℤ) → d +ℤ pos 0 ≡ d
sum-of-all d = omega (arith, ints)

module _ (places : List PlacePenalty) (q : Routine) (t : Totals) (d : ℤ) (ending : Ending) (old mid new : Option (List ℕ)) (run : Run) (total : Option ℤ) (whole : List ℕ)
    (at : ClosesAt views.Trace q ending None None t run) (rated : RatedClosesAt places q ending old mid d run.events total whole) where
  done-first : ending ≡ endings.Done → at.end ≡ done (held_in q).page
  done-first is = subst (λ x. IsEnd q x at.end) is at.is

  done-rated : ending ≡ endings.Done → rated.end ≡ done (held_in q).page
  done-rated is = subst (λ x. IsEnd q x rated.end) is rated.is

  last-lines : ending ≡ endings.Done → last_text places run.events d rated.end ≡ last_rated_lines q t d
  last-lines is =
      ap (last_text places run.events d) (done-rated is)
      ∙ (λ i. end_lines (held_in q).page (at.closing.totals i) ++ demerits_line (sum-of-all d i))

  text-is : ending ≡ endings.Done → whole ≡ rated.closing.written ++ last_rated_lines q t d
  text-is is = rated.closing.text ∙ ap (λ ls. rated.closing.written ++ ls) (last-lines is)

  pub ends-rated : (u : ℤ) → EndsWell q t d ending mid new u → Rates run.end total whole old new u
  ends-rated u h = record {
    ended = ap end_fault (at.closing.end ∙ done-first h.ending);
    demerits = rated.closing.sum ∙ ap (λ e. more_demerits d (demerits_at e)) (done-rated h.ending) ∙ ap (λ x. Some x) (sum-of-all d ∙ sym h.demerits);
    written = subst (Appends old new) (sym (text-is h.ending)) (Appends-trans old mid new rated.closing.written (last_rated_lines q t d) rated.closing.appended h.written);
  }

  cut-rated : ending ≡ endings.Done → AppendsPrefix mid new (last_rated_lines q t d) → AppendsPrefix old new whole
  cut-rated is b = prefix_on old mid new whole rated.closing.written (last_rated_lines q t d) [] rated.closing.appended b (text-is is ∙ ap (λ ls. rated.closing.written ++ ls) (sym (append-nil (last_rated_lines q t d))))

  refused-end : (e : End) (f : PageFault) → at.end ≡ e → rated.end ≡ e → end_fault e ≡ Some f → last_text places run.events d e ≡ [] → new ≡ mid → StopsText run.end whole old new f
  refused-end e f is same fault none kept = record {
    ended = ap end_fault (at.closing.end ∙ is) ∙ fault;
    written = subst (λ x. Appends old x whole) (sym kept)
        (subst (Appends old mid) (sym (rated.closing.text ∙ ap (λ x. rated.closing.written ++ last_text places run.events d x) same ∙ ap (λ ls. rated.closing.written ++ ls) none ∙ append-nil rated.closing.written)) rated.closing.appended);
  }

  by-fault : (x : RunFault) (f : PageFault) → IsFaultEnd x at.end → IsFaultEnd x rated.end → IsFaultRefusal x f → new ≡ mid → RefusesText run.end whole old new f
  by-fault (refused.DeadCycles n) f is same h kept = rw h (refused-end (dead_cycles n) (faults.DeadCycles n) is same refl refl kept)
  by-fault (refused.PageLimit n) f is same h kept = rw h (refused-end (page_limit n) (faults.PageLimit n) is same refl refl kept)
  by-fault refused.Memory f is same h kept = absurd is

  by-ending : (x : Ending) (f : PageFault) → IsEnd q x at.end → IsEnd q x rated.end → IsRefusalOf x f → new ≡ mid → RefusesText run.end whole old new f
  by-ending endings.Done f is same h kept = absurd h
  by-ending (endings.PoolFull line live) f is same h kept = rw h (refused-end (pool_full line live) (faults.PoolFull line live) is same refl refl kept)
  by-ending (endings.Fault x) f is same h kept = by-fault x f is same h kept
  by-ending (endings.NodeLimit n) f is same h kept = rw h (refused-end (node_limit n) (faults.NodeLimit n) is same refl refl kept)

  pub stops-rated : (before later : ℕ) (f : PageFault) → StopsWith q t d ending mid new before later f → RefusesText run.end whole old new f
  stops-rated before later f (inl h) = by-ending ending f at.is rated.is h.0 h.1
  stops-rated before later f (inr h) = rw h.1.is (refuses-text run.end whole old new h.1.fault (cut-rated h.0 h.1.part))

-- ---- a refusal for a failed write

no-write : (e : Ending) → IsRefusalOf e faults.WriteFault → ⊥
no-write endings.Done h = h
no-write (endings.Fault (refused.DeadCycles n)) h = cc
no-write e h = cc

-- it comes only if the sink's faults rose
pub stops-cause : (r : Routine) (t : Totals) (d : ℤ) (e : Ending) (old new : Option (List ℕ)) (before now start : ℕ) → start ≤ before → StopsWith r t d e old new before now faults.WriteFault → Rose start now
stops-cause r t d e old new before now start le (inl h) = absurd (no-write e h.0)
stops-cause r t d e old new before now start le (inr h) = let rose = (h.1.cause (failed-write h.1.fault h.1.is)).0 in omega (arith, rose)
