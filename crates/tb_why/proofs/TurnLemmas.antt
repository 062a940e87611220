-- What is shown of a turn is what the definition shows of a step.
use Rattle.std.proofs.Common.{◌≡◌, refl, sym, subst, ◌∙◌, ap, ℕ, pos, Bool, true, false, List, [], ◌++◌, length, drop, map, Option, Some, None, append_assoc, append-nil}
use Rattle.std.specs.Prelude.{int_lt, Result, Ok, Err, IfOk, OnOk, if◌then◌else◌}
use Rattle.std.proofs.lemmas.List.{drop_at}
use Rattle.std.proofs.lemmas.Bool.{true≢false}
use Rattle.tb_break.proofs.EachLemmas.{all-front, all-back, all-join}
use Rattle.tb_pool.specs.Lists.{Lists}
use Rattle.tb_node.specs.declared.Node.{Node}
use Rattle.tb_node.specs.PlainNodes.{PlainNode}
use Rattle.tb_builder.specs.declared.Page.{Page}
use Rattle.tb_builder.specs.FiredPages.{Boxed, Fired}
use Rattle.tb_sheet.specs.Sheet.{PlainSent}
use Rattle.tb_output.specs.State.{State}
use Rattle.tb_output.specs.Output.{out}
use Rattle.tb_output.specs.Machine.{MachineView, state_shown}
use Rattle.tb_items.specs.declared.happenings.Happening.{Happening}
use Rattle.tb_items.specs.Happenings.{IsPage, ArePages}
use Rattle.tb_steps.specs.Run.{Progress, ask_for}
use Rattle.tb_run.specs.declared.routine.Routine.{Routine}
use Rattle.tb_run.specs.declared.routine.Ending.{Ending}
use Rattle.tb_run.specs.Routine.{held_in, state_of}
use Rattle.tb_run.specs.FilledPages.{sent_happenings, reach_in, progress_in, params_in, fired_whole, IsFilled, IsFiring, IsFilledLast, HasServed}
use Rattle.tb_told.specs.declared.Tale.TheVariants.{Waits}
use Rattle.tb_told.specs.declared.Piece.{Piece}
use Rattle.tb_why.specs.declared.shown.Showing.{Showing}
use Rattle.tb_why.specs.Firing.{firing_pieces, woven}
use Rattle.tb_why.specs.WhyRun.{Shown, tells, all_happen, all_shown, wait_tales, firing_shown, fired_shown, step_shown}
use Rattle.tb_why.specs.ShownOf.{all_shown_of, IsShownPage, AreShownPages}
use Rattle.tb_why.specs.ShownTurns.{all_happens, spot_in, waits_from, filled_shown, pieces_in, woven_shown}
use Rattle.tb_why.proofs.WovenLemmas.{shown-append, happens-shown, waits-shown, woven-shown, all-noted, happens-pages, waits-pages, woven-pages}

-- ---- choices

then-list : (t : Bool) (xs : List Shown) → t ≡ true → (if t then xs else []) ≡ xs
then-list true xs is = refl
then-list false xs is = absurd (true≢false (sym is))

else-list : (t : Bool) (xs : List Shown) → t ≡ false → (if t then xs else []) ≡ []
else-list true xs is = absurd (true≢false is)
else-list false xs is = refl

-- what is told of a firing and what it sent, if it is allowed
allowed-list : (t : Bool) (ps : List Piece) (es : List PlainSent) → all_shown (woven (if t then ps else []) (if t then es else [])) ≡ (if t then all_shown (woven ps es) else [])
allowed-list true ps es = refl
allowed-list false ps es = refl

-- ---- a page is filled

module _ (r q : Routine) (hs : List Happening) (filled : IsFilled true r q hs) where
  abbrev s : State
  s = state_of r

  abbrev w : Progress
  w = progress_in s

  abbrev waited : ℕ
  waited = length r.machine.pool.lists.second

  -- the parameters that hold once the page is filled
  pub filled-params : q.machine.params ≡ params_in s
  filled-params = ap (λ (x : State). x.params) filled.state

  waits-are : wait_tales s w.state ≡ map (λ f. tells (Waits (spot_in q.machine) f)) (drop waited q.machine.pool.lists.second)
  waits-are = ap (wait_tales s) (sym filled.state)

  filled-is : (store : Lists Node) → all_shown_of store (filled_shown waited q.machine hs) ≡ all_happen w.events ++ wait_tales s w.state
  filled-is store =
      shown-append store (all_happens hs) (waits_from waited q.machine)
      ∙ (λ i. (happens-shown store hs ∙ ap all_happen (filled.events store ∙ all-noted w.events)) i ++ (waits-shown store (spot_in q.machine) (drop waited q.machine.pool.lists.second) ∙ sym waits-are) i)

  -- with what is shown of the firing, it is what is shown of the step
  step-is : (store : Lists Node) (more : List Shown) → fired_shown (ask_for s) (reach_in s) w w.fault ≡ more → all_shown_of store (filled_shown waited q.machine hs) ++ more ≡ step_shown s
  unfolding step_shown
  step-is store more is =
      ap (λ xs. xs ++ more) (filled-is store)
      ∙ append_assoc (all_happen w.events) (wait_tales s w.state) more
      ∙ ap (λ xs. all_happen w.events ++ (wait_tales s w.state ++ xs)) (sym is)

  pub filled-pages : (store : Lists Node) → ArePages store hs → AreShownPages store (filled_shown waited q.machine hs)
  filled-pages store k = all-join (IsShownPage store) (all_happens hs) (waits_from waited q.machine) (happens-pages store hs k) (waits-pages store (spot_in q.machine) (drop waited q.machine.pool.lists.second))

-- and those after the firing are the same
pub served-params : {E : Type 0} (r q now : Routine) (hs : List Happening) → IsFilled true r q hs → (x : Result (Option Ending) E) → OnOk x (now.machine.params ≡ q.machine.params) → OnOk x (now.machine.params ≡ params_in (state_of r))
served-params r q now hs h (Ok o) e = e ∙ filled-params r q hs h
served-params r q now hs h (Err x) e = tt

-- ---- no page fires

module _ (r q : Routine) (e : Ending) (hs : List Happening) (h : IsFilledLast true r e q hs) where
  abbrev done-so-far : Progress
  done-so-far = progress_in (state_of r)

  none-fired : (o : Option (ℕ × ℕ)) → (o ≡ None → (reach_in (state_of r)).fires ≡ false) → fired_shown (ask_for (state_of r)) (reach_in (state_of r)) done-so-far o ≡ []
  none-fired None f = else-list (reach_in (state_of r)).fires _ (f refl)
  none-fired (Some x) f = refl

  pub last-shown : (shown : List Showing) → shown ≡ filled_shown (length r.machine.pool.lists.second) q.machine hs → all_shown_of q.store shown ≡ step_shown (state_of r)
  last-shown shown is =
      ap (all_shown_of q.store) is
      ∙ sym (append-nil (all_shown_of q.store (filled_shown (length r.machine.pool.lists.second) q.machine hs)))
      ∙ step-is r q hs h.filled q.store [] (none-fired done-so-far.fault h.none)

-- ---- the page fires

-- what waits and what is in boxes is of no account to what is shown of a firing
firing-same : (store : Lists Node) (bs cs : List Boxed) (ns ms : List PlainNode) (m : MachineView) (f : Fired) → firing_shown (state_shown store bs ns m) f ≡ firing_shown (state_shown store cs ms m) f
unfolding out firing_pieces
firing-same store bs cs ns ms m f = refl

module _ (r q : Routine) (page : Page) (hs : List Happening) (h : IsFiring true r page q hs) where
  abbrev own-page : Progress
  own-page = progress_in (state_of r)

  fired-is : fired_shown (ask_for (state_of r)) (reach_in (state_of r)) own-page own-page.fault ≡ firing_shown (state_of q) (fired_whole q page)
  fired-is =
      ap (fired_shown (ask_for (state_of r)) (reach_in (state_of r)) own-page) h.fires.none
      ∙ then-list (reach_in (state_of r)).fires _ h.fires.fires
      ∙ (λ i. firing_shown (sym h.filled.state i) (sym h.fires.fired i))
      ∙ firing-same q.store (state_of r).boxes (held_in q).boxes (state_of r).waiting (held_in q).waiting q.machine (fired_whole q page)

  pub fired-shown : (store : Lists Node) (before shown : List Showing) → before ≡ filled_shown (length r.machine.pool.lists.second) q.machine hs → all_shown_of store shown ≡ all_shown_of store before ++ firing_shown (state_of q) (fired_whole q page) → all_shown_of store shown ≡ step_shown (state_of r)
  fired-shown store before shown is grown =
      grown
      ∙ ap (λ xs. all_shown_of store xs ++ firing_shown (state_of q) (fired_whole q page)) is
      ∙ step-is r q hs h.filled store (firing_shown (state_of q) (fired_whole q page)) fired-is

-- ---- the page is served

module _ (page : Page) (q now : Routine) (o : Option Ending) (before after : List Happening) (h : HasServed page q o now before after)
    (ps : List Piece) (hs : List Happening) (told : ps ≡ pieces_in q page) (rest : hs ≡ drop (length before) after) (old new : List Showing) (is : new ≡ old ++ woven_shown ps hs) where
  abbrev alive : Bool
  alive = int_lt (pos q.machine.dead_cycles) q.machine.params.maxdeadcycles

  sent-is : hs ≡ sent_happenings h.sent
  sent-is = rest ∙ ap (drop (length before)) h.grown ∙ drop_at before (sent_happenings h.sent) (length before) refl

  pub sent-woven : all_shown_of now.store new ≡ all_shown_of now.store old ++ firing_shown (state_of q) (fired_whole q page)
  sent-woven =
      ap (all_shown_of now.store) is
      ∙ shown-append now.store old (woven_shown ps hs)
      ∙ ap (λ xs. all_shown_of now.store old ++ xs)
      ((λ i. all_shown_of now.store (woven_shown (told i) (sent-is i)))
      ∙ woven-shown now.store (pieces_in q page) h.sent
      ∙ ap (λ es. all_shown (woven (pieces_in q page) es)) h.shown
      ∙ allowed-list alive (firing_pieces q.machine.params (state_of q) (fired_whole q page)) (out q.machine.params (state_of q) (fired_whole q page)).sent)

  pub sent-pages : ArePages now.store after → AreShownPages now.store old → AreShownPages now.store new
  sent-pages pages so_far =
      subst (AreShownPages now.store) (sym is)
      (all-join (IsShownPage now.store) old (woven_shown ps hs) so_far
      (woven-pages now.store ps hs
      (subst (ArePages now.store) (sym sent-is) (all-back (IsPage now.store) before (sent_happenings h.sent) (subst (ArePages now.store) h.grown pages)))))

-- what happened while a page was filled has pages of the store in which it is served
pub front-pages : (store : Lists Node) (page : Page) (q now : Routine) (o : Option Ending) (before after : List Happening) → HasServed page q o now before after → ArePages store after → ArePages store before
front-pages store page q now o before after h pages = all-front (IsPage store) before (sent_happenings h.sent) (subst (ArePages store) h.grown pages)

-- the lists of all pages that are shown of a turn in which a page fires
pub turn-pages : {E : Type 0} (r q : Routine) (page : Page) (hs : List Happening) → IsFiring true r page q hs → (x : Result (Option Ending) E) (now : Routine) (after : List Happening) (before shown : List Showing) →
    before ≡ filled_shown (length r.machine.pool.lists.second) q.machine hs →
    IfOk x (λ o. HasServed page q o now hs after) → OnOk x (ArePages now.store after) → OnOk x (AreShownPages now.store before → AreShownPages now.store shown) → OnOk x (AreShownPages now.store shown)
turn-pages r q page hs h (Ok o) now after before shown is served pages grown =
    grown (subst (AreShownPages now.store) (sym is) (filled-pages r q hs h.filled now.store (front-pages now.store page q now o hs after served pages)))
turn-pages r q page hs h (Err e) now after before shown is served pages grown = tt
