-- A part of a turn: the whole of it, the filling of a page, or the serving of one that was filled.
use Rattle.std.proofs.Common.{◌≡◌, refl, subst, ◌∙◌, ap, Bool, List, Option, Some}
use Rattle.std.specs.Prelude.{Result, Ok, Err, IfOk, OnOk, IfNone, ◌≢◌}
use Rattle.tb_builder.specs.declared.Page.{Page}
use Rattle.tb_output.specs.State.{State}
use Rattle.tb_items.specs.declared.happenings.Happening.{Happening}
use Rattle.tb_items.specs.Happenings.{ArePages}
use Rattle.tb_run.specs.declared.routine.Routine.{Routine}
use Rattle.tb_run.specs.declared.routine.Ending.{Ending}
use Rattle.tb_run.specs.declared.routine.Filled.TheVariants as filled
use Rattle.tb_run.specs.declared.routine.Part.{Part}
use Rattle.tb_run.specs.declared.routine.Part.TheVariants as parts
use Rattle.tb_run.specs.Routine.{IsReady, IsEnded, AreHappened}
use Rattle.tb_run.specs.FilledPages.{HasServed}
use Rattle.tb_run.specs.TurnParts.{HasPage, IsOver, HasGoneOn}
use Rattle.tb_run.proofs.Turns.TurnLemmas.{last-turned, last-pages, last-ended, served-turned}

-- the run ended before the page fired
pub ends-part : (wanted : Bool) (part : Part) (r : Routine) (hs : List Happening) (e : Ending) (q : Routine) (now : List Happening)
    → HasPage wanted part r hs (filled.Ends e) q now → HasGoneOn wanted part r hs (Some e) part q now
ends-part wanted parts.Whole r hs e q now h =
    (last-turned wanted r q e now h, record { ready = tt; params = ap (λ (t : State). t.params) h.filled.state; ended = last-ended wanted r q e now h; pages = last-pages wanted r q e now h; lists = tt })
ends-part wanted parts.Filling r hs e q now h = h
ends-part wanted (parts.Serving page) r hs e q now h = let e : filled.Ends e ≡ filled.Fires page = h.page in cc

same-page : (a b : Page) → filled.Fires a ≡ filled.Fires b → a ≡ b
same-page a b e = cc

module _ (wanted : Bool) (part : Part) (r : Routine) (hs : List Happening) (page : Page) (q : Routine) (now : List Happening) (later : Part) (d : Routine) (after : List Happening) (o : Option Ending) (served : HasServed page q o d now after) (over : IsOver o q.machine.params d after) where
  -- the page was served
  serves-part : HasPage wanted part r hs (filled.Fires page) q now → part ≢ parts.Filling → HasGoneOn wanted part r hs o later d after
  serves-part h n = serves part h n
    where
      serves : (x : Part) → HasPage wanted x r hs (filled.Fires page) q now → x ≢ parts.Filling → HasGoneOn wanted x r hs o later d after
      serves parts.Whole h n = (served-turned wanted r q page now h o d after served, record { ready = over.ready; params = over.params ∙ ap (λ (t : State). t.params) h.filled.state; ended = over.ended; pages = over.pages; lists = over.lists })
      serves parts.Filling h n = absurd (n refl)
      serves (parts.Serving p) h n = (
        subst (λ x. HasServed x r o d hs after) (same-page page p h.page) (subst (λ x. HasServed page x o d hs after) h.routine (subst (λ x. HasServed page q o d x after) h.happened served)),
        record { ready = over.ready; params = over.params ∙ ap (λ x. x.machine.params) h.routine; ended = over.ended; pages = over.pages; lists = over.lists },
      )

-- the same of a result
module _ {E : Type 0} (wanted : Bool) (part : Part) (r : Routine) (hs : List Happening) (page : Page) (q : Routine) (now : List Happening) (h : HasPage wanted part r hs (filled.Fires page) q now) (n : part ≢ parts.Filling) (later : Part) (d : Routine) (after : List Happening) where
  pub serves-result : (x : Result (Option Ending) E)
      → IfOk x (λ o. HasServed page q o d now after) → IfOk x (λ o. IfNone o (IsReady d)) → OnOk x (d.machine.params ≡ q.machine.params)
      → OnOk x (IsEnded d) → OnOk x (ArePages d.store after) → IfOk x (λ o. IfNone o (AreHappened d after))
      → IfOk x (λ o. HasGoneOn wanted part r hs o later d after)
  serves-result (Ok o) served ready params ended pages lists =
      serves-part wanted part r hs page q now later d after o served (record { ready = ready; params = params; ended = ended; pages = pages; lists = lists }) h n
  serves-result (Err e) served ready params ended pages lists = tt
