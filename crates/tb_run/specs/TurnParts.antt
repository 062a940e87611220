-- A turn in parts: the whole of it, the filling of a page, and the serving of one that was filled. No public clause cites this module.
use Rattle.std.specs.Prelude.{◌≡◌, Bool, List, [], Option, Some, None, IfNone}
use Rattle.tb_param.specs.declared.Params.{Params}
use Rattle.tb_items.specs.declared.happenings.Happening.{Happening}
use Rattle.tb_items.specs.Happenings.{happened_lists, ArePages}
use Rattle.tb_run.specs.declared.routine.Routine.{Routine}
use Rattle.tb_run.specs.declared.routine.Ending.{Ending}
use Rattle.tb_run.specs.declared.routine.Filled.{Filled}
use Rattle.tb_run.specs.declared.routine.Filled.TheVariants as filled
use Rattle.tb_run.specs.declared.routine.Part.{Part}
use Rattle.tb_run.specs.declared.routine.Part.TheVariants as parts
use Rattle.tb_run.specs.Routine.{state_of, IsReady, IsTurned, IsEnded, AreHappened}
use Rattle.tb_run.specs.FilledPages.{params_in, CanServe, IsFiring, IsFilledLast, Fills, HasServed}

-- a part of a turn can be done: its page is to be filled, and nothing happened yet, or it can be served
abbrev pub CanGoOn : Part → Routine → List Happening → Type 0
CanGoOn parts.Whole r hs = IsReady r × (hs ≡ [])
CanGoOn parts.Filling r hs = IsReady r × (hs ≡ [])
CanGoOn (parts.Serving page) r hs = CanServe page r × (happened_lists hs ≡ [])

-- ---- its page

-- this is the page that is to be served, and nothing changed
pub record IsGiven (o f : Filled) (r q : Routine) (hs now : List Happening) : Type 0 where
  pub page : o ≡ f
  pub routine : q ≡ r
  pub happened : now ≡ hs

-- this is the page that is to be served, or the one that was filled
abbrev pub HasPage : Bool → Part → Routine → List Happening → Filled → Routine → List Happening → Type 0
HasPage wanted parts.Whole r hs o q now = Fills wanted r o q now
HasPage wanted parts.Filling r hs o q now = Fills wanted r o q now
HasPage wanted (parts.Serving page) r hs o q now = IsGiven o (filled.Fires page) r q hs now

-- ---- what is done

-- a turn came to its end, and these parameters hold: the routine is ready for the next one, unless the run ended, and what happened can be read
pub record IsOver (o : Option Ending) (p : Params) (q : Routine) (hs : List Happening) : Type 0 where
  pub ready : IfNone o (IsReady q)
  pub params : q.machine.params ≡ p
  pub ended : IsEnded q
  pub pages : ArePages q.store hs
  pub lists : IfNone o (AreHappened q hs)

-- a page that was filled is to be served next
abbrev pub IsLeft : Bool → Routine → Part → Routine → List Happening → Type 0
IsLeft wanted r parts.Whole q hs = ⊥
IsLeft wanted r parts.Filling q hs = ⊥
IsLeft wanted r (parts.Serving page) q hs = IsFiring wanted r page q hs

-- a page was filled: it is to be served next, or the run ended before it fires
abbrev pub HasFilled : Bool → Routine → Option Ending → Part → Routine → List Happening → Type 0
HasFilled wanted r None later q hs = IsLeft wanted r later q hs
HasFilled wanted r (Some e) later q hs = IsFilledLast wanted r e q hs

-- the part was done, with this ending, and that part is left
abbrev pub HasGoneOn : Bool → Part → Routine → List Happening → Option Ending → Part → Routine → List Happening → Type 0
HasGoneOn wanted parts.Whole r hs o later q now = IsTurned wanted r now o q × IsOver o (params_in (state_of r)) q now
HasGoneOn wanted parts.Filling r hs o later q now = HasFilled wanted r o later q now
HasGoneOn wanted (parts.Serving page) r hs o later q now = HasServed page r o q hs now × IsOver o r.machine.params q now
