-- A walk over a list in which floats wait, on its way. No public clause cites this module.
use Rattle.std.specs.Prelude.{◌≡◌, ◌≢◌, ◌<◌, ◌≤◌, List, Some, length, take, drop, slice_get}
use Rattle.tb_node.specs.declared.Float.{Float}
use Rattle.tb_node.specs.declared.Where.{Where}
use Rattle.tb_node.specs.declared.Where.TheVariants.{Deferred}
use Rattle.tb_float.specs.declared.Part.{Part}
use Rattle.tb_float.specs.Classes.{AreClassesOf, HasLeft}
use Rattle.tb_float.specs.Lists.{FloatLists, floats_of}
use Rattle.tb_area.specs.declared.deferred.Kept.{Kept}

-- a walk, which tries the floats of a list behind the first ones, which stay, ends with these lists; the set has the classes of those that stay, and counts those that are left
pub record IsOnWay (from : Part) (walk : List Float → List Float → FloatLists → FloatLists) (kept : Kept) (lists end : FloatLists) : Type 0 where
  pub within : kept.count ≤ length (floats_of from lists)
  pub classes : AreClassesOf kept.classes (take kept.count (floats_of from lists))
  pub left : HasLeft kept.classes (floats_of from lists)
  pub ends : walk (take kept.count (floats_of from lists)) (drop kept.count (floats_of from lists)) lists ≡ end

-- a walk that is on its way with some floats that stay is so with these later ones too
abbrev pub GoesOn : Part → (List Float → List Float → FloatLists → FloatLists) → FloatLists → Kept → Kept → Type 0
GoesOn from walk lists kept later = (end : FloatLists) → IsOnWay from walk kept lists end → IsOnWay from walk later lists end

-- the walk goes on to the next float that has a place, and finds that place, or deferred exactly if it passed all that are left
pub record FindsNext (from : Part) (walk : List Float → List Float → FloatLists → FloatLists) (place_of : List Float → Float → Where) (lists : FloatLists) (kept later : Kept) (found : Where) : Type 0 where
  pub way : GoesOn from walk lists kept later
  pub within : found ≢ Deferred → later.count < length (floats_of from lists)
  pub place : (end : FloatLists) (f : Float) → IsOnWay from walk kept lists end → slice_get (floats_of from lists) later.count ≡ Some f → found ≡ place_of (take later.count (floats_of from lists)) f
  pub over : found ≡ Deferred → length (floats_of from lists) ≤ later.count
