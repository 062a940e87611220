-- If the limit on dead cycles has room for a galley, no refusal is for them.
use Rattle.std.proofs.Common.{◌≡◌, ℕ, List, Option, Some}
use Rattle.tb_galley.specs.declared.Galley.{Galley}
use Rattle.tb_galley.specs.Valid.{IsValid}
use Rattle.tb_steps.specs.Run.{End, dead_cycles, run_of}
use Rattle.tb_top.specs.declared.View.{View}
use Rattle.tb_top.specs.declared.PageFault.{PageFault}
use Rattle.tb_top.specs.declared.PageFault.TheVariants as faults
use Rattle.tb_top.specs.Pages.{end_fault, EndsWith, Refuses, StopsText, RefusesText, IsNoCycleFault}
use Rattle.tb_laws.specs.DeadCycles.{EndsWithinCycles, HasRoomForCycles}
use Rattle.tb_laws.proofs.DeadCycles.CycleBound.{dead-cycle-bound}

pub not-ended : (e : End) (n : ℕ) → EndsWithinCycles e → end_fault e ≡ Some (faults.DeadCycles n) → ⊥
not-ended (dead_cycles m) n few is = absurd few
not-ended e n few is = cc

-- a run that was refused for its dead cycles had no room for them
pub no-room : (g : Galley) → IsValid g → (v : View) (old new : Option (List ℕ)) (n : ℕ) → EndsWith v (run_of g) old new (faults.DeadCycles n) → HasRoomForCycles g → ⊥
no-room g valid v old new n h room = not-ended (run_of g).end n (dead-cycle-bound g valid room) h.ended

pub not-for-cycles : (g : Galley) → IsValid g → HasRoomForCycles g → (v : View) (old new : Option (List ℕ)) (f : PageFault) → Refuses v (run_of g) old new f → IsNoCycleFault f
not-for-cycles g valid room v old new (faults.DeadCycles n) h = absurd (no-room g valid v old new n h room)
not-for-cycles g valid room v old new f h = tt

-- ---- the same of a run with any text

pub no-room-for-text : (g : Galley) → IsValid g → (text : List ℕ) (old new : Option (List ℕ)) (n : ℕ) → StopsText (run_of g).end text old new (faults.DeadCycles n) → HasRoomForCycles g → ⊥
no-room-for-text g valid text old new n h room = not-ended (run_of g).end n (dead-cycle-bound g valid room) h.ended

pub text-not-for-cycles : (g : Galley) → IsValid g → HasRoomForCycles g → (text : List ℕ) (old new : Option (List ℕ)) (f : PageFault) → RefusesText (run_of g).end text old new f → IsNoCycleFault f
text-not-for-cycles g valid room text old new (faults.DeadCycles n) h = absurd (no-room-for-text g valid text old new n h room)
text-not-for-cycles g valid room text old new f h = tt
