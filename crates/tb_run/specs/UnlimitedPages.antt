-- A page that is served whatever `maxnodes` is.
use Rattle.std.specs.Prelude.{◌≡◌, ◌<◌, pos, ◌<ℤ◌, ◌≤ℤ◌, true, false, List, ◌++◌, Option, Some, None}
use Rattle.tb_builder.specs.declared.Page.{Page}
use Rattle.tb_output.specs.declared.RunFault.{RunFault}
use Rattle.tb_output.specs.declared.RunFault.TheVariants as faults
use Rattle.tb_sheet.specs.declared.Sent.{Sent}
use Rattle.tb_output.specs.Output.{out}
use Rattle.tb_output.specs.Machine.{events_shown}
use Rattle.tb_items.specs.declared.happenings.Happening.{Happening}
use Rattle.tb_run.specs.declared.routine.Routine.{Routine}
use Rattle.tb_run.specs.declared.routine.Ending.{Ending}
use Rattle.tb_run.specs.declared.routine.Ending.TheVariants as endings
use Rattle.tb_steps.specs.Run.{held_count}
use Rattle.tb_run.specs.Routine.{state_of}
use Rattle.tb_run.specs.FilledPages.{sent_happenings, fired_whole}

-- the firing was allowed and went through: the routine shows the state after it, and as much is left as before
pub record HasGoneOn (page : Page) (r q : Routine) : Type 0 where
  pub alive : pos r.machine.dead_cycles <ℤ r.machine.params.maxdeadcycles
  pub done : (out r.machine.params (state_of r) (fired_whole r page)).refused ≡ false
  pub state : state_of q ≡ (out r.machine.params (state_of r) (fired_whole r page)).state
  pub left : q.left ≡ r.left

-- what the firing sent came to what had happened
pub record HasSent (page : Page) (r q : Routine) (before after : List Happening) : Type 0 where
  pub sent : List Sent
  pub grown : after ≡ before ++ sent_happenings sent
  pub shown : events_shown q.store sent ≡ (out r.machine.params (state_of r) (fired_whole r page)).sent

-- the ending is that at the nodes which a routine holds, and these are more than 4194304
pub record IsOverMost (e : Ending) (r : Routine) : Type 0 where
  pub ending : e ≡ endings.NodeLimit (held_count (state_of r))
  pub more : 4194304 < held_count (state_of r)

-- the firing was not allowed after too many without a page, or it met the page limit
abbrev pub IsRefusedBy : RunFault → Page → Routine → Type 0
IsRefusedBy (faults.DeadCycles n) page r = r.machine.params.maxdeadcycles ≤ℤ pos r.machine.dead_cycles
IsRefusedBy (faults.PageLimit n) page r = (pos r.machine.dead_cycles <ℤ r.machine.params.maxdeadcycles) × ((out r.machine.params (state_of r) (fired_whole r page)).refused ≡ true)
IsRefusedBy faults.Memory page r = ⊥

-- after the page the run goes on, or ends so
abbrev pub ServesUnlimited : Page → Routine → Option Ending → Routine → Type 0
ServesUnlimited page r None q = HasGoneOn page r q
ServesUnlimited page r (Some endings.Done) q = ⊥
ServesUnlimited page r (Some (endings.PoolFull line live)) q = ⊥
ServesUnlimited page r (Some (endings.Fault f)) q = IsRefusedBy f page r
ServesUnlimited page r (Some (endings.NodeLimit n)) q = HasGoneOn page r q × IsOverMost (endings.NodeLimit n) q
