-- What a view shows of a run, as it is written.
use Rattle.std.specs.Prelude.{◌≡◌, ◌≤◌, ℕ, Bool, true, false, List, [], ◌∷◌, ◌++◌, Option, Result, IfErr, OnOk, OnErr}
use Rattle.std.specs.Io.KnownBytes.{Appends}
use Rattle.tb_io.specs.Faults.{Rose}
use Rattle.tb_io.specs.Sink.{AppendsPrefix}
use Rattle.tb_io.specs.declared.sink.SinkFault.{SinkFault}
use Rattle.tb_io.specs.declared.sink.SinkFault.TheVariants as outputs
use Rattle.tb_report.specs.declared.Totals.{Totals}
use Rattle.tb_report.specs.RunTotals.{with_sent}
use Rattle.tb_items.specs.RunEvents.{RunEvent, offered, sent}
use Rattle.tb_top.specs.Kept.{Keeps}
use Rattle.tb_top.specs.declared.View.{View}
use Rattle.tb_top.specs.declared.View.TheVariants as views

-- what a view shows of some bytes of a report
abbrev pub viewed : View → List ℕ → List ℕ
viewed views.Report bytes = bytes
viewed views.Trace bytes = bytes
viewed views.Silent bytes = []

-- the view shows the places that were tried
abbrev pub is_traced : View → Bool
is_traced views.Report = false
is_traced views.Trace = true
is_traced views.Silent = false

-- the view shows something
abbrev pub IsShown : View → Type 0
IsShown views.Report = Unit {0}
IsShown views.Trace = Unit {0}
IsShown views.Silent = ⊥

-- the totals with what is sent among events
abbrev pub with_events : List RunEvent → Totals → Totals
with_events [] t = t
with_events (offered a ∷ es) t = with_events es t
with_events (sent e ∷ es) t = with_events es (with_sent e t)

-- the sink failed only if its faults rose, and a silent view asks nothing of it
abbrev pub IsWriteFault : View → ℕ → ℕ → SinkFault → Type 0
IsWriteFault v before now fault = fault ≡ outputs.Failed → Rose before now × IsShown v

-- a sink before and after a piece of text is shown to it
pub record Shows (v : View) (held_old held_new : Option (List ℕ)) (faults_old faults_new : ℕ) (text : List ℕ) (result : Result (Unit {0}) SinkFault) : Type 0 where
  pub whole : OnOk result (Appends held_old held_new (viewed v text))
  pub part : OnErr result (AppendsPrefix held_old held_new (viewed v text))
  pub cause : IfErr result (IsWriteFault v faults_old faults_new)
  pub later : faults_old ≤ faults_new

-- a sink and a text that is kept for it, before and after a piece is kept too; after an error a front of both is written
pub record Sends (v : View) (held_old held_new : Option (List ℕ)) (faults_old faults_new : ℕ) (kept_old kept_new text : List ℕ) (result : Result (Unit {0}) SinkFault) : Type 0 where
  pub whole : OnOk result (Keeps held_old held_new (viewed v kept_old) (viewed v kept_new) (viewed v text))
  pub part : OnErr result (AppendsPrefix held_old held_new (viewed v (kept_old ++ text)))
  pub cause : IfErr result (IsWriteFault v faults_old faults_new)
  pub later : faults_old ≤ faults_new

-- a text was not shown as a whole, and the fault is that of the sink
pub record FailsToShow {F : Type 0} (fault_of : SinkFault → F) (v : View) (held_old held_new : Option (List ℕ)) (faults_old faults_new : ℕ) (text : List ℕ) (f : F) : Type 0 where
  pub fault : SinkFault
  pub is : f ≡ fault_of fault
  pub cause : IsWriteFault v faults_old faults_new fault
  pub part : AppendsPrefix held_old held_new (viewed v text)
