-- What `paginate` returns and writes.
use Rattle.std.specs.Prelude.{◌≡◌, ℕ, List, [], Option, Some, None}
use Rattle.std.specs.Io.KnownBytes.{Appends}
use Rattle.tb_io.specs.Sink.{AppendsPrefix}
use Rattle.tb_report.specs.declared.Totals.{Totals}
use Rattle.tb_top.specs.declared.View.{View}
use Rattle.tb_top.specs.declared.View.TheVariants as views
use Rattle.tb_top.specs.declared.PageFault.{PageFault}
use Rattle.tb_top.specs.declared.PageFault.TheVariants as faults
use Rattle.tb_steps.specs.Run.{Run, End, done, pool_full, dead_cycles, page_limit, node_limit}
use Rattle.tb_top.specs.Report.{report, trace}
use Rattle.tb_laws.specs.Totals.{totals_of}

-- what a view shows of a run
abbrev pub view_text : View → Run → List ℕ
view_text views.Report r = report r
view_text views.Trace r = trace r
view_text views.Silent r = []

-- the refusal of a run that does not end well
abbrev pub end_fault : End → Option PageFault
end_fault (done left) = None
end_fault (pool_full line live) = Some (faults.PoolFull line live)
end_fault (dead_cycles n) = Some (faults.DeadCycles n)
end_fault (page_limit n) = Some (faults.PageLimit n)
end_fault (node_limit n) = Some (faults.NodeLimit n)

-- the run ended well, its totals are returned, and its text was written
pub record Paginates (v : View) (r : Run) (old new : Option (List ℕ)) (t : Totals) : Type 0 where
  pub ended : end_fault r.end ≡ None
  pub totals : t ≡ totals_of r.events
  pub written : Appends old new (view_text v r)

-- the run ended with this refusal, and its text up to there was written
pub record EndsWith (v : View) (r : Run) (old new : Option (List ℕ)) (e : PageFault) : Type 0 where
  pub ended : end_fault r.end ≡ Some e
  pub written : Appends old new (view_text v r)

-- what holds after each refusal: after a failed write or lack of memory a prefix of the text was written
abbrev pub Refuses : View → Run → Option (List ℕ) → Option (List ℕ) → PageFault → Type 0
Refuses v r old new (faults.PoolFull line live) = EndsWith v r old new (faults.PoolFull line live)
Refuses v r old new (faults.DeadCycles n) = EndsWith v r old new (faults.DeadCycles n)
Refuses v r old new (faults.PageLimit n) = EndsWith v r old new (faults.PageLimit n)
Refuses v r old new (faults.NodeLimit n) = EndsWith v r old new (faults.NodeLimit n)
Refuses v r old new faults.WriteFault = AppendsPrefix old new (view_text v r)
Refuses v r old new faults.Memory = AppendsPrefix old new (view_text v r)

-- a refusal that is not for the dead cycles
abbrev pub IsNoCycleFault : PageFault → Type 0
IsNoCycleFault (faults.PoolFull line live) = Unit {0}
IsNoCycleFault (faults.DeadCycles n) = ⊥
IsNoCycleFault (faults.PageLimit n) = Unit {0}
IsNoCycleFault (faults.NodeLimit n) = Unit {0}
IsNoCycleFault faults.WriteFault = Unit {0}
IsNoCycleFault faults.Memory = Unit {0}

-- a run with this end was refused so, and this text, which is that of the run up to there, was written
pub record StopsText (end : End) (text : List ℕ) (old new : Option (List ℕ)) (e : PageFault) : Type 0 where
  pub ended : end_fault end ≡ Some e
  pub written : Appends old new text

-- what holds after each refusal of a run with this text: after a failed write or lack of memory a prefix of it was written
abbrev pub RefusesText : End → List ℕ → Option (List ℕ) → Option (List ℕ) → PageFault → Type 0
RefusesText end text old new (faults.PoolFull line live) = StopsText end text old new (faults.PoolFull line live)
RefusesText end text old new (faults.DeadCycles n) = StopsText end text old new (faults.DeadCycles n)
RefusesText end text old new (faults.PageLimit n) = StopsText end text old new (faults.PageLimit n)
RefusesText end text old new (faults.NodeLimit n) = StopsText end text old new (faults.NodeLimit n)
RefusesText end text old new faults.WriteFault = AppendsPrefix old new text
RefusesText end text old new faults.Memory = AppendsPrefix old new text
