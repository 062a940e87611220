-- What `paginate_plain` returns and writes.
use Rattle.std.specs.Prelude.{◌≡◌, ℕ, List, [], Option, Some, None}
use Rattle.std.specs.Io.KnownBytes.{Appends}
use Rattle.tb_io.specs.Sink.{AppendsPrefix}
use Rattle.tb_report.specs.declared.Totals.{Totals}
use Rattle.tb_plain.specs.Run.{MakeupRun, sent_of, MakeupEnd, done, page_limit, node_limit}
use Rattle.tb_plain.specs.Report.{makeup_report, sent_totals}
use Rattle.tb_top.specs.MakeupTrace.{makeup_trace}
use Rattle.tb_top.specs.declared.View.{View}
use Rattle.tb_top.specs.declared.View.TheVariants as views
use Rattle.tb_top.specs.declared.makeup_pages.PlainRunFault.{PlainRunFault}
use Rattle.tb_top.specs.declared.makeup_pages.PlainRunFault.TheVariants as faults

-- what a view shows of a run
abbrev pub makeup_text : View → MakeupRun → List ℕ
makeup_text views.Report r = makeup_report r
makeup_text views.Trace r = makeup_trace r
makeup_text views.Silent r = []

-- the refusal of a run that does not end well
abbrev pub makeup_fault : MakeupEnd → Option PlainRunFault
makeup_fault done = None
makeup_fault (page_limit n) = Some (faults.PageLimit n)
makeup_fault (node_limit n) = Some (faults.NodeLimit n)

-- the run ended well, its totals are returned, and its text was written
pub record MakesPages (v : View) (r : MakeupRun) (old new : Option (List ℕ)) (t : Totals) : Type 0 where
  pub ended : makeup_fault r.end ≡ None
  pub totals : t ≡ sent_totals (sent_of r)
  pub written : Appends old new (makeup_text v r)

-- the run ended with this refusal, and its text up to there was written
pub record StopsRun (v : View) (r : MakeupRun) (old new : Option (List ℕ)) (e : PlainRunFault) : Type 0 where
  pub ended : makeup_fault r.end ≡ Some e
  pub written : Appends old new (makeup_text v r)

-- what holds after each refusal: after a failed write or lack of memory a prefix of the text was written
abbrev pub RefusesPages : View → MakeupRun → Option (List ℕ) → Option (List ℕ) → PlainRunFault → Type 0
RefusesPages v r old new (faults.PageLimit n) = StopsRun v r old new (faults.PageLimit n)
RefusesPages v r old new (faults.NodeLimit n) = StopsRun v r old new (faults.NodeLimit n)
RefusesPages v r old new faults.WriteFault = AppendsPrefix old new (makeup_text v r)
RefusesPages v r old new faults.Memory = AppendsPrefix old new (makeup_text v r)
