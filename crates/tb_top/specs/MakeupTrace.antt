-- The trace of a run of plain TeX's page makeup.
use Rattle.std.specs.Prelude.{ℕ, List, ◌++◌, codes}
use Rattle.tb_plain.specs.Run.{MakeupRun, sent_of}
use Rattle.tb_plain.specs.Report.{closing_lines}
use Rattle.tb_makeup.specs.Makeup.{run_events}
use Rattle.tb_top.specs.Report.{all_lines, traced_lines}

-- the report with a line for each place that was tried
unfoldable pub makeup_trace : MakeupRun → List ℕ
makeup_trace r = codes "report 1\n" ++ all_lines traced_lines (run_events r.events) ++ closing_lines r.end (sent_of r)
