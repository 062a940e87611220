-- The report of a run of plain TeX's page makeup, and the line of a galley that it does not serve.
use Rattle.std.specs.Prelude.{ℕ, List, [], ◌∷◌, ◌++◌, codes, decimal}
use Rattle.tb_report.specs.declared.Totals.{Totals}
use Rattle.tb_report.specs.RunTotals.{no_totals, with_sent}
use Rattle.tb_report.specs.Lines.{sent_lines, end_lines}
use Rattle.tb_sheet.specs.Sheet.{PlainSent}
use Rattle.tb_plain.specs.Run.{MakeupRun, MakeupEnd, done, sent_of}

-- the totals of what a run shipped
abbrev pub sent_totals : List PlainSent → Totals
sent_totals [] = no_totals
sent_totals (e ∷ es) = with_sent e (sent_totals es)

-- the lines of all pages
abbrev pub all_lines : List PlainSent → List ℕ
all_lines [] = []
all_lines (e ∷ es) = sent_lines e ++ all_lines es

-- the last line, if a run is done; nothing is left then
abbrev pub closing_lines : MakeupEnd → List PlainSent → List ℕ
closing_lines done es = end_lines [] (sent_totals es)
closing_lines _ es = []

-- the report of a run, which shows no places
unfoldable pub makeup_report : MakeupRun → List ℕ
makeup_report r = codes "report 1\n" ++ all_lines (sent_of r) ++ closing_lines r.end (sent_of r)

-- the line of an item that is not served
abbrev pub unsuited_text : ℕ → List ℕ
unsuited_text line = codes "line " ++ (decimal line ++ codes ": not served in this mode")
