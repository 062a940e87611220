-- Laws of whole runs of plain TeX's page makeup.
use Rattle.std.specs.Prelude.{◌≡◌, not, List, [], ◌∷◌, ◌++◌, filter, IsPermutation}
use Rattle.tb_node.specs.PlainNodes.{PlainNode}
use Rattle.tb_galley.specs.declared.Galley.{Galley}
use Rattle.tb_galley.specs.Valid.{IsValid}
use Rattle.tb_sheet.specs.Sheet.{PlainSent, warned, shipped}
use Rattle.tb_report.specs.RunTotals.{sheet_nodes}
use Rattle.tb_plain.specs.Suitability.{IsSuited}
use Rattle.tb_plain.specs.Run.{MakeupRun, sent_of, done, makeup_of}
use Rattle.tb_plain.specs.Report.{sent_totals}
use Rattle.tb_laws.specs.Laws.{text_line, foot_line, lines_by, galley_floats, float_lines, box_lines_of, float_lines_of, node_lines, is_in, HasTotals}

-- the nodes of the pages that are shipped, in order
abbrev pub sent_nodes : List PlainSent → List PlainNode
sent_nodes [] = []
sent_nodes (warned w ∷ es) = sent_nodes es
sent_nodes (shipped page sheet ∷ es) = sheet_nodes sheet ++ sent_nodes es

-- each box, rule and float ships once, and the text in order; the totals are those of the galley
pub record MakesUpOnce (g : Galley) (r : MakeupRun) : Type 0 where
  pub text : filter (λ n. not (is_in (lines_by foot_line g.items) n)) (node_lines box_lines_of (sent_nodes (sent_of r))) ≡ lines_by text_line g.items
  pub feet : IsPermutation (filter (is_in (lines_by foot_line g.items)) (node_lines box_lines_of (sent_nodes (sent_of r)))) (lines_by foot_line g.items)
  pub floats : IsPermutation (node_lines float_lines_of (sent_nodes (sent_of r))) (float_lines (galley_floats g.items))
  pub totals : HasTotals g (sent_totals (sent_of r))

-- this holds if the run of a valid galley that is served is done
abbrev pub EachMakesUpOnce : Type 0
EachMakesUpOnce = (g : Galley) → IsValid g → IsSuited g → (makeup_of g).end ≡ done → MakesUpOnce g (makeup_of g)
