use Rattle.tb_top.proofs.WorkedTexts.WorkedRows.{worked_rows}
use Rattle.tb_top.proofs.WorkedTexts.FloatRowLemmas.{float_rows}
use Rattle.tb_top.proofs.WorkedTexts.EnlargeRowLemmas.{enlarge_rows}
use Rattle.tb_top.proofs.WorkedTexts.ColumnRowLemmas.{column_rows}
use Rattle.tb_top.proofs.WorkedTexts.ColumnEndRowLemmas.{column_end_rows}
use Rattle.tb_top.proofs.WorkedTexts.TitleRowLemmas.{title_rows}
use Rattle.tb_top.proofs.WorkedTexts.SetRowLemmas.{set_rows}
use Rattle.tb_top.proofs.WorkedTexts.VersionRowLemmas.{version_rows}
use Rattle.tb_top.proofs.WorkedTexts.RateRowLemmas.{rate_rows}
use Rattle.tb_top.proofs.WorkedTexts.BestRowLemmas.{best_rows}
use Rattle.tb_top.proofs.WorkedTexts.WhyRowLemmas.{why_rows}
use Rattle.tb_top.proofs.WorkedTexts.WhyWideRowLemmas.{why_wide_rows}
use Rattle.tb_top.proofs.WorkedTexts.LinesRowLemmas.{lines_rows}
use Rattle.tb_top.proofs.WorkedTexts.MakeupRowLemmas.{makeup_rows, makeup_trace_rows}
use Rattle.tb_top.proofs.rows.check_rows.Goals as goal

pub returns-clause-text : goal.returns-clause-text
returns-clause-text c = worked_rows

pub returns-clause-floats : goal.returns-clause-floats
returns-clause-floats c = float_rows

pub returns-clause-enlarged : goal.returns-clause-enlarged
returns-clause-enlarged c = enlarge_rows

pub returns-clause-columns : goal.returns-clause-columns
returns-clause-columns c = column_rows

pub returns-clause-column_ends : goal.returns-clause-column_ends
returns-clause-column_ends c = column_end_rows

pub returns-clause-titles : goal.returns-clause-titles
returns-clause-titles c = title_rows

pub returns-clause-sets : goal.returns-clause-sets
returns-clause-sets c = set_rows

pub returns-clause-versions : goal.returns-clause-versions
returns-clause-versions c = version_rows

pub returns-clause-ratings : goal.returns-clause-ratings
returns-clause-ratings c = rate_rows

pub returns-clause-best : goal.returns-clause-best
returns-clause-best c = best_rows

pub returns-clause-told : goal.returns-clause-told
returns-clause-told c = why_rows

pub returns-clause-told_wide : goal.returns-clause-told_wide
returns-clause-told_wide c = why_wide_rows

pub returns-clause-lines : goal.returns-clause-lines
returns-clause-lines c = lines_rows

pub returns-clause-makeup : goal.returns-clause-makeup
returns-clause-makeup c = makeup_rows

pub returns-clause-makeup_trace : goal.returns-clause-makeup_trace
returns-clause-makeup_trace c = makeup_trace_rows
