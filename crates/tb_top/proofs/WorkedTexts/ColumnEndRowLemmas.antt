-- Worked rows of version 3. The checker computes them from the definitions.
use Rattle.std.proofs.Common.{refl}
use Rattle.std.specs.Fmt.{digits}
use Rattle.tb_scaled.specs.Scaled.{badness_of}
use Rattle.tb_param.specs.Defaults.{default_params}
use Rattle.tb_param.specs.Table.{row_of}
use Rattle.tb_galley.specs.Words.{word_of}
use Rattle.tb_galley.specs.GalleyNodes.{expanded}
use Rattle.tb_galley.specs.Grammar.{grammar}
use Rattle.tb_galley.specs.CanonicalText.{printed}
use Rattle.tb_break.specs.Cost.{page_badness, cost_of_badness}
use Rattle.tb_output.specs.Output.{out}
use Rattle.tb_steps.specs.Run.{run_of, run_from, step}
use Rattle.tb_top.specs.Report.{report, trace}
use Rattle.tb_top.specs.ColumnEndRows.{ColumnEndRows}

pub column_end_rows : ColumnEndRows
unfolding grammar row_of word_of report trace printed run_of run_from step expanded default_params out digits page_badness cost_of_badness badness_of
column_end_rows = record {
  depth_above_footnotes_dropped = record { answered = refl; written = refl; told = refl };
  depth_above_footnotes_kept = record { answered = refl; written = refl; told = refl };
  glue_above_footnotes = record { answered = refl; written = refl; told = refl };
  footnotes_below_a_bottom_float = record { answered = refl; written = refl; told = refl };
  footnotes_without_a_rule = record { answered = refl; written = refl; told = refl };
  own_rule_above_footnotes = record { answered = refl; written = refl; told = refl };
  rules_beside_floats = record { answered = refl; written = refl; told = refl };
  glue_at_the_ends = record { answered = refl; written = refl; told = refl };
  rule_of_a_height_below_0 = record { answered = refl; written = refl; told = refl };
  rule_below_double_floats = record { answered = refl; written = refl; told = refl };
  class_below_the_footnotes = record { answered = refl; written = refl; told = refl };
  class_below_in_version_2 = record { answered = refl; written = refl; told = refl };
}
