-- Worked rows with two columns, marginal notes and suppressed areas. The checker computes them from the definitions.
use Rattle.std.proofs.Common.{refl}
use Rattle.std.specs.Fmt.{digits}
use Rattle.tb_scaled.specs.Scaled.{badness_of}
use Rattle.tb_param.specs.Defaults.{default_params}
use Rattle.tb_param.specs.Table.{row_of}
use Rattle.tb_galley.specs.Words.{word_of}
use Rattle.tb_galley.specs.GalleyNodes.{expanded}
use Rattle.tb_galley.specs.Grammar.{grammar}
use Rattle.tb_galley.specs.CanonicalText.{printed}
use Rattle.tb_break.specs.Cost.{page_badness, cost_of_badness}
use Rattle.tb_output.specs.Output.{out}
use Rattle.tb_steps.specs.Run.{run_of, run_from, step}
use Rattle.tb_top.specs.Report.{report, trace}
use Rattle.tb_top.specs.ColumnRows.{ColumnRows}

pub column_rows : ColumnRows
unfolding grammar row_of word_of report trace printed run_of run_from step expanded default_params out digits page_badness cost_of_badness badness_of
column_rows = record {
  act_between_kern_and_glue = record { answered = refl; written = refl; told = refl };
  suppressed_areas = record { answered = refl; written = refl; told = refl };
  double_float_keeps_class_order = record { answered = refl; written = refl; told = refl };
  clear_in_two_columns = record { answered = refl; written = refl; told = refl };
  pool_full_at_a_marginal_note = record { answered = refl; written = refl; told = refl };
  wide_page = record { answered = refl; written = refl; told = refl };
  notes_beside_two_columns = record { answered = refl; written = refl; told = refl };
  notes_change_sides = record { answered = refl; written = refl; told = refl };
  notes_on_reversed_sides = record { answered = refl; written = refl; told = refl };
  marginal_notes = record { answered = refl; written = refl; told = refl };
}
