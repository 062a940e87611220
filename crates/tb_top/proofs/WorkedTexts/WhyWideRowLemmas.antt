-- Worked rows of what is told of columns of floats, clears, wide floats and refusals. The checker computes them from the definitions.
use Rattle.std.proofs.Common.{refl}
use Rattle.std.specs.Fmt.{digits}
use Rattle.tb_scaled.specs.Scaled.{badness_of}
use Rattle.tb_param.specs.Defaults.{default_params}
use Rattle.tb_param.specs.Table.{row_of}
use Rattle.tb_galley.specs.Words.{word_of}
use Rattle.tb_galley.specs.GalleyNodes.{expanded}
use Rattle.tb_galley.specs.Grammar.{grammar}
use Rattle.tb_break.specs.Cost.{page_badness, cost_of_badness}
use Rattle.tb_output.specs.Output.{out}
use Rattle.tb_steps.specs.Run.{run_of, run_from, step}
use Rattle.tb_why.specs.Firing.{firing_pieces}
use Rattle.tb_why.specs.WhyRun.{step_shown, shown_from, shown_run}
use Rattle.tb_top.specs.WhyReport.{why_report}
use Rattle.tb_top.specs.WhyWideRows.{WhyWideRows}

pub why_wide_rows : WhyWideRows
unfolding grammar row_of word_of why_report shown_run shown_from step_shown firing_pieces run_of run_from step expanded default_params out digits page_badness cost_of_badness badness_of
why_wide_rows = record {
  clear_takes_a_wide_float_back = record { answered = refl; written = refl; told = refl };
  company_of_two_heads = record { answered = refl; written = refl; told = refl };
  page_limit_ends_the_lines = record { answered = refl; written = refl; told = refl };
  release_2014_wide_float_waits = record { answered = refl; written = refl; told = refl };
  float_page_above_the_minimum = record { answered = refl; written = refl; told = refl };
  float_page_at_the_minimum = record { answered = refl; written = refl; told = refl };
  double_float_keeps_class_order = record { answered = refl; written = refl; told = refl };
  clear_in_two_columns = record { answered = refl; written = refl; told = refl };
  pool_full_at_a_float = record { answered = refl; written = refl; told = refl };
}
