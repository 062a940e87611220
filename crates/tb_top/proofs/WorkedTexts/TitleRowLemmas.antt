-- Worked rows of titles over both columns. The checker computes them from the definitions.
use Rattle.std.proofs.Common.{refl}
use Rattle.std.specs.Fmt.{digits}
use Rattle.tb_scaled.specs.Scaled.{badness_of}
use Rattle.tb_param.specs.Defaults.{default_params}
use Rattle.tb_param.specs.Table.{row_of}
use Rattle.tb_galley.specs.Words.{word_of}
use Rattle.tb_galley.specs.GalleyNodes.{expanded}
use Rattle.tb_galley.specs.Grammar.{grammar}
use Rattle.tb_galley.specs.CanonicalText.{printed}
use Rattle.tb_break.specs.Cost.{page_badness, cost_of_badness}
use Rattle.tb_output.specs.Output.{out}
use Rattle.tb_steps.specs.Run.{run_of, run_from, step}
use Rattle.tb_top.specs.Report.{report, trace}
use Rattle.tb_top.specs.TitleRows.{TitleRows}

pub title_rows : TitleRows
unfolding grammar row_of word_of report trace printed run_of run_from step expanded default_params out digits page_badness cost_of_badness badness_of
title_rows = record {
  title_over_both_columns = record { answered = refl; written = refl; told = refl };
  no_rule_below_a_title = record { answered = refl; written = refl; told = refl };
  double_float_below_a_title = record { answered = refl; written = refl; told = refl };
  glue_below_a_title = record { answered = refl; written = refl; told = refl };
  title_with_a_clear_behind = record { answered = refl; written = refl; told = refl };
  title_elsewhere = record { answered = refl; written = refl; told = refl };
  title_in_version_2 = record { answered = refl; written = refl; told = refl };
}
