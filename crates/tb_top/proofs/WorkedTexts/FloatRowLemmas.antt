-- Worked rows with floats in one column. The checker computes them from the definitions.
use Rattle.std.proofs.Common.{refl}
use Rattle.std.specs.Fmt.{digits}
use Rattle.tb_scaled.specs.Scaled.{badness_of}
use Rattle.tb_param.specs.Defaults.{default_params}
use Rattle.tb_param.specs.Table.{row_of}
use Rattle.tb_galley.specs.Words.{word_of}
use Rattle.tb_galley.specs.GalleyNodes.{expanded}
use Rattle.tb_galley.specs.Grammar.{grammar}
use Rattle.tb_galley.specs.CanonicalText.{printed}
use Rattle.tb_break.specs.Cost.{page_badness, cost_of_badness}
use Rattle.tb_output.specs.Output.{out}
use Rattle.tb_steps.specs.Run.{run_of, run_from, step}
use Rattle.tb_top.specs.Report.{report, trace}
use Rattle.tb_top.specs.FloatRows.{FloatRows}

pub float_rows : FloatRows
unfolding grammar row_of word_of report trace printed run_of run_from step expanded default_params out digits page_badness cost_of_badness badness_of
float_rows = record {
  float_of_79_goes_here = record { answered = refl; written = refl; told = refl };
  float_of_80_is_deferred = record { answered = refl; written = refl; told = refl };
  bang_does_not_help_the_next_float = record { answered = refl; written = refl; told = refl };
  only_here_may_go_to_the_top = record { answered = refl; written = refl; told = refl };
  carried_past_a_later_float = record { answered = refl; written = refl; told = refl };
  may_not_pass_one_of_its_class = record { answered = refl; written = refl; told = refl };
  float_page_above_the_minimum = record { answered = refl; written = refl; told = refl };
  float_page_at_the_minimum = record { answered = refl; written = refl; told = refl };
  pool_full_at_a_float = record { answered = refl; written = refl; told = refl };
  dead_cycles_of_floats = record { answered = refl; written = refl; told = refl };
  dead_cycles_within_the_bound = record { answered = refl; written = refl; told = refl };
  article_page = record { answered = refl; written = refl; told = refl };
  article_cut_by_a_byte = record { answered = refl; written = refl; told = refl };
  article_cut_by_two_bytes = record { answered = refl; written = refl; told = refl };
  page_holds_only_floats = record { answered = refl; written = refl; told = refl };
  large_float = record { answered = refl; written = refl; told = refl };
  class_at_the_bottom_keeps_from_the_top = record { answered = refl; written = refl; told = refl };
  double_float_in_one_column = record { answered = refl; written = refl; told = refl };
}
