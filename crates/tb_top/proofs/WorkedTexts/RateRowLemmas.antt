-- Worked rows of ratings. The checker computes them from the definitions.
use Rattle.std.proofs.Common.{refl}
use Rattle.std.specs.Fmt.{digits}
use Rattle.tb_scaled.specs.Scaled.{badness_of}
use Rattle.tb_param.specs.Defaults.{default_params}
use Rattle.tb_param.specs.Table.{row_of}
use Rattle.tb_galley.specs.Words.{word_of}
use Rattle.tb_galley.specs.GalleyNodes.{expanded}
use Rattle.tb_galley.specs.Grammar.{grammar}
use Rattle.tb_break.specs.Cost.{page_badness, cost_of_badness}
use Rattle.tb_output.specs.Output.{out}
use Rattle.tb_steps.specs.Run.{run_of, run_from, step}
use Rattle.tb_rate.specs.RatedRun.{rated_from, demerits_from}
use Rattle.tb_top.specs.RatedReport.{rated_report}
use Rattle.tb_top.specs.RateRows.{RateRows}

pub rate_rows : RateRows
unfolding grammar row_of word_of rated_report rated_from demerits_from run_of run_from step expanded default_params out digits page_badness cost_of_badness badness_of
rate_rows = record {
  greedy_leaves_a_line_alone = record { answered = refl; written = refl; told = refl };
  no_pages = record { answered = refl; written = refl; told = refl };
  square_of_a_penalty = record { answered = refl; written = refl; told = refl };
  float_waits = record { answered = refl; written = refl; told = refl };
  footnote_is_split = record { answered = refl; written = refl; told = refl };
  overfull_box = record { answered = refl; written = refl; told = refl };
  ragged_pages = record { answered = refl; written = refl; told = refl };
  dead_cycles = record { answered = refl; written = refl; told = refl };
  two_columns = record { answered = refl; written = refl; told = refl };
}
