-- Worked rows of what is told of decisions. The checker computes them from the definitions.
use Rattle.std.proofs.Common.{refl}
use Rattle.std.specs.Fmt.{digits}
use Rattle.tb_scaled.specs.Scaled.{badness_of}
use Rattle.tb_param.specs.Defaults.{default_params}
use Rattle.tb_param.specs.Table.{row_of}
use Rattle.tb_galley.specs.Words.{word_of}
use Rattle.tb_galley.specs.GalleyNodes.{expanded}
use Rattle.tb_galley.specs.Grammar.{grammar}
use Rattle.tb_break.specs.Cost.{page_badness, cost_of_badness}
use Rattle.tb_output.specs.Output.{out}
use Rattle.tb_steps.specs.Run.{run_of, run_from, step}
use Rattle.tb_why.specs.Firing.{firing_pieces}
use Rattle.tb_why.specs.WhyRun.{step_shown, shown_from, shown_run}
use Rattle.tb_top.specs.WhyReport.{why_report}
use Rattle.tb_top.specs.WhyRows.{WhyRows}

pub why_rows : WhyRows
unfolding grammar row_of word_of why_report shown_run shown_from step_shown firing_pieces run_of run_from step expanded default_params out digits page_badness cost_of_badness badness_of
why_rows = record {
  class_at_the_bottom = record { answered = refl; written = refl; told = refl };
  clear_takes_a_top_float_back = record { answered = refl; written = refl; told = refl };
  float_of_79_goes_here = record { answered = refl; written = refl; told = refl };
  float_of_80_is_deferred = record { answered = refl; written = refl; told = refl };
  bang_does_not_help_the_next_float = record { answered = refl; written = refl; told = refl };
  only_h_gains_t = record { answered = refl; written = refl; told = refl };
  in_text_float_carried_past_a_later_one = record { answered = refl; written = refl; told = refl };
  marginal_notes = record { answered = refl; written = refl; told = refl };
  bang_passes_the_share = record { answered = refl; written = refl; told = refl };
  suppressed = record { answered = refl; written = refl; told = refl };
  too_high_for_its_share = record { answered = refl; written = refl; told = refl };
}
