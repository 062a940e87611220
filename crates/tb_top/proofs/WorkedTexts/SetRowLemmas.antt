-- Worked rows of parameters that are set among the items. The checker computes them from the definitions.
use Rattle.std.proofs.Common.{refl}
use Rattle.std.specs.Fmt.{digits}
use Rattle.tb_scaled.specs.Scaled.{badness_of}
use Rattle.tb_param.specs.Defaults.{default_params}
use Rattle.tb_param.specs.Table.{row_of}
use Rattle.tb_galley.specs.Words.{word_of}
use Rattle.tb_galley.specs.GalleyNodes.{expanded}
use Rattle.tb_galley.specs.Grammar.{grammar}
use Rattle.tb_galley.specs.CanonicalText.{printed}
use Rattle.tb_break.specs.Cost.{page_badness, cost_of_badness}
use Rattle.tb_output.specs.Output.{out}
use Rattle.tb_steps.specs.Run.{run_of, run_from, step}
use Rattle.tb_top.specs.Report.{report, trace}
use Rattle.tb_top.specs.SetRows.{SetRows}

pub set_rows : SetRows
unfolding grammar row_of word_of report trace printed run_of run_from step expanded default_params out digits page_badness cost_of_badness badness_of
set_rows = record {
  set_after_a_clear = record { answered = refl; written = refl; told = refl };
  set_for_one_page = record { answered = refl; written = refl; told = refl };
  set_elsewhere = record { answered = refl; written = refl; told = refl };
  set_after_other_items = record { answered = refl; written = refl; told = refl };
  set_of_the_whole = record { answered = refl; written = refl; told = refl };
  set_in_a_foot = record { answered = refl; written = refl; told = refl };
  printed_sets = record { answered = refl; written = refl; told = refl };
}
