-- Worked rows of pages that are made higher. The checker computes them from the definitions.
use Rattle.std.proofs.Common.{refl}
use Rattle.std.specs.Fmt.{digits}
use Rattle.tb_scaled.specs.Scaled.{badness_of}
use Rattle.tb_param.specs.Defaults.{default_params}
use Rattle.tb_param.specs.Table.{row_of}
use Rattle.tb_galley.specs.Words.{word_of}
use Rattle.tb_galley.specs.GalleyNodes.{expanded}
use Rattle.tb_galley.specs.Grammar.{grammar}
use Rattle.tb_galley.specs.CanonicalText.{printed}
use Rattle.tb_break.specs.Cost.{page_badness, cost_of_badness}
use Rattle.tb_output.specs.Output.{out}
use Rattle.tb_steps.specs.Run.{run_of, run_from, step}
use Rattle.tb_top.specs.Report.{report, trace}
use Rattle.tb_top.specs.EnlargeRows.{EnlargeRows}

pub enlarge_rows : EnlargeRows
unfolding grammar row_of word_of report trace printed run_of run_from step expanded default_params out digits page_badness cost_of_badness badness_of
enlarge_rows = record {
  enlarged_page = record { answered = refl; written = refl; told = refl };
  enlarged_by_less_than_nothing = record { answered = refl; written = refl; told = refl };
  enlarged_page_is_shrunk = record { answered = refl; written = refl; told = refl };
  enlarging_before_a_clear = record { answered = refl; written = refl; told = refl };
  enlarged_page_with_a_footnote = record { answered = refl; written = refl; told = refl };
  enlarged_page_with_a_float = record { answered = refl; written = refl; told = refl };
}
