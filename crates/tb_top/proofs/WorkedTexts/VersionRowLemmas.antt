-- Worked rows of galley version 2 and release 2014. The checker computes them from the definitions.
use Rattle.std.proofs.Common.{refl}
use Rattle.std.specs.Fmt.{digits}
use Rattle.tb_scaled.specs.Scaled.{badness_of}
use Rattle.tb_param.specs.Defaults.{default_params}
use Rattle.tb_param.specs.Table.{row_of}
use Rattle.tb_galley.specs.Words.{word_of}
use Rattle.tb_galley.specs.GalleyNodes.{expanded}
use Rattle.tb_galley.specs.Grammar.{grammar}
use Rattle.tb_galley.specs.CanonicalText.{printed}
use Rattle.tb_break.specs.Cost.{page_badness, cost_of_badness}
use Rattle.tb_output.specs.Output.{out}
use Rattle.tb_steps.specs.Run.{run_of, run_from, step}
use Rattle.tb_top.specs.Report.{report, trace}
use Rattle.tb_top.specs.VersionRows.{VersionRows}

pub version_rows : VersionRows
unfolding grammar row_of word_of report trace printed run_of run_from step expanded default_params out digits page_badness cost_of_badness badness_of
version_rows = record {
  class_of_factor_500 = record { answered = refl; written = refl; told = refl };
  foot_of_undeclared_class = record { answered = refl; written = refl; told = refl };
  two_classes_in_a_column = record { answered = refl; written = refl; told = refl };
  release_2013 = record { answered = refl; written = refl; told = refl };
  release_2014 = record { answered = refl; written = refl; told = refl };
  release_2015 = record { answered = refl; written = refl; told = refl };
  class_of_factor_500_traced = record { answered = refl; written = refl; told = refl };
}
