-- The worked rows. The checker computes them from the definitions.
use Rattle.std.proofs.Common.{refl}
use Rattle.std.specs.Fmt.{digits}
use Rattle.tb_scaled.specs.Scaled.{badness_of}
use Rattle.tb_param.specs.Defaults.{default_params}
use Rattle.tb_param.specs.Table.{row_of}
use Rattle.tb_galley.specs.Words.{word_of}
use Rattle.tb_galley.specs.GalleyNodes.{expanded}
use Rattle.tb_galley.specs.Grammar.{grammar}
use Rattle.tb_break.specs.Cost.{page_badness, cost_of_badness}
use Rattle.tb_output.specs.Output.{out}
use Rattle.tb_steps.specs.Run.{step}
use Rattle.tb_rate.specs.RatedRun.{demerits_from, demerits}
use Rattle.tb_rate.specs.Rows.{DemeritRows}

pub demerit_rows : DemeritRows
unfolding grammar row_of word_of demerits demerits_from step expanded default_params out digits page_badness cost_of_badness badness_of
demerit_rows = record {
  line_left_alone = refl;
  no_pages = refl;
  page_at_a_penalty = refl;
  short_page_before_a_float = refl;
  split_footnote = refl;
  overfull_box = refl;
  ragged_pages = refl;
  refused_run = refl;
  two_columns = refl;
}
