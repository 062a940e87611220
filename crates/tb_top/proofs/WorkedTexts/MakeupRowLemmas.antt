-- Worked rows of plain mode. The checker computes them from the definitions.
use Rattle.std.proofs.Common.{refl}
use Rattle.std.specs.Fmt.{digits}
use Rattle.tb_scaled.specs.Scaled.{badness_of}
use Rattle.tb_param.specs.Defaults.{default_params}
use Rattle.tb_param.specs.Table.{row_of}
use Rattle.tb_galley.specs.Words.{word_of}
use Rattle.tb_galley.specs.Grammar.{grammar}
use Rattle.tb_break.specs.Cost.{page_badness, cost_of_badness}
use Rattle.tb_plain.specs.GalleyNodes.{made_up}
use Rattle.tb_plain.specs.Run.{makeup_of, makeup_from, makeup_step, step_tries}
use Rattle.tb_plain.specs.Report.{makeup_report}
use Rattle.tb_top.specs.MakeupTrace.{makeup_trace}
use Rattle.tb_top.specs.MakeupRows.{MakeupRows}
use Rattle.tb_top.specs.MakeupTraceRows.{MakeupTraceRows}

pub makeup_rows : MakeupRows
unfolding grammar row_of word_of makeup_report makeup_of makeup_from makeup_step step_tries made_up default_params digits page_badness cost_of_badness badness_of
makeup_rows = record {
  empty_galley = record { answered = refl; written = refl; told = refl };
  page_of_text = record { answered = refl; written = refl; told = refl };
  ragged_page = record { answered = refl; written = refl; told = refl };
  held_footnote = record { answered = refl; written = refl; told = refl };
  note_has_a_page = record { answered = refl; written = refl; told = refl };
  page_limit = record { answered = refl; written = refl; told = refl };
  float_fits = record { answered = refl; written = refl; told = refl };
  float_goes_to_the_top = record { answered = refl; written = refl; told = refl };
  float_has_a_page = record { answered = refl; written = refl; told = refl };
  class_line_of_253 = record { answered = refl; written = refl; told = refl };
  two_columns = record { answered = refl; written = refl; told = refl };
  foot_of_another_class = record { answered = refl; written = refl; told = refl };
}

pub makeup_trace_rows : MakeupTraceRows
unfolding grammar row_of word_of makeup_trace makeup_of makeup_from makeup_step step_tries made_up default_params digits page_badness cost_of_badness badness_of
makeup_trace_rows = record { float_in_the_text = refl }
