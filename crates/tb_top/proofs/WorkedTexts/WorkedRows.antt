-- The worked rows, computed from the definitions.
use Rattle.std.proofs.Common.{◌≡◌, refl, ℕ, List, [], length, nat_lt, true, arith}
use Rattle.std.proofs.lemmas.Bool.Decides.{nat_tests}
use Rattle.std.specs.Fmt.{digits}
use Rattle.std.specs.Prelude.{codes}
use Rattle.tb_scaled.specs.Scaled.{badness_of}
use Rattle.tb_param.specs.Defaults.{default_params}
use Rattle.tb_param.specs.Table.{row_of}
use Rattle.tb_galley.specs.Words.{word_of}
use Rattle.tb_galley.specs.GalleyNodes.{expanded}
use Rattle.tb_galley.specs.Grammar.{grammar, input_limit}
use Rattle.tb_galley.specs.CanonicalText.{printed}
use Rattle.tb_words.specs.declared.Mode.TheVariants.{Report}
use Rattle.tb_break.specs.Cost.{page_badness, cost_of_badness}
use Rattle.tb_output.specs.Output.{out}
use Rattle.tb_top.specs.declared.status.Status.TheVariants.{Range}
use Rattle.tb_steps.specs.Run.{run_of, run_from, step}
use Rattle.tb_top.specs.Report.{report, trace}
use Rattle.tb_top.specs.Rows.{Replies, WorkedRows}

too_long : (input : List ℕ) → nat_lt input_limit (length input) ≡ true → Replies Report input Range [] (codes "galley_pages: line 0 field 0: InputSize\n")
unfolding grammar digits
too_long input long = record { answered = rw long refl; written = rw long refl; told = rw long refl }

pub worked_rows : WorkedRows
unfolding grammar row_of word_of report trace printed run_of run_from step expanded default_params out digits page_badness cost_of_badness badness_of
worked_rows = record {
  three_boxes_fill_a_page = record { answered = refl; written = refl; told = refl };
  carriage_returns = record { answered = refl; written = refl; told = refl };
  empty_galley = record { answered = refl; written = refl; told = refl };
  later_of_equal_costs = record { answered = refl; written = refl; told = refl };
  bare_prelude = record { answered = refl; written = refl; told = refl };
  overfull_box = record { answered = refl; written = refl; told = refl };
  forbidden_break = record { answered = refl; written = refl; told = refl };
  kern_before_glue = record { answered = refl; written = refl; told = refl };
  kern_without_glue = record { answered = refl; written = refl; told = refl };
  note_before_the_first_box = record { answered = refl; written = refl; told = refl };
  topskip_above_textheight = record { answered = refl; written = refl; told = refl };
  box_without_depth = record { answered = refl; written = refl; told = refl };
  clears_without_a_page = record { answered = refl; written = refl; told = refl };
  note_left = record { answered = refl; written = refl; told = refl };
  rule_and_mark = record { answered = refl; written = refl; told = refl };
  without_end = record { answered = refl; written = refl; told = refl };
  too_large = record { answered = refl; written = refl; told = refl };
  page_limit = record { answered = refl; written = refl; told = refl };
  node_limit = record { answered = refl; written = refl; told = refl };
  footnote_fits = record { answered = refl; written = refl; told = refl };
  footnote_splits = record { answered = refl; written = refl; told = refl };
  second_footnote_sends_the_break_back = record { answered = refl; written = refl; told = refl };
  footnote_split_at_its_end = record { answered = refl; written = refl; told = refl };
  clear_with_a_footnote_box = record { answered = refl; written = refl; told = refl };
  unclosed_foot = record { answered = refl; written = refl; told = refl };
  three_boxes_traced = record { answered = refl; written = refl; told = refl };
  note_traced = record { answered = refl; written = refl; told = refl };
  equal_costs_traced = record { answered = refl; written = refl; told = refl };
  canonical_text = record { answered = refl; written = refl; told = refl };
  too_long = λ input more. too_long input (grind (arith, nat_tests));
}
