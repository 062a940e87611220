-- The worked rows, computed from the definitions.
use Rattle.std.proofs.Common.{refl}
use Rattle.clap.proofs.OnLiterals.{clap_on_literals}
use Rattle.tb_words.specs.Words.{asked}
use Rattle.tb_words.specs.Rows.{WordsRows}

pub words_rows : WordsRows
unfolding asked clap_on_literals
words_rows = record {
  nothing = refl;
  name_alone = refl;
  report = refl;
  trace = refl;
  rate = refl;
  why = refl;
  best = refl;
  print = refl;
  lines = refl;
  dvi = refl;
  dvilist = refl;
  plain = refl;
  with_equals = refl;
  another_mode = refl;
  count_left_out = refl;
  count_given = refl;
  count_first = refl;
  count_with_plus = refl;
  count_with_zeros = refl;
  count_zero = refl;
  count_too_large = refl;
  count_of_a_report = refl;
  count_zero_of_a_report = refl;
  no_number = refl;
  stray_word = refl;
  value_left_out = refl;
  twice = refl;
  abbreviated = refl;
  help = refl;
  short_help = refl;
  version = refl;
  end_of_options = refl;
  word_past_the_end = refl;
}
