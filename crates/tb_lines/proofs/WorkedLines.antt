-- The worked rows, computed from the definitions.
use Rattle.std.proofs.Common.{refl}
use Rattle.std.specs.Fmt.{digits}
use Rattle.tb_scaled.specs.Scaled.{badness_of}
use Rattle.tb_lines.specs.Words.{word_of}
use Rattle.tb_lines.specs.Fields.{parameter_of}
use Rattle.tb_lines.specs.Grammar.{reading}
use Rattle.tb_lines.specs.Demerits.{line_badness, sums_demerits}
use Rattle.tb_lines.specs.LineText.{line_text}
use Rattle.tb_lines.specs.Galley.{least_of, lines_galley}
use Rattle.tb_lines.specs.Rows.{LinesRows}

pub lines_rows : LinesRows
unfolding lines_galley reading word_of parameter_of least_of line_text line_badness sums_demerits badness_of digits
lines_rows = record {
  four_words = refl;
  later_of_equal_ways = refl;
  empty_paragraphs = refl;
  word_too_wide = refl;
  all_parameters = refl;
  nested_par = refl;
}
