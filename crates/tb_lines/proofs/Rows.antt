-- Worked paragraphs.
use Rattle.std.proofs.Common.{◌≡◌, refl, pos, List, [], ◌∷◌}
use Rattle.std.specs.Fmt.{digits}
use Rattle.std.specs.Prelude.{Some, None, Ok, Err, codes, negsuc}
use Rattle.tb_galley.specs.declared.Cause.TheVariants.{NestedPar}
use Rattle.tb_lines.specs.declared.text.Item.{Item}
use Rattle.tb_lines.specs.declared.text.Item.TheVariants.{Word as word, Space as space, Penalty as penalty}
use Rattle.tb_lines.specs.declared.text.LineParams.{LineParams}
use Rattle.tb_lines.specs.declared.text.Text.{Text}
use Rattle.tb_scaled.specs.Scaled.{badness_of}
use Rattle.tb_lines.specs.Entries.{list_of}
use Rattle.tb_lines.specs.Demerits.{line_badness, sums_demerits}
use Rattle.tb_lines.specs.LeastSolution.{total_demerits}
use Rattle.tb_lines.specs.LineText.{line_text}
use Rattle.tb_lines.specs.Words.{word_of}
use Rattle.tb_lines.specs.Fields.{parameter_of}
use Rattle.tb_galley.specs.Faults.{fault}
use Rattle.tb_lines.specs.Grammar.{reading, default_params}

params : LineParams
params = record { hsize = 100; tolerance = 200; line_penalty = 10; club_penalty = 150; widow_penalty = 150; baseline_skip = 12; line_skip = 65536; par_skip = 0 }

four_words : List Item
four_words = word 45 7 2 ∷ space 10 5 4 ∷ word 45 7 2 ∷ space 10 5 4 ∷ word 45 7 2 ∷ space 10 5 4 ∷ word 45 7 2 ∷ []

-- two lines of two words each
two_lines : total_demerits params (list_of four_words) (9 ∷ 3 ∷ []) ≡ Some (pos 200)
unfolding params four_words line_badness sums_demerits badness_of
two_lines = refl

-- one line is too wide
one_line : total_demerits params (list_of four_words) (9 ∷ []) ≡ None
unfolding params four_words line_badness sums_demerits badness_of
one_line = refl

-- the galley of the two lines
two_lines_text : line_text (record { params = params; paragraphs = record { name = codes "p"; items = four_words } ∷ [] }) (record { breaks = 3 ∷ 9 ∷ []; total = pos 200 } ∷ [])
    ≡ codes "galley 1\nbox p.1 7 2\npenalty 300\nglue 3 plus 0 minus 0\nbox p.2 7 2\nend\n"
unfolding params four_words line_text digits
two_lines_text = refl

-- a paragraph without items is one line
empty_text : line_text (record { params = params; paragraphs = record { name = codes "e"; items = [] } ∷ [] }) (record { breaks = 2 ∷ []; total = pos 0 } ∷ []) ≡ codes "galley 1\nbox e.1 0 0\nend\n"
unfolding params line_text digits
empty_text = refl

-- a paragraph inside a paragraph
nested : reading (codes "lines 1\npar p\npar q\nendpar\nend\n") ≡ Err (fault 3 1 NestedPar)
unfolding reading word_of parameter_of
nested = refl

small_text : Text
small_text = record { params = record default_params { hsize = 100 }; paragraphs = record { name = codes "q"; items = word 120 7 2 ∷ penalty (negsuc 4) ∷ [] } ∷ [] }

-- a small text
small : reading (codes "lines 1\nset hsize 100\npar q\nword 120 7 2\npen -5\nendpar\nend\n") ≡ Ok small_text
unfolding reading word_of parameter_of small_text
small = refl
