-- Worked rows: texts with their galleys.
use Rattle.std.specs.Prelude.{◌≡◌, Ok, Err, codes}
use Rattle.tb_galley.specs.declared.Cause.TheVariants.{NestedPar}
use Rattle.tb_galley.specs.Faults.{fault}
use Rattle.tb_lines.specs.Galley.{faulty, no_breaks, lines_galley}

-- each text with what the definition gives
pub record LinesRows : Type 0 where
  -- four words in two lines
  pub four_words : lines_galley (codes "lines 1\nset hsize 100\nset baselineskip 12\npar p\nword 45 7 2\nspace 10 5 4\nword 45 7 2\nspace 10 5 4\nword 45 7 2\nspace 10 5 4\nword 45 7 2\nendpar\nend\n") ≡ Ok (codes "galley 1\nbox p.1 7 2\npenalty 300\nglue 3 plus 0 minus 0\nbox p.2 7 2\nend\n")
  -- of two ways with equal demerits the one whose break comes later
  pub later_of_equal_ways : lines_galley (codes "lines 1\nset hsize 20\npar p\nword 20 1 0\nspace 0 0 0\nword 0 5 0\nspace 0 0 0\nword 20 1 0\nendpar\nend\n") ≡ Ok (codes "galley 1\nbox p.1 5 0\npenalty 300\nglue 786431 plus 0 minus 0\nbox p.2 1 0\nend\n")
  -- paragraphs without items are empty lines
  pub empty_paragraphs : lines_galley (codes "lines 1\npar a\nendpar\npar b\nendpar\nend") ≡ Ok (codes "galley 1\nbox a.1 0 0\nglue 0 plus 0 minus 0\nglue 786432 plus 0 minus 0\nbox b.1 0 0\nend\n")
  -- a word wider than the line
  pub word_too_wide : lines_galley (codes "lines 1\nset hsize 100\npar q\nword 120 7 2\nendpar\nend\n") ≡ Err (no_breaks 1)
  -- all eight parameters set, and two paragraphs of four lines: without any one of the values, or with two of them exchanged, the galley is another
  pub all_parameters : lines_galley (codes "lines 1\nset hsize 30\nset tolerance 2000\nset linepenalty 1500\nset clubpenalty 1\nset widowpenalty 20\nset baselineskip 12\nset lineskip 4\nset parskip 5\npar a\nword 11 7 2\nspace 6 3 3\nword 7 11 2\nspace 6 3 3\nword 6 11 2\nspace 6 3 3\nword 7 7 2\nspace 6 3 3\nword 7 7 2\nspace 6 3 3\nword 10 11 2\nspace 6 3 3\nword 7 7 2\nspace 6 3 3\nword 9 11 2\nspace 6 3 3\nword 12 7 2\nspace 6 3 3\nword 12 7 2\nendpar\npar b\nword 10 7 6\nspace 6 3 3\nword 12 7 2\nspace 6 3 3\nword 13 7 6\nspace 6 3 3\nword 12 7 2\nspace 6 3 3\nword 12 7 6\nspace 6 3 3\nword 10 7 2\nspace 6 3 3\nword 10 7 2\nspace 6 3 3\nword 11 7 6\nendpar\nend\n") ≡ Ok (codes "galley 1\nbox a.1 11 2\npenalty 1\nglue 4 plus 0 minus 0\nbox a.2 11 2\nglue 4 plus 0 minus 0\nbox a.3 11 2\npenalty 20\nglue 3 plus 0 minus 0\nbox a.4 7 2\nglue 5 plus 0 minus 0\nglue 3 plus 0 minus 0\nbox b.1 7 6\npenalty 1\nglue 4 plus 0 minus 0\nbox b.2 7 6\nglue 4 plus 0 minus 0\nbox b.3 7 6\npenalty 20\nglue 4 plus 0 minus 0\nbox b.4 7 6\nend\n")
  -- a paragraph inside a paragraph
  pub nested_par : lines_galley (codes "lines 1\npar p\npar q\nendpar\nend\n") ≡ Err (faulty (fault 3 1 NestedPar))
