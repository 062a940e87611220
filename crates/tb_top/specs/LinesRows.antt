-- Worked rows of paragraphs.
use Rattle.std.specs.Prelude.{[], codes}
use Rattle.tb_top.specs.declared.status.Status.TheVariants.{Done, Syntax, NoBreaks}
use Rattle.tb_words.specs.declared.Mode.TheVariants.{Lines}
use Rattle.tb_top.specs.Rows.{Replies}

-- each input with what the definitions give
pub record LinesRows : Type 0 where
  -- four words in two lines
  pub four_words : Replies Lines (codes "lines 1\nset hsize 100\nset baselineskip 12\npar p\nword 45 7 2\nspace 10 5 4\nword 45 7 2\nspace 10 5 4\nword 45 7 2\nspace 10 5 4\nword 45 7 2\nendpar\nend\n") Done (codes "galley 1\nbox p.1 7 2\npenalty 300\nglue 3 plus 0 minus 0\nbox p.2 7 2\nend\n") []
  -- a word wider than the line
  pub word_too_wide : Replies Lines (codes "lines 1\nset hsize 100\npar q\nword 120 7 2\nendpar\nend\n") NoBreaks [] (codes "galley_pages: paragraph 1: no feasible breaks\n")
  -- a paragraph inside a paragraph
  pub nested_par : Replies Lines (codes "lines 1\npar p\npar q\nendpar\nend\n") Syntax [] (codes "galley_pages: line 3 field 1: NestedPar\n")
