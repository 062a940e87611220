use Rattle.std.proofs.Common.{arith}
use Rattle.tb_builder.proofs.WorkedPages.WorkedLemmas.{extent_of}
use Rattle.tb_page_tests.proofs.PlainLemmas.{no_glue}
use Rattle.tb_page_tests.proofs.plain.params.Goals as goal

pub returns : goal.returns
returns c = record {
  textheight = extent_of 100 (omega arith);
  maxdepth = extent_of 0 (omega arith);
  topskip = extent_of 10 (omega arith);
  skipfootins = no_glue _ c.fixed-p.ensures;
  intextsep = no_glue _ c.fixed-p-2.ensures;
}
