use Rattle.std.proofs.Common.{drop}
use Rattle.tb_float.specs.Classes.{HasLeft}
use Rattle.tb_float.specs.Lists.{floats_of}
use Rattle.tb_fpage.proofs.FirstHeads.{AreFirstsTried}
use Rattle.tb_fpage.proofs.companies.try_firsts.Given as goal

abbrev pub invariant-loop-first : goal.invariant-loop-first
invariant-loop-first l = record {
  tried : AreFirstsTried l.fn.wanted l.earlier (floats_of l.fn.from l.fn.pool.lists) (drop l.first-index l.firsts);
  left : HasLeft l.earlier (floats_of l.fn.from l.fn.pool.lists);
}
