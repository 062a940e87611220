use Rattle.tb_pool.specs.Lists.{list_at}
use Rattle.tb_output.proofs.InText.ExtentLemmas.{IsLooked}
use Rattle.tb_output.proofs.extents.near_depth.Given as goal

abbrev pub invariant-look : goal.invariant-look
invariant-look l = IsLooked (list_at l.store l.l) l.left l.depth

abbrev pub decreases-look : goal.decreases-look
decreases-look l = l.left
