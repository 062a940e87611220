use Rattle.std.proofs.Common.{length}
use Rattle.tb_pool.specs.Lists.{list_at}
use Rattle.tb_output.proofs.InText.ShortenLemmas.{Shortened}
use Rattle.tb_output.proofs.back_list.shorten.Given as goal

abbrev pub invariant-last : goal.invariant-last
invariant-last l = Shortened l.fn.store l.store l.l l.count

abbrev pub decreases-last : goal.decreases-last
decreases-last l = length (list_at l.store l.l)
