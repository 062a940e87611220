use Rattle.std.proofs.Common.{◌≡◌, ◌+◌, length}
use Rattle.tb_pool.specs.Lists.{list_at}
use Rattle.tb_builder.proofs.Sorting.SortingLemmas.{Sorting}
use Rattle.tb_builder.proofs.Builder.sort_page.Given as goal

abbrev pub invariant-insertions : goal.invariant-insertions
invariant-insertions l = record {
  sorting : Sorting l.fn.self l.fn.store l.self l.store l.body;
  sorted_is : length (list_at l.store l.self.page) + l.sorted ≡ l._count;
}

abbrev pub decreases-insertions : goal.decreases-insertions
decreases-insertions l = length (list_at l.store l.self.page)
