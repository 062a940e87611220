use Rattle.std.proofs.Common.{◌≡◌, ◌+◌, [], length, if◌then◌else◌}
use Rattle.tb_builder.specs.Contents.{contents_of}
use Rattle.tb_builder.specs.PageWalks.{LeadsOn}
use Rattle.tb_builder.proofs.Builder.next_without_tries.Given as goal

abbrev pub invariant-places : goal.invariant-places
invariant-places l = record {
  leads : LeadsOn l.fn.self l.fn.store l.fn.ask l.self l.store;
  none_held : (contents_of l.self l.store).held ≡ [];
}

abbrev pub decreases-places : goal.decreases-places
decreases-places l = if l.self.stopped then 0 else length (contents_of l.self l.store).waiting + 1
