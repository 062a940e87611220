use Rattle.std.proofs.Common.{◌≡◌, ◌+◌, ◌<◌, ◌^◌, Some, drop}
use Rattle.std.specs.FinMap.{insert}
use Rattle.slab.specs.Slab.{get, with_value}
use Rattle.tb_pool.specs.Lists.{listed, list_at}
use Rattle.tb_pool.specs.Links.{values_of, IsSound}
use Rattle.tb_pool.proofs.ClearLemmas.{left_of}
use Rattle.tb_pool.proofs.Lists.clear.Given as goal

-- with the ends of those that are left, the lists are sound, and this one has dropped its first values
abbrev pub invariant-loop-dropped : goal.invariant-loop-dropped
invariant-loop-dropped g l =
    let i = l.self-inside in
    let heads = with_value i.heads l.l-inside.index (left_of l.key l.ends.last l.ends.len l._dropped) in
    record {
      sound : IsSound i.nodes heads (i.spare + l._dropped) i.places;
      lists : listed (values_of i.nodes) heads ≡ insert l.fn.self.lists l.l-inside.index (drop l._dropped (list_at l.fn.self l.l-inside.index));
      there : get i.heads l.l-inside.index ≡ Some l.ends;
      spare : i.spare ≡ l.fn.self.spare;
      fits : i.spare + l.ends.len < 2 ^ 64;
    }
