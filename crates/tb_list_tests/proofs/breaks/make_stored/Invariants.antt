use Rattle.std.proofs.Common.{◌≡◌, ◌≢◌, ◌+◌, ◌≤◌, [], length, take}
use Rattle.tb_pool.specs.Lists.{IsLive, list_at}
use Rattle.tb_list_tests.proofs.breaks.make_stored.Given as goal

abbrev pub invariant-loop-n : goal.invariant-loop-n
invariant-loop-n l = record {
  live : IsLive l.store l.list;
  rest_live : IsLive l.store l.rest;
  apart : l.list ≢ l.rest;
  whole : list_at l.store l.list ≡ take l.n-index l.nodes;
  rest : list_at l.store l.rest ≡ [];
  room : length l.nodes + 1 ≤ l.store.spare + l.n-index;
}
