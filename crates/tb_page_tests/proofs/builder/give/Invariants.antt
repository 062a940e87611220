use Rattle.std.proofs.Common.{◌+◌, ◌≤◌}
use Rattle.tb_builder.specs.WorkedPages.{IsReady, waits}
use Rattle.tb_page_tests.proofs.builder.give.Given as goal

abbrev pub invariant-loop-n : goal.invariant-loop-n
invariant-loop-n l = record {
  ready : IsReady l.p.builder l.p.store l.p.ask;
  count : waits l.p.builder l.p.store ≤ waits l.fn.p.builder l.fn.p.store + l.n-index;
}
