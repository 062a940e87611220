use Rattle.std.proofs.Common.{◌≡◌, ◌≤◌, ◌+◌, ◌*◌, length}
use Rattle.tb_pool.specs.Lists.{list_at}
use Rattle.tb_column.specs.Page.{IsPageList}
use Rattle.tb_routine_tests.specs.Scenes.{LeavesAll}
use Rattle.tb_routine_tests.proofs.output.scene.text_list.Given as goal

abbrev pub invariant-loop-height : goal.invariant-loop-height
invariant-loop-height l = record {
  page : IsPageList l.store l.list;
  few : length (list_at l.store l.list) ≡ 2 * l.height-index;
  room : 2 * length l.fn.t.heights.now + 1 ≤ l.store.spare + 2 * l.height-index;
  others : LeavesAll l.fn.store l.store;
}
