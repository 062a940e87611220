use Rattle.std.proofs.Common.{◌≡◌, map}
use Rattle.tb_pool.specs.Lists.{list_at}
use Rattle.tb_node.specs.PlainNodes.{plain_of, plain_list}
use Rattle.tb_story.specs.Summary.{after_nodes}
use Rattle.tb_story.specs.Counts.{AreOver, StaysSound}
use Rattle.tb_story.proofs.sheets.land_list.Given as goal

abbrev pub invariant-loop-node : goal.invariant-loop-node
invariant-loop-node l = record {
  can_next : (goal.iterator-loop-node).can_next l.node-iterator;
  is_finite : (goal.iterator-loop-node).is_finite l.node-iterator;
  over : AreOver l.over l.stories;
  sound : StaysSound l.over l.fn.stories l.stories;
  left : after_nodes l.page (plain_list l.fn.store l.fn.list) l.fn.stories ≡ after_nodes l.page (map (plain_of (list_at l.fn.store)) l.node-iterator) l.stories;
}
