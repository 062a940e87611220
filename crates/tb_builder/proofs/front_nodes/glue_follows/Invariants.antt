use Rattle.std.proofs.Common.{◌≡◌, drop}
use Rattle.tb_pool.specs.Lists.{list_at}
use Rattle.tb_builder.specs.Courses.{nodes_glue_first}
use Rattle.tb_builder.proofs.front_nodes.glue_follows.Given as goal

abbrev pub invariant-loop-n : goal.invariant-loop-n
invariant-loop-n l = record {
  can_next : (goal.iterator-loop-n).can_next l.n-iterator;
  is_finite : (goal.iterator-loop-n).is_finite l.n-iterator;
  rest : nodes_glue_first l.n-iterator ≡ nodes_glue_first (drop 1 (list_at l.fn.store l.fn.l));
}
