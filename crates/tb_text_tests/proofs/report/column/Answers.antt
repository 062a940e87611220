use Rattle.std.proofs.Common.{pos, rules, arith}
use Rattle.tb_node.proofs.FitLemmas.{list_nodes_fit, list_sums_fit}
use Rattle.tb_text_tests.proofs.report.column.Goals as goal

pub pack-requires-clause-nodes : goal.pack-requires-clause-nodes
pack-requires-clause-nodes c = list_nodes_fit c.args.store.now c.args.list c.requires.sized

pub pack-requires-clause-sums : goal.pack-requires-clause-sums
pack-requires-clause-sums c = list_sums_fit c.args.store.now c.args.list (pos 0) (search rules) c.requires.sized (omega (arith, c.requires.few))

pub returns-clause-printable : goal.returns-clause-printable
returns-clause-printable c = record {
  list = record {
    live = c.requires.live;
    limit = pos 0;
    nodes = list_nodes_fit c.args.store.now c.args.list c.requires.sized;
    sums = list_sums_fit c.args.store.now c.args.list (pos 0) (search rules) c.requires.sized (omega (arith, c.requires.few));
  };
  share = c.pack.ensures.divisor;
}
