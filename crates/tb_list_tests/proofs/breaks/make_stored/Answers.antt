use Rattle.std.proofs.Common.{◌∙◌, ap, sym, ◌++◌, ◌∷◌, [], take, arith}
use Rattle.std.proofs.lemmas.List.{take_more}
use Rattle.tb_pool.proofs.MapLemmas.{list_steps}
use Rattle.tb_pool.proofs.CallerLemmas.{list_same}
use Rattle.tb_list_tests.proofs.breaks.make_stored.Goals as goal

pub loop-n-preserved : goal.loop-n-preserved
loop-n-preserved c = record {
  live = grind (arith, list_steps);
  rest_live = grind (arith, list_steps);
  apart = c.loop-n.invariant.apart;
  whole = list_same c.loop-n.store c.push_back.new.self c.in_ok-list.list _ c.push_back.ensures.pushed
      ∙ ap (λ ns. ns ++ c.n-item.result ∷ []) c.loop-n.invariant.whole
      ∙ sym (take_more c.args.nodes.now c.loop-n.n-index c.n-item.result c.loop-n-test.true ∙ ap (λ n. take c.loop-n.n-index c.args.nodes.now ++ n ∷ []) (sym c.n-item.is));
  rest = grind (arith, list_steps);
  room = omega (arith, c.push_back.ensures.spare, c.loop-n.invariant.room);
}
