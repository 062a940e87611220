use Rattle.std.proofs.Common.{◌∙◌, ap, ◌≤◌, length, [], ◌∷◌, ◌++◌, arith}
use Rattle.std.specs.FinMap.{get}
use Rattle.tb_insert.proofs.WorkedLemmas.{list_step, list_step_others}
use Rattle.tb_pool.specs.Lists.{list_at, with_list}
use Rattle.tb_pool.proofs.MapLemmas.{get-insert_same}
use Rattle.tb_builder.proofs.Ownership.NewLemmas.{opened_first, opened_none}
use Rattle.tb_page_tests.proofs.builder.make_list.Goals as goal

pub returns-in_err-reserve-clause-others : goal.returns-in_err-reserve-clause-others
returns-in_err-reserve-clause-others c = λ q live.
    ap (λ m. get m q) c.reserve.ensures.lists ∙ (opened_first c.args.store.now c.args.store.now c.add_list.new.self _ c.in_ok-list.list (opened_none c.args.store.now) c.in_ok-list.ensures.fresh c.in_ok-list.ensures.opened).others q live

pub loop-n-init : goal.loop-n-init
loop-n-init c = record {
  made = ap (λ m. get m c.in_ok-list.list) (c.reserve.ensures.lists ∙ c.in_ok-list.ensures.opened) ∙ get-insert_same c.args.store.now.lists c.in_ok-list.list [];
  others = λ q live. ap (λ m. get m q) c.reserve.ensures.lists ∙ (opened_first c.args.store.now c.args.store.now c.add_list.new.self _ c.in_ok-list.list (opened_none c.args.store.now) c.in_ok-list.ensures.fresh c.in_ok-list.ensures.opened).others q live;
  room = let r : length c.args.nodes.now ≤ c.reserve.new.self.spare = c.in_ok-reserve.ensures.room in omega arith;
}

pub loop-n-preserved : goal.loop-n-preserved
loop-n-preserved c =
    let put = c.push_back.ensures.pushed ∙ ap (λ n. with_list c.loop-n.store c.in_ok-list.list (list_at c.loop-n.store c.in_ok-list.list ++ n ∷ [])) c.n-item.is in
    record {
      made = list_step c.loop-n.store c.push_back.new.self c.in_ok-list.list c.args.nodes.now c.loop-n.n-index _ c.loop-n-test.true c.loop-n.invariant.made put;
      others = list_step_others c.args.store.now c.loop-n.store c.push_back.new.self c.in_ok-list.list _ c.in_ok-list.ensures.fresh put c.loop-n.invariant.others;
      room = omega (arith, c.loop-n.invariant.room, c.push_back.ensures.spare);
    }
