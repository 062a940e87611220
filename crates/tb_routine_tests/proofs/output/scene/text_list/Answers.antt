use Rattle.std.proofs.Common.{arith}
use Rattle.tb_routine_tests.proofs.SceneLemmas.{opened-empty}
use Rattle.tb_routine_tests.proofs.output.scene.text_list.Goals as goal

pub loop-height-init : goal.loop-height-init
loop-height-init c =
    let o = opened-empty c.args.store.now c.reserve.new.self c.add_list.new.self c.in_ok-list.list c.in_ok-reserve.ensures.lists c.in_ok-list.ensures.fresh c.in_ok-list.ensures.opened in
    record { page = o.page; few = o.none; room = omega (arith, c.in_ok-reserve.ensures.room, c.in_ok-list.ensures.spare); others = o.others }
