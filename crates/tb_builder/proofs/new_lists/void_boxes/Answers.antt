use Rattle.std.proofs.Common.{sym, subst, []}
use Rattle.tb_builder.specs.NewLists.{VoidBoxes}
use Rattle.tb_builder.proofs.Ownership.NewLemmas.{boxes_begin, boxes_step, opened_first}
use Rattle.tb_builder.proofs.new_lists.void_boxes.Goals as goal

pub loop-class-init : goal.loop-class-init
loop-class-init c = subst (VoidBoxes c.args.store.now c.args.store.now []) (sym c.in_ok-boxes.ensures) (boxes_begin c.args.store.now)

pub loop-class-preserved : goal.loop-class-preserved
loop-class-preserved c =
    boxes_step c.args.store.now c.loop-class.store c.add_list.new.self c.args.classes.now c.loop-class.class-index _ c.loop-class.boxes c.push.new.self c.in_ok-list.list c.loop-class-test.true c.loop-class.invariant c.in_ok-list.ensures.fresh c.in_ok-list.ensures.opened c.in_ok-push.ensures

pub returns-in_err-push-clause-others : goal.returns-in_err-push-clause-others
returns-in_err-push-clause-others c = (opened_first c.args.store.now c.loop-class.store c.add_list.new.self _ c.in_ok-list.list c.loop-class.invariant.opened c.in_ok-list.ensures.fresh c.in_ok-list.ensures.opened).others
