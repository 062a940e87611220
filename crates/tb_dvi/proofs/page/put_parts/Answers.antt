use Rattle.std.proofs.Common.{sym, subst, List}
use Rattle.std.proofs.lemmas.Result.{err_from_is_err_and}
use Rattle.tb_dvi.specs.Placement.{Placement, parts_placed}
use Rattle.tb_dvi.specs.Page.{parts_shown, IsShowable}
use Rattle.tb_dvi.proofs.PlacementLemmas.{Left, all_left, fewer_left, fault_left, none_left, parts-step, parts-end}
use Rattle.tb_dvi.proofs.page.put_parts.Goals as goal

pub loop-part-init : goal.loop-part-init
loop-part-init c = all_left _ _

pub put_part-requires : goal.put_part-requires
put_part-requires c =
    subst (IsShowable c.args.store.now) (sym c.part-item.is) (c.requires c.loop-part.part-index c.part-item.result c.loop-part-test.true)

pub returns-in_err-put_part : goal.returns-in_err-put_part
returns-in_err-put_part c =
    let all : List Placement = parts_placed (parts_shown c.args.store.now c.args.parts.now) in
    let step = parts-step c.args.store.now c.args.parts.now c.loop-part.part-index c.part-item.result c.loop-part-test.true c.part-item.is in
    let p = err_from_is_err_and c.from_residual.result c.from_residual.ensures.1 in
    rw (p.1, p.2) (fault_left _ all _ _ _ _ _ (subst (Left all c.args.out.now.items c.loop-part.out.items) step c.loop-part.invariant) c.in_err-put_part.ensures)

pub loop-part-preserved : goal.loop-part-preserved
loop-part-preserved c =
    let all : List Placement = parts_placed (parts_shown c.args.store.now c.args.parts.now) in
    let step = parts-step c.args.store.now c.args.parts.now c.loop-part.part-index c.part-item.result c.loop-part-test.true c.part-item.is in
    fewer_left all _ _ _ _ _ (subst (Left all c.args.out.now.items c.loop-part.out.items) step c.loop-part.invariant) c.in_ok-put_part.ensures.0 c.in_ok-put_part.ensures.1

pub returns : goal.returns
returns c =
    let all : List Placement = parts_placed (parts_shown c.args.store.now c.args.parts.now) in
    none_left all _ _ (subst (Left all c.args.out.now.items c.loop-part.out.items) (parts-end c.args.store.now c.args.parts.now c.loop-part.part-index c.loop-part-test.false) c.loop-part.invariant)
