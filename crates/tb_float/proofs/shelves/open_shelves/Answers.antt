use Rattle.tb_float.proofs.ShelfLemmas.{opened-none, opened-one, shelves-opened, shelves-empty}
use Rattle.tb_float.proofs.shelves.open_shelves.Goals as goal

pub returns : goal.returns
returns c =
    let k0 = opened-none c.args.store.now in
    let k1 = opened-one _ c.add_list.new.self _ _ k0 c.in_ok-add_list.ensures.fresh c.in_ok-add_list.ensures.opened in
    let k2 = opened-one _ c.add_list-2.new.self _ _ k1 c.in_ok-add_list-2.ensures.fresh c.in_ok-add_list-2.ensures.opened in
    let k3 = opened-one _ c.add_list-3.new.self _ _ k2 c.in_ok-add_list-3.ensures.fresh c.in_ok-add_list-3.ensures.opened in
    let k4 = opened-one _ c.add_list-4.new.self _ _ k3 c.in_ok-add_list-4.ensures.fresh c.in_ok-add_list-4.ensures.opened in
    let k5 = opened-one _ c.add_list-5.new.self _ _ k4 c.in_ok-add_list-5.ensures.fresh c.in_ok-add_list-5.ensures.opened in
    let k6 = opened-one _ c.add_list-6.new.self _ _ k5 c.in_ok-add_list-6.ensures.fresh c.in_ok-add_list-6.ensures.opened in
    let k7 = opened-one _ c.add_list-7.new.self _ _ k6 c.in_ok-add_list-7.ensures.fresh c.in_ok-add_list-7.ensures.opened in
    let k8 = opened-one _ c.add_list-8.new.self _ _ k7 c.in_ok-add_list-8.ensures.fresh c.in_ok-add_list-8.ensures.opened in
    let k9 = opened-one _ c.add_list-9.new.self _ _ k8 c.in_ok-add_list-9.ensures.fresh c.in_ok-add_list-9.ensures.opened in
    (shelves-opened c.add_list-9.new.self _ k9, shelves-empty c.add_list-9.new.self _ k9)
