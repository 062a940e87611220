use Rattle.std.proofs.Common.{◌≡◌, refl, sym, subst, ◌≤◌, length, FitsSigned, w64, rules, to_z, of_z, map, List}
use Rattle.std.specs.Prelude.{All}
use Rattle.std.proofs.lemmas.Int.{to_z-of_z}
use Rattle.tb_pool.specs.Lists.{list_at}
use Rattle.tb_pool.proofs.CallerLemmas.{live_same}
use Rattle.tb_node.specs.declared.Node.{Node}
use Rattle.tb_node.specs.Fit.{IsSizedNode}
use Rattle.tb_node.specs.PlainNodes.{shape_of}
use Rattle.tb_node.specs.Sums.{size_of}
use Rattle.tb_items.proofs.FootLemmas.{foot-list, foot-live, foot-sound, foot-joins, foot-may, foot-waits}
use Rattle.tb_items.proofs.WaitsLemmas.{on-ok}
use Rattle.tb_items.proofs.foot_nodes.put_foot.Goals as goal

pub put_leaves-requires : goal.put_leaves-requires
put_leaves-requires c = live_same c.args.store.now c.add_list.new.self c.in_ok-list.list _ c.in_ok-list.ensures.opened

pub list_height-height-requires-clause-live : goal.list_height-height-requires-clause-live
list_height-height-requires-clause-live c = foot-live c.args.builder.now c.args.store.now c.add_list.new.self c.put_leaves.new.store c.in_ok-list.list c.args.leaves.now c.requires.can c.in_ok-list.ensures.fresh c.in_ok-list.ensures.opened c.in_ok-put_leaves.ensures

pub list_height-height-requires-clause-sized : goal.list_height-height-requires-clause-sized
list_height-height-requires-clause-sized c = subst (All IsSizedNode) (sym (foot-list c.args.builder.now c.args.store.now c.add_list.new.self c.put_leaves.new.store c.in_ok-list.list c.args.leaves.now c.requires.can c.in_ok-list.ensures.fresh c.in_ok-list.ensures.opened c.in_ok-put_leaves.ensures)) c.requires.sized

pub list_height-height-requires-clause-few : goal.list_height-height-requires-clause-few
list_height-height-requires-clause-few c = subst (λ (ns : List Node). length ns ≤ 8388608) (sym (foot-list c.args.builder.now c.args.store.now c.add_list.new.self c.put_leaves.new.store c.in_ok-list.list c.args.leaves.now c.requires.can c.in_ok-list.ensures.fresh c.in_ok-list.ensures.opened c.in_ok-put_leaves.ensures)) c.requires.few

pub contribute-requires-clause-sound : goal.contribute-requires-clause-sound
contribute-requires-clause-sound c = foot-sound c.args.builder.now c.args.store.now c.add_list.new.self c.put_leaves.new.store c.in_ok-list.list c.args.leaves.now c.requires.can c.in_ok-list.ensures.fresh c.in_ok-list.ensures.opened c.in_ok-put_leaves.ensures

pub contribute-requires-clause-joins : goal.contribute-requires-clause-joins
contribute-requires-clause-joins c = foot-joins c.args.builder.now c.args.store.now c.add_list.new.self c.put_leaves.new.store c.in_ok-list.list c.args.leaves.now c.requires.can c.in_ok-list.ensures.fresh c.in_ok-list.ensures.opened c.in_ok-put_leaves.ensures c.args.line c.args.class (record { class = c.args.class; list = c.in_ok-list.list; height = to_z w64 (of_z w64 c.list_height-height.result); split_depth = to_z w64 (of_z w64 c.args.p.now.footsplitdepth); split_top = to_z w64 (of_z w64 c.args.p.now.footsplittop); floating = to_z w64 (of_z w64 c.args.p.now.footfloating) }) refl refl c.requires.known

pub contribute-requires-clause-may_wait : goal.contribute-requires-clause-may_wait
contribute-requires-clause-may_wait c = foot-may c.args.builder.now c.args.store.now c.add_list.new.self c.put_leaves.new.store c.in_ok-list.list c.args.leaves.now c.requires.can c.in_ok-list.ensures.fresh c.in_ok-list.ensures.opened c.in_ok-put_leaves.ensures c.args.line c.args.class (record { class = c.args.class; list = c.in_ok-list.list; height = to_z w64 (of_z w64 c.list_height-height.result); split_depth = to_z w64 (of_z w64 c.args.p.now.footsplitdepth); split_top = to_z w64 (of_z w64 c.args.p.now.footsplittop); floating = to_z w64 (of_z w64 c.args.p.now.footfloating) }) refl refl c.requires.known

pub returns : goal.returns
returns c =
    let a : FitsSigned w64 c.list_height-height.result = search rules in
    let b : FitsSigned w64 c.args.p.now.footsplitdepth = search rules in
    let d : FitsSigned w64 c.args.p.now.footsplittop = search rules in
    let e : FitsSigned w64 c.args.p.now.footfloating = search rules in
    let height : to_z w64 (of_z w64 c.list_height-height.result) ≡ size_of (map shape_of (list_at c.put_leaves.new.store c.in_ok-list.list)) = simp to_z-of_z c.list_height-height.ensures in
    let depth : to_z w64 (of_z w64 c.args.p.now.footsplitdepth) ≡ c.args.p.now.footsplitdepth = simp to_z-of_z refl in
    let top : to_z w64 (of_z w64 c.args.p.now.footsplittop) ≡ c.args.p.now.footsplittop = simp to_z-of_z refl in
    let floating : to_z w64 (of_z w64 c.args.p.now.footfloating) ≡ c.args.p.now.footfloating = simp to_z-of_z refl in
    on-ok c.contribute.result
    (λ contents. foot-waits c.args.builder.now c.args.store.now c.add_list.new.self c.put_leaves.new.store c.in_ok-list.list c.args.leaves.now c.requires.can c.in_ok-list.ensures.fresh c.in_ok-list.ensures.opened c.in_ok-put_leaves.ensures c.args.line c.args.class (record { class = c.args.class; list = c.in_ok-list.list; height = to_z w64 (of_z w64 c.list_height-height.result); split_depth = to_z w64 (of_z w64 c.args.p.now.footsplitdepth); split_top = to_z w64 (of_z w64 c.args.p.now.footsplittop); floating = to_z w64 (of_z w64 c.args.p.now.footfloating) }) refl refl c.requires.known c.args.p.now height depth top floating c.contribute.new.self c.contribute.new.store c.contribute.ensures.sound contents c.contribute.ensures.others c.contribute.ensures.keeps) c.contribute.ensures.contents
