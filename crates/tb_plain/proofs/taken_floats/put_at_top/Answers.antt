use Rattle.std.proofs.Common.{refl, ◌∙◌, is_some, ap, rules, FitsSigned, w64}
use Rattle.std.proofs.lemmas.Int.{to_z-of_z}
use Rattle.tb_pool.proofs.CallerLemmas.{live_other}
use Rattle.tb_plain.specs.TakenFloats.{top_leaves}
use Rattle.tb_plain.specs.StoredLists.{top_list}
use Rattle.tb_plain.proofs.PutLemmas.{top-can, top-joins, top-put, top-height, top-plain}
use Rattle.tb_plain.proofs.taken_floats.put_at_top.Goals as goal

pub push_insertion-requires-clause-live : goal.push_insertion-requires-clause-live
push_insertion-requires-clause-live c =
    live_other c.top_lists.new.store c.push_top.new.store c.in_ok-lists.lists.inner _ c.in_ok-lists.lists.list c.in_ok-lists.ensures.opened.apart c.push_top.ensures.lists (ap is_some c.in_ok-lists.ensures.opened.list)

pub put_list-requires-clause-builder : goal.put_list-requires-clause-builder
put_list-requires-clause-builder c =
    let fits : FitsSigned w64 c.sum_of.result = search rules in
    let put = simp to_z-of_z at c.push_insertion.ensures in
    top-can c.args.b.now c.args.store.now c.top_lists.new.store c.push_top.new.store c.push_insertion.new.store c.in_ok-lists.lists.list c.in_ok-lists.lists.inner (top_list c.args.p.now c.args.f.now) c.sum_of.result c.requires.builder c.in_ok-lists.ensures.opened c.push_top.ensures.lists put

pub put_list-requires-clause-joins : goal.put_list-requires-clause-joins
put_list-requires-clause-joins c =
    let fits : FitsSigned w64 c.sum_of.result = search rules in
    let put = simp to_z-of_z at c.push_insertion.ensures in
    top-joins c.args.b.now c.args.store.now c.top_lists.new.store c.push_top.new.store c.push_insertion.new.store c.in_ok-lists.lists.list c.in_ok-lists.lists.inner (top_list c.args.p.now c.args.f.now) c.sum_of.result c.requires.builder c.in_ok-lists.ensures.opened c.push_top.ensures.lists put (top-plain c.args.p.now c.args.f.now)

pub returns-clause-ok : goal.returns-clause-ok
returns-clause-ok c =
    let fits : FitsSigned w64 c.sum_of.result = search rules in
    let put = simp to_z-of_z at c.push_insertion.ensures in
    let high : FitsSigned w64 c.args.f.now.height = search rules in
    let wide : FitsSigned w64 c.args.p.now.intextsep.width = search rules in
    let sum = simp to_z-of_z at c.sum_of.ensures in
    top-put c.args.b.now c.args.store.now c.top_lists.new.store c.push_top.new.store c.push_insertion.new.store c.in_ok-lists.lists.list c.in_ok-lists.lists.inner (top_list c.args.p.now c.args.f.now) c.sum_of.result c.requires.builder c.in_ok-lists.ensures.opened c.push_top.ensures.lists put (top_leaves c.args.p.now c.args.f.now) refl (sum ∙ top-height c.args.p.now c.args.f.now) c.put_list.new.b c.put_list.new.store c.put_list.ensures
