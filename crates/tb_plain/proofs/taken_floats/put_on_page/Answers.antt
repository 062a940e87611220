use Rattle.std.proofs.Common.{refl, is_some, ap, rules, FitsSigned, w64}
use Rattle.std.proofs.lemmas.Int.{to_z-of_z}
use Rattle.tb_pool.proofs.CallerLemmas.{live_other}
use Rattle.tb_plain.specs.TakenFloats.{page_leaves}
use Rattle.tb_plain.specs.StoredLists.{page_list}
use Rattle.tb_plain.proofs.PutLemmas.{top-can, top-joins, top-put, page-height, page-plain}
use Rattle.tb_plain.proofs.taken_floats.put_on_page.Goals as goal

pub push_insertion-requires-clause-live : goal.push_insertion-requires-clause-live
push_insertion-requires-clause-live c =
    live_other c.top_lists.new.store c.push_page.new.store c.in_ok-lists.lists.inner _ c.in_ok-lists.lists.list c.in_ok-lists.ensures.opened.apart c.push_page.ensures.lists (ap is_some c.in_ok-lists.ensures.opened.list)

pub put_list-requires-clause-builder : goal.put_list-requires-clause-builder
put_list-requires-clause-builder c =
    let fits : FitsSigned w64 c.args.p.now.textheight = search rules in
    let put = simp to_z-of_z at c.push_insertion.ensures in
    top-can c.args.b.now c.args.store.now c.top_lists.new.store c.push_page.new.store c.push_insertion.new.store c.in_ok-lists.lists.list c.in_ok-lists.lists.inner (page_list c.args.p.now c.args.f.now) c.args.p.now.textheight c.requires.builder c.in_ok-lists.ensures.opened c.push_page.ensures.lists put

pub put_list-requires-clause-joins : goal.put_list-requires-clause-joins
put_list-requires-clause-joins c =
    let fits : FitsSigned w64 c.args.p.now.textheight = search rules in
    let put = simp to_z-of_z at c.push_insertion.ensures in
    top-joins c.args.b.now c.args.store.now c.top_lists.new.store c.push_page.new.store c.push_insertion.new.store c.in_ok-lists.lists.list c.in_ok-lists.lists.inner (page_list c.args.p.now c.args.f.now) c.args.p.now.textheight c.requires.builder c.in_ok-lists.ensures.opened c.push_page.ensures.lists put (page-plain c.args.p.now c.args.f.now)

pub returns-clause-ok : goal.returns-clause-ok
returns-clause-ok c =
    let fits : FitsSigned w64 c.args.p.now.textheight = search rules in
    let put = simp to_z-of_z at c.push_insertion.ensures in
    top-put c.args.b.now c.args.store.now c.top_lists.new.store c.push_page.new.store c.push_insertion.new.store c.in_ok-lists.lists.list c.in_ok-lists.lists.inner (page_list c.args.p.now c.args.f.now) c.args.p.now.textheight c.requires.builder c.in_ok-lists.ensures.opened c.push_page.ensures.lists put (page_leaves c.args.p.now c.args.f.now) refl (page-height c.args.p.now c.args.f.now) c.put_list.new.b c.put_list.new.store c.put_list.ensures
