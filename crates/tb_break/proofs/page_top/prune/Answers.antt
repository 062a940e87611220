use Rattle.std.proofs.Common.{◌∙◌, ap, sym, length, FitsSigned, w64, arith, length-append}
use Rattle.std.proofs.lemmas.Int.{to_z-of_z}
use Rattle.tb_pool.specs.Lists.{list_at}
use Rattle.tb_break.specs.PageTopTurns.{before_box, from_box}
use Rattle.tb_pool.proofs.CallerLemmas.{list_same, live_same}
use Rattle.tb_break.proofs.PageTopLemmas.{prunes, first_fits, parts-length}
use Rattle.tb_break.proofs.page_top.prune.Goals as goal

pub put_top_glue-requires-clause-live : goal.put_top_glue-requires-clause-live
put_top_glue-requires-clause-live c = live_same c.args.store.now c.set_aside-kept.new.store c.args.l _ c.set_aside-kept.ensures.turned

pub put_top_glue-requires-clause-room : goal.put_top_glue-requires-clause-room
put_top_glue-requires-clause-room c =
    let at = list_same c.args.store.now c.set_aside-kept.new.store c.args.l _ c.set_aside-kept.ensures.turned in
    omega (arith, c.set_aside-kept.ensures.places, ap length at, length-append (from_box (list_at c.args.store.now c.args.l)) (before_box (list_at c.args.store.now c.args.l)), parts-length (list_at c.args.store.now c.args.l))

pub put_top_glue-requires-clause-nodes : goal.put_top_glue-requires-clause-nodes
put_top_glue-requires-clause-nodes c = λ n ns is.
    first_fits (list_at c.args.store.now c.args.l) c.requires.nodes n ns (sym (list_same c.args.store.now c.set_aside-kept.new.store c.args.l _ c.set_aside-kept.ensures.turned) ∙ is)

pub bring_back-requires : goal.bring_back-requires
bring_back-requires c = live_same c.set_aside-kept.new.store c.put_top_glue.new.store c.args.l _ c.put_top_glue.ensures.topped

pub returns : goal.returns
returns c =
    let t : FitsSigned w64 c.args.top_skip = c.ranges.top_skip in
    let topped = simp to_z-of_z at c.put_top_glue.ensures.topped in
    let p = prunes c.args.store.now c.set_aside-kept.new.store c.put_top_glue.new.store c.bring_back.new.store c.args.l c.args.top_skip c.set_aside-kept.result c.set_aside-kept.ensures.turned c.set_aside-kept.ensures.count c.set_aside-kept.ensures.places topped c.put_top_glue.ensures.places c.bring_back.ensures.moved c.bring_back.ensures.spare in
    record { pruned = p.lists; places = p.places; spare = p.spare }
