use Rattle.std.proofs.Common.{◌≡◌, refl, subst, ap, ◌∙◌, ◌++◌, ℤ, FitsSigned, w64, rules, to_z, of_z, neg_ℤ}
use Rattle.std.proofs.lemmas.Int.{to_z-of_z}
use Rattle.tb_pool.specs.Lists.{list_at, with_list}
use Rattle.tb_pool.proofs.CallerLemmas.{live_same}
use Rattle.tb_items.specs.WaitingNodes.{enlarging_list}
use Rattle.tb_items.proofs.FootLemmas.{enlarging-sound, enlarging-joins, enlarging-may, enlarging-waits}
use Rattle.tb_items.proofs.WaitsLemmas.{on-ok}
use Rattle.tb_items.proofs.enlarging_nodes.put_enlarging.Goals as goal

pub put_back_glue-requires-clause-live : goal.put_back_glue-requires-clause-live
put_back_glue-requires-clause-live c = live_same c.args.store.now c.add_list.new.self c.in_ok-list.list _ c.in_ok-list.ensures.opened

pub contribute-requires-clause-sound : goal.contribute-requires-clause-sound
contribute-requires-clause-sound c =
    let fits : FitsSigned w64 c.args.by = search rules in
    let put = subst (λ (d : ℤ). c.put_back_glue.new.store.lists ≡ with_list c.add_list.new.self c.in_ok-list.list (list_at c.add_list.new.self c.in_ok-list.list ++ enlarging_list d c.args.star)) (to_z-of_z w64 c.args.by fits) c.in_ok-put_back_glue.ensures in
    enlarging-sound c.args.builder.now c.args.store.now c.add_list.new.self c.put_back_glue.new.store c.in_ok-list.list c.args.by c.args.star c.requires.can c.in_ok-list.ensures.fresh c.in_ok-list.ensures.opened put

pub contribute-requires-clause-joins : goal.contribute-requires-clause-joins
contribute-requires-clause-joins c =
    let fits : FitsSigned w64 c.args.by = search rules in
    let put = subst (λ (d : ℤ). c.put_back_glue.new.store.lists ≡ with_list c.add_list.new.self c.in_ok-list.list (list_at c.add_list.new.self c.in_ok-list.list ++ enlarging_list d c.args.star)) (to_z-of_z w64 c.args.by fits) c.in_ok-put_back_glue.ensures in
    enlarging-joins c.args.builder.now c.args.store.now c.add_list.new.self c.put_back_glue.new.store c.in_ok-list.list c.args.by c.args.star c.requires.can c.in_ok-list.ensures.fresh c.in_ok-list.ensures.opened put c.args.line (record { class = 255; list = c.in_ok-list.list; height = to_z w64 (of_z w64 c.lowered-height.result); split_depth = to_z w64 (of_z w64 c.args.p.now.splitmaxdepth); split_top = to_z w64 (of_z w64 c.args.p.now.splittopskip); floating = to_z w64 (of_z w64 c.args.p.now.floatingpenalty) }) refl refl c.requires.known

pub contribute-requires-clause-may_wait : goal.contribute-requires-clause-may_wait
contribute-requires-clause-may_wait c =
    let fits : FitsSigned w64 c.args.by = search rules in
    let put = subst (λ (d : ℤ). c.put_back_glue.new.store.lists ≡ with_list c.add_list.new.self c.in_ok-list.list (list_at c.add_list.new.self c.in_ok-list.list ++ enlarging_list d c.args.star)) (to_z-of_z w64 c.args.by fits) c.in_ok-put_back_glue.ensures in
    enlarging-may c.args.builder.now c.args.store.now c.add_list.new.self c.put_back_glue.new.store c.in_ok-list.list c.args.by c.args.star c.requires.can c.in_ok-list.ensures.fresh c.in_ok-list.ensures.opened put c.args.line (record { class = 255; list = c.in_ok-list.list; height = to_z w64 (of_z w64 c.lowered-height.result); split_depth = to_z w64 (of_z w64 c.args.p.now.splitmaxdepth); split_top = to_z w64 (of_z w64 c.args.p.now.splittopskip); floating = to_z w64 (of_z w64 c.args.p.now.floatingpenalty) }) refl refl c.requires.known

pub returns : goal.returns
returns c =
    let fits : FitsSigned w64 c.args.by = search rules in
    let put = subst (λ (d : ℤ). c.put_back_glue.new.store.lists ≡ with_list c.add_list.new.self c.in_ok-list.list (list_at c.add_list.new.self c.in_ok-list.list ++ enlarging_list d c.args.star)) (to_z-of_z w64 c.args.by fits) c.in_ok-put_back_glue.ensures in
    let depth_fits : FitsSigned w64 c.args.p.now.splitmaxdepth = search rules in
    let top_fits : FitsSigned w64 c.args.p.now.splittopskip = search rules in
    let floating_fits : FitsSigned w64 c.args.p.now.floatingpenalty = search rules in
    let height_fits : FitsSigned w64 c.lowered-height.result = search rules in
    let height : to_z w64 (of_z w64 c.lowered-height.result) ≡ neg_ℤ c.args.by = to_z-of_z w64 c.lowered-height.result height_fits ∙ c.lowered-height.ensures ∙ ap neg_ℤ (to_z-of_z w64 c.args.by fits) in
    let depth : to_z w64 (of_z w64 c.args.p.now.splitmaxdepth) ≡ c.args.p.now.splitmaxdepth = to_z-of_z w64 c.args.p.now.splitmaxdepth depth_fits in
    let top : to_z w64 (of_z w64 c.args.p.now.splittopskip) ≡ c.args.p.now.splittopskip = to_z-of_z w64 c.args.p.now.splittopskip top_fits in
    let floating : to_z w64 (of_z w64 c.args.p.now.floatingpenalty) ≡ c.args.p.now.floatingpenalty = to_z-of_z w64 c.args.p.now.floatingpenalty floating_fits in
    on-ok c.contribute.result
    (λ contents. enlarging-waits c.args.builder.now c.args.store.now c.add_list.new.self c.put_back_glue.new.store c.in_ok-list.list c.args.by c.args.star c.requires.can c.in_ok-list.ensures.fresh c.in_ok-list.ensures.opened put c.args.line (record { class = 255; list = c.in_ok-list.list; height = to_z w64 (of_z w64 c.lowered-height.result); split_depth = to_z w64 (of_z w64 c.args.p.now.splitmaxdepth); split_top = to_z w64 (of_z w64 c.args.p.now.splittopskip); floating = to_z w64 (of_z w64 c.args.p.now.floatingpenalty) }) refl refl c.requires.known c.args.p.now height depth top floating c.contribute.new.self c.contribute.new.store c.contribute.ensures.sound contents c.contribute.ensures.others c.contribute.ensures.keeps) c.contribute.ensures.contents
