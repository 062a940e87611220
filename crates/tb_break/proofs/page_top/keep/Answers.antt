use Rattle.std.proofs.Common.{◌∙◌, ap, sym, refl, length, arith}
use Rattle.std.proofs.lemmas.List.{length_push}
use Rattle.tb_pool.specs.Lists.{list_at, with_list}
use Rattle.tb_node.specs.PlainNodes.{shape_of}
use Rattle.tb_pool.proofs.CallerLemmas.{list_same, with_list-same}
use Rattle.tb_break.proofs.PageTopLemmas.{vanishing}
use Rattle.tb_break.proofs.page_top.keep.Goals as goal

pub returns-then-is_lasting-clause-places : goal.returns-then-is_lasting-clause-places
returns-then-is_lasting-clause-places c =
    let now = list_same c.args.store.now c.push_back.new.self c.args.l _ c.push_back.ensures.pushed in
    omega (arith, ap length now, length_push (list_at c.args.store.now c.args.l) c.args.n, c.push_back.ensures.spare)

pub returns-clause-turned : goal.returns-clause-turned
returns-clause-turned c =
    with_list-same c.args.store.now c.args.store.now c.args.l c.requires.live refl
    ∙ ap (with_list c.args.store.now c.args.l) (sym (vanishing (shape_of c.args.n) c.args.n (list_at c.args.store.now c.args.l) c.requires.other (sym c.is_lasting.ensures ∙ c.if-is_lasting.false)))
