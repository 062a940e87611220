use Rattle.std.proofs.Common.{◌∙◌, ap, sym, refl, length, arith, ◌∷◌, rules}
use Rattle.tb_pool.specs.Lists.{list_at, with_list}
use Rattle.tb_node.specs.PlainNodes.{shape_of}
use Rattle.tb_break.specs.PageTopTurns.{topped, with_front}
use Rattle.tb_break.proofs.StoreLemmas.{none_first, some_first}
use Rattle.tb_pool.proofs.CallerLemmas.{list_same, with_list-same}
use Rattle.tb_break.proofs.PageTopLemmas.{untopped}
use Rattle.tb_break.proofs.page_top.put_top_glue.Goals as goal

pub returns-in_default-clause-topped : goal.returns-in_default-clause-topped
returns-in_default-clause-topped c =
    let none = none_first (list_at c.args.store.now c.args.l) c.in_default.ensures in
    with_list-same c.args.store.now c.args.store.now c.args.l c.requires.live refl ∙ ap (with_list c.args.store.now c.args.l) (none ∙ sym (ap (topped c.args.top_skip) none))

pub returns-then-not-is_box-clause-topped : goal.returns-then-not-is_box-clause-topped
returns-then-not-is_box-clause-topped c =
    let first = some_first (list_at c.args.store.now c.args.l) c.in-Some.first.now c.in-Some.ensures in
    let none = untopped c.args.top_skip (shape_of c.in-Some.first.now) c.in-Some.first.now (sym c.is_box.ensures ∙ search rules) in
    with_list-same c.args.store.now c.args.store.now c.args.l c.requires.live refl
    ∙ ap (with_list c.args.store.now c.args.l) (first.1 ∙ ap (λ o. with_front o (c.in-Some.first.now ∷ first.0)) (sym none) ∙ sym (ap (topped c.args.top_skip) first.1))

pub top_node-glue-requires-clause-node : goal.top_node-glue-requires-clause-node
top_node-glue-requires-clause-node c =
    let first = some_first (list_at c.args.store.now c.args.l) c.in-Some.first.now c.in-Some.ensures in
    c.requires.nodes c.in-Some.first.now first.0 first.1

pub returns-clause-places : goal.returns-clause-places
returns-clause-places c =
    let now = list_same c.args.store.now c.push_front.new.self c.args.l _ c.push_front.ensures.pushed in
    omega (arith, ap length now, c.push_front.ensures.spare)
