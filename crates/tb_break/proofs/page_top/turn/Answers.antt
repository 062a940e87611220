use Rattle.std.proofs.Common.{◌≡◌, ◌∙◌, ap, sym, refl, List, ◌∷◌, [], length, drop, arith}
use Rattle.tb_pool.specs.Lists.{Lists, list_at, with_list}
use Rattle.tb_node.specs.declared.Node.{Node}
use Rattle.tb_node.specs.PlainNodes.{shape_of}
use Rattle.tb_break.specs.PageTopTurns.{turned, turned_at}
use Rattle.tb_pool.proofs.CallerLemmas.{list_same, live_same, with_list-same, with_list-twice}
use Rattle.tb_break.proofs.PageTopLemmas.{boxed_turn}
use Rattle.tb_break.proofs.page_top.turn.Goals as goal

pub returns-in_default-clause-turned : goal.returns-in_default-clause-turned
returns-in_default-clause-turned c =
    let none : list_at c.args.store.now c.args.l ≡ [] = c.in_default.ensures.empty.0 refl in
    with_list-same c.args.store.now c.pop_front.new.self c.args.l c.requires (ap (λ (s : Lists Node). s.lists) c.in_default.ensures.none)
    ∙ ap (with_list c.args.store.now c.args.l) (none ∙ sym (ap turned none))

pub push_front-requires-clause-live : goal.push_front-requires-clause-live
push_front-requires-clause-live c = live_same c.args.store.now c.pop_front.new.self c.args.l _ c.in-Some.ensures.rest

pub returns-then-is_box-clause-turned : goal.returns-then-is_box-clause-turned
returns-then-is_box-clause-turned c =
    let after = list_same c.args.store.now c.pop_front.new.self c.args.l _ c.in-Some.ensures.rest in
    let boxed = boxed_turn (shape_of c.in-Some.n) c.in-Some.n (drop 1 (list_at c.args.store.now c.args.l)) (sym c.is_box.ensures ∙ c.if-is_box.true) in
    with_list-twice c.args.store.now c.pop_front.new.self c.push_front.new.self c.args.l _ _ c.in-Some.ensures.rest c.push_front.ensures.pushed
    ∙ ap (λ (ns : List Node). with_list c.args.store.now c.args.l (c.in-Some.n ∷ ns)) after
    ∙ ap (with_list c.args.store.now c.args.l) (sym (ap turned c.in-Some.ensures.popped ∙ boxed))

pub returns-then-is_box-clause-places : goal.returns-then-is_box-clause-places
returns-then-is_box-clause-places c =
    let after = list_same c.args.store.now c.pop_front.new.self c.args.l _ c.in-Some.ensures.rest in
    let now = list_same c.pop_front.new.self c.push_front.new.self c.args.l _ c.push_front.ensures.pushed in
    omega (arith, ap length after, ap length now, ap length c.in-Some.ensures.popped, c.in-Some.ensures.spare, c.push_front.ensures.spare)

pub keep-requires-clause-live : goal.keep-requires-clause-live
keep-requires-clause-live c = live_same c.args.store.now c.pop_front.new.self c.args.l _ c.in-Some.ensures.rest

pub returns-clause-turned : goal.returns-clause-turned
returns-clause-turned c =
    let after = list_same c.args.store.now c.pop_front.new.self c.args.l _ c.in-Some.ensures.rest in
    with_list-twice c.args.store.now c.pop_front.new.self c.keep.new.store c.args.l _ _ c.in-Some.ensures.rest c.keep.ensures.turned
    ∙ ap (λ (ns : List Node). with_list c.args.store.now c.args.l (turned_at (shape_of c.in-Some.n) c.in-Some.n ns)) after
    ∙ ap (with_list c.args.store.now c.args.l) (sym (ap turned c.in-Some.ensures.popped))

pub returns-clause-places : goal.returns-clause-places
returns-clause-places c =
    let after = list_same c.args.store.now c.pop_front.new.self c.args.l _ c.in-Some.ensures.rest in
    omega (arith, ap length after, ap length c.in-Some.ensures.popped, c.in-Some.ensures.spare, c.keep.ensures.places)
