use Rattle.std.proofs.Common.{◌≡◌, ap, List, [], ◌∷◌, length, pos, FitsSigned, w64, rules, arith}
use Rattle.std.specs.Prelude.{All}
use Rattle.std.proofs.lemmas.Int.{ints, to_z-of_z}
use Rattle.std.proofs.lemmas.List.Elements.{All-from_recursion}
use Rattle.tb_pool.specs.Lists.{with_list}
use Rattle.tb_pool.proofs.CallerLemmas.{list_same, live_same}
use Rattle.tb_node.specs.declared.Node.{Node}
use Rattle.tb_node.specs.declared.Kind.TheVariants as kinds
use Rattle.tb_node.specs.declared.What.TheVariants as what
use Rattle.tb_node.specs.Fit.{IsExtent, IsSizedNode}
use Rattle.tb_column.specs.FloatColumns.{made_node}
use Rattle.tb_column.proofs.StoreLemmas.{with_list-added}
use Rattle.tb_column.proofs.FloatLemmas.{glue_sized}
use Rattle.tb_column.proofs.PageLemmas.{list-opened, fresh-before, is-opened, opened-page}
use Rattle.tb_float_tests.proofs.column.list_of.Goals as goal

pub push_made-requires-clause-live : goal.push_made-requires-clause-live
push_made-requires-clause-live c = live_same c.reserve.new.self c.add_list.new.self c.in_ok-l.l _ c.in_ok-l.ensures.opened

-- the box, and then the glue
made_lists : (c : goal.After-push_made-2)
    → c.push_made-2.new.store.lists ≡ with_list c.args.store.now c.in_ok-l.l (made_node (kinds.Hbox what.Blank c.from.result (pos 0)) ∷ made_node (kinds.Skip c.args.glue) ∷ [])
made_lists c =
    let height : FitsSigned w64 c.from.result = search rules in
    let pushed = simp to_z-of_z at c.push_made.ensures.lists in
    list-opened c.args.store.now c.reserve.new.self c.add_list.new.self c.push_made-2.new.store c.in_ok-l.l _ c.in_ok-reserve.ensures.lists c.in_ok-l.ensures.opened
    (with_list-added c.add_list.new.self c.push_made.new.store c.push_made-2.new.store c.in_ok-l.l _ _ pushed c.push_made-2.ensures.lists)

pub returns-clause-page : goal.returns-clause-page
returns-clause-page c =
    let height : IsExtent c.from.result = record { low = omega (arith, ints); high = omega (arith, ints) } in
    let depth : IsExtent (pos 0) = record { low = omega (arith, ints); high = omega (arith, ints) } in
    let ns : List Node = made_node (kinds.Hbox what.Blank c.from.result (pos 0)) ∷ made_node (kinds.Skip c.args.glue) ∷ [] in
    let sized : All IsSizedNode ns = All-from_recursion IsSizedNode ns ((height, depth), (glue_sized c.args.glue c.requires, tt)) in
    opened-page c.args.store.now c.push_made-2.new.store c.in_ok-l.l ns
    (fresh-before c.args.store.now c.reserve.new.self c.in_ok-l.l c.in_ok-reserve.ensures.lists c.in_ok-l.ensures.fresh) (made_lists c) (tt, (tt, tt)) sized (omega arith)

pub returns-clause-two : goal.returns-clause-two
returns-clause-two c = ap length (list_same c.args.store.now c.push_made-2.new.store c.in_ok-l.l _ (made_lists c))

pub returns-clause-opened : goal.returns-clause-opened
returns-clause-opened c =
    is-opened c.args.store.now c.push_made-2.new.store c.in_ok-l.l _
    (fresh-before c.args.store.now c.reserve.new.self c.in_ok-l.l c.in_ok-reserve.ensures.lists c.in_ok-l.ensures.fresh) (made_lists c)
