use Rattle.std.proofs.Common.{◌≡◌, sym, ◌∙◌, ap, suc, ◌-◌, take, Some, arith}
use Rattle.std.specs.Prelude.{slice_get, option_copied, if◌then◌else◌}
use Rattle.tb_pool.specs.Lists.{list_at}
use Rattle.tb_search.specs.LastNodes.{last_but_acts}
use Rattle.tb_search.proofs.LastNodeLemmas.{this_or, last-with}
use Rattle.tb_search.proofs.moves.last_but_acts.Goals as goal
use Rattle.tb_search.proofs.moves.last_but_acts.Goals.{After-is_act}

-- the node tells, or what is before it
so-far : (c : After-is_act) → last_but_acts (list_at c.args.store.now c.args.list) ≡ this_or c.in_ok-node.node.now (last_but_acts (take (c.back.k - 1) (list_at c.args.store.now c.args.list)))
so-far c =
    let xs = list_at c.args.store.now c.args.list in
    let test = c.back-test.true in
    let one : c.back.k ≡ suc (c.back.k - 1) = omega (arith, test) in
    let here : slice_get xs (c.back.k - 1) ≡ Some c.in_ok-node.node.now = sym c.get.ensures ∙ ap option_copied c.in_ok-node.was in
    sym c.back.invariant.same ∙ ap (λ n. last_but_acts (take n xs)) one ∙ last-with xs (c.back.k - 1) c.in_ok-node.node.now here

pub returns-then-not-is_act : goal.returns-then-not-is_act
returns-then-not-is_act c =
    let at = (goal.at.returns-then-not-is_act c).After-is_act in
    sym (so-far at ∙ ap (λ t. if t then last_but_acts (take (c.back.k - 1) (list_at c.args.store.now c.args.list)) else Some c.in_ok-node.node.now) (sym c.is_act.ensures ∙ c.if-not-is_act.true))

pub back-preserved : goal.back-preserved
back-preserved c =
    let at = (goal.at.back-preserved c).After-is_act in
    let inside = c.back.invariant.inside in
    record {
      inside = omega (arith, inside);
      same = sym (so-far at ∙ ap (λ t. if t then last_but_acts (take (c.back.k - 1) (list_at c.args.store.now c.args.list)) else Some c.in_ok-node.node.now) (sym c.is_act.ensures ∙ c.if-not-is_act.false));
    }
