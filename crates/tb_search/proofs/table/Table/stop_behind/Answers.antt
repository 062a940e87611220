use Rattle.std.proofs.Common.{◌≡◌, sym, subst, ◌∙◌, ◌-◌, ◌<◌, ◌≤◌, length, arith}
use Rattle.tb_best.specs.ItemsAhead.{all_ahead, state_with}
use Rattle.tb_search.specs.declared.table.Start.{Start}
use Rattle.tb_search.specs.Branches.{shown}
use Rattle.tb_search.specs.AheadInCode.{items_ahead}
use Rattle.tb_search.specs.Calm.{nodes_of_first}
use Rattle.tb_search.specs.Told.{StopsAt}
use Rattle.tb_search.proofs.CalmLemmas.{reached-copy, one-reached, one-far, far-same}
use Rattle.tb_search.proofs.table.Table.stop_behind.Goals as goal

pub items-init : goal.items-init
items-init c =
    let g = c.args.self.now.galley.now in
    let copy = c.in_ok-copy_from.ensures in
    let fewer = c.requires.fewer in
    let all : c.args.count ≡ c.args.left - (c.args.left - c.args.count) = omega (arith, fewer) in
    record {
      reached = reached-copy g c.args.left c.args.start.now c.copy_from.new.self c.requires.reached copy.branch copy.state copy.ahead copy.plain;
      above = omega arith;
      below = omega arith;
      same = λ i. state_with (nodes_of_first (all i) (items_ahead g c.args.left)) (sym copy.state i);
    }

pub take-requires : goal.take-requires
take-requires c = c.items.invariant.reached.branch

pub items-preserved : goal.items-preserved
items-preserved c =
    let g = c.args.self.now.galley.now in
    let i = c.items.invariant in
    let x : Start = record { branch = c.items.trials.page; way = c.args.start.now.way } in
    let test = c.items-test.true in
    let below = i.below in
    let inside = c.requires.inside in
    let within : c.items.behind ≤ length (all_ahead g) = omega (arith, below, inside) in
    let some : 0 < c.items.behind = omega (arith, test) in
    let taken = c.in_ok-take.ensures.taken in
    let last = c.args.left - c.args.count in
    record {
      reached = one-reached g x c.items.behind c.take.new.self within some i.reached taken (c.in_ok-take.ensures.branch c.if-not-branch.false);
      above = omega (arith, test);
      below = omega (arith, below);
      same = i.same ∙ one-far g x c.items.behind c.take.new.self within some i.reached taken (c.items.behind - last) (c.items.behind - 1 - last) (omega (arith, test));
    }

pub stop-requires : goal.stop-requires
stop-requires c = c.items.invariant.reached.branch

pub returns : goal.returns
returns c =
    let g = c.args.self.now.galley.now in
    let i = c.items.invariant in
    let test = c.items-test.false in
    subst (λ s. StopsAt s c.stop.new.happened.items c.in_ok-stop.stop)
    (sym
    (far-same (shown c.args.start.now.branch) (shown c.items.trials.page) (items_ahead g c.args.left) (items_ahead g c.items.behind) c.args.count (c.items.behind - (c.args.left - c.args.count)) i.same (omega (arith, test))))
    c.in_ok-stop.ensures
