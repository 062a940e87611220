use Rattle.std.proofs.Common.{◌≡◌, ◌∙◌, sym, subst, ap, length, drop, map, arith, rules, FitsSigned, w64, to_z, of_z}
use Rattle.std.proofs.lemmas.Int.{to_z-of_z}
use Rattle.tb_node.specs.SmallAmounts.{IsAmount}
use Rattle.tb_break.specs.PageTop.{pruned_list}
use Rattle.tb_pool.specs.Lists.{list_at, with_list}
use Rattle.tb_node.specs.PlainNodes.{shape_of}
use Rattle.tb_node.specs.Fit.{NodesFit}
use Rattle.tb_builder.proofs.Sorting.RestLemmas.{nodes-dropped, rest-fewer}
use Rattle.tb_builder.proofs.Ownership.StoreMoves.{moved_live, moved_left, given_lists}
use Rattle.tb_builder.proofs.fronts.give_front.Goals.{After-move_front}
use Rattle.tb_builder.proofs.fronts.give_front.Goals as goal
use Rattle.tb_pool.proofs.CallerLemmas.{list_same}

-- the nodes from the place on are left
left_is : (c : After-move_front) → list_at c.move_front.new.store c.args.from ≡ drop c.args.place (list_at c.args.store.now c.args.from)
left_is c = moved_left c.args.store.now c.move_front.new.store c.args.to c.args.from _ _ c.requires.to_apart c.move_front.ensures.moved

pub prune-requires : goal.prune-requires
prune-requires c =
    let s = c.args.store.now in
    let left = left_is (goal.at.prune-requires c).After-move_front in
    let r : FitsSigned w64 c.args.top_skip = search rules in
    record {
      live = moved_live s c.move_front.new.store c.args.to c.args.from _ _ c.requires.to_apart c.move_front.ensures.moved;
      room = omega (arith, c.requires.room, c.move_front.ensures.spare);
      top_skip = subst IsAmount (sym (to_z-of_z w64 c.args.top_skip r)) c.requires.top_skip;
      nodes = subst (λ ns. NodesFit (map shape_of ns)) (sym left) (nodes-dropped c.args.place (list_at s c.args.from) c.requires.nodes);
    }

pub returns : goal.returns
returns c =
    let s = c.args.store.now in
    let left = left_is (goal.at.returns c).After-move_front in
    let r : FitsSigned w64 c.args.top_skip = search rules in
    record {
      given = given_lists s c.move_front.new.store c.args.to c.args.from _ _ c.requires.to_apart c.move_front.ensures.moved c.prune.new.store c.args.top_skip
          (c.prune.ensures.pruned ∙ ap (λ x. with_list c.move_front.new.store c.args.from (pruned_list x (list_at c.move_front.new.store c.args.from))) (to_z-of_z w64 c.args.top_skip r));
      spare =
          let after : list_at c.prune.new.store c.args.from ≡ pruned_list (to_z w64 (of_z w64 c.args.top_skip)) (drop c.args.place (list_at s c.args.from)) =
          list_same c.move_front.new.store c.prune.new.store c.args.from (pruned_list (to_z w64 (of_z w64 c.args.top_skip)) (list_at c.move_front.new.store c.args.from)) c.prune.ensures.pruned
          ∙ ap (pruned_list (to_z w64 (of_z w64 c.args.top_skip))) left in
          omega (arith, c.move_front.ensures.spare, c.prune.ensures.places, ap length left, ap length after, rest-fewer (to_z w64 (of_z w64 c.args.top_skip)) c.args.place (list_at s c.args.from) c.requires.vanishes);
    }
