use Rattle.std.proofs.Common.{◌≡◌, ◌∷◌, ◌++◌, [], length, drop, Some, arith, ap, ◌∙◌}
use Rattle.tb_pool.specs.Lists.{list_at}
use Rattle.tb_pool.proofs.MapLemmas.{list_steps, insert_from_get}
use Rattle.tb_float.specs.Shelves.{unmarked_slot}
use Rattle.tb_float.proofs.ListLemmas.{turned-once, turned-all, turned-length, some-list}
use Rattle.tb_float.proofs.slots.unmark_all.Goals as goal

pub loop-turn-preserved : goal.loop-turn-preserved
loop-turn-preserved c =
    let before = c.loop-turn.invariant in
    let xs = list_at c.args.store.now c.args.l in
    let first = c.in-Some.ensures.popped in
    let rest : list_at c.pop_front.new.self c.args.l ≡ drop 1 (list_at c.loop-turn.store c.args.l) = grind (arith, list_steps, c.in-Some.ensures.rest) in
    let new : list_at c.push_back.new.self c.args.l ≡ drop 1 (list_at c.loop-turn.store c.args.l) ++ unmarked_slot c.in-Some.slot ∷ [] = grind (arith, list_steps) in
    record {
      live = grind (arith, list_steps);
      turned = new ∙ turned-once unmarked_slot c.loop-turn._turn xs _ _ c.in-Some.slot before.turned first (omega (arith, c.len-count.ensures));
      others = λ q ne. grind (arith, list_steps, before.others q ne);
      spare = grind arith;
    }

pub returns-clause-unmarked : goal.returns-clause-unmarked
returns-clause-unmarked c =
    let end = c.loop-turn.invariant in
    let xs = list_at c.args.store.now c.args.l in
    let all = turned-all unmarked_slot c.loop-turn._turn xs _ end.turned (omega (arith, c.len-count.ensures)) in
    insert_from_get _ _ c.args.l _ (some-list _ end.live ∙ ap Some all) end.others

pub returns-in_default-clause-unmarked : goal.returns-in_default-clause-unmarked
returns-in_default-clause-unmarked c =
    let before = c.loop-turn.invariant in
    let xs = list_at c.args.store.now c.args.l in
    let none : list_at c.loop-turn.store c.args.l ≡ [] = grind (arith, c.in_default.ensures.empty, c.in_default.is) in
    absurd (omega (arith, ap length none, turned-length unmarked_slot c.loop-turn._turn xs _ before.turned (omega (arith, c.len-count.ensures)), c.len-count.ensures))
