use Rattle.std.proofs.Common.{◌≡◌, length, drop, arith, ap, length-drop}
use Rattle.tb_pool.specs.Lists.{list_at}
use Rattle.tb_pool.proofs.MapLemmas.{list_steps}
use Rattle.tb_float.specs.Shelves.{marked_slot}
use Rattle.tb_float.proofs.MoveLemmas.{marked-one}
use Rattle.tb_float.proofs.slots.mark_slot.Goals as goal

pub mark_first-requires-clause-some : goal.mark_first-requires-clause-some
mark_first-requires-clause-some c =
    let behind : list_at c.cut.new.self c.args.one ≡ drop c.args.k (list_at c.args.store.now c.args.l) = grind (arith, list_steps) in
    omega (arith, ap length behind, length-drop c.args.k (list_at c.args.store.now c.args.l), c.requires.within)

pub append-requires-clause-first_live : goal.append-requires-clause-first_live
append-requires-clause-first_live c = c.mark_first.ensures.lists_live c.args.l (grind (arith, list_steps))

pub append-requires-clause-second_live : goal.append-requires-clause-second_live
append-requires-clause-second_live c = c.mark_first.ensures.lists_live c.args.one (grind (arith, list_steps))

pub returns-clause-marked : goal.returns-clause-marked
returns-clause-marked c = λ s got.
    let r = c.requires in
    marked-one c.args.store.now c.cut.new.self c.mark_first.new.store c.append.new.self c.args.l c.args.k c.args.one s (marked_slot s) r.apart r.one_live r.one_empty got c.cut.ensures.parted (c.mark_first.ensures.marked s) c.append.ensures.joined
