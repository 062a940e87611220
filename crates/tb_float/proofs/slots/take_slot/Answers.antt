use Rattle.std.proofs.Common.{◌≡◌, [], length, drop, arith, ap, length-drop}
use Rattle.tb_pool.specs.Lists.{list_at}
use Rattle.tb_pool.proofs.MapLemmas.{list_steps}
use Rattle.tb_float.proofs.MoveLemmas.{taken-one}
use Rattle.tb_float.proofs.slots.take_slot.Goals as goal

pub unreachable-requires : goal.unreachable-requires
unreachable-requires c =
    let behind : list_at c.cut.new.self c.args.one ≡ drop c.args.k (list_at c.args.store.now c.args.from) = grind (arith, list_steps) in
    let none : list_at c.cut.new.self c.args.one ≡ [] = grind (arith, c.in_default.ensures.empty, c.in_default.is) in
    omega (arith, ap length none, ap length behind, length-drop c.args.k (list_at c.args.store.now c.args.from), c.requires.within)

pub returns : goal.returns
returns c =
    let r = c.requires in
    let taken = taken-one c.args.store.now c.cut.new.self c.pop_front.new.self c.append.new.self c.args.from c.args.k c.args.one c.in-Some.slot r.apart r.one_live r.one_empty c.cut.ensures.parted c.in-Some.ensures.popped c.in-Some.ensures.rest c.append.ensures.joined in
    record { was = taken.was; taken = taken.taken; spare = grind arith }
