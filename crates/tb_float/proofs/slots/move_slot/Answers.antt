use Rattle.std.proofs.Common.{◌≡◌, length, take, drop, arith, ap, length-drop}
use Rattle.tb_pool.specs.Lists.{list_at}
use Rattle.tb_pool.proofs.MapLemmas.{list_steps}
use Rattle.tb_float.specs.Shelves.{unmarked_slot}
use Rattle.tb_float.proofs.MoveLemmas.{moved-one, Differ}
use Rattle.tb_float.proofs.slots.move_slot.Goals as goal

pub cut-requires-2-clause-within : goal.cut-requires-2-clause-within
cut-requires-2-clause-within c =
    let behind : list_at c.cut.new.self c.args.one ≡ drop c.args.k (list_at c.args.store.now c.args.from) = grind (arith, list_steps) in
    omega (arith, ap length behind, length-drop c.args.k (list_at c.args.store.now c.args.from), c.requires.within)

pub unmark_first-slot-requires-clause-some : goal.unmark_first-slot-requires-clause-some
unmark_first-slot-requires-clause-some c =
    let behind : list_at c.cut.new.self c.args.one ≡ drop c.args.k (list_at c.args.store.now c.args.from) = grind (arith, list_steps) in
    let first : list_at c.cut-2.new.self c.args.one ≡ take 1 (list_at c.cut.new.self c.args.one) = grind (arith, list_steps) in
    grind (arith, ap length first, ap length behind, length-drop c.args.k (list_at c.args.store.now c.args.from), c.requires.within)

pub returns : goal.returns
returns c =
    let r = c.requires in
    let d = r.differ in
    let apart : Differ c.args.from c.args.to c.args.one c.args.rest = record { from_to = d.0; from_one = d.1; from_rest = d.2; to_one = d.3; to_rest = d.4; one_rest = d.5 } in
    let moved = moved-one c.args.store.now c.cut.new.self c.cut-2.new.self c.unmark_first-slot.new.store c.append.new.self c.append-2.new.self c.args.from c.args.k c.args.to c.args.one c.args.rest c.unmark_first-slot.result (unmarked_slot c.unmark_first-slot.result) apart r.one_live r.rest_live r.one_empty r.rest_empty c.cut.ensures.parted c.cut-2.ensures.parted c.unmark_first-slot.ensures.was c.unmark_first-slot.ensures.unmarked c.append.ensures.joined c.append-2.ensures.joined in
    record { was = moved.was; moved = moved.moved; spare = grind arith }
