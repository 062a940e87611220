use Rattle.std.proofs.Common.{◌+◌, ◌≤◌, arith, ap}
use Rattle.slab.specs.Slab.{slab_len}
use Rattle.tb_pool.proofs.PlaceLemmas.{same_slots}
use Rattle.tb_pool.proofs.Lists.make_room.Goals as goal

pub invariant_of-self : goal.invariant_of-self
invariant_of-self g c =
    let i = c.self.inside in
    let kept = ap slab_len c.reserve.ensures.rest_kept in
    same_slots i.nodes i.heads i.spare i.places c.self.invariant.0 c.self.invariant.1 c.reserve.new.self i.spare i.places (ap (λ t. t.slots) c.reserve.ensures.rest_kept)
    (omega (arith, c.self.invariant.1.room, kept, c.reserve.ensures.capacity)) (omega arith)

pub invariant_of-self-2 : goal.invariant_of-self-2
invariant_of-self-2 g c =
    let i = c.self.inside in
    let fits : slab_len c.reserve.new.self + (i.spare + c.min-gained.result) ≤ c.reserve.new.self.capacity = grind (arith, c.in_ok-reserve.ensures.room, c.capacity.ensures.value, c.len.ensures, c.min-gained.ensures) in
    same_slots i.nodes i.heads i.spare i.places c.self.invariant.0 c.self.invariant.1 c.reserve.new.self (i.spare + c.min-gained.result) (i.places + c.min-gained.result) (ap (λ t. t.slots) c.reserve.ensures.rest_kept)
    fits (omega arith)
