use Rattle.std.proofs.Common.{◌≤◌, arith, ap}
use Rattle.slab.specs.Slab.{slab_len}
use Rattle.tb_pool.specs.Links.{values_of}
use Rattle.tb_pool.proofs.PlaceLemmas.{same_slots}
use Rattle.tb_pool.proofs.RefillLemmas.{emptied_sound, emptied_lists}
use Rattle.tb_pool.proofs.Lists.empty_like.Goals as goal

pub invariant_of-self : goal.invariant_of-self
invariant_of-self g c =
    let i = c.self.inside in
    let kept = ap slab_len c.reserve.ensures.rest_kept in
    same_slots i.nodes i.heads i.spare i.places c.self.invariant.0 c.self.invariant.1 c.reserve.new.self i.spare i.places (ap (λ t. t.slots) c.reserve.ensures.rest_kept)
    (omega (arith, c.self.invariant.1.room, kept, c.reserve.ensures.capacity)) (omega arith)

pub invariant_of-self-2 : goal.invariant_of-self-2
invariant_of-self-2 g c =
    let kept = ap slab_len c.reserve.ensures.rest_kept in
    let room : c.args.places ≤ c.clear.new.self.capacity = omega (arith, c.clear.ensures.capacity, c.in_ok-reserve.ensures.room, kept, c.len.ensures, c.saturating_sub.ensures) in
    emptied_sound c.clear.new.self c.other.inside.heads c.in_ok-heads.heads c.clear.ensures.empty c.in_ok-heads.ensures c.args.places room

pub returns-clause-emptied : goal.returns-clause-emptied
returns-clause-emptied g c =
    let o = c.other.inside in
    rw (← c.other.view_is) (emptied_lists c.clear.new.self o.heads c.in_ok-heads.heads c.clear.ensures.empty c.in_ok-heads.ensures (values_of o.nodes))
