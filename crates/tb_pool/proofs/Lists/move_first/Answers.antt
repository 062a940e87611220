use Rattle.std.proofs.Common.{◌≡◌, ◌≢◌, ◌<◌, ◌+◌, ◌-◌, length, arith, refl, sym, ap}
use Rattle.tb_pool.specs.Links.{values_of, next_at}
use Rattle.tb_pool.proofs.MapLemmas.{present}
use Rattle.tb_pool.proofs.ShapeLemmas.{items-shaped}
use Rattle.tb_pool.proofs.JoinLemmas.{last_there, first_there, lengths_fit}
use Rattle.tb_pool.proofs.PlaceLemmas.{len-shaped}
use Rattle.tb_pool.proofs.MoveLemmas.{first_of, move_done}
use Rattle.tb_pool.proofs.Lists.move_first.Given.{Over}
use Rattle.tb_pool.proofs.Lists.move_first.Goals.{After-get_unchecked-source}
use Rattle.tb_pool.proofs.Lists.move_first.Goals as goal

pub get_unchecked-source-requires : goal.get_unchecked-source-requires
get_unchecked-source-requires g c = present c.self.inside.heads (values_of c.self.inside.nodes) c.from.inside.index (rw (← c.self.view_is, ← c.from.view_is) at c.requires.from_live)

pub get_unchecked-target-requires : goal.get_unchecked-target-requires
get_unchecked-target-requires g c = present c.self.inside.heads (values_of c.self.inside.nodes) c.to.inside.index (rw (← c.self.view_is, ← c.to.view_is) at c.requires.to_live)

-- the list that gives a value has one
some : (g : Over) (c : After-get_unchecked-source g) → 0 < length (c.self.invariant.0.items c.from.inside.index)
some g c =
    let i = c.self.inside in
    let items = items-shaped i.nodes i.heads i.spare i.places c.self.invariant.0 c.self.invariant.1 c.from.inside.index c.get_unchecked-source.result.now c.get_unchecked-source.ensures in
    rw (← c.self.view_is, ← c.from.view_is, items) at c.requires.some

-- so its ends count a node
has : (g : Over) (c : After-get_unchecked-source g) → 0 < c.get_unchecked-source.result.now.len
has g c =
    let i = c.self.inside in
    omega (arith, some g c, len-shaped i.nodes i.heads i.spare i.places c.self.invariant.0 c.self.invariant.1 c.from.inside.index c.get_unchecked-source.result.now c.get_unchecked-source.ensures)

pub get_unchecked-requires : goal.get_unchecked-requires
get_unchecked-requires g c =
    let i = c.self.inside in
    first_there i.nodes i.heads i.spare i.places c.self.invariant.0 c.self.invariant.1 c.from.inside.index c.get_unchecked-source.result.now c.get_unchecked-source.ensures (has g (goal.at.get_unchecked-requires g c).After-get_unchecked-source)

pub link-requires-clause-last_there : goal.link-requires-clause-last_there
link-requires-clause-last_there g c =
    let i = c.self.inside in
    last_there i.nodes i.heads i.spare i.places c.self.invariant.0 c.self.invariant.1 c.to.inside.index c.get_unchecked-target.result.now c.get_unchecked-target.ensures

pub overflow_sub-source : goal.overflow_sub-source
overflow_sub-source g c = has g (goal.at.overflow_sub-source g c).After-get_unchecked-source

pub overflow_add-target : goal.overflow_add-target
overflow_add-target g c =
    let i = c.self.inside in
    let apart : c.from.inside.index ≢ c.to.inside.index = rw (← c.from.view_is, ← c.to.view_is) at c.requires.apart in
    let fit = lengths_fit i.nodes i.heads i.spare i.places c.self.invariant.0 c.self.invariant.1 c.from.inside.index c.to.inside.index c.get_unchecked-source.result.now c.get_unchecked-target.result.now apart c.get_unchecked-source.ensures c.get_unchecked-target.ensures in
    omega (arith, fit, has g (goal.at.overflow_add-target g c).After-get_unchecked-source)

pub invariant_of-self : goal.invariant_of-self
invariant_of-self g c =
    let i = c.self.inside in
    let l = c.from.inside.index in
    let d = c.get_unchecked-source.result.now in
    let w = (goal.at.invariant_of-self g c).After-get_unchecked-source in
    let fewer : d.len - 1 + 1 ≡ d.len = omega (arith, has g w) in
    let apart : l ≢ c.to.inside.index = rw (← c.from.view_is, ← c.to.view_is) at c.requires.apart in
    let front = first_of (c.self.invariant.0.items l) (some g w) in
    (move_done i.nodes i.heads i.spare i.places c.self.invariant.0 c.self.invariant.1 l c.to.inside.index d c.get_unchecked-target.result.now apart c.get_unchecked-source.ensures c.get_unchecked-target.ensures (has g w)
    c.link.new.nodes (rw c.alone.ensures at c.link.ensures) front.0 front.1.0 front.1.1 _ _ fewer (sym (ap next_at c.get_unchecked.ensures)) refl refl c.first_or.ensures.some c.first_or.ensures.empty refl).0

pub returns-clause-moved : goal.returns-clause-moved
returns-clause-moved g c v vs is =
    let i = c.self.inside in
    let l = c.from.inside.index in
    let d = c.get_unchecked-source.result.now in
    let w = (goal.at.returns-clause-moved g c).After-get_unchecked-source in
    let items = items-shaped i.nodes i.heads i.spare i.places c.self.invariant.0 c.self.invariant.1 l d c.get_unchecked-source.ensures in
    let fewer : d.len - 1 + 1 ≡ d.len = omega (arith, has g w) in
    let apart : l ≢ c.to.inside.index = rw (← c.from.view_is, ← c.to.view_is) at c.requires.apart in
    let here = rw (← c.self.view_is, ← c.from.view_is, items) at is in
    rw (← c.self.view_is, ← c.from.view_is, ← c.to.view_is)
    (move_done i.nodes i.heads i.spare i.places c.self.invariant.0 c.self.invariant.1 l c.to.inside.index d c.get_unchecked-target.result.now apart c.get_unchecked-source.ensures c.get_unchecked-target.ensures (has g w)
    c.link.new.nodes (rw c.alone.ensures at c.link.ensures) v vs here _ _ fewer (sym (ap next_at c.get_unchecked.ensures)) refl refl c.first_or.ensures.some c.first_or.ensures.empty refl).1
