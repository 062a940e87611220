use Rattle.std.proofs.Common.{◌≡◌, ◌+◌, ◌-◌, ◌<◌, drop, arith, sym}
use Rattle.std.proofs.lemmas.List.{drop_all}
use Rattle.tb_pool.specs.Links.{values_of, walk, CanWalk}
use Rattle.tb_pool.proofs.MapLemmas.{present}
use Rattle.tb_pool.proofs.ShapeLemmas.{items-shaped}
use Rattle.tb_pool.proofs.PlaceLemmas.{HasPath-shaped, len-shaped, key_is, walk_rest}
use Rattle.tb_pool.proofs.Lists.iter_from.Given.{Over}
use Rattle.tb_pool.proofs.Lists.iter_from.Goals.{After-key_at}
use Rattle.tb_pool.proofs.Lists.iter_from.Goals as goal

pub get_unchecked-ends-requires : goal.get_unchecked-ends-requires
get_unchecked-ends-requires g c = present c.self.inside.heads (values_of c.self.inside.nodes) c.l.inside.index (rw (← c.self.view_is, ← c.l.view_is) at c.requires)

pub returns-then-k-ends : goal.returns-then-k-ends
returns-then-k-ends g c =
    let i = c.self.inside in
    let s = c.self.invariant.0 in
    let items = items-shaped i.nodes i.heads i.spare i.places s c.self.invariant.1 c.l.inside.index c.get_unchecked-ends.result.now c.get_unchecked-ends.ensures in
    let len = len-shaped i.nodes i.heads i.spare i.places s c.self.invariant.1 c.l.inside.index c.get_unchecked-ends.result.now c.get_unchecked-ends.ensures in
    rw (← c.self.view_is, ← c.l.view_is, items) (sym (drop_all c.args.k (s.items c.l.inside.index) (omega (arith, len))))

pub key_at-requires-clause-path : goal.key_at-requires-clause-path
key_at-requires-clause-path g c =
    let i = c.self.inside in
    HasPath-shaped i.nodes i.heads i.spare i.places c.self.invariant.0 c.self.invariant.1 c.l.inside.index c.get_unchecked-ends.result.now c.get_unchecked-ends.ensures

-- a walk from the key that was found gives the values from the place on
walked : (g : Over) (c : After-key_at g) → c.args.k < c.get_unchecked-ends.result.now.len → (let n = c.get_unchecked-ends.result.now.len - c.args.k in
    (walk c.self.inside.nodes c.key_at.result n ≡ drop c.args.k (c.self.invariant.0.items c.l.inside.index)) × CanWalk c.self.inside.nodes c.key_at.result n)
walked g c within =
    let i = c.self.inside in
    let s = c.self.invariant.0 in
    let h = c.self.invariant.1 in
    let l = c.l.inside.index in
    let e = c.get_unchecked-ends.result.now in
    let remains : e.len - c.args.k + c.args.k ≡ e.len = omega arith in
    let key = key_is i.nodes i.heads i.spare i.places s h l e c.get_unchecked-ends.ensures c.args.k c.key_at.result (omega arith) c.key_at.ensures in
    walk_rest i.nodes i.heads i.spare i.places s h l e c.get_unchecked-ends.ensures c.args.k c.key_at.result key (e.len - c.args.k) remains

pub invariant_of-result-2 : goal.invariant_of-result-2
invariant_of-result-2 g c = (walked g (goal.at.invariant_of-result-2 g c).After-key_at (omega arith)).1

pub returns : goal.returns
returns g c =
    let i = c.self.inside in
    let items = items-shaped i.nodes i.heads i.spare i.places c.self.invariant.0 c.self.invariant.1 c.l.inside.index c.get_unchecked-ends.result.now c.get_unchecked-ends.ensures in
    rw (← c.self.view_is, ← c.l.view_is, items) ((walked g (goal.at.returns g c).After-key_at (omega arith)).0)
