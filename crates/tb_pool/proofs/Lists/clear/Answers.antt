use Rattle.std.proofs.Common.{◌≡◌, ◌-◌, is_some, arith, ap, length, [], ◌∙◌}
use Rattle.std.proofs.lemmas.List.{drop_all}
use Rattle.std.specs.FinMap.{insert}
use Rattle.slab.specs.Slab.{with_value}
use Rattle.tb_pool.specs.Lists.{listed, list_at}
use Rattle.tb_pool.specs.Links.{values_of}
use Rattle.tb_pool.proofs.MapLemmas.{present}
use Rattle.tb_pool.proofs.ClearLemmas.{clear_begins, clear_len, clear_room, clear_there, clear_goes_on, clear_ends}
use Rattle.tb_pool.proofs.PopLemmas.{IsTaken}
use Rattle.tb_pool.proofs.Lists.clear.Goals as goal

pub get_unchecked-ends-requires : goal.get_unchecked-ends-requires
get_unchecked-ends-requires g c = present c.self.inside.heads (values_of c.self.inside.nodes) c.l.inside.index (rw (← c.self.view_is, ← c.l.view_is) at c.requires)

pub loop-dropped-init : goal.loop-dropped-init
loop-dropped-init g c =
    let i = c.self.inside in
    let begins = clear_begins i.nodes i.heads i.spare i.places c.self.invariant.0 c.self.invariant.1 c.l.inside.index c.get_unchecked-ends.result.now c.get_unchecked-ends.ensures in
    record {
      sound = begins.0;
      lists = rw (← c.self.view_is) begins.1;
      there = c.get_unchecked-ends.ensures;
      spare = ap (λ v. v.spare) c.self.view_is;
      fits = omega (arith, clear_room i.nodes i.heads i.spare i.places c.self.invariant.0 c.self.invariant.1 c.l.inside.index c.get_unchecked-ends.result.now c.get_unchecked-ends.ensures);
    }

pub remove_unchecked-node-requires : goal.remove_unchecked-node-requires
remove_unchecked-node-requires g c =
    let i = c.loop-dropped.self-inside in
    let before = c.loop-dropped.invariant in
    clear_there i.nodes i.heads i.spare i.places c.l.inside.index c.get_unchecked-ends.result.now before.there c.loop-dropped.key c.get_unchecked-ends.result.now.last c.get_unchecked-ends.result.now.len c.loop-dropped._dropped before.sound (omega arith)

pub loop-dropped-preserved : goal.loop-dropped-preserved
loop-dropped-preserved g c =
    let i = c.loop-dropped.self-inside in
    let before = c.loop-dropped.invariant in
    let taken : IsTaken i.nodes c.remove_unchecked-node.new.slab c.loop-dropped.key = record { updates = c.remove_unchecked-node.ensures.updates; len = c.remove_unchecked-node.ensures.len; capacity = c.remove_unchecked-node.ensures.capacity } in
    let done = clear_goes_on i.nodes i.heads i.spare i.places c.l.inside.index c.get_unchecked-ends.result.now before.there c.loop-dropped.key c.get_unchecked-ends.result.now.last c.get_unchecked-ends.result.now.len c.loop-dropped._dropped before.sound (omega arith)
    c.args.self.now.lists (list_at c.args.self.now c.l.inside.index) before.lists c.remove_unchecked-node.result c.remove_unchecked-node.new.slab c.remove_unchecked-node.ensures.value taken in
    record {
      sound = done.0;
      lists = done.1;
      there = before.there;
      spare = before.spare;
      fits = before.fits;
    }

pub overflow_add-self : goal.overflow_add-self
overflow_add-self g c = omega (arith, c.loop-dropped.invariant.fits)

pub get_unchecked_mut-requires : goal.get_unchecked_mut-requires
get_unchecked_mut-requires g c = ap is_some c.loop-dropped.invariant.there

pub invariant_of-self : goal.invariant_of-self
invariant_of-self g c =
    let i = c.loop-dropped.self-inside in
    clear_ends i.nodes i.heads i.spare i.places c.l.inside.index c.loop-dropped.key c.get_unchecked-ends.result.now.last c.get_unchecked-ends.result.now.len c.loop-dropped._dropped (omega arith) c.loop-dropped.invariant.sound

pub returns-clause-emptied : goal.returns-clause-emptied
returns-clause-emptied g c =
    let i = c.loop-dropped.self-inside in
    let e = c.get_unchecked-ends.result.now in
    let k = c.loop-dropped._dropped in
    let none : 0 ≡ e.len - k = omega arith in
    let counted = clear_len c.self.inside.nodes c.self.inside.heads c.self.inside.spare c.self.inside.places c.self.invariant.0 c.self.invariant.1 c.l.inside.index e c.get_unchecked-ends.ensures in
    let here : length (list_at c.args.self.now c.l.inside.index) ≡ e.len = rw (← c.self.view_is) counted in
    ap (λ n. listed (values_of i.nodes) (with_value i.heads c.l.inside.index (record { first = c.loop-dropped.key; last = e.last; len = n }))) none
    ∙ c.loop-dropped.invariant.lists
    ∙ ap (insert c.args.self.now.lists c.l.inside.index) (drop_all k (list_at c.args.self.now c.l.inside.index) (omega (arith, here)))
    ∙ ap (λ q. insert c.args.self.now.lists q []) c.l.view_is

pub returns-clause-spare : goal.returns-clause-spare
returns-clause-spare g c =
    let i = c.self.inside in
    let counted = clear_len i.nodes i.heads i.spare i.places c.self.invariant.0 c.self.invariant.1 c.l.inside.index c.get_unchecked-ends.result.now c.get_unchecked-ends.ensures in
    let here : length (list_at c.args.self.now c.args.l) ≡ c.get_unchecked-ends.result.now.len = rw (← c.self.view_is, ← c.l.view_is) counted in
    omega (arith, here, c.loop-dropped.invariant.spare)
