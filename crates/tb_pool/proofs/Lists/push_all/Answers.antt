use Rattle.std.proofs.Common.{◌∙◌, refl}
use Rattle.tb_pool.specs.Lists.{list_at}
use Rattle.tb_pool.proofs.RefillLemmas.{pushing_begins, pushing_live, pushing_room, pushing_goes_on, pushing_ends, pushing_spare}
use Rattle.tb_pool.proofs.Lists.push_all.Goals as goal

pub loop-value-init : goal.loop-value-init
loop-value-init g c =
    let items = c.into_iter-value-iterator.ensures.into_iter_gives ∙ c.iter-value-items.ensures in
    record {
      can_next = tt;
      is_finite = tt;
      pushing = rw items (pushing_begins c.args.self.now c.args.self.now c.args.l (list_at c.args.other.now c.args.l) c.requires.live refl);
    }

pub push_back-requires-clause-live : goal.push_back-requires-clause-live
push_back-requires-clause-live g c = pushing_live c.args.self.now c.loop-value.self c.args.l (list_at c.args.other.now c.args.l) c.loop-value.value-iterator c.loop-value.invariant.pushing

pub push_back-requires-clause-room : goal.push_back-requires-clause-room
push_back-requires-clause-room g c =
    let so_far = rw c.in-Some.ensures.steps at c.loop-value.invariant.pushing in
    pushing_room c.args.self.now c.loop-value.self c.args.l (list_at c.args.other.now c.args.l) c.in-Some.value.now c.next.new.self so_far c.requires.room

pub loop-value-preserved : goal.loop-value-preserved
loop-value-preserved g c =
    let so_far = rw c.in-Some.ensures.steps at c.loop-value.invariant.pushing in
    record {
      can_next = tt;
      is_finite = tt;
      pushing = pushing_goes_on c.args.self.now c.loop-value.self c.args.l (list_at c.args.other.now c.args.l) c.push_back.new.self c.in-Some.value.now c.in_ok-clone.field-0 c.next.new.self so_far
          (c.requires.equal c.in-Some.value.now c.in_ok-clone.field-0 c.in_ok-clone.ensures.cases) c.push_back.ensures.pushed c.push_back.ensures.spare;
    }

pub returns-clause-pushed : goal.returns-clause-pushed
returns-clause-pushed g c =
    let all = rw c.in-None.ensures.steps.0 at c.loop-value.invariant.pushing in
    pushing_ends c.args.self.now c.loop-value.self c.args.l (list_at c.args.other.now c.args.l) all

pub returns-clause-spare : goal.returns-clause-spare
returns-clause-spare g c =
    let all = rw c.in-None.ensures.steps.0 at c.loop-value.invariant.pushing in
    pushing_spare c.args.self.now c.loop-value.self c.args.l (list_at c.args.other.now c.args.l) all
