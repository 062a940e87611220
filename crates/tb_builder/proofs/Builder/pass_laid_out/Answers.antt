use Rattle.std.proofs.Common.{◌≡◌, ◌≤◌, sym, subst, ◌∙◌, ap, length, arith}
use Rattle.std.proofs.lemmas.List.{length-map}
use Rattle.tb_pool.specs.Lists.{list_at}
use Rattle.tb_node.specs.PlainNodes.{plain_of}
use Rattle.tb_builder.specs.Ownership.{Ids, ids_of, IsOwned}
use Rattle.tb_builder.specs.PageWalks.{moved, LeadsOn}
use Rattle.tb_builder.proofs.Events.WalkLemmas.{moved_none, moved_few, moved_front}
use Rattle.tb_builder.proofs.Builder.pass_laid_out.Goals as goal

pub returns-then-passed-eq0-clause-leads : goal.returns-then-passed-eq0-clause-leads
returns-then-passed-eq0-clause-leads c =
    let b = c.args.self.now in
    let s = c.args.store.now in
    let none = ap (moved (ids_of b) s) c.if-passed-eq0.true ∙ sym (moved_none (ids_of b) s c.requires.sound.own) in
    subst (LeadsOn b s c.args.ask.now c.walk-passed.new.self) none c.walk-passed.ensures.leads

pub move_front-requires : goal.move_front-requires
move_front-requires c =
    let d = c.walk-passed.new.self in
    let s = c.args.store.now in
    let o : IsOwned (ids_of d) s = subst (λ i. IsOwned i s) (sym c.walk-passed.ensures.ids) c.requires.sound.own in
    record {
      to_live = o.live.0;
      from_live = o.live.1.0;
      between_live = o.live.1.1.1.0;
      to_apart = o.differ.0.0;
      between_apart = λ e. o.differ.0.1.1.0 (sym e);
      between_from = λ e. o.differ.1.0.1.0 (sym e);
      between_empty = o.between;
      within = subst (λ (i : Ids). c.walk-passed.result ≤ length (list_at s i.waiting)) (sym c.walk-passed.ensures.ids) c.walk-passed.ensures.within;
    }

-- the nodes that the walk passed went to the page
went : (c : goal.After-move_front) → c.move_front.new.store ≡ moved (ids_of c.args.self.now) c.args.store.now c.walk-passed.result
went c =
    let d = c.walk-passed.new.self in
    let s = c.args.store.now in
    let o : IsOwned (ids_of d) s = subst (λ i. IsOwned i s) (sym c.walk-passed.ensures.ids) c.requires.sound.own in
    moved_front (ids_of d) s o c.walk-passed.result c.move_front.new.store c.move_front.ensures.moved c.move_front.ensures.spare
    ∙ ap (λ i. moved i s c.walk-passed.result) c.walk-passed.ensures.ids

pub returns-clause-leads : goal.returns-clause-leads
returns-clause-leads c = subst (LeadsOn c.args.self.now c.args.store.now c.args.ask.now c.walk-passed.new.self) (sym (went c)) c.walk-passed.ensures.leads

pub returns-clause-few : goal.returns-clause-few
returns-clause-few c =
    let b = c.args.self.now in
    let s = c.args.store.now in
    let d = c.walk-passed.new.self in
    let y = c.move_front.new.store in
    let now = length-map (list_at y d.waiting) (plain_of (list_at y)) ∙ ap (λ (i : Ids). length (list_at y i.waiting)) c.walk-passed.ensures.ids ∙ ap (λ t. length (list_at t b.waiting)) (went c) in
    let before = length-map (list_at s b.waiting) (plain_of (list_at s)) in
    let few = moved_few (ids_of b) s c.requires.sound.own c.walk-passed.result in
    omega (arith, now, before, few)
