use Rattle.std.proofs.Common.{◌≡◌, sym, subst, ap, ◌∙◌, length, arith}
use Rattle.std.proofs.lemmas.List.{length-map}
use Rattle.tb_pool.specs.Lists.{list_at}
use Rattle.tb_node.specs.PlainNodes.{plain_of}
use Rattle.tb_builder.specs.Ownership.{ids_of}
use Rattle.tb_builder.specs.PageWalks.{moved, LeadsOn}
use Rattle.tb_builder.proofs.Events.WalkLemmas.{leads_here, moved_few, moved_front}
use Rattle.tb_builder.proofs.Events.StillLemmas.{still_few, lasting, still_went}
use Rattle.tb_builder.proofs.Builder.pass_still.Goals.{After-move_front}
use Rattle.tb_builder.proofs.Builder.pass_still.Goals as goal

pub returns-then-passed-eq0-clause-leads : goal.returns-then-passed-eq0-clause-leads
returns-then-passed-eq0-clause-leads c = λ ask fits. leads_here ask c.args.self.now c.args.store.now c.requires.sound fits

pub move_front-requires : goal.move_front-requires
move_front-requires c =
    let o = c.requires.sound.own in
    record {
      to_live = o.live.0;
      from_live = o.live.1.0;
      between_live = o.live.1.1.1.0;
      to_apart = o.differ.0.0;
      between_apart = λ e. o.differ.0.1.1.0 (sym e);
      between_from = λ e. o.differ.1.0.1.0 (sym e);
      between_empty = o.between;
      within = omega (arith, c.still_count-passed.ensures, still_few (list_at c.args.store.now c.args.self.now.waiting));
    }

-- the nodes went to the page
went : (c : After-move_front) → c.move_front.new.store ≡ moved (ids_of c.args.self.now) c.args.store.now c.still_count-passed.result
went c = moved_front (ids_of c.args.self.now) c.args.store.now c.requires.sound.own c.still_count-passed.result c.move_front.new.store c.move_front.ensures.moved c.move_front.ensures.spare

pub returns-clause-leads : goal.returns-clause-leads
returns-clause-leads c = λ ask fits.
    let b = c.args.self.now in
    let s = c.args.store.now in
    subst (LeadsOn b s ask (lasting b)) (sym (went (goal.at.returns-clause-leads c).After-move_front))
    (still_went b s ask c.requires.sound fits c.still_count-passed.result c.requires.on c.if-passed-eq0.false (omega (arith, c.still_count-passed.ensures)))

pub returns-clause-few : goal.returns-clause-few
returns-clause-few c =
    let b = c.args.self.now in
    let s = c.args.store.now in
    let y = c.move_front.new.store in
    let now = length-map (list_at y b.waiting) (plain_of (list_at y)) ∙ ap (λ t. length (list_at t b.waiting)) (went (goal.at.returns-clause-few c).After-move_front) in
    let before = length-map (list_at s b.waiting) (plain_of (list_at s)) in
    let few = moved_few (ids_of b) s c.requires.sound.own c.still_count-passed.result in
    omega (arith, now, before, few)
