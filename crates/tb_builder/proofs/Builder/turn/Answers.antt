use Rattle.std.proofs.Common.{◌≡◌, refl, sym, subst, ◌∙◌, ap, Bool, true, false, List, ◌∷◌, Some, IsSome, is_some}
use Rattle.std.specs.Prelude.{slice_get}
use Rattle.std.specs.Option.{option_copied}
use Rattle.tb_pool.specs.Lists.{Lists, list_at}
use Rattle.tb_node.specs.declared.Node.{Node}
use Rattle.tb_node.specs.Roles.{act_of_kind, insertion_of_kind}
use Rattle.tb_builder.specs.declared.Ask.{Ask}
use Rattle.tb_builder.specs.declared.Turn.{Turn}
use Rattle.tb_builder.specs.declared.Builder.{Builder}
use Rattle.tb_builder.specs.Contents.{contents_of}
use Rattle.tb_builder.specs.Courses.{kept_frozen}
use Rattle.tb_builder.specs.PageTurns.{StepFits, StartsPage, TurnIs, TurnTo, event_of, turn_by}
use Rattle.tb_builder.proofs.Turns.FillLemmas.{first_is, same_first}
use Rattle.tb_builder.proofs.Events.FilledLemmas.{empty_turned, none_first, open_underway, open_fits, open_turn}
use Rattle.tb_builder.specs.Ownership.{ids_of}
use Rattle.tb_builder.proofs.Turns.MoveLemmas.{written_drop}
use Rattle.tb_builder.proofs.Turns.FreezeLemmas.{no_inner}
use Rattle.tb_builder.proofs.Turns.MeetLemmas.{passed_gone}
use Rattle.tb_builder.proofs.Builder.turn.Goals.{In-Some}
use Rattle.tb_builder.proofs.Builder.turn.Goals as goal

-- the first waiting node, and what is behind it
rest : (c : In-Some) → (ns : List Node) × (list_at c.args.store.now c.args.self.now.waiting ≡ c.in-Some.n.now ∷ ns)
rest c = first_is (list_at c.args.store.now c.args.self.now.waiting) c.in-Some.n.now (sym c.in-Some.ensures)

-- the turn of a node that is no event of its own
turn_to : {b d : Builder} {s y : Lists Node} {ask : Ask} (tried : Bool) (r : Turn) → r ≡ turn_by tried → TurnIs b s ask (event_of tried d.tried) d y → TurnTo r b s ask d y
turn_to {b} {d} {s} {y} {ask} tried r by turn = subst (λ x. TurnTo x b s ask d y) (sym by) (by_tried tried turn)
  where
    by_tried : (t : Bool) → TurnIs b s ask (event_of t d.tried) d y → TurnTo (turn_by t) b s ask d y
    by_tried true h = h
    by_tried false h = h

-- what is known of the first waiting node is known of every node that is the first
of_first : (c : In-Some) (P : Node → Type 0) → P c.in-Some.n.now → (m : Node) → slice_get (list_at c.args.store.now c.args.self.now.waiting) 0 ≡ Some m → P m
of_first c P p m e = subst P (same_first _ c.in-Some.n.now m (sym c.in-Some.ensures) e) p

pub returns-in_default : goal.returns-in_default
returns-in_default c = empty_turned c.args.self.now c.args.store.now c.args.ask.now c.requires.sound c.requires.on (none_first (list_at c.args.store.now c.args.self.now.waiting) (sym c.first_in.ensures ∙ ap option_copied c.in_default.is))

pub returns-in-Act : goal.returns-in-Act
returns-in-Act c = record {
  builder = refl;
  store = refl;
  some = ap is_some (sym c.in-Some.ensures);
  act = of_first (goal.at.returns-in-Act c).In-Some (λ m. IsSome (act_of_kind m.kind)) (ap is_some (sym c.in-Act.ensures.act));
}

pub meet-requires-clause-insertion : goal.meet-requires-clause-insertion
meet-requires-clause-insertion c = of_first (goal.at.meet-requires-clause-insertion c).In-Some (λ m. IsSome (insertion_of_kind m.kind)) (ap is_some (sym c.in-Insertion.ensures.insertion))

pub begin-requires-clause-starts : goal.begin-requires-clause-starts
begin-requires-clause-starts c = of_first (goal.at.begin-requires-clause-starts c).In-Some StartsPage (record {
  no_act = sym c.in-Matter.ensures.act;
  no_insertion = sym c.in-Matter.ensures.insertion;
  stays = c.vanishes.ensures.stays c.if-vanishes.false (c.goes_on.ensures.closed c.if-goes_on.false (sym c.in-Matter.ensures.act) (sym c.in-Matter.ensures.insertion));
})

pub returns-in-Matter : goal.returns-in-Matter
returns-in-Matter c = turn_to c.begin.result c.turn_by-in-Matter.result c.turn_by-in-Matter.ensures c.begin.ensures

pub returns-then-vanishes : goal.returns-then-vanishes
returns-then-vanishes c =
    let b = c.args.self.now in
    let s = c.args.store.now in
    let n = c.in-Some.n.now in
    let away = c.if-vanishes.true in
    let f = rest (goal.at.returns-then-vanishes c).In-Some in
    passed_gone b b s c.drop_first.new.store c.args.ask.now n f.0 c.requires.sound refl f.1 refl refl c.requires.on refl refl (c.vanishes.ensures.closed away)
    (written_drop (ids_of b) s c.drop_first.new.store n f.0 c.requires.sound.own f.1 (no_inner n.kind (c.vanishes.ensures.no_insertion away)) (c.drop_first.ensures.rest n f.0 f.1)) c.drop_first.ensures.spare
    (c.vanishes.ensures.gone away)

pub step-requires-clause-underway : goal.step-requires-clause-underway
step-requires-clause-underway c =
    let f = rest (goal.at.step-requires-clause-underway c).In-Some in
    open_underway c.args.self.now c.args.store.now c.args.ask.now c.in-Some.n.now f.0 c.requires.sound c.requires.on (c.goes_on.ensures.opened c.if-goes_on.true) c.requires.fits f.1

pub step-requires-clause-fits : goal.step-requires-clause-fits
step-requires-clause-fits c = λ m e.
    let b = c.args.self.now in
    let s = c.args.store.now in
    let n = c.in-Some.n.now in
    let go = c.if-goes_on.true in
    let f = rest (goal.at.step-requires-clause-fits c).In-Some in
    subst (StepFits (kept_frozen (contents_of b s)) (contents_of b s).page (list_at s)) (same_first (list_at s b.waiting) n m (sym c.in-Some.ensures) e)
    (open_fits b s c.args.ask.now n f.0 c.requires.sound c.requires.on (c.goes_on.ensures.opened go) c.requires.fits f.1 (c.goes_on.ensures.no_act go) (c.goes_on.ensures.no_insertion go))

pub returns-then-goes_on : goal.returns-then-goes_on
returns-then-goes_on c =
    let n = c.in-Some.n.now in
    let go = c.if-goes_on.true in
    let f = rest (goal.at.returns-then-goes_on c).In-Some in
    turn_to c.step.result c.turn_by.result c.turn_by.ensures (
    open_turn c.args.self.now c.args.store.now c.args.ask.now n f.0 c.requires.sound c.requires.on (c.goes_on.ensures.opened go) c.requires.fits f.1 c.step.new.self c.step.new.store (event_of c.step.result c.step.new.self.tried)
    c.step.ensures.moves c.step.ensures.step c.step.ensures.opened c.step.ensures.frozen c.step.ensures.boxed (c.step.ensures.behind n) (c.goes_on.ensures.no_act go)
    )
