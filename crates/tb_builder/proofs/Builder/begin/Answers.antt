use Rattle.std.proofs.Common.{◌≡◌, refl, subst, ◌∙◌, ap, List, ◌∷◌, true, FitsSigned, w64, rules}
use Rattle.std.proofs.lemmas.Int.{to_z-of_z}
use Rattle.std.specs.Prelude.{slice_get}
use Rattle.tb_pool.specs.Lists.{list_at}
use Rattle.tb_node.specs.declared.Node.{Node}
use Rattle.tb_builder.specs.declared.Builder.{Builder}
use Rattle.tb_builder.specs.declared.Try.{Try}
use Rattle.tb_builder.specs.Contents.{contents_of}
use Rattle.tb_builder.specs.Courses.{IsPageSoFar}
use Rattle.tb_builder.proofs.Turns.FillLemmas.{first_is, same_first}
use Rattle.tb_builder.proofs.Turns.FreezeLemmas.{frozen_course}
use Rattle.tb_builder.proofs.Turns.FirstBoxLemmas.{box_small, Topped, topped}
use Rattle.tb_builder.proofs.Turns.BehindLemmas.{boxed_act, boxed_insertion, opening_stops, opening_sums, opening_goes}
use Rattle.tb_builder.proofs.Builder.begin.Goals.{After-freeze, After-lay_top-tried}
use Rattle.std.proofs.Common.{is_some, sym, Some, false}
use Rattle.tb_builder.specs.PageTurns.{with_top, PutFits, event_of, TurnIs}
use Rattle.tb_builder.specs.Ownership.{ids_of, IsOwned}
use Rattle.tb_builder.specs.PageWalks.{seen_of}
use Rattle.tb_builder.proofs.Turns.MoveLemmas.{written_shift}
use Rattle.tb_builder.proofs.Turns.FreezeLemmas.{loose_node, loose_kind_shape}
use Rattle.tb_builder.proofs.Turns.MeetLemmas.{passed_loose}
use Rattle.std.proofs.Common.{arith}
use Rattle.tb_builder.proofs.Builder.begin.Goals as goal

-- a node that is no box goes on the page
pub returns-then-not-is_box : goal.returns-then-not-is_box
returns-then-not-is_box c =
    let f = first_is (list_at c.args.store.now c.args.self.now.waiting) c.in-Some.n.now (sym c.in-Some.ensures) in
    let b = c.args.self.now in
    let s = c.args.store.now in
    let d : Builder = record b { course = record b.course { lasting = true } } in
    let x = c.requires.starts c.in-Some.n.now (sym c.in-Some.ensures) in
    let no_box = sym c.is_box.ensures ∙ c.if-not-is_box.true in
    passed_loose b d s c.move_first.new.self c.args.ask.now c.in-Some.n.now f.0 c.requires.sound c.requires.on refl f.1
    (written_shift (ids_of b) s c.move_first.new.self c.in-Some.n.now f.0 c.requires.sound.own f.1 (c.move_first.ensures.moved c.in-Some.n.now f.0 f.1)) (omega (arith, c.move_first.ensures.spare)) refl
    (loose_kind_shape c.in-Some.n.now.kind no_box x.stays) x.no_act refl c.requires.on (loose_node (list_at s) c.in-Some.n.now.kind x.no_act x.no_insertion no_box x.stays) refl refl refl refl

-- ---- a box

-- the nodes that wait after the box
abbrev waits : (c : After-freeze) → (ns : List Node) × (list_at c.args.store.now c.args.self.now.waiting ≡ c.in-Some.n.now ∷ ns)
waits c = first_is (list_at c.args.store.now c.args.self.now.waiting) c.in-Some.n.now (sym c.in-Some.ensures)

-- the goal is frozen, and the top glue waits before the box
glue_waits : (c : After-freeze) → Topped c.args.self.now c.freeze.new.self c.args.store.now (with_top c.args.store.now c.freeze.new.self.waiting c.top_node-glue.result) c.args.ask.now c.in-Some.n.now c.top_node-glue.result (waits c).0
glue_waits c =
    let b = c.args.self.now in
    let s = c.args.store.now in
    let ask = c.args.ask.now in
    let u = frozen_course (contents_of b s) b.course c.freeze.new.self.course ask b.frozen refl (subst (λ x. IsPageSoFar b.frozen x b.course (contents_of b s)) c.requires.on c.requires.sound.page) c.requires.sound.own.classes c.freeze.ensures.first (λ some. ap (λ (x : Builder). x.course) (c.freeze.ensures.again some)) in
    let k : FitsSigned w64 c.args.ask.now.top_skip = search rules in
    let glue = simp to_z-of_z at c.top_node-glue.ensures in
    topped b c.freeze.new.self s (with_top c.args.store.now c.freeze.new.self.waiting c.top_node-glue.result) ask c.in-Some.n.now c.top_node-glue.result (waits c).0 c.requires.sound c.requires.on c.requires.closed c.requires.fits (sym c.is_box.ensures ∙ c.if-not-is_box.false) (waits c).1 c.freeze.ensures.ids c.freeze.ensures.frozen glue refl u

pub top_node-glue-requires-clause-node : goal.top_node-glue-requires-clause-node
top_node-glue-requires-clause-node c =
    let f = first_is (list_at c.args.store.now c.args.self.now.waiting) c.in-Some.n.now (sym c.in-Some.ensures) in
    box_small c.args.self.now c.args.store.now c.args.ask.now c.in-Some.n.now f.0 c.requires.sound c.requires.closed c.requires.fits (sym c.is_box.ensures ∙ c.if-not-is_box.false) f.1

pub lay_top-tried-requires-clause-own : goal.lay_top-tried-requires-clause-own
lay_top-tried-requires-clause-own c = subst (λ i. IsOwned i c.args.store.now) (sym c.freeze.ensures.ids) c.requires.sound.own

pub lay_top-tried-requires-clause-on : goal.lay_top-tried-requires-clause-on
lay_top-tried-requires-clause-on c = c.freeze.ensures.stopped ∙ c.requires.on

pub lay_top-tried-requires-clause-space : goal.lay_top-tried-requires-clause-space
lay_top-tried-requires-clause-space c = ap (λ (x : Node). seen_of x.kind) c.top_node-glue.ensures

pub lay_top-tried-requires-clause-waits : goal.lay_top-tried-requires-clause-waits
lay_top-tried-requires-clause-waits c =
    let h = glue_waits (goal.at.lay_top-tried-requires-clause-waits c).After-freeze in
    record { own = h.moves.own; first = ap (λ xs. slice_get xs 0) h.list_is; underway = h.underway; fits = h.step }

pub returns-then-self : goal.returns-then-self
returns-then-self c =
    let w = (goal.at.returns-then-self c).After-freeze in
    opening_stops c.args.self.now c.freeze.new.self c.lay_top-tried.new.self c.args.store.now (with_top c.args.store.now c.freeze.new.self.waiting c.top_node-glue.result) c.lay_top-tried.new.store c.args.ask.now c.in-Some.n.now c.top_node-glue.result (waits w).0 (event_of c.lay_top-tried.result c.lay_top-tried.new.self.tried) (glue_waits w) (c.freeze.ensures.stopped ∙ c.requires.on) (c.freeze.ensures.opened ∙ c.requires.closed)
    c.lay_top-tried.ensures.moves c.lay_top-tried.ensures.step c.lay_top-tried.ensures.opened c.lay_top-tried.ensures.frozen c.if-self.true

-- the box is the first waiting node again
box_first : (c : After-lay_top-tried) → c.lay_top-tried.new.self.stopped ≡ false → slice_get (list_at c.lay_top-tried.new.store c.lay_top-tried.new.self.waiting) 0 ≡ Some c.in-Some.n.now
box_first c on =
    let w = (goal.at.After-lay_top-tried c).After-freeze in
    ap (λ xs. slice_get xs 0) (c.lay_top-tried.ensures.behind c.top_node-glue.result (c.in-Some.n.now ∷ (waits w).0) on (glue_waits w).list_is)

pub put-requires-clause-some : goal.put-requires-clause-some
put-requires-clause-some c = ap is_some (box_first (goal.at.put-requires-clause-some c).After-lay_top-tried c.if-self.false)

pub put-requires-clause-node : goal.put-requires-clause-node
put-requires-clause-node c = λ m e.
    let n = c.in-Some.n.now in
    let w = (goal.at.put-requires-clause-node c).After-freeze in
    let boxed = sym c.is_box.ensures ∙ c.if-not-is_box.false in
    subst (PutFits c.lay_top-tried.new.self.course) (same_first _ n m (box_first (goal.at.put-requires-clause-node c).After-lay_top-tried c.if-self.false) e) (record {
      small = box_small c.args.self.now c.args.store.now c.args.ask.now n (waits w).0 c.requires.sound c.requires.closed c.requires.fits boxed (waits w).1;
      sums = opening_sums c.args.self.now c.freeze.new.self c.lay_top-tried.new.self c.args.store.now (with_top c.args.store.now c.freeze.new.self.waiting c.top_node-glue.result) c.lay_top-tried.new.store c.args.ask.now n c.top_node-glue.result (waits w).0 (event_of c.lay_top-tried.result c.lay_top-tried.new.self.tried) (glue_waits w) (c.freeze.ensures.stopped ∙ c.requires.on) (c.freeze.ensures.opened ∙ c.requires.closed)
          c.lay_top-tried.ensures.moves c.lay_top-tried.ensures.step c.lay_top-tried.ensures.opened c.lay_top-tried.ensures.frozen
          c.requires.fits boxed c.if-self.false (c.lay_top-tried.ensures.behind c.top_node-glue.result (n ∷ (waits w).0) c.if-self.false (glue_waits w).list_is);
      no_act = boxed_act n.kind boxed;
      no_insertion = boxed_insertion n.kind boxed;
    })

pub returns : goal.returns
returns c =
    let w = (goal.at.returns c).After-freeze in
    let d : Builder = record c.put.new.self { opened = true } in
    let behind = c.lay_top-tried.ensures.behind c.top_node-glue.result (c.in-Some.n.now ∷ (waits w).0) c.if-self.false (glue_waits w).list_is in
    let first = box_first (goal.at.returns c).After-lay_top-tried c.if-self.false in
    let shifted = c.put.ensures.shifted c.in-Some.n.now first in
    subst (λ (x : Try). TurnIs c.args.self.now c.args.store.now c.args.ask.now (event_of c.lay_top-tried.result x) d c.put.new.store) (sym c.put.ensures.tried) (opening_goes c.args.self.now c.freeze.new.self c.lay_top-tried.new.self c.args.store.now (with_top c.args.store.now c.freeze.new.self.waiting c.top_node-glue.result) c.lay_top-tried.new.store c.args.ask.now c.in-Some.n.now c.top_node-glue.result (waits w).0 (event_of c.lay_top-tried.result c.lay_top-tried.new.self.tried) (glue_waits w) (c.freeze.ensures.stopped ∙ c.requires.on) (c.freeze.ensures.opened ∙ c.requires.closed)
    c.lay_top-tried.ensures.moves c.lay_top-tried.ensures.step c.lay_top-tried.ensures.opened c.lay_top-tried.ensures.frozen
    c.requires.fits (sym c.is_box.ensures ∙ c.if-not-is_box.false) c.if-self.false behind
    d c.put.new.store (record { own = c.put.ensures.moves.own; frame = c.put.ensures.moves.frame; classes = c.put.ensures.moves.classes; boxes = c.put.ensures.moves.boxes; held = c.put.ensures.moves.held })
    (record { waiting = shifted.waiting; page = shifted.page; frozen = shifted.frozen; stopped = shifted.stopped }) refl
    (c.put.ensures.course c.in-Some.n.now first) (waits w).1 (c.put.ensures.behind c.in-Some.n.now (waits w).0 behind))
