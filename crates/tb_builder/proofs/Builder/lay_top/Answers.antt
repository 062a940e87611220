use Rattle.std.proofs.Common.{refl, sym, subst, drop, map, None}
use Rattle.tb_pool.specs.Lists.{Lists, list_at}
use Rattle.tb_node.specs.declared.Node.{Node}
use Rattle.tb_node.specs.PlainNodes.{plain_of}
use Rattle.tb_node.specs.NodeSums.{added_node}
use Rattle.tb_node.specs.SmallAmounts.{IsSmall, IsSmallShape}
use Rattle.tb_break.specs.SplitPlace.{penalty_by}
use Rattle.tb_builder.specs.Contents.{contents_of}
use Rattle.tb_builder.specs.Courses.{kept_frozen, nodes_glue_first}
use Rattle.tb_builder.specs.PageTurns.{with_top, places_on}
use Rattle.tb_builder.proofs.Turns.FillLemmas.{Went}
use Rattle.tb_builder.proofs.Turns.StepLemmas.{step_sums, penalty_first, plain_first, passed_step}
use Rattle.tb_builder.proofs.Turns.TopLemmas.{top_list, top_went}
use Rattle.tb_builder.proofs.Builder.lay_top.Goals.{Start, After-push_back}
use Rattle.tb_builder.proofs.Builder.lay_top.Goals as goal

-- the lists with the glue before what waits
abbrev top : (c : Start) → Lists Node
top c = with_top c.args.store.now c.args.self.now.waiting c.args.glue

-- ---- the place is not legal

pub put_glue-requires-clause-node : goal.put_glue-requires-clause-node
put_glue-requires-clause-node c = subst IsSmallShape c.glue_in.ensures c.requires.waits.fits.small

pub put_glue-requires-clause-fits : goal.put_glue-requires-clause-fits
put_glue-requires-clause-fits c =
    let b = c.args.self.now in
    let t = top (goal.at.put_glue-requires-clause-fits c).Start in
    let w = c.requires.waits in
    subst (λ x. IsSmall (added_node b.course.scan.max_depth b.course.scan.sums x)) c.glue_in.ensures
    (step_sums (kept_frozen (contents_of b t)) b.course (contents_of b t).page _ (list_at t) c.args.glue w.underway.course w.fits)

-- the glue went on the page
went : (c : After-push_back) → Went c.args.self.now (record c.args.self.now { course = c.put_glue.new.self }) (top (goal.at.After-push_back c).Start) c.push_back.new.self c.args.glue
went c = top_went c.args.self.now (record c.args.self.now { course = c.put_glue.new.self }) c.args.store.now c.push_back.new.self c.args.glue refl refl refl c.requires.own c.requires.waits.own c.push_back.ensures.pushed

pub returns-clause-moves : goal.returns-clause-moves
returns-clause-moves c = (went (goal.at.returns-clause-moves c).After-push_back).moves

pub returns-clause-behind : goal.returns-clause-behind
returns-clause-behind c = λ n ns go e. (went (goal.at.returns-clause-behind c).After-push_back).behind n ns e

pub returns-clause-step : goal.returns-clause-step
returns-clause-step c =
    let i = goal.at.returns-clause-step c in
    let b = c.args.self.now in
    let s = c.args.store.now in
    let g = c.args.glue in
    let t = top i.Start in
    let before = contents_of b t in
    let held = list_at t in
    let z = kept_frozen before in
    let w = c.requires.waits in
    let first = top_list s b.waiting g in
    let follows = nodes_glue_first (drop 1 (list_at t b.waiting)) in
    passed_step z b.course c.put_glue.new.self before _ held g (map (plain_of held) (list_at s b.waiting)) w.underway w.fits (plain_first held _ (list_at s b.waiting) g first)
    (penalty_first held b.course.lasting follows None (list_at t b.waiting) (list_at s b.waiting) g first w.fits.no_act refl (sym (λ j. penalty_by (c.if-self.false j) follows (c.glue_in.ensures j)))) (went i.After-push_back).shifted
    (c.put_glue.ensures g z before.page (places_on z before) held c.glue_in.ensures w.underway.course w.fits.no_act w.fits.no_insertion)
