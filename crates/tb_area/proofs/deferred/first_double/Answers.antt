use Rattle.std.proofs.Common.{◌+◌, drop, ◌∙◌, arith}
use Rattle.std.proofs.lemmas.Option.{slice_get_within}
use Rattle.tb_float.specs.declared.Suppress.{Suppress}
use Rattle.tb_float.specs.Lists.{floats_of}
use Rattle.tb_float.proofs.FirstLemmas.{NextFirst}
use Rattle.tb_float.proofs.WaitingLemmas.{waiting-count}
use Rattle.tb_area.specs.Deferred.{doubled}
use Rattle.tb_area.specs.DeferredWalk.{GoesOn}
use Rattle.tb_area.proofs.DeferredWalks.{finds-place, finds-full, double-closes, double-kept}
use Rattle.tb_area.proofs.FirstWalks.{behind-start, first-at, behind-next, behind-last, way-first}
use Rattle.tb_area.proofs.deferred.first_double.Goals.{After-first-item}
use Rattle.tb_area.proofs.deferred.first_double.Goals as goal

pub loop-first-init : goal.loop-first-init
loop-first-init c = record {
  behind = behind-start c.args.firsts.now (floats_of c.args.from c.args.pool.now.lists) c.args.kept.now.count c.requires.firsts c.requires.start;
  way = λ s end h. h;
}

-- it is the next float of the list that is the first of its class
next_is : (c : After-first-item) → NextFirst (floats_of c.args.from c.args.pool.now.lists) c.loop-first.kept.count c.first-item.result (drop (c.loop-first.first-index + 1) c.args.firsts.now)
next_is c = first-at c.args.firsts.now c.loop-first.first-index _ _ _ c.loop-first-test.true c.first-item.is c.loop-first.invariant.behind

-- those before it stay
way_is : (c : After-first-item) (s : Suppress) → GoesOn c.args.from (doubled c.args.from c.args.p.now s) c.args.pool.now.lists c.args.kept.now (record c.loop-first.kept { count = c.first-item.result.place })
way_is c s end h =
    let p = c.args.p.now in
    let from = c.args.from in
    let l = c.args.pool.now.lists in
    way-first from (doubled from p s) c.loop-first.kept l _ _ (double-closes from p s l) (next_is c) end (c.loop-first.invariant.way s end h)

pub keep-requires : goal.keep-requires
keep-requires c =
    let l = c.args.pool.now.lists in
    let x = c.first-item.result in
    let next = next_is (goal.at.keep-requires c).After-first-item in
    omega (arith, slice_get_within (floats_of c.args.from l) x.place x.float next.there, c.len-all.ensures.value, waiting-count c.args.from c.requires.waiting l, c.len-all.ensures.small)

pub returns-in_default : goal.returns-in_default
returns-in_default c =
    let w = (goal.at.returns-in_default c).After-first-item in
    λ s. finds-place _ _ _ _ _ _ _ _ (way_is w s) (next_is w).there c.in_default.not-Deferred (c.double_behind.ensures s)

pub loop-first-preserved : goal.loop-first-preserved
loop-first-preserved c =
    let w = (goal.at.loop-first-preserved c).After-first-item in
    let next = next_is w in
    record {
      behind = behind-next c.args.firsts.now c.loop-first.first-index _ _ _ _ c.keep.ensures.count next;
      way = λ s end h. double-kept c.args.from c.args.p.now s _ c.keep.new.self _ c.first-item.result.float c.keep.ensures.count next.there c.keep.ensures.classes c.keep.ensures.left (c.in-Deferred.ensures s) end (way_is w s end h);
    }

pub returns : goal.returns
returns c = λ s.
    let from = c.args.from in
    let l = c.args.pool.now.lists in
    let w = c.loop-first.kept in
    finds-full _ _ _ _ _ w _ (double-closes from c.args.p.now s l) (c.len-all.ensures.value ∙ waiting-count from c.requires.waiting l) (c.loop-first.invariant.way s) (λ end way. behind-last c.args.firsts.now c.loop-first.first-index (floats_of from l) w.count c.loop-first-test.false c.loop-first.invariant.behind)
