use Rattle.std.proofs.Common.{◌+◌, drop, arith}
use Rattle.std.proofs.lemmas.Option.{slice_get_within}
use Rattle.tb_float.specs.declared.Part.TheVariants as parts
use Rattle.tb_float.proofs.FirstLemmas.{NextFirst}
use Rattle.tb_area.specs.Deferred.{filled}
use Rattle.tb_area.specs.DeferredWalk.{GoesOn}
use Rattle.tb_area.proofs.DeferredWalks.{finds-place, finds-full, area-closed, area-kept, sized-at}
use Rattle.tb_area.proofs.FirstWalks.{behind-start, first-at, behind-next, behind-last, way-first}
use Rattle.tb_area.proofs.deferred.first_moved.Goals.{After-first-item}
use Rattle.tb_area.proofs.deferred.first_moved.Goals as goal

pub loop-first-init : goal.loop-first-init
loop-first-init c = record {
  behind = behind-start c.args.firsts.now c.args.pool.now.lists.deferred c.args.kept.now.count c.requires.firsts c.requires.start;
  way = λ end h. h;
}

-- it is the next float of the list that is the first of its class
next_is : (c : After-first-item) → NextFirst c.args.pool.now.lists.deferred c.loop-first.kept.count c.first-item.result (drop (c.loop-first.first-index + 1) c.args.firsts.now)
next_is c = first-at c.args.firsts.now c.loop-first.first-index _ _ _ c.loop-first-test.true c.first-item.is c.loop-first.invariant.behind

-- those before it stay
way_is : (c : After-first-item) → GoesOn parts.Deferred (filled c.args.p.now c.args.s.now) c.args.pool.now.lists c.args.kept.now (record c.loop-first.kept { count = c.first-item.result.place })
way_is c end h =
    let p = c.args.p.now in
    let s = c.args.s.now in
    let l = c.args.pool.now.lists in
    way-first parts.Deferred (filled p s) c.loop-first.kept l _ _ (area-closed p s l) (next_is c) end (c.loop-first.invariant.way end h)

pub place_behind-requires-clause-extent : goal.place_behind-requires-clause-extent
place_behind-requires-clause-extent c =
    let next = next_is (goal.at.place_behind-requires-clause-extent c).After-first-item in
    sized-at c.args.pool.now.lists.deferred _ _ c.len-all.ensures.sized next.there

pub keep-requires : goal.keep-requires
keep-requires c =
    let x = c.first-item.result in
    let next = next_is (goal.at.keep-requires c).After-first-item in
    omega (arith, slice_get_within c.args.pool.now.lists.deferred x.place x.float next.there, c.len-all.ensures.value, c.len-all.ensures.small)

pub returns-in_default : goal.returns-in_default
returns-in_default c =
    let w = (goal.at.returns-in_default c).After-first-item in
    finds-place _ _ _ _ _ _ _ _ (way_is w) (next_is w).there c.in_default.not-Deferred c.place_behind.ensures

pub loop-first-preserved : goal.loop-first-preserved
loop-first-preserved c =
    let w = (goal.at.loop-first-preserved c).After-first-item in
    let next = next_is w in
    record {
      behind = behind-next c.args.firsts.now c.loop-first.first-index _ _ _ _ c.keep.ensures.count next;
      way = λ end h. area-kept c.args.p.now c.args.s.now _ c.keep.new.self _ c.first-item.result.float c.keep.ensures.count next.there c.keep.ensures.classes c.keep.ensures.left c.in-Deferred.ensures end (way_is w end h);
    }

pub returns : goal.returns
returns c =
    let l = c.args.pool.now.lists in
    let w = c.loop-first.kept in
    finds-full _ _ _ _ _ w _ (area-closed c.args.p.now c.args.s.now l) c.len-all.ensures.value c.loop-first.invariant.way (λ end way. behind-last c.args.firsts.now c.loop-first.first-index l.deferred w.count c.loop-first-test.false c.loop-first.invariant.behind)
