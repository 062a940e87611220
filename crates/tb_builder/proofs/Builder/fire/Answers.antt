use Rattle.std.proofs.Common.{◌≡◌, ◌∙◌, None, Some, refl, sym, ap, subst, [], FitsSigned, w64, to_z, of_z, rules, length}
use Rattle.std.proofs.lemmas.Int.{to_z-of_z}
use Rattle.std.specs.FinMap.{get, insert}
use Rattle.tb_pool.specs.Lists.{list_at, with_list}
use Rattle.tb_node.specs.declared.Sums.{Sums}
use Rattle.tb_node.specs.SmallAmounts.{IsAmount}
use Rattle.tb_builder.specs.declared.Builder.{Builder}
use Rattle.tb_builder.proofs.FiredPages.FireLemmas.{opened_own, index_within, cut_live, cut_apart, cut_empty, cut_held, cut_fits, cut_marked, fires_of}
use Rattle.tb_builder.proofs.Builder.fire.Goals.{In_ok-body}
use Rattle.tb_builder.proofs.Builder.fire.Goals as goal

-- the best place that the scan keeps
best_is : (c : In_ok-body) → c.args.self.now.course.scan.best ≡ Some c.in-Some.best
best_is c = sym c.best.ensures.value ∙ c.in-Some.is

-- the list of the body was not there before
body_fresh : (c : In_ok-body) → get c.args.store.now.lists c.in_ok-body.body ≡ None
body_fresh c = ap (λ m. get m c.in_ok-body.body) (sym c.reserve.ensures.lists) ∙ c.in_ok-body.ensures.fresh

-- it is there now, and nothing else changed
body_opened : (c : In_ok-body) → c.add_list.new.self.lists ≡ with_list c.args.store.now c.in_ok-body.body []
body_opened c = c.in_ok-body.ensures.opened ∙ ap (λ m. insert m c.in_ok-body.body []) c.reserve.ensures.lists

pub cut_page-at-requires-clause-own : goal.cut_page-at-requires-clause-own
cut_page-at-requires-clause-own c =
    let w = (goal.at.cut_page-at-requires-clause-own c).In_ok-body in
    opened_own c.args.self.now _ _ _ c.requires.sound.own (body_fresh w) (body_opened w)

pub cut_page-at-requires-clause-within : goal.cut_page-at-requires-clause-within
cut_page-at-requires-clause-within c =
    let w = (goal.at.cut_page-at-requires-clause-within c).In_ok-body in
    index_within _ _ c.add_list.new.self c.args.store.now _ _ c.requires.sound c.requires.stopped (best_is w) (body_fresh w) (body_opened w)

pub sort_page-requires-clause-body_live : goal.sort_page-requires-clause-body_live
sort_page-requires-clause-body_live c =
    let w = (goal.at.sort_page-requires-clause-body_live c).In_ok-body in
    cut_live _ _ _ _ _ _ c.requires.sound c.requires.stopped (best_is w) (body_fresh w) (body_opened w) c.cut_page-at.ensures.cuts

pub sort_page-requires-clause-body_apart : goal.sort_page-requires-clause-body_apart
sort_page-requires-clause-body_apart c =
    let w = (goal.at.sort_page-requires-clause-body_apart c).In_ok-body in
    cut_apart _ _ _ _ _ _ c.requires.sound c.requires.stopped (best_is w) (body_fresh w) (body_opened w) c.cut_page-at.ensures.cuts

pub sort_page-requires-clause-body_empty : goal.sort_page-requires-clause-body_empty
sort_page-requires-clause-body_empty c =
    let w = (goal.at.sort_page-requires-clause-body_empty c).In_ok-body in
    cut_empty _ _ _ _ _ _ c.requires.sound c.requires.stopped (best_is w) (body_fresh w) (body_opened w) c.cut_page-at.ensures.cuts

pub sort_page-requires-clause-none_held : goal.sort_page-requires-clause-none_held
sort_page-requires-clause-none_held c =
    let w = (goal.at.sort_page-requires-clause-none_held c).In_ok-body in
    cut_held _ _ _ _ _ _ c.requires.sound c.requires.stopped (best_is w) (body_fresh w) (body_opened w) c.cut_page-at.ensures.cuts c.requires.none_held

pub sort_page-requires-clause-fits : goal.sort_page-requires-clause-fits
sort_page-requires-clause-fits c =
    let w = (goal.at.sort_page-requires-clause-fits c).In_ok-body in
    cut_fits _ _ _ _ _ _ c.requires.sound c.requires.stopped (best_is w) (body_fresh w) (body_opened w) c.cut_page-at.ensures.cuts c.requires.fits

pub sort_page-requires-clause-marked : goal.sort_page-requires-clause-marked
sort_page-requires-clause-marked c =
    let w = (goal.at.sort_page-requires-clause-marked c).In_ok-body in
    cut_marked _ _ _ _ _ _ c.requires.sound c.requires.stopped (best_is w) (body_fresh w) (body_opened w) c.cut_page-at.ensures.cuts

pub returns : goal.returns
returns c =
    let w = (goal.at.returns c).In_ok-body in
    let penalty_fits : FitsSigned w64 c.cut_page-at.result.penalty = search rules in
    let cost_fits : FitsSigned w64 c.in-Some.best.cost = search rules in
    let size_fits : FitsSigned w64 c.clear.new.self.course.best_goal = search rules in
    let shrink_fits : FitsSigned w64 c.sums-shrink.result.shrink = search rules in
    let shrink_is : to_z w64 (of_z w64 c.sums-shrink.result.shrink) ≡ c.sums-shrink.result.shrink = to_z-of_z w64 c.sums-shrink.result.shrink shrink_fits in
    record {
      fires = fires_of _ _ _ _ _ _ c.requires.sound c.requires.stopped (best_is w) (body_fresh w) (body_opened w) c.cut_page-at.ensures.cuts c.clear.new.self c.sort_page.new.self c.sort_page.new.store
          (record {
            body = c.in_ok-body.body;
            penalty = to_z w64 (of_z w64 c.cut_page-at.result.penalty);
            cost = to_z w64 (of_z w64 c.in-Some.best.cost);
            size = to_z w64 (of_z w64 c.clear.new.self.course.best_goal);
            shrink = to_z w64 (of_z w64 c.sums-shrink.result.shrink);
            line = c.cut_page-at.result.line;
            held = c.len.result;
          })
          c.sort_page.ensures.sorts c.sort_page.ensures.sorted c.sort_page.ensures.empty c.clear.ensures refl
          (to_z-of_z w64 c.in-Some.best.cost cost_fits)
          (to_z-of_z w64 c.clear.new.self.course.best_goal size_fits ∙ ap (λ (x : Builder). x.course.best_goal) c.clear.ensures ∙ ap (λ (x : Builder). x.course.best_goal) c.sort_page.ensures.sorts.builder)
          (shrink_is ∙ ap (λ (s : Sums). s.shrink) c.sums-shrink.ensures.value)
          (subst IsAmount (sym shrink_is) c.sums-shrink.ensures.small.shrink)
          c.cut_page-at.ensures.line
          (to_z-of_z w64 c.cut_page-at.result.penalty penalty_fits ∙ c.cut_page-at.ensures.penalty)
          (c.len.ensures ∙ ap (λ (x : Builder). length (list_at c.sort_page.new.store x.held)) c.clear.ensures);
      builder = tt;
      lists = tt;
    }
