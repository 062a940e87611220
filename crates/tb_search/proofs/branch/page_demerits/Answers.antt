use Rattle.std.proofs.Common.{◌≡◌, sym, ◌∙◌, ap, subst, ◌++◌, ◌≤◌, FitsSigned, rules, arith}
use Rattle.std.specs.Prelude.{IfSome}
use Rattle.std.specs.Int.{w128}
use Rattle.std.proofs.lemmas.Int.{to_z-of_z}
use Rattle.tb_node.specs.PlainNodes.{plain_list}
use Rattle.tb_items.specs.ItemsLeft.{nodes_left}
use Rattle.tb_rate.specs.Rating.{rating, IsTried}
use Rattle.tb_rate.specs.RatedRun.{demerits_if, insertions_first}
use Rattle.tb_rate.specs.Places.{own_penalty}
use Rattle.tb_search.proofs.RatingLemmas.{few-first, rating-there}
use Rattle.tb_search.proofs.branch.page_demerits.Goals as goal

pub insertions_first-held-requires-clause-few : goal.insertions_first-held-requires-clause-few
insertions_first-held-requires-clause-few c =
    subst (λ l. insertions_first (plain_list c.args.routine.now.store l ++ nodes_left c.args.routine.now.left) ≤ 4194304) (sym c.waiting.ensures) (few-first c.args.routine.now c.requires.ready)

pub rate-requires-clause-tried : goal.rate-requires-clause-tried
rate-requires-clause-tried c = subst (λ o. IfSome o IsTried) (sym (c.last_champion-champion.ensures c.args.routine.now.store)) c.requires.tried

pub rate-requires-clause-few : goal.rate-requires-clause-few
rate-requires-clause-few c =
    let a = c.floats_waiting-waiting.ensures.few in
    let b = c.insertions_first-held.ensures in
    let d = ap (λ l. insertions_first (plain_list c.args.routine.now.store l ++ nodes_left c.args.routine.now.left)) c.waiting.ensures in
    let e = few-first c.args.routine.now c.requires.ready in
    omega (arith, a, b, d, e)

pub returns-in-Some-clause-value : goal.returns-in-Some-clause-value
returns-in-Some-clause-value c =
    let store = c.args.routine.now.store in
    let params = c.params-params.ensures in
    let place = c.last_champion-champion.ensures store in
    let waiting = c.floats_waiting-waiting.ensures.value in
    let all = c.args.places.now.places.items in
    let some = c.from_line-there.result.now in
    let there = rating-there c.params-params.result.now some all 0 c.floats_waiting-waiting.result c.insertions_first-held.result c.last_champion-champion.result (subst (λ l. own_penalty some l ≡ own_penalty all l) c.line_of.ensures c.from_line-there.ensures.same) in
    let held = c.insertions_first-held.ensures ∙ ap (λ l. insertions_first (plain_list store l ++ nodes_left c.args.routine.now.left)) c.waiting.ensures in
    let fits : FitsSigned w128 c.in-Some.rating.demerits = search rules in
    simp to_z-of_z (ap demerits_if (sym c.in-Some.is ∙ c.rate.ensures.value ∙ there ∙ (λ i. rating (params i) c.args.places.now.places.items 0 (place i) (waiting i) (held i))))

pub returns-in-None-clause-value : goal.returns-in-None-clause-value
returns-in-None-clause-value c =
    let store = c.args.routine.now.store in
    let params = c.params-params.ensures in
    let place = c.last_champion-champion.ensures store in
    let waiting = c.floats_waiting-waiting.ensures.value in
    let all = c.args.places.now.places.items in
    let some = c.from_line-there.result.now in
    let there = rating-there c.params-params.result.now some all 0 c.floats_waiting-waiting.result c.insertions_first-held.result c.last_champion-champion.result (subst (λ l. own_penalty some l ≡ own_penalty all l) c.line_of.ensures c.from_line-there.ensures.same) in
    let held = c.insertions_first-held.ensures ∙ ap (λ l. insertions_first (plain_list store l ++ nodes_left c.args.routine.now.left)) c.waiting.ensures in
    ap demerits_if (sym c.in-None.is ∙ c.rate.ensures.value ∙ there ∙ (λ i. rating (params i) c.args.places.now.places.items 0 (place i) (waiting i) (held i)))
