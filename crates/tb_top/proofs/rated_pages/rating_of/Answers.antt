use Rattle.std.proofs.Common.{◌∙◌, ◌++◌, sym, ap, subst, ◌≤◌, arith}
use Rattle.std.specs.Prelude.{IfSome}
use Rattle.std.proofs.lemmas.Option.{MatchOption-at_none}
use Rattle.tb_node.specs.PlainNodes.{plain_list}
use Rattle.tb_items.specs.ItemsLeft.{nodes_left}
use Rattle.tb_rate.specs.Rating.{rating, IsTried}
use Rattle.tb_output.specs.declared.reading.Standing.{Standing}
use Rattle.tb_items.specs.Happenings.{events_of}
use Rattle.tb_rate.specs.Tries.{first_number}
use Rattle.tb_rate.specs.RatedRun.{insertions_first}
use Rattle.tb_top.proofs.Rated.RatedTurns.{few-first}
use Rattle.tb_top.proofs.rated_pages.rating_of.Goals as goal

pub insertions_first-held-requires-clause-few : goal.insertions_first-held-requires-clause-few
insertions_first-held-requires-clause-few c =
    subst (λ l. insertions_first (plain_list c.args.routine.now.store l ++ nodes_left c.args.routine.now.left) ≤ 4194304) (sym c.waiting.ensures) (few-first c.args.routine.now (MatchOption-at_none _ _ c.in_default.is c.requires.ready))

pub rate-requires-clause-tried : goal.rate-requires-clause-tried
rate-requires-clause-tried c = subst (λ o. IfSome o IsTried) (sym (c.last_champion.ensures c.args.routine.now.store)) c.requires.tried

pub rate-requires-clause-few : goal.rate-requires-clause-few
rate-requires-clause-few c =
    let a = c.floats_waiting-waiting.ensures.few in
    let b = c.insertions_first-held.ensures in
    let d = ap (λ l. insertions_first (plain_list c.args.routine.now.store l ++ nodes_left c.args.routine.now.left)) c.waiting.ensures in
    let e = few-first c.args.routine.now (MatchOption-at_none _ _ c.in_default.is c.requires.ready) in
    omega (arith, a, b, d, e)

pub returns-clause-value : goal.returns-clause-value
returns-clause-value c =
    let store = c.args.routine.now.store in
    let place = c.last_champion.ensures store in
    let waiting = c.floats_waiting-waiting.ensures.value in
    let held = c.insertions_first-held.ensures ∙ ap (λ l. insertions_first (plain_list store l ++ nodes_left c.args.routine.now.left)) c.waiting.ensures in
    let page = c.first_number-page.ensures store ∙ ap (λ n. first_number n (events_of store c.args.happened.now)) (ap (λ (v : Standing). v.number) c.standing.ensures) in
    rw (c.in_default.is) (c.rate.ensures.value ∙ (λ i. rating (c.params-params.ensures i) c.args.places.now (page i) (place i) (waiting i) (held i)))
