use Rattle.std.proofs.Common.{◌≡◌, sym, subst, ◌∙◌, ap, suc, ◌-◌, false, true, get_or, arith}
use Rattle.std.specs.Prelude.{pos, ◌+ℤ◌, ◌-ℤ◌, IfSome}
use Rattle.tb_search.specs.declared.table.Start.{Start}
use Rattle.tb_search.specs.Branches.{shown}
use Rattle.tb_search.specs.AheadInCode.{items_ahead}
use Rattle.tb_search.specs.Starts.{IsReached}
use Rattle.tb_rate.specs.Places.{place_penalties}
use Rattle.tb_search.specs.Told.{IsPlaceNext, TellsBehind}
use Rattle.tb_search.specs.Plain.{CostsAbove, IsBeaten}
use Rattle.tb_search.proofs.LaterLemmas.{continues-itself}
use Rattle.tb_search.proofs.CutLemmas.{flags-counted, next-flag, not-place, no-box, cut-over, of-next, get-any}
use Rattle.tb_search.proofs.StopLemmas.{plain-front, too-dear, plain-start, beaten-searched}
use Rattle.tb_search.proofs.SumLemmas.{cost-fits, cost-above, cost-within}
use Rattle.tb_search.proofs.table.Table.cut.Goals as goal
use Rattle.tb_search.proofs.table.Table.cut.Goals.{After-is_too_dear}

pub overflow_sub-number : goal.overflow_sub-number
overflow_sub-number c = let a = c.len.ensures in let b = flags-counted c.args.self.now c.requires.table in let i = c.requires.inside in omega (arith, a, b, i)

pub index-requires : goal.index-requires
index-requires c = let a = c.len.ensures in let b = flags-counted c.args.self.now c.requires.table in let i = c.requires.inside in let s = c.requires.some in omega (arith, a, b, i, s)

-- ---- no break is put in

pub returns-then-not-index-clause-continues : goal.returns-then-not-index-clause-continues
returns-then-not-index-clause-continues c = continues-itself c.args.self.now

pub returns-then-not-index-clause-searched : goal.returns-then-not-index-clause-searched
returns-then-not-index-clause-searched c =
    let a = c.len.ensures in
    let b = flags-counted c.args.self.now c.requires.table in
    let i = c.requires.inside in
    let s = c.requires.some in
    let x : Start = record { branch = c.args.branch.now; way = c.args.way.now } in
    let flag = next-flag c.args.self.now (c.len.result - c.args.left) (c.args.left - 1) c.requires.table (omega (arith, a, b, i, s)) in
    let found : get_or c.args.self.now.is_place.items (c.len.result - c.args.left) c.index.result.now ≡ false = sym c.index.ensures ∙ c.if-not-index.true in
    let none : get_or c.args.self.now.is_place.items (c.len.result - c.args.left) false ≡ false =
    ap (get_or c.args.self.now.is_place.items (c.len.result - c.args.left)) (sym c.if-not-index.true) ∙ found
    in
    of-next c.args.self.now c.args.left x c.args.self.now s
    (not-place c.args.self.now (c.args.left - 1) x (omega (arith, i, s)) c.args.self.now (sym flag ∙ none))

pub overflow_add-way : goal.overflow_add-way
overflow_add-way c = cost-fits c.args.way.now.demerits c.args.self.now.bound c.requires.reached.low c.requires.high c.requires.table.range

pub returns-then-way-self-clause-continues : goal.returns-then-way-self-clause-continues
returns-then-way-self-clause-continues c = continues-itself c.args.self.now

pub returns-then-way-self-clause-searched : goal.returns-then-way-self-clause-searched
returns-then-way-self-clause-searched c =
    let i = c.requires.inside in
    let s = c.requires.some in
    let x : Start = record { branch = c.args.branch.now; way = c.args.way.now } in
    of-next c.args.self.now c.args.left x c.args.self.now s
    (cut-over c.args.self.now (c.args.left - 1) x (omega (arith, i, s)) (cost-above c.args.way.now.demerits c.args.self.now.bound c.requires.reached.low c.requires.high c.requires.table.range c.if-way-self.true))

pub returns-then-not-holds_box-clause-continues : goal.returns-then-not-holds_box-clause-continues
returns-then-not-holds_box-clause-continues c = continues-itself c.args.self.now

pub returns-then-not-holds_box-clause-searched : goal.returns-then-not-holds_box-clause-searched
returns-then-not-holds_box-clause-searched c =
    let i = c.requires.inside in
    let s = c.requires.some in
    let x : Start = record { branch = c.args.branch.now; way = c.args.way.now } in
    of-next c.args.self.now c.args.left x c.args.self.now s
    (no-box c.args.self.now (c.args.left - 1) x (omega (arith, i, s)) c.args.self.now (sym c.holds_box.ensures ∙ c.if-not-holds_box.true))

-- what is told of the page
told : (c : After-is_too_dear) → TellsBehind (place_penalties c.args.self.now.galley.now.items) (shown c.args.branch.now) (items_ahead c.args.self.now.galley.now (suc (c.args.left - 1))) c.in-Some.told.now
told c =
    let s = c.requires.some in
    let next : c.args.left ≡ suc (c.args.left - 1) = omega (arith, s) in
    let g = c.args.self.now.galley.now in
    subst (λ n. TellsBehind (place_penalties g.items) (shown c.args.branch.now) (items_ahead g n) c.in-Some.told.now) next
    (subst (λ o. IfSome o (λ t. TellsBehind (place_penalties g.items) (shown c.args.branch.now) (items_ahead g c.args.left) t.now)) c.in-Some.is c.requires.told)

-- the next item is a legal place
place : (c : After-is_too_dear) → IsPlaceNext (shown c.args.branch.now).waiting c.args.branch.now.ahead c.in-Some-next_place.line
place c = subst (λ o. IfSome o (IsPlaceNext (shown c.args.branch.now).waiting c.args.branch.now.ahead)) c.in-Some-next_place.is c.next_place.ensures

costs : (c : After-is_too_dear) → CostsAbove c.in-Some-next_place.line (c.args.self.now.bound -ℤ (c.args.way.now.demerits +ℤ pos 1000)) c.as_slice-prices.result.now
    → CostsAbove c.in-Some-next_place.line (c.args.self.now.bound -ℤ (c.args.way.now.demerits +ℤ pos 1000)) c.in-Some.told.now.prices.items
costs c h = subst (CostsAbove c.in-Some-next_place.line (c.args.self.now.bound -ℤ (c.args.way.now.demerits +ℤ pos 1000))) c.as_slice-prices.ensures.value h

reached : (c : After-is_too_dear) → IsReached c.args.self.now.galley.now (suc (c.args.left - 1)) (record { branch = c.args.branch.now; way = c.args.way.now })
reached c =
    let s = c.requires.some in
    let next : c.args.left ≡ suc (c.args.left - 1) = omega (arith, s) in
    subst (λ n. IsReached c.args.self.now.galley.now n (record { branch = c.args.branch.now; way = c.args.way.now })) next c.requires.reached

pub returns-then-is_too_dear-clause-continues : goal.returns-then-is_too_dear-clause-continues
returns-then-is_too_dear-clause-continues c = continues-itself c.args.self.now

pub returns-then-is_too_dear-clause-searched : goal.returns-then-is_too_dear-clause-searched
returns-then-is_too_dear-clause-searched c =
    let t = c.args.self.now in
    let i = c.requires.inside in
    let s = c.requires.some in
    let at = (goal.at.returns-then-is_too_dear-clause-searched c).After-is_too_dear in
    let x : Start = record { branch = c.args.branch.now; way = c.args.way.now } in
    of-next t c.args.left x t s
    (too-dear t (c.args.left - 1) x (omega (arith, i, s)) c.requires.table (reached at) c.in-Some.told.now (sym c.holds_box.ensures ∙ c.if-not-holds_box.false) (told at) c.in-Some-next_place.line (place at)
    (costs at (c.is_too_dear.ensures c.if-is_too_dear.true)))

pub returns-then-is_beaten-clause-continues : goal.returns-then-is_beaten-clause-continues
returns-then-is_beaten-clause-continues c = continues-itself c.args.self.now

pub returns-then-is_beaten-clause-searched : goal.returns-then-is_beaten-clause-searched
returns-then-is_beaten-clause-searched c =
    let t = c.args.self.now in
    let i = c.requires.inside in
    let s = c.requires.some in
    let level = c.requires.level in
    let at = (goal.at.returns-then-is_beaten-clause-searched c).After-is_too_dear in
    let x : Start = record { branch = c.args.branch.now; way = c.args.way.now } in
    of-next t c.args.left x t s
    (beaten-searched t (c.args.left - 1) x (omega (arith, i, s)) c.requires.table (reached at) c.in-Some.told.now (sym c.holds_box.ensures ∙ c.if-not-holds_box.false) (told at) c.in-Some-next_place.line (place at) (c.is_plain_page-plain.ensures c.if-plain.true)
    (omega (arith, s, level)) (subst (IsBeaten t (c.args.left - 1) c.args.branch.now c.args.way.now c.in-Some-next_place.line) c.as_slice-prices.ensures.value (c.is_beaten.ensures c.if-is_beaten.true)) x)

-- ---- a break is put in

pub put_break-requires-clause-number : goal.put_break-requires-clause-number
put_break-requires-clause-number c = let a = c.len.ensures in let b = flags-counted c.args.self.now c.requires.table in let i = c.requires.inside in omega (arith, a, b, i)

pub put_break-requires-clause-place : goal.put_break-requires-clause-place
put_break-requires-clause-place c =
    let a = c.len.ensures in
    let b = flags-counted c.args.self.now c.requires.table in
    let i = c.requires.inside in
    let s = c.requires.some in
    let known : c.index.result.now ≡ true = c.if-not-index.false in
    get-any c.args.self.now.is_place.items (c.len.result - c.args.left) c.index.result.now false (omega (arith, a, b, i, s)) ∙ sym c.index.ensures ∙ known

pub put_break-requires-clause-boxed : goal.put_break-requires-clause-boxed
put_break-requires-clause-boxed c = sym c.holds_box.ensures ∙ c.if-not-holds_box.false

pub put_break-requires-clause-high : goal.put_break-requires-clause-high
put_break-requires-clause-high c = cost-within c.args.way.now.demerits c.args.self.now.bound c.requires.reached.low c.requires.high c.requires.table.range c.if-way-self.false

pub put_break-requires-2-clause-plain : goal.put_break-requires-2-clause-plain
put_break-requires-2-clause-plain c is =
    let i = c.requires.inside in
    let s = c.requires.some in
    let at = (goal.at.put_break-requires-2-clause-plain c).After-is_too_dear in
    plain-start c.args.self.now (c.args.left - 1) (record { branch = c.args.branch.now; way = c.args.way.now }) (omega (arith, i, s)) c.requires.table (reached at) c.in-Some.told.now (sym c.holds_box.ensures ∙ c.if-not-holds_box.false) (told at) c.in-Some-next_place.line (place at) (c.is_plain_page-plain.ensures is)

-- so many nodes wait that all are plain
pub is_plain_page-plain-requires-clause-told : goal.is_plain_page-plain-requires-clause-told
is_plain_page-plain-requires-clause-told c is =
    let at = (goal.at.is_plain_page-plain-requires-clause-told c).After-is_too_dear in
    let tells = told at in
    plain-front (shown c.args.branch.now).waiting _ (tells.told.plain is)
