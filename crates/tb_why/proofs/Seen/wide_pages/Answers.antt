use Rattle.std.proofs.Common.{◌≡◌, suc, ◌+◌, ◌-◌, length, ap, ◌∙◌, arith}
use Rattle.tb_float.specs.Lists.{floats_of, wide_waiting}
use Rattle.tb_float.proofs.WaitingLemmas.{waiting-count}
use Rattle.tb_why.proofs.TellingLemmas.{wide-begin, wide-next, wide-stop, wide-over}
use Rattle.tb_why.proofs.Seen.wide_pages.Goals.{After-count-turn-end}
use Rattle.tb_why.proofs.Seen.wide_pages.Goals as goal

-- there are as many turns as wide floats that wait
turns : (c : After-count-turn-end) → c.count-turn-end.result ≡ length (wide_waiting c.args.p.now c.args.self.now.floats)
turns c =
    let l = c.args.self.now.floats in
    c.count-turn-end.ensures ∙ waiting-count c.wide_part.result c.wide_part.ensures.waits l ∙ ap (λ from. length (floats_of from l)) c.wide_part.ensures.value

pub loop-turn-init : goal.loop-turn-init
loop-turn-init c =
    let p = c.args.p.now in
    let v = c.args.self.now in
    let n = length (wide_waiting p v.floats) in
    let all : n - 0 ≡ n = omega arith in
    wide-begin p c.args.clearing (n - 0) v c.args.pieces.now.items all

pub loop-turn-preserved : goal.loop-turn-preserved
loop-turn-preserved c =
    let p = c.args.p.now in
    let v = c.args.self.now in
    let k = c.loop-turn._turn in
    let n = length (wide_waiting p v.floats) in
    let all = turns (goal.at.loop-turn-preserved c).After-count-turn-end in
    let one : n - k ≡ suc (n - (k + 1)) = omega (arith, all, c.loop-turn-test.true) in
    wide-next p c.args.clearing _ (n - k) (n - (k + 1)) c.loop-turn.self c.wide_page.new.self c.loop-turn.pieces.items c.wide_page.new.pieces.items _ _
    one c.if-not-branch.false c.in_ok-wide_page.ensures c.loop-turn.invariant

pub returns-then-not-branch-clause-told : goal.returns-then-not-branch-clause-told
returns-then-not-branch-clause-told c =
    let p = c.args.p.now in
    let v = c.args.self.now in
    let k = c.loop-turn._turn in
    let n = length (wide_waiting p v.floats) in
    let all = turns (goal.at.returns-then-not-branch-clause-told c).After-count-turn-end in
    let one : n - k ≡ suc (n - (k + 1)) = omega (arith, all, c.loop-turn-test.true) in
    (wide-stop p c.args.clearing _ (n - k) (n - (k + 1)) c.loop-turn.self c.wide_page.new.self c.loop-turn.pieces.items c.wide_page.new.pieces.items _ _
    one c.if-not-branch.true c.in_ok-wide_page.ensures c.loop-turn.invariant).told

pub returns-then-not-branch-clause-seen : goal.returns-then-not-branch-clause-seen
returns-then-not-branch-clause-seen c =
    let p = c.args.p.now in
    let v = c.args.self.now in
    let k = c.loop-turn._turn in
    let n = length (wide_waiting p v.floats) in
    let all = turns (goal.at.returns-then-not-branch-clause-seen c).After-count-turn-end in
    let one : n - k ≡ suc (n - (k + 1)) = omega (arith, all, c.loop-turn-test.true) in
    (wide-stop p c.args.clearing _ (n - k) (n - (k + 1)) c.loop-turn.self c.wide_page.new.self c.loop-turn.pieces.items c.wide_page.new.pieces.items _ _
    one c.if-not-branch.true c.in_ok-wide_page.ensures c.loop-turn.invariant).seen

pub returns-clause-told : goal.returns-clause-told
returns-clause-told c =
    let p = c.args.p.now in
    let v = c.args.self.now in
    let k = c.loop-turn._turn in
    let n = length (wide_waiting p v.floats) in
    let all = turns (goal.at.returns-clause-told c).After-count-turn-end in
    let over : n - k ≡ 0 = omega (arith, all, c.loop-turn-test.false) in
    (wide-over p c.args.clearing (n - k) c.loop-turn.self c.loop-turn.pieces.items _ _ over c.loop-turn.invariant).told

pub returns-clause-seen : goal.returns-clause-seen
returns-clause-seen c =
    let p = c.args.p.now in
    let v = c.args.self.now in
    let k = c.loop-turn._turn in
    let n = length (wide_waiting p v.floats) in
    let all = turns (goal.at.returns-clause-seen c).After-count-turn-end in
    let over : n - k ≡ 0 = omega (arith, all, c.loop-turn-test.false) in
    (wide-over p c.args.clearing (n - k) c.loop-turn.self c.loop-turn.pieces.items _ _ over c.loop-turn.invariant).seen
