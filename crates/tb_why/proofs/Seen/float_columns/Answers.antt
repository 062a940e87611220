use Rattle.std.proofs.Common.{◌≡◌, suc, ◌+◌, ◌-◌, length, arith}
use Rattle.tb_why.proofs.TellingLemmas.{float-begin, float-next, float-stop, float-over}
use Rattle.tb_why.proofs.Seen.float_columns.Goals.{After-count-turn-end}
use Rattle.tb_why.proofs.Seen.float_columns.Goals as goal

-- there are as many turns as floats that wait
turns : (c : After-count-turn-end) → c.count-turn-end.result ≡ length c.args.self.now.floats.deferred
turns c = c.count-turn-end.ensures

pub loop-turn-init : goal.loop-turn-init
loop-turn-init c =
    let p = c.args.p.now in
    let v = c.args.self.now in
    let n = length v.floats.deferred in
    let all : n - 0 ≡ n = omega arith in
    float-begin p c.args.clearing (n - 0) v c.args.pieces.now.items all

pub loop-turn-preserved : goal.loop-turn-preserved
loop-turn-preserved c =
    let p = c.args.p.now in
    let v = c.args.self.now in
    let k = c.loop-turn._turn in
    let n = length v.floats.deferred in
    let all = turns (goal.at.loop-turn-preserved c).After-count-turn-end in
    let one : n - k ≡ suc (n - (k + 1)) = omega (arith, all, c.loop-turn-test.true) in
    float-next p c.args.clearing _ (n - k) (n - (k + 1)) c.loop-turn.self c.float_column.new.self c.loop-turn.pieces.items c.float_column.new.pieces.items _ _
    one c.if-not-branch.false c.in_ok-float_column.ensures c.loop-turn.invariant

pub returns-then-not-branch-clause-told : goal.returns-then-not-branch-clause-told
returns-then-not-branch-clause-told c =
    let p = c.args.p.now in
    let v = c.args.self.now in
    let k = c.loop-turn._turn in
    let n = length v.floats.deferred in
    let all = turns (goal.at.returns-then-not-branch-clause-told c).After-count-turn-end in
    let one : n - k ≡ suc (n - (k + 1)) = omega (arith, all, c.loop-turn-test.true) in
    (float-stop p c.args.clearing _ (n - k) (n - (k + 1)) c.loop-turn.self c.float_column.new.self c.loop-turn.pieces.items c.float_column.new.pieces.items _ _
    one c.if-not-branch.true c.in_ok-float_column.ensures c.loop-turn.invariant).told

pub returns-then-not-branch-clause-seen : goal.returns-then-not-branch-clause-seen
returns-then-not-branch-clause-seen c =
    let p = c.args.p.now in
    let v = c.args.self.now in
    let k = c.loop-turn._turn in
    let n = length v.floats.deferred in
    let all = turns (goal.at.returns-then-not-branch-clause-seen c).After-count-turn-end in
    let one : n - k ≡ suc (n - (k + 1)) = omega (arith, all, c.loop-turn-test.true) in
    (float-stop p c.args.clearing _ (n - k) (n - (k + 1)) c.loop-turn.self c.float_column.new.self c.loop-turn.pieces.items c.float_column.new.pieces.items _ _
    one c.if-not-branch.true c.in_ok-float_column.ensures c.loop-turn.invariant).seen

pub returns-clause-told : goal.returns-clause-told
returns-clause-told c =
    let p = c.args.p.now in
    let v = c.args.self.now in
    let k = c.loop-turn._turn in
    let n = length v.floats.deferred in
    let all = turns (goal.at.returns-clause-told c).After-count-turn-end in
    let over : n - k ≡ 0 = omega (arith, all, c.loop-turn-test.false) in
    (float-over p c.args.clearing (n - k) c.loop-turn.self c.loop-turn.pieces.items _ _ over c.loop-turn.invariant).told

pub returns-clause-seen : goal.returns-clause-seen
returns-clause-seen c =
    let p = c.args.p.now in
    let v = c.args.self.now in
    let k = c.loop-turn._turn in
    let n = length v.floats.deferred in
    let all = turns (goal.at.returns-clause-seen c).After-count-turn-end in
    let over : n - k ≡ 0 = omega (arith, all, c.loop-turn-test.false) in
    (float-over p c.args.clearing (n - k) c.loop-turn.self c.loop-turn.pieces.items _ _ over c.loop-turn.invariant).seen
