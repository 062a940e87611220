use Rattle.std.proofs.Common.{◌≡◌, ◌+◌, ◌-◌, ap, ◌∙◌, length, [], arith}
use Rattle.tb_float.specs.Lists.{floats_of, wide_waiting}
use Rattle.tb_float.proofs.WaitingLemmas.{waiting-count}
use Rattle.tb_output.specs.Machine.{MachineView}
use Rattle.tb_output.proofs.ColumnPages.FloatTurns.{pages-begin, pages-next, pages-stop, pages-cut, pages-all, turns-left, turns-over, when-more, when-none}
use Rattle.tb_output.proofs.FiringWork.KeepLemmas.{keeps-then}
use Rattle.tb_output.proofs.FiringWork.ResultLemmas.{same-err}
use Rattle.tb_output.proofs.Machine.wide_pages.Goals as goal

pub loop-turn-init : goal.loop-turn-init
loop-turn-init c =
    let m = c.args.self.now in
    pages-begin c.args.clearing (length (wide_waiting m.params m.pool.lists) - 0) m c.args.store.now c.requires (omega arith)

pub ship_wide-requires : goal.ship_wide-requires
ship_wide-requires c = c.loop-turn.invariant.keeps.machine

pub loop-turn-preserved : goal.loop-turn-preserved
loop-turn-preserved c =
    let m = c.args.self.now in
    let k = c.loop-turn._turn in
    let n = length (wide_waiting m.params m.pool.lists) in
    let end : c.len-turn-end.result ≡ n = c.len-turn-end.ensures.value ∙ waiting-count c.wide_part.result c.wide_part.ensures.waits c.self.inside.pool.lists ∙ (λ i. length (floats_of (c.wide_part.ensures.value i) c.self.inside.pool.lists)) ∙ ap (λ (v : MachineView). length (wide_waiting v.params v.pool.lists)) c.self.view_is in
    pages-next c.args.clearing (n - k) m c.loop-turn.self c.ship_wide.new.self c.args.store.now c.loop-turn.store c.ship_wide.new.store c.loop-turn.invariant (n - (k + 1)) (turns-left n k c.len-turn-end.result end c.loop-turn-test.true) (when-more _ _ _ c.if-not-branch.false c.in_ok-ship_wide.ensures.ok) c.ship_wide.ensures.keeps

pub returns-in_err-ship_wide-clause-err : goal.returns-in_err-ship_wide-clause-err
returns-in_err-ship_wide-clause-err c =
    let m = c.args.self.now in
    let k = c.loop-turn._turn in
    let n = length (wide_waiting m.params m.pool.lists) in
    let end : c.len-turn-end.result ≡ n = c.len-turn-end.ensures.value ∙ waiting-count c.wide_part.result c.wide_part.ensures.waits c.self.inside.pool.lists ∙ (λ i. length (floats_of (c.wide_part.ensures.value i) c.self.inside.pool.lists)) ∙ ap (λ (v : MachineView). length (wide_waiting v.params v.pool.lists)) c.self.view_is in
    same-err c.from_residual.result _ _ c.from_residual.ensures.1
    (pages-cut c.args.clearing (n - k) m c.loop-turn.self c.ship_wide.new.self c.args.store.now c.loop-turn.store c.ship_wide.new.store c.loop-turn.invariant _ (n - (k + 1)) (turns-left n k c.len-turn-end.result end c.loop-turn-test.true) c.in_err-ship_wide.ensures.err)

pub returns-in_err-ship_wide-clause-keeps : goal.returns-in_err-ship_wide-clause-keeps
returns-in_err-ship_wide-clause-keeps c =
    keeps-then [] [] c.args.self.now c.loop-turn.self c.ship_wide.new.self c.args.store.now c.loop-turn.store c.ship_wide.new.store c.loop-turn.invariant.keeps c.ship_wide.ensures.keeps (λ q live none. none)

-- there is no further one
pub returns-then-not-branch-clause-ok : goal.returns-then-not-branch-clause-ok
returns-then-not-branch-clause-ok c =
    let m = c.args.self.now in
    let k = c.loop-turn._turn in
    let n = length (wide_waiting m.params m.pool.lists) in
    pages-stop c.args.clearing (n - k) m c.loop-turn.self c.ship_wide.new.self c.args.store.now c.loop-turn.store c.ship_wide.new.store c.loop-turn.invariant (when-none _ _ _ c.if-not-branch.true c.in_ok-ship_wide.ensures.ok)

pub returns-then-not-branch-clause-keeps : goal.returns-then-not-branch-clause-keeps
returns-then-not-branch-clause-keeps c =
    keeps-then [] [] c.args.self.now c.loop-turn.self c.ship_wide.new.self c.args.store.now c.loop-turn.store c.ship_wide.new.store c.loop-turn.invariant.keeps c.ship_wide.ensures.keeps (λ q live none. none)

-- as many were made as are allowed
pub returns-clause-ok : goal.returns-clause-ok
returns-clause-ok c =
    let m = c.args.self.now in
    let k = c.loop-turn._turn in
    let n = length (wide_waiting m.params m.pool.lists) in
    let end : c.len-turn-end.result ≡ n = c.len-turn-end.ensures.value ∙ waiting-count c.wide_part.result c.wide_part.ensures.waits c.self.inside.pool.lists ∙ (λ i. length (floats_of (c.wide_part.ensures.value i) c.self.inside.pool.lists)) ∙ ap (λ (v : MachineView). length (wide_waiting v.params v.pool.lists)) c.self.view_is in
    pages-all c.args.clearing (n - k) m c.loop-turn.self c.loop-turn.self c.args.store.now c.loop-turn.store c.loop-turn.store c.loop-turn.invariant (turns-over n k c.len-turn-end.result end c.loop-turn-test.false)

pub returns-clause-keeps : goal.returns-clause-keeps
returns-clause-keeps c = c.loop-turn.invariant.keeps
