use Rattle.std.proofs.Common.{◌≡◌, ◌+◌, ◌-◌, ap, ◌∙◌, length, [], arith}
use Rattle.tb_output.specs.Machine.{MachineView}
use Rattle.tb_output.proofs.ColumnPages.FloatTurns.{columns-begin, columns-next, columns-stop, columns-cut, columns-all, turns-left, turns-over, when-more, when-none}
use Rattle.tb_output.proofs.FiringWork.KeepLemmas.{keeps-then}
use Rattle.tb_output.proofs.FiringWork.ResultLemmas.{same-err}
use Rattle.tb_output.proofs.Machine.float_columns.Goals as goal

pub loop-turn-init : goal.loop-turn-init
loop-turn-init c =
    let m = c.args.self.now in
    columns-begin c.args.clearing (length m.pool.lists.deferred - 0) m c.args.store.now c.requires (omega arith)

pub put_out_floats-requires : goal.put_out_floats-requires
put_out_floats-requires c = c.loop-turn.invariant.keeps.machine

pub loop-turn-preserved : goal.loop-turn-preserved
loop-turn-preserved c =
    let m = c.args.self.now in
    let k = c.loop-turn._turn in
    let n = length m.pool.lists.deferred in
    let end : c.len-turn-end.result ≡ n = c.len-turn-end.ensures.value ∙ ap (λ (v : MachineView). length v.pool.lists.deferred) c.self.view_is in
    columns-next c.args.clearing (n - k) m c.loop-turn.self c.put_out_floats.new.self c.args.store.now c.loop-turn.store c.put_out_floats.new.store c.loop-turn.invariant (n - (k + 1)) (turns-left n k c.len-turn-end.result end c.loop-turn-test.true) (when-more _ _ _ c.if-not-branch.false c.in_ok-put_out_floats.ensures.ok) c.put_out_floats.ensures.keeps

pub returns-in_err-put_out_floats-clause-err : goal.returns-in_err-put_out_floats-clause-err
returns-in_err-put_out_floats-clause-err c =
    let m = c.args.self.now in
    let k = c.loop-turn._turn in
    let n = length m.pool.lists.deferred in
    let end : c.len-turn-end.result ≡ n = c.len-turn-end.ensures.value ∙ ap (λ (v : MachineView). length v.pool.lists.deferred) c.self.view_is in
    same-err c.from_residual.result _ _ c.from_residual.ensures.1
    (columns-cut c.args.clearing (n - k) m c.loop-turn.self c.put_out_floats.new.self c.args.store.now c.loop-turn.store c.put_out_floats.new.store c.loop-turn.invariant _ (n - (k + 1)) (turns-left n k c.len-turn-end.result end c.loop-turn-test.true) c.in_err-put_out_floats.ensures.err)

pub returns-in_err-put_out_floats-clause-keeps : goal.returns-in_err-put_out_floats-clause-keeps
returns-in_err-put_out_floats-clause-keeps c =
    keeps-then [] [] c.args.self.now c.loop-turn.self c.put_out_floats.new.self c.args.store.now c.loop-turn.store c.put_out_floats.new.store c.loop-turn.invariant.keeps c.put_out_floats.ensures.keeps (λ q live none. none)

-- there is no further one
pub returns-then-not-branch-clause-ok : goal.returns-then-not-branch-clause-ok
returns-then-not-branch-clause-ok c =
    let m = c.args.self.now in
    let k = c.loop-turn._turn in
    let n = length m.pool.lists.deferred in
    columns-stop c.args.clearing (n - k) m c.loop-turn.self c.put_out_floats.new.self c.args.store.now c.loop-turn.store c.put_out_floats.new.store c.loop-turn.invariant (when-none _ _ _ c.if-not-branch.true c.in_ok-put_out_floats.ensures.ok)

pub returns-then-not-branch-clause-keeps : goal.returns-then-not-branch-clause-keeps
returns-then-not-branch-clause-keeps c =
    keeps-then [] [] c.args.self.now c.loop-turn.self c.put_out_floats.new.self c.args.store.now c.loop-turn.store c.put_out_floats.new.store c.loop-turn.invariant.keeps c.put_out_floats.ensures.keeps (λ q live none. none)

-- as many were made as are allowed
pub returns-clause-ok : goal.returns-clause-ok
returns-clause-ok c =
    let m = c.args.self.now in
    let k = c.loop-turn._turn in
    let n = length m.pool.lists.deferred in
    let end : c.len-turn-end.result ≡ n = c.len-turn-end.ensures.value ∙ ap (λ (v : MachineView). length v.pool.lists.deferred) c.self.view_is in
    columns-all c.args.clearing (n - k) m c.loop-turn.self c.loop-turn.self c.args.store.now c.loop-turn.store c.loop-turn.store c.loop-turn.invariant (turns-over n k c.len-turn-end.result end c.loop-turn-test.false)

pub returns-clause-keeps : goal.returns-clause-keeps
returns-clause-keeps c = c.loop-turn.invariant.keeps
