use Rattle.std.proofs.Common.{◌≡◌, refl, sym, subst, ap, [], ◌∷◌}
use Rattle.std.specs.List.{AllByRecursion}
use Rattle.std.proofs.lemmas.Result.{err_from_is_err_and}
use Rattle.tb_pool.specs.Lists.{IsLive}
use Rattle.tb_pool.specs.Frame.{IsNoneOf}
use Rattle.tb_output.specs.Machine.{MachineView}
use Rattle.tb_run.proofs.Filling.ActingLemmas.{dropped-live, has-acted}
use Rattle.tb_run.proofs.routine.Routine.act.Goals as goal

pub act-requires : goal.act-requires
act-requires c = record { params = c.requires.whole.machine.params; pool = c.requires.whole.machine.pool; act = c.requires.act }

pub returns-in_err-act-clause-err : goal.returns-in_err-act-clause-err
returns-in_err-act-clause-err c =
    let p = err_from_is_err_and c.from_residual.result c.from_residual.ensures.1 in
    rw (p.1, p.2) (record {
      full_pool = λ boxes waiting. c.in_err-act.ensures.full c.args.self.now.store boxes waiting;
      same = ap (λ (m : MachineView). record c.args.self.now { machine = m }) c.in_err-act.ensures.unchanged;
    })

pub close_list-requires : goal.close_list-requires
close_list-requires c =
    let r = c.args.self.now in
    let e = c.in_ok-act.ensures in
    let is : c.in-Some.list ∷ [] ≡ _ = c.in-Some.ensures in
    (subst (AllByRecursion (IsLive r.store)) (sym is) (dropped-live r c.act.new.self c.args.act c.requires.whole e.machine e.fault e.lists e.dropped e.acted)).0

pub returns-in-Some-clause-ok : goal.returns-in-Some-clause-ok
returns-in-Some-clause-ok c =
    let r = c.args.self.now in
    let e = c.in_ok-act.ensures in
    has-acted r c.act.new.self c.args.act c.requires.whole e.machine e.fault e.lists e.dropped e.acted c.close_list.new.store
    (λ q none. let is : c.in-Some.list ∷ [] ≡ _ = c.in-Some.ensures in c.close_list.ensures.others q (λ x. (subst (IsNoneOf q) (sym is) none).0 (sym x)))

pub returns-in_default-clause-ok : goal.returns-in_default-clause-ok
returns-in_default-clause-ok c =
    let r = c.args.self.now in
    let e = c.in_ok-act.ensures in
    has-acted r c.act.new.self c.args.act c.requires.whole e.machine e.fault e.lists e.dropped e.acted r.store (λ q none. refl)
