use Rattle.std.proofs.Common.{List, ℕ, ◌++◌, subst}
use Rattle.tb_text.specs.Fronts.{PutsFront}
use Rattle.tb_text.proofs.FrontLemmas.{cut, fails, on_joined}
use Rattle.tb_trace.specs.Lines.{try_line}
use Rattle.tb_trace.specs.Parts.{sums_of, costs_of, end_text}
use Rattle.tb_trace.proofs.LineLemmas.{line-of-parts}
use Rattle.tb_trace.proofs.put_any_try.Goals as goal

pub returns-in_err-put_sums : goal.returns-in_err-put_sums
returns-in_err-put_sums c =
    let t = c.args.t.now in
    fails _ _ _ _ c.from_residual.ensures.0 (subst (λ (x : List ℕ). PutsFront c.args.out.now.items x c.put_sums.new.out.items) (line-of-parts t) (cut (costs_of t ++ end_text t.champion) c.in_err-put_sums.ensures))

pub returns : goal.returns
returns c =
    let t = c.args.t.now in
    on_joined c.put_rest.result c.args.out.now.items c.put_sums.new.out.items c.put_rest.new.out.items (sums_of t.line t.sums) (costs_of t ++ end_text t.champion) (try_line t) (line-of-parts t) c.in_ok-put_sums.ensures c.put_rest.ensures
