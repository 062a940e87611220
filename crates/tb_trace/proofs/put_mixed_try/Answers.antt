use Rattle.std.proofs.Common.{List, ℕ, ◌++◌, append_assoc, subst, sym}
use Rattle.tb_text.specs.Fronts.{PutsFront}
use Rattle.tb_text.proofs.FrontLemmas.{cut, fails, on_joined}
use Rattle.tb_trace.specs.Parts.{costs_of, end_text}
use Rattle.tb_trace.specs.Plain.{sums_text}
use Rattle.tb_trace.proofs.put_mixed_try.Goals as goal

pub returns-in_err-put_plain_sums : goal.returns-in_err-put_plain_sums
returns-in_err-put_plain_sums c =
    let sums = sums_text c.args.sums.now in
    let costs = costs_of c.args.t.now in
    let end = end_text c.args.t.now.champion in
    fails c.from_residual.result c.args.out.now.items (sums ++ costs ++ end) c.put_plain_sums.new.out.items c.from_residual.ensures.0
    (subst (λ (x : List ℕ). PutsFront c.args.out.now.items x c.put_plain_sums.new.out.items) (sym (append_assoc sums costs end)) (cut (costs ++ end) c.in_err-put_plain_sums.ensures))

pub returns : goal.returns
returns c =
    let sums = sums_text c.args.sums.now in
    let costs = costs_of c.args.t.now in
    let end = end_text c.args.t.now.champion in
    on_joined c.put_rest.result c.args.out.now.items c.put_plain_sums.new.out.items c.put_rest.new.out.items sums (costs ++ end) (sums ++ costs ++ end) (sym (append_assoc sums costs end)) c.in_ok-put_plain_sums.ensures c.put_rest.ensures
