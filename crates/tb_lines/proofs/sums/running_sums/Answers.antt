use Rattle.std.proofs.Common.{◌≡◌, ◌+◌, take, subst, sym, arith, List}
use Rattle.tb_lines.specs.declared.sums.Sums.{Sums}
use Rattle.tb_lines.specs.Demerits.{sums_of}
use Rattle.tb_lines.proofs.RunLemmas.{RunTo, run_more, sum_step}
use Rattle.tb_lines.proofs.sums.running_sums.Goals as goal

pub loop-k-preserved : goal.loop-k-preserved
loop-k-preserved c =
    let total : c.with_sums-total.result ≡ sums_of (take (c.loop-k.k + 1) c.args.entries.now) =
    sum_step c.args.entries.now c.loop-k.k _ c.loop-k.total c.with_sums-total.result c.entry_sums.result (omega arith) c.loop-k.invariant.total c.entry_sums.ensures.value c.with_sums-total.ensures.value in
    let P : List Sums → Type 0 = λ xs. RunTo c.args.entries.now xs (c.loop-k.k + 1) in
    record {
      run = subst P (sym c.in_ok-push-2.ensures.items) (run_more c.args.entries.now c.loop-k.sums.items c.loop-k.k c.with_sums-total.result c.loop-k.invariant.run total c.with_sums-total.ensures.small);
      total = total;
      small = c.with_sums-total.ensures.small;
    }
