use Rattle.std.proofs.Common.{◌-◌, refl, arith}
use Rattle.tb_lines.proofs.RunLemmas.{words_start, word_step}
use Rattle.tb_lines.proofs.sums.word_starts.Goals as goal

pub loop-k-init : goal.loop-k-init
loop-k-init c = words_start c.args.entries.now c.in_ok-starts.starts.items (c.in_ok-starts.ensures.items_if_clones_equal (λ y e. e))

pub loop-k-preserved : goal.loop-k-preserved
loop-k-preserved c =
    word_step c.args.entries.now c.loop-k.starts.items c.loop-k.k (c.loop-k.k - 1) _ c.index.result.now c.start_at.result _ c.loop-k-test.true refl (omega arith) c.loop-k.invariant c.index.ensures c.start_at.ensures
