use Rattle.std.proofs.Common.{◌∙◌, ◌++◌, get_or}
use Rattle.tb_top.specs.BestText.{shown_columns, break_text}
use Rattle.tb_top.proofs.Best.BestLineLemmas.{lines-next, numbers-next}
use Rattle.tb_top.proofs.best_text.put_breaks.Goals as goal

pub loop-before-preserved : goal.loop-before-preserved
loop-before-preserved c =
    let ns = c.args.items.now in
    let j = c.loop-before.before-index in
    let d = c.index-items-k.result in
    let now = c.loop-before.out.items in
    let at = (get_or ns (get_or c.args.breaks.now j 0) d).line in
    let lines = c.in_ok-put_break.ensures ∙ (λ i. now ++ break_text at (c.page_at.ensures i) (c.name_before.ensures i)) in
    record {
      lines = lines-next ns (shown_columns c.args.columns.now) c.args.breaks.now j d now c.put_break.new.out.items _ c.loop-before-test.true c.loop-before.invariant.numbers lines c.loop-before.invariant.lines;
      numbers = numbers-next ns c.args.breaks.now j c.loop-before-test.true c.loop-before.invariant.numbers;
    }
