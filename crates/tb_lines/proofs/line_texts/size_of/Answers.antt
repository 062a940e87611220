use Rattle.std.proofs.Common.{arith, ap, ◌∙◌}
use Rattle.tb_lines.specs.LineText.{joined_size}
use Rattle.tb_lines.proofs.WriteSteps.{size_start, size_more, size_done}
use Rattle.tb_lines.proofs.line_texts.size_of.Goals as goal

pub loop-entry-init : goal.loop-entry-init
loop-entry-init c = size_start c.args.entries.now

pub loop-entry-preserved : goal.loop-entry-preserved
loop-entry-preserved c =
    size_more c.args.entries.now c.loop-entry.entry-index _ c.loop-entry.size c.joined_size-size.result c.loop-entry-test.true c.loop-entry.invariant (c.joined_size-size.ensures ∙ ap (joined_size c.loop-entry.size) c.entry_size.ensures)

pub returns : goal.returns
returns c = size_done c.args.entries.now c.loop-entry.entry-index c.loop-entry.size (omega arith) c.loop-entry.invariant
