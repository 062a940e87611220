use Rattle.std.proofs.Common.{refl}
use Rattle.tb_lines.proofs.WriteSteps.{lines_start, lines_more, lines_done}
use Rattle.tb_lines.proofs.line_texts.put_lines.Goals as goal

pub loop-k-init : goal.loop-k-init
loop-k-init c = lines_start c.args.params.now c.args.name.now c.args.sizes.now c.args.above c.args.out.now.items

pub loop-k-preserved : goal.loop-k-preserved
loop-k-preserved c =
    lines_more c.args.params.now c.args.name.now c.args.sizes.now c.args.above c.args.out.now.items c.loop-k.k _ _ c.loop-k.below c.loop-k.out.items c.put_line.new.out.items
    c.loop-k-test.true refl c.loop-k.invariant c.in_ok-put_line.ensures

pub returns : goal.returns
returns c = lines_done c.args.params.now c.args.name.now c.args.sizes.now c.args.above c.args.out.now.items c.loop-k.k c.loop-k.below c.loop-k.out.items c.loop-k-test.false c.loop-k.invariant
