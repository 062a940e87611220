use Rattle.std.proofs.Common.{refl}
use Rattle.tb_lines.proofs.WriteSteps.{sizes_start, sizes_more, sizes_done}
use Rattle.tb_lines.proofs.line_texts.line_sizes.Goals as goal

pub loop-place-init : goal.loop-place-init
loop-place-init c = sizes_start c.args.entries.now c.args.breaks.now c.new-sizes.result.items c.new-sizes.ensures.items c.requires

pub loop-place-preserved : goal.loop-place-preserved
loop-place-preserved c =
    sizes_more c.args.entries.now c.args.breaks.now c.loop-place.place-index c.loop-place.start 0 _ c.loop-place.sizes.items c.push.new.self.items c.size_of.result c.loop-place-test.true c.loop-place.invariant refl c.size_of.ensures c.in_ok-push.ensures.items

pub returns : goal.returns
returns c = sizes_done c.args.entries.now c.args.breaks.now c.loop-place.place-index c.loop-place.start c.loop-place.sizes.items c.loop-place-test.false c.loop-place.invariant
