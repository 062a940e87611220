use Rattle.tb_builder.proofs.SameLemmas.{passing_begins}
use Rattle.tb_builder.proofs.same.same_boxes.Goals as goal

pub loop-k-init : goal.loop-k-init
loop-k-init c = passing_begins c.args.store.now c.args.other_store.now c.args.boxes.now c.args.other.now c.requires.live c.requires.other_live c.requires.void c.requires.other_void c.requires.plain c.requires.other_plain
