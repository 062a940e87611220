use Rattle.std.proofs.Common.{◌∙◌, ap, refl, []}
use Rattle.tb_float.specs.Lists.{live_count, floats_of}
use Rattle.tb_output.proofs.ColumnPages.FloatMoves.{doubled-count, room-stays}
use Rattle.tb_output.proofs.Machine.fill_double.Goals as goal

-- the floats move, and as many boxes are live as before
pub invariant_of-self : goal.invariant_of-self
invariant_of-self c =
    let i = c.self.inside in
    let from = c.wide_part-from.result in
    room-stays i.pool c.fill_double.new.pool i.events.room c.fill_double.ensures.size
    (ap live_count (c.fill_double.ensures.lists i.suppress) ∙ doubled-count from c.wide_part-from.ensures.waits i.params i.suppress [] (floats_of from i.pool.lists) i.pool.lists refl) c.self.invariant
