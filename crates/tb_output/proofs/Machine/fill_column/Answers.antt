use Rattle.std.proofs.Common.{refl, ◌∙◌, ap, []}
use Rattle.tb_float.specs.Lists.{live_count}
use Rattle.tb_output.proofs.ColumnPages.FloatMoves.{filled-count, room-stays}
use Rattle.tb_output.proofs.Machine.fill_column.Goals as goal

-- the floats move, and as many boxes are live as before
pub invariant_of-self : goal.invariant_of-self
invariant_of-self c =
    let i = c.self.inside in
    room-stays i.pool c.fill_column.new.pool i.events.room c.fill_column.ensures.size (ap live_count c.fill_column.ensures.lists ∙ filled-count i.params i.suppress [] i.pool.lists.deferred i.pool.lists refl) c.self.invariant
