use Rattle.std.proofs.Common.{subst}
use Rattle.tb_output.specs.contracts.Machine.{the_view}
use Rattle.tb_output.specs.Clear.{deferred_again}
use Rattle.tb_output.specs.Machine.{MachineView}
use Rattle.tb_output.specs.MachineFrame.{HasFloats}
use Rattle.tb_output.proofs.Clears.JoinLemmas.{areas-room, areas-has}
use Rattle.tb_output.proofs.Machine.defer_areas.Goals as goal

-- as many boxes are live as before
pub invariant_of-self : goal.invariant_of-self
invariant_of-self c =
    let i = c.self.inside in
    areas-room i.pool c.join_front.new.self c.join_front-2.new.self c.join_front.ensures.joined c.join_front-2.ensures.joined i.events.room c.self.invariant

pub returns : goal.returns
returns c =
    let i = c.self.inside in
    let x = c.join_front-2.new.self in
    subst (λ (m : MachineView). HasFloats (deferred_again m.pool.lists) m (record (the_view i) { pool = x })) c.self.view_is
    (areas-has (the_view i) c.join_front.new.self x c.join_front.ensures.joined c.join_front-2.ensures.joined c.join_front.ensures.unmarked c.join_front-2.ensures.unmarked)
