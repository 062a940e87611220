use Rattle.std.proofs.Common.{subst}
use Rattle.tb_output.specs.contracts.Machine.{the_view}
use Rattle.tb_output.specs.Clear.{double_again}
use Rattle.tb_output.specs.Machine.{MachineView}
use Rattle.tb_output.specs.MachineFrame.{HasFloats}
use Rattle.tb_output.proofs.Clears.JoinLemmas.{double-apart, double-room, double-has}
use Rattle.tb_output.proofs.Machine.defer_double.Goals as goal

pub join_front-requires-clause-apart : goal.join_front-requires-clause-apart
join_front-requires-clause-apart c = double-apart c.wide_part-to.result c.wide_part-to.ensures.waits

-- as many boxes are live as before
pub invariant_of-self : goal.invariant_of-self
invariant_of-self c =
    let i = c.self.inside in
    double-room c.wide_part-to.result c.wide_part-to.ensures.waits i.pool c.join_front.new.self c.join_front.ensures.joined i.events.room c.self.invariant

pub returns : goal.returns
returns c =
    let i = c.self.inside in
    let w = c.join_front.new.self in
    subst (λ (m : MachineView). HasFloats (double_again m.params m.pool.lists) m (record (the_view i) { pool = w })) c.self.view_is
    (double-has i.params c.wide_part-to.result (the_view i) w c.wide_part-to.ensures.value c.wide_part-to.ensures.waits c.join_front.ensures.joined c.join_front.ensures.unmarked)
