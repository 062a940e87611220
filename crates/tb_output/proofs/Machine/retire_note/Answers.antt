use Rattle.std.proofs.Common.{sym, subst}
use Rattle.tb_output.specs.contracts.Machine.{the_view}
use Rattle.tb_output.specs.Machine.{MachineView}
use Rattle.tb_output.specs.Events.{HasRoomFor}
use Rattle.tb_output.specs.MachineFrame.{HasFloats}
use Rattle.tb_output.specs.FiringParts.{without_note}
use Rattle.tb_output.proofs.InText.TextSteps.{retired-is, retired-has}
use Rattle.tb_output.proofs.Machine.retire_note.Goals as goal

pub invariant_of-self : goal.invariant_of-self
invariant_of-self c =
    let i = c.self.inside in
    let old : HasRoomFor i.pool i.events.room = c.self.invariant in
    subst (HasRoomFor i.pool) (sym c.in_err-keep_room.ensures.err) old

pub returns-clause-ok : goal.returns-clause-ok
returns-clause-ok c =
    let i = c.self.inside in
    let w = c.retire-2.new.self in
    let one = retired-is c.retire.result i.pool c.retire.new.self c.retire.ensures.first c.retire.ensures.rest c.retire.ensures.unchanged in
    let two = retired-is c.retire-2.result c.retire.new.self w c.retire-2.ensures.first c.retire-2.ensures.rest c.retire-2.ensures.unchanged in
    let has = retired-has (the_view i) c.retire.new.self w one two c.retire.ensures.unmarked c.retire-2.ensures.unmarked in
    let sent = subst (λ es. HasFloats (without_note i.pool.lists) (the_view i) (record (the_view i) { pool = w; events = es })) (sym c.in_ok-keep_room.ensures.sent) has in
    subst (λ (m : MachineView). HasFloats (without_note m.pool.lists) m (record (the_view i) { pool = w; events = c.keep_room.new.self.sent })) c.self.view_is sent
