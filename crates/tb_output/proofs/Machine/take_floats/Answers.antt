use Rattle.std.proofs.Common.{sym, subst, FitsSigned, w64, rules}
use Rattle.std.proofs.lemmas.Int.{to_z-of_z}
use Rattle.tb_output.specs.Events.{HasRoomFor}
use Rattle.tb_output.proofs.ColumnPages.FloatMoves.{marks-room}
use Rattle.tb_output.proofs.Machine.take_floats.Goals as goal

-- what is chosen takes no room
pub invariant_of-self : goal.invariant_of-self
invariant_of-self c =
    let i = c.self.inside in
    subst (λ v. HasRoomFor v i.events.room) (sym c.unmark.ensures) (marks-room c.args.from i.pool i.events.room c.self.invariant)

pub returns-in-Ok-clause-shown : goal.returns-in-Ok-clause-shown
returns-in-Ok-clause-shown c =
    let height : FitsSigned w64 c.args.height = search rules in
    simp to_z-of_z at c.in-Ok.ensures.shown
