use Rattle.std.proofs.Common.{◌≡◌, sym, subst, Some}
use Rattle.std.specs.List.{slice_get}
use Rattle.tb_float.specs.declared.Entry.TheVariants as entries
use Rattle.tb_output.specs.contracts.Machine.{the_view}
use Rattle.tb_output.specs.Machine.{MachineView}
use Rattle.tb_output.specs.MachineFrame.{HasFloats}
use Rattle.tb_output.specs.FloatMoves.{joined_to}
use Rattle.tb_output.specs.FiringParts.{place_of, without_first}
use Rattle.tb_output.proofs.InText.TextSteps.{column-apart, moved-has, moved-room}
use Rattle.tb_output.proofs.Machine.move_first.Goals as goal

pub move_to-requires-clause-apart : goal.move_to-requires-clause-apart
move_to-requires-clause-apart c = column-apart c.args.to c.requires.column

-- the float moves, and as many boxes are live as before
pub invariant_of-self : goal.invariant_of-self
invariant_of-self c =
    let i = c.self.inside in
    let f = c.requires.first.0 in
    let there : slice_get i.pool.lists.current 0 ≡ Some (entries.Float f) = subst (λ (m : MachineView). slice_get m.pool.lists.current 0 ≡ Some (entries.Float f)) (sym c.self.view_is) c.requires.first.1 in
    moved-room c.args.to f i.pool c.move_to.new.self i.events.room c.requires.column there (c.move_to.ensures.moved f there) c.self.invariant

pub returns : goal.returns
returns c = λ f is.
    let i = c.self.inside in
    let there : slice_get i.pool.lists.current 0 ≡ Some (entries.Float f) = subst (λ (m : MachineView). slice_get m.pool.lists.current 0 ≡ Some (entries.Float f)) (sym c.self.view_is) is in
    subst (λ (m : MachineView). HasFloats (joined_to (place_of c.args.to) f (without_first m.pool.lists)) m (record (the_view i) { pool = c.move_to.new.self })) c.self.view_is
    (moved-has c.args.to f (the_view i) c.move_to.new.self c.requires.column (c.move_to.ensures.moved f there) c.move_to.ensures.unmarked)
