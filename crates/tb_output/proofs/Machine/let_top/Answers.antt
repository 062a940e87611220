use Rattle.std.proofs.Common.{◌≡◌, sym, subst, ap, ◌∙◌, Some}
use Rattle.std.specs.List.{slice_get}
use Rattle.tb_node.specs.declared.Places.{Places}
use Rattle.tb_float.specs.declared.Entry.TheVariants as entries
use Rattle.tb_float.specs.declared.Part.TheVariants as parts
use Rattle.tb_float.specs.Pool.{with_float_at, with_places}
use Rattle.tb_output.specs.contracts.Machine.{the_view}
use Rattle.tb_output.specs.Machine.{MachineView}
use Rattle.tb_output.specs.Text.{with_top}
use Rattle.tb_output.proofs.InText.TextSteps.{set-room}
use Rattle.tb_output.proofs.Machine.let_top.Goals as goal

pub set_places-requires : goal.set_places-requires
set_places-requires c =
    let f = c.args.f.now in
    (f, subst (λ (m : MachineView). slice_get m.pool.lists.current 0 ≡ Some (entries.Float f)) (sym c.self.view_is) c.requires)

-- as many boxes are live as before
pub invariant_of-self : goal.invariant_of-self
invariant_of-self c =
    let i = c.self.inside in
    let f = c.args.f.now in
    let there : slice_get i.pool.lists.current 0 ≡ Some (entries.Float f) = subst (λ (m : MachineView). slice_get m.pool.lists.current 0 ≡ Some (entries.Float f)) (sym c.self.view_is) c.requires in
    set-room (with_places c.top_too.result f) i.pool c.set_places.new.self i.events.room (c.set_places.ensures.set f there) c.self.invariant

pub returns : goal.returns
returns c =
    let i = c.self.inside in
    let f = c.args.f.now in
    let there : slice_get i.pool.lists.current 0 ≡ Some (entries.Float f) = subst (λ (m : MachineView). slice_get m.pool.lists.current 0 ≡ Some (entries.Float f)) (sym c.self.view_is) c.requires in
    (λ j. record (the_view i) { pool = c.set_places.ensures.set f there j })
    ∙ ap (λ (p : Places). record (the_view i) { pool = with_float_at parts.Current 0 (with_places p f) i.pool }) c.top_too.ensures
    ∙ ap (λ (m : MachineView). record m { pool = with_float_at parts.Current 0 (with_top f) m.pool }) c.self.view_is
