use Rattle.std.proofs.Common.{◌≡◌, sym, subst, ◌∙◌, ap, false, None, FitsSigned, w64, to_z, of_z, rules}
use Rattle.std.proofs.lemmas.Int.{to_z-of_z, ints}
use Rattle.tb_scaled.specs.Scaled.{fraction_of}
use Rattle.tb_float.specs.declared.Part.TheVariants as parts
use Rattle.tb_float.specs.Rooms.{column_height_of}
use Rattle.tb_fpage.specs.declared.Wanted.{Wanted}
use Rattle.tb_fpage.specs.Company.{company, wanted_of}
use Rattle.tb_fpage.specs.Choice.{IsChosen}
use Rattle.tb_output.specs.Columns.{single_wanted}
use Rattle.tb_output.specs.Machine.{MachineView, AreOutputParams}
use Rattle.tb_output.specs.contracts.Machine.{the_view}
use Rattle.tb_output.proofs.Clears.CompanyLemmas.{chosen-room, pool-same}
use Rattle.tb_output.proofs.Machine.choose_column.Goals.{After-choose}
use Rattle.tb_output.proofs.Machine.choose_column.Goals as goal

pub invariant_of-self : goal.invariant_of-self
invariant_of-self c =
    let i = c.self.inside in
    chosen-room c.choose.result _ _ i.pool c.choose.new.pool i.events.room c.choose.ensures.chosen c.choose.ensures.unchanged c.self.invariant

-- what is wanted of the floats
wanted_is : (c : After-choose) → (let i = c.self.inside in wanted_of (to_z w64 (of_z w64 c.args.height)) (to_z w64 (of_z w64 c.share_of-minimum.result)) (to_z w64 (of_z w64 i.params.fpsep.width)) c.args.clearing false ≡ single_wanted i.params i.pool.lists c.args.clearing)
wanted_is c =
    let i = c.self.inside in
    let params : AreOutputParams i.params = subst (λ (m : MachineView). AreOutputParams m.params) (sym c.self.view_is) c.requires.params in
    let high : FitsSigned w64 c.args.height = search rules in
    let least : FitsSigned w64 c.share_of-minimum.result = search rules in
    let sep : FitsSigned w64 i.params.fpsep.width = search (rules, ints, params.columns.fpsep.width) in
    let share : FitsSigned w64 i.params.floatpagefraction = search (rules, ints, params.floatpagefraction) in
    let height : c.args.height ≡ column_height_of i.params i.pool.lists = subst (λ (m : MachineView). c.args.height ≡ column_height_of m.params m.pool.lists) (sym c.self.view_is) c.requires.height in
    let minimum : c.share_of-minimum.result ≡ fraction_of i.params.floatpagefraction c.args.height = simp to_z-of_z at c.share_of-minimum.ensures.value in
    simp to_z-of_z (λ j. wanted_of (height j) ((minimum ∙ ap (fraction_of i.params.floatpagefraction) height) j) i.params.fpsep.width c.args.clearing false)

pub returns-clause-chosen : goal.returns-clause-chosen
returns-clause-chosen c = λ t.
    let wanted = wanted_is (goal.at.returns-clause-chosen c).After-choose in
    subst (λ (m : MachineView). IsChosen (single_wanted m.params m.pool.lists c.args.clearing) parts.Deferred m.pool c.choose.new.pool) c.self.view_is
    (subst (λ (z : Wanted). IsChosen z parts.Deferred c.self.inside.pool c.choose.new.pool) wanted (c.choose.ensures.chosen t))

pub returns-clause-none : goal.returns-clause-none
returns-clause-none c = λ t.
    let i = c.self.inside in
    let wanted = wanted_is (goal.at.returns-clause-none c).After-choose in
    record {
      none = subst (λ (m : MachineView). company (single_wanted m.params m.pool.lists c.args.clearing) m.pool.lists.deferred ≡ None) c.self.view_is (sym (ap (λ (z : Wanted). company z i.pool.lists.deferred) wanted) ∙ c.choose.ensures.none t);
      machine = pool-same (the_view i) c.choose.new.pool (c.choose.ensures.unchanged t) ∙ c.self.view_is;
    }
