use Rattle.std.proofs.Common.{◌≡◌, sym, subst, ◌∙◌, ap, true, None, FitsSigned, w64, to_z, of_z, rules, arith}
use Rattle.std.specs.Prelude.{ℤ}
use Rattle.std.proofs.lemmas.Int.{to_z-of_z, ints}
use Rattle.tb_scaled.specs.Scaled.{fraction_of}
use Rattle.tb_float.specs.Lists.{floats_of, wide_part, wide_waiting}
use Rattle.tb_float.specs.Ranges.{IsExtent, IsWithin}
use Rattle.tb_fpage.specs.Company.{company, wanted_of}
use Rattle.tb_fpage.specs.Choice.{IsChosen}
use Rattle.tb_output.specs.Pages.{wide_wanted}
use Rattle.tb_output.specs.Machine.{MachineView, AreOutputParams}
use Rattle.tb_output.specs.contracts.Machine.{the_view}
use Rattle.tb_output.proofs.Clears.CompanyLemmas.{chosen-room, pool-same}
use Rattle.tb_output.proofs.Machine.choose_wide.Goals.{After-choose}
use Rattle.tb_output.proofs.Machine.choose_wide.Goals as goal

pub invariant_of-self : goal.invariant_of-self
invariant_of-self c =
    let i = c.self.inside in
    chosen-room c.choose.result _ _ i.pool c.choose.new.pool i.events.room c.choose.ensures.chosen c.choose.ensures.unchanged c.self.invariant

-- a height is far below that bound
extent-within : (z : ℤ) → IsExtent z → IsWithin 35184372088832 z
extent-within z h = let low = h.low in let high = h.high in record { low = omega (arith, ints); high = omega (arith, ints) }

pub share_of-minimum-requires-clause-amount : goal.share_of-minimum-requires-clause-amount
share_of-minimum-requires-clause-amount c =
    let i = c.self.inside in
    let params : AreOutputParams i.params = subst (λ (m : MachineView). AreOutputParams m.params) (sym c.self.view_is) c.requires.params in
    let high : FitsSigned w64 i.params.textheight = search (rules, ints, params.columns.floats.textheight) in
    rw to_z-of_z (extent-within i.params.textheight params.columns.floats.textheight)

-- what is wanted of the floats
wanted_is : (c : After-choose) → (let i = c.self.inside in wanted_of (to_z w64 (of_z w64 i.params.textheight)) (to_z w64 (of_z w64 c.share_of-minimum.result)) (to_z w64 (of_z w64 i.params.dblfpsep.width)) c.args.clearing true ≡ wide_wanted i.params c.args.clearing)
wanted_is c =
    let i = c.self.inside in
    let params : AreOutputParams i.params = subst (λ (m : MachineView). AreOutputParams m.params) (sym c.self.view_is) c.requires.params in
    let high : FitsSigned w64 i.params.textheight = search (rules, ints, params.columns.floats.textheight) in
    let least : FitsSigned w64 c.share_of-minimum.result = search rules in
    let sep : FitsSigned w64 i.params.dblfpsep.width = search (rules, ints, params.columns.dblfpsep.width) in
    let share : FitsSigned w64 i.params.dblfloatpagefraction = search (rules, ints, params.dblfloatpagefraction) in
    let minimum : c.share_of-minimum.result ≡ fraction_of i.params.dblfloatpagefraction i.params.textheight = simp to_z-of_z at c.share_of-minimum.ensures.value in
    simp to_z-of_z (ap (λ n. wanted_of i.params.textheight n i.params.dblfpsep.width c.args.clearing true) minimum)

pub returns-clause-chosen : goal.returns-clause-chosen
returns-clause-chosen c = λ t.
    let wanted = wanted_is (goal.at.returns-clause-chosen c).After-choose in
    subst (λ (m : MachineView). IsChosen (wide_wanted m.params c.args.clearing) (wide_part m.params) m.pool c.choose.new.pool) c.self.view_is
    (subst (λ from. IsChosen (wide_wanted c.self.inside.params c.args.clearing) from c.self.inside.pool c.choose.new.pool) c.wide_part-from.ensures.value
    (subst (λ z. IsChosen z c.wide_part-from.result c.self.inside.pool c.choose.new.pool) wanted (c.choose.ensures.chosen t)))

pub returns-clause-none : goal.returns-clause-none
returns-clause-none c = λ t.
    let i = c.self.inside in
    let wanted = wanted_is (goal.at.returns-clause-none c).After-choose in
    record {
      none = subst (λ (m : MachineView). company (wide_wanted m.params c.args.clearing) (wide_waiting m.params m.pool.lists) ≡ None) c.self.view_is
          (sym (λ j. company (wanted j) (floats_of (c.wide_part-from.ensures.value j) i.pool.lists)) ∙ c.choose.ensures.none t);
      machine = pool-same (the_view i) c.choose.new.pool (c.choose.ensures.unchanged t) ∙ c.self.view_is;
    }
