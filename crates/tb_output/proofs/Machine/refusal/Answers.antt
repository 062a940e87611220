use Rattle.std.proofs.Common.{ap, sym, ◌∙◌, true, false, FitsSigned, w64, rules}
use Rattle.std.proofs.lemmas.Int.{to_z-of_z}
use Rattle.tb_output.specs.Machine.{MachineView}
use Rattle.tb_output.proofs.Firings.FireLemmas.{refusal-is}
use Rattle.tb_output.proofs.Machine.refusal.Goals as goal

pub returns-then-not-is_below : goal.returns-then-not-is_below
returns-then-not-is_below c =
    let fits : FitsSigned w64 c.self.inside.params.maxdeadcycles = search rules in
    refusal-is c.args.self.now false c.self.inside.fault c.self.inside.dead_cycles c.self.inside.params.maxdeadcycles
    (ap (λ (m : MachineView). m.fault) c.self.view_is) (ap (λ (m : MachineView). m.dead_cycles) c.self.view_is) (ap (λ (m : MachineView). m.params.maxdeadcycles) c.self.view_is)
    (sym c.is_some.ensures ∙ c.if-is_some.false) (sym (simp to_z-of_z at c.is_below.ensures) ∙ c.if-not-is_below.true)

pub returns : goal.returns
returns c =
    let fits : FitsSigned w64 c.self.inside.params.maxdeadcycles = search rules in
    refusal-is c.args.self.now true c.self.inside.fault c.self.inside.dead_cycles c.self.inside.params.maxdeadcycles
    (ap (λ (m : MachineView). m.fault) c.self.view_is) (ap (λ (m : MachineView). m.dead_cycles) c.self.view_is) (ap (λ (m : MachineView). m.params.maxdeadcycles) c.self.view_is)
    (sym c.is_some.ensures ∙ c.if-is_some.false) (sym (simp to_z-of_z at c.is_below.ensures) ∙ c.if-not-is_below.false)
