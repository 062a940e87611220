use Rattle.std.proofs.Common.{refl, sym, subst, ◌-◌, ◌≤◌, rules, arith}
use Rattle.tb_output.specs.Machine.{MachineView}
use Rattle.tb_output.specs.PageChanges.{IsFull}
use Rattle.tb_output.proofs.Machine.ship.Goals as goal

-- as many pages were shipped as are allowed
pub returns-then-exceeds-clause-err : goal.returns-then-exceeds-clause-err
returns-then-exceeds-clause-err c =
    let first : 1 ≤ c.self.inside.page = subst (λ (m : MachineView). 1 ≤ m.page) (sym c.self.view_is) c.requires.first in
    subst (λ (m : MachineView). IsFull (c.self.inside.page - 1) m m) c.self.view_is (record { full = search rules; pages = omega (arith, first); machine = refl })
