use Rattle.std.proofs.Common.{◌∙◌, ap, pos, ◌==◌, ◌+ℤ◌, ◌-ℤ◌, rules, FitsSigned, w64}
use Rattle.std.specs.Prelude.{if◌then◌else◌}
use Rattle.std.proofs.lemmas.Int.{to_z-of_z}
use Rattle.tb_sheet.specs.Sheet.{rule_room, pair_top}
use Rattle.tb_output.specs.Machine.{MachineView}
use Rattle.tb_output.proofs.Machine.pair_place.Goals as goal

pub returns : goal.returns
returns c =
    let fits : FitsSigned w64 c.place_below.result = search rules in
    let high : FitsSigned w64 c.column_height-height.result = search rules in
    let tall : FitsSigned w64 c.self.inside.params.textheight = search rules in
    let below = simp to_z-of_z at c.place_below.ensures in
    let rule = c.rule_under-rule.ensures.room ∙ (λ i. if c.len.ensures.value i == 0 then pos 0 else rule_room (c.pair_rule.ensures.value i)) in
    let inside = below ∙ (λ i. ((c.self.inside.params.textheight -ℤ c.column_height-height.ensures.value i) +ℤ rule i) +ℤ pos (c.deep_doubles-deep.ensures.value i)) in
    simp to_z-of_z (inside ∙ ap (λ (m : MachineView). pair_top m.params m.pool.lists) c.self.view_is)
