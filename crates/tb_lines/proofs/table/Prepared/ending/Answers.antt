use Rattle.std.proofs.Common.{◌≡◌, refl, ap, ◌∙◌, rules, FitsSigned, w16, w64, to_z, of_z}
use Rattle.std.proofs.lemmas.Int.{to_z-of_z}
use Rattle.tb_lines.specs.Demerits.{penalty_demerits}
use Rattle.tb_lines.proofs.RunLemmas.{line_penalty}
use Rattle.tb_lines.proofs.table.Prepared.ending.Goals as goal

pub returns-clause-value : goal.returns-clause-value
returns-clause-value c =
    let f : FitsSigned w64 c.penalty_demerits.result = search rules in
    let g : FitsSigned w16 c.entry_penalty.result = search rules in
    let same : to_z w64 (of_z w64 c.penalty_demerits.result) ≡ c.penalty_demerits.result = simp to_z-of_z refl in
    let v = simp to_z-of_z at c.penalty_demerits.ensures.value in
    same ∙ v ∙ ap penalty_demerits (line_penalty c.args.self.now.entries.now c.args.to _ c.entry_penalty.result c.requires.inside c.entry_penalty.ensures)
