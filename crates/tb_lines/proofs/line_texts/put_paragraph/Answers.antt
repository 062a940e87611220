use Rattle.std.proofs.Common.{sym, ap, ◌∙◌, subst, length}
use Rattle.tb_lines.specs.Entries.{list_of}
use Rattle.tb_lines.specs.LineText.{AreWithin}
use Rattle.tb_lines.proofs.WriteSteps.{least_within}
use Rattle.tb_lines.proofs.line_texts.put_paragraph.Goals as goal

pub line_sizes-requires : goal.line_sizes-requires
line_sizes-requires c =
    let items = c.args.paragraph.now.items in
    let entries = c.as_slice-2.ensures.value ∙ c.in_ok-entries.ensures ∙ ap list_of c.as_slice.ensures.items in
    subst (λ es. AreWithin 0 (length es) c.breaks.result.now) (sym entries) (subst (λ js. AreWithin 0 (length (list_of items)) js) (sym c.breaks.ensures) (least_within c.args.params.now items c.args.solution.now c.requires))
