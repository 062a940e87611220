use Rattle.std.proofs.Common.{◌≡◌, ◌∙◌, ap, sym, true, Err, rules, if◌then◌else◌}
use Rattle.std.specs.List.{list_all}
use Rattle.tb_galley.specs.declared.Cause.TheVariants as causes
use Rattle.tb_galley.specs.Faults.{is_printable}
use Rattle.tb_galley.specs.FieldReader.{at_fault, least_left}
use Rattle.tb_galley.proofs.VisibleFields.{dimension_visible}
use Rattle.tb_galley.proofs.DimensionFields.{not_read}
use Rattle.tb_galley.proofs.fields.Fields.decimal_from.Goals as goal

pub returns-in-Ok : goal.returns-in-Ok
unfolding least_left
returns-in-Ok c =
    let visible : list_all is_printable c.in-Some.field.now ≡ true = dimension_visible c.in-Some.field.now c.in-Ok.value (sym c.in-Ok.ensures) in
    search rules

pub returns-in-Ok-2 : goal.returns-in-Ok-2
unfolding least_left
returns-in-Ok-2 c =
    let visible : list_all is_printable c.in-Some.field.now ≡ true = dimension_visible c.in-Some.field.now c.in-Ok.value (sym c.in-Ok.ensures) in
    search rules

pub returns-in-Err : goal.returns-in-Err
returns-in-Err c = not_read c.args.low c.args.cause _ c.in-Some.field.now _ c.in-Err.fault c.in-Some.ensures.fields (sym c.in-Err.ensures) ∙ ap (at_fault c.args.self.now.number) (ap (λ k. if list_all is_printable c.in-Some.field.now then k else causes.NotAscii) (sym c.text_cause.ensures) ∙ sym c.cause_in.ensures) ∙ ap Err (sym c.new-in-Err.ensures)
