use Rattle.std.proofs.Common.{◌∙◌, ap, sym, Err}
use Rattle.tb_text.specs.Lines.{fields_of}
use Rattle.tb_param.specs.Table.{named}
use Rattle.tb_galley.specs.FieldReader.{left_of}
use Rattle.tb_galley.proofs.ParameterFields.{no_field_left, some_parameter, no_parameter}
use Rattle.tb_galley.proofs.fields.Fields.parameter.Goals as goal

pub returns-in_default : goal.returns-in_default
returns-in_default c = no_field_left c.args.version (left_of c.args.self.now) c.in_default.ensures.fields ∙ ap Err (sym c.no_field.ensures)

pub returns-in-Some-row_for : goal.returns-in-Some-row_for
returns-in-Some-row_for c =
    some_parameter c.args.version (left_of c.args.self.now) c.in-Some.name.now (fields_of c.in-Some.rest.now) c.in-Some.ensures.fields
    (named c.in-Some-row_for.field-0-0.now c.in-Some-row_for.field c.in-Some-row_for.form) (sym c.in-Some-row_for.ensures)

pub returns-in-None : goal.returns-in-None
returns-in-None c =
    no_parameter c.args.version (left_of c.args.self.now) c.in-Some.name.now (fields_of c.in-Some.rest.now) c.in-Some.ensures.fields
    (sym c.in-None.ensures) c.cause_in.result c.cause_in.ensures
