use Rattle.tb_galley.specs.FieldReader.{left_of}
use Rattle.tb_galley.proofs.NameFields.{some_name, no_name}
use Rattle.tb_text.specs.Lines.{fields_of}
use Rattle.tb_galley.proofs.fields.Fields.name.Goals as goal

pub returns-in-Some-name_of : goal.returns-in-Some-name_of
returns-in-Some-name_of c =
    some_name (left_of c.args.self.now) c.in-Some.field.now (fields_of c.in-Some.rest.now) c.in-Some.ensures.fields c.in-Some-name_of.name c.in-Some-name_of.ensures

pub returns-in-None : goal.returns-in-None
returns-in-None c =
    no_name (left_of c.args.self.now) c.in-Some.field.now (fields_of c.in-Some.rest.now) c.in-Some.ensures.fields c.in-None.ensures c.cause_in.result c.cause_in.ensures
