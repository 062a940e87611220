use Rattle.std.proofs.Common.{ap, ◌∙◌}
use Rattle.tb_text.specs.Lines.{fields_of}
use Rattle.tb_galley.proofs.NearWords.{minus_is_first}
use Rattle.tb_galley.proofs.glue_words.after_minus.Goals as goal

pub returns-in-Some-clause-fields : goal.returns-in-Some-clause-fields
returns-in-Some-clause-fields c = ap fields_of c.in-Some.ensures.0 ∙ minus_is_first c.in-Some.rest.now c.in-Some.ensures.1
