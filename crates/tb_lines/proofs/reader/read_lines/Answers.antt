use Rattle.std.proofs.Common.{sym, ◌∙◌}
use Rattle.tb_lines.proofs.ValidTexts.{reading_valid}
use Rattle.tb_lines.proofs.reader.read_lines.Goals as goal

pub returns-in-Ok-Ok-clause-valid : goal.returns-in-Ok-Ok-clause-valid
returns-in-Ok-Ok-clause-valid c = reading_valid c.args.bytes.now c.in-Ok-Ok.text (sym c.in-Ok-Ok.ensures ∙ c.in-Ok-Ok.field-0-is)
