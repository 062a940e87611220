use Rattle.std.proofs.Common.{◌∙◌}
use Rattle.tb_generator.proofs.NameLemmas.{named}
use Rattle.tb_generator.proofs.LedDigits.{whole-end}
use Rattle.tb_generator.proofs.letter_number.Goals as goal

pub sure_name-requires : goal.sure_name-requires
sure_name-requires c = rw (whole-end c.write_led-start.new.text 6 c.write_led-start.result c.write_led-start.array_long, c.write_led-start.ensures.written) (named c.args.letter c.args.k c.requires.letter c.requires.few)

pub returns : goal.returns
returns c = c.sure_name.ensures ∙ whole-end c.write_led-start.new.text 6 c.write_led-start.result c.write_led-start.array_long ∙ c.write_led-start.ensures.written
