use Rattle.std.proofs.Common.{◌∙◌, sym, ap, drop}
use Rattle.tb_generator.proofs.push_led.Goals as goal

pub push_named-requires-clause-name : goal.push_named-requires-clause-name
push_named-requires-clause-name c = ap (λ s. drop s c.args.text.now) (sym c.in-0.is) ∙ c.requires.name
