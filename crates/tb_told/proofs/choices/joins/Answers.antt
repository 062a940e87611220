use Rattle.std.proofs.Common.{sym, ap, ◌∙◌}
use Rattle.tb_told.specs.declared.Joining.{Joining}
use Rattle.tb_told.specs.Tested.{is_yes}
use Rattle.tb_told.proofs.ChoiceLemmas.{none-is-yes, joins-wide, joins-other}
use Rattle.tb_told.proofs.choices.joins.Goals as goal

pub returns-then-not-is_of_width : goal.returns-then-not-is_of_width
returns-then-not-is_of_width c = sym (joins-other c.args.wanted.now c.args.before.now c.args.f.now (sym c.is_of_width.ensures ∙ c.if-not-is_of_width.true))

pub returns : goal.returns
returns c =
    none-is-yes c.joining.result.failed c.is_none.result c.is_none.ensures
    ∙ ap (λ (u : Joining). is_yes u.failed) c.joining.ensures
    ∙ joins-wide c.args.wanted.now c.args.before.now c.args.f.now (sym c.is_of_width.ensures ∙ c.if-not-is_of_width.false)
