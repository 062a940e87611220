use Rattle.std.proofs.Common.{◌≡◌, ◌∙◌, rules, ap, ap₂, Some}
use Rattle.std.specs.Prelude.{pos}
use Rattle.std.proofs.lemmas.Result.{IfOk-weaker}
use Rattle.clap.specs.Words.{app_of, new_app, rule_of, with_rule}
use Rattle.clap.specs.declared.builder.value_parser.ValueParser.TheVariants.{Signed}
use Rattle.tb_words.specs.Words.{mode_option, count_option}
use Rattle.tb_words.proofs.command.Goals as goal

pub returns : goal.returns
returns c =
    let mode_is : rule_of c.default_value-mode.result ≡ mode_option = search rules in
    let given = c.value_parser.ensures.given in
    let parser : c.value_parser.result.value_parser ≡ Some (Signed (pos 1) (pos 40000)) = given.1 ∙ ap Some (given.2 ∙ c.signed.ensures) in
    let count_is : rule_of c.default_value-count.result ≡ count_option = search rules in
    let first : app_of c.in_ok-arg.field-0 ≡ with_rule (new_app _) mode_option = c.in_ok-arg.ensures.shape (search rules) ∙ ap₂ with_rule c.new-3.ensures.app mode_is in
    IfOk-weaker c.arg-2.result _ _ (λ r h. h.shape (search rules) ∙ ap₂ with_rule first count_is) c.arg-2.ensures
