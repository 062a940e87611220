use Rattle.std.proofs.Common.{◌≡◌, ◌∙◌, sym, true, arith}
use Rattle.std.specs.List.{prefix_len}
use Rattle.std.proofs.lemmas.Bool.Decides.{nat_tests}
use Rattle.tb_text.specs.Lines.{is_mark}
use Rattle.tb_text.specs.Numbers.{is_digit}
use Rattle.tb_text.proofs.FirstAmount.{digit_amount}
use Rattle.tb_text.proofs.amount.digit_points.Goals as goal

pub returns-in-Some : goal.returns-in-Some
returns-in-Some c =
    let ends : prefix_len is_mark c.in-Some.rest.now ≡ 0 = grind (arith, nat_tests, sym c.ends_field.ensures ∙ c.if-ends_field.true) in
    let digit : is_digit c.in-Some.byte ≡ true = sym c.is_digit.ensures ∙ c.if-is_digit.true in
    rw c.from.ensures (digit_amount c.in-Some.byte c.in-Some.rest.now digit c.args.line.now c.in-Some.ensures ends)
