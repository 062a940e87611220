use Rattle.std.proofs.Common.{◌≡◌, ◌∙◌, sym, arith}
use Rattle.std.specs.List.{prefix_len}
use Rattle.std.proofs.lemmas.Bool.Decides.{nat_tests}
use Rattle.tb_text.specs.Lines.{is_mark}
use Rattle.tb_text.proofs.FirstAmount.{plain_amount, points_amount, behind_blanks}
use Rattle.tb_text.proofs.amount.amount_before.Goals as goal

pub returns-then-ends_field : goal.returns-then-ends_field
returns-then-ends_field c line first =
    let ends : prefix_len is_mark c.args.rest.now ≡ 0 = grind (arith, nat_tests, sym c.ends_field.ensures ∙ c.if-ends_field.true) in
    behind_blanks line c.args.number c.args.rest.now first _ _ (plain_amount first.text c.args.number c.args.rest.now first.front ends)

pub returns-in-Some : goal.returns-in-Some
returns-in-Some c line first =
    behind_blanks line c.args.number c.args.rest.now first _ _ (points_amount first.text c.args.number c.args.rest.now first.front (omega arith) c.in-Some.after.now c.in-Some.ensures.0 c.in-Some.ensures.1)
