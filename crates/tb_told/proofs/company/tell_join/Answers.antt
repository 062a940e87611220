use Rattle.std.proofs.Common.{◌∷◌, [], sym, ap, ◌∙◌}
use Rattle.std.specs.Bool.{beq}
use Rattle.tb_fpage.specs.Company.{Choice}
use Rattle.tb_told.specs.declared.ToldColumn.TheVariants.{Joins}
use Rattle.tb_told.specs.ColumnTold.{joins_told}
use Rattle.tb_told.specs.ColumnPieces.{told_choices}
use Rattle.tb_told.proofs.CompanyLemmas.{none-told, ok-same, of-width, of-other}
use Rattle.tb_told.proofs.company.tell_join.Goals as goal

pub returns-then-not-is_of_width : goal.returns-then-not-is_of_width
returns-then-not-is_of_width c =
    let z = c.args.wanted.now in
    none-told c.args.pieces.now.items _ (of-other z c.args.before.now c.args.choice.now (ap (λ (y : Choice). beq y.float.wide z.wide) (sym c.choice.view_is) ∙ sym c.is_of_width.ensures ∙ c.if-not-is_of_width.true))

pub returns : goal.returns
returns c =
    let z = c.args.wanted.now in
    let x = c.args.choice.now in
    let before = c.args.before.now in
    let f = c.choice.inside.float in
    let wide = ap (λ (y : Choice). beq y.float.wide z.wide) (sym c.choice.view_is) ∙ sym c.is_of_width.ensures ∙ c.if-not-is_of_width.false in
    ok-same c.tell.result c.args.pieces.now.items c.tell.new.pieces.items (Joins f c.joining-told.result ∷ []) (told_choices z before (x ∷ []))
    (ap (λ t. Joins f t ∷ []) c.joining-told.ensures ∙ ap (λ (y : Choice). Joins y.float (joins_told z before y.float) ∷ []) c.choice.view_is ∙ of-width z before x wide) c.tell.ensures
