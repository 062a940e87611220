use Rattle.std.proofs.Common.{◌∷◌, [], sym, ap, ◌∙◌}
use Rattle.tb_fpage.specs.Company.{Choice}
use Rattle.tb_told.specs.declared.ToldColumn.TheVariants.{Takes}
use Rattle.tb_told.specs.ColumnPieces.{taken_told}
use Rattle.tb_told.proofs.CompanyLemmas.{none-told, ok-same, taken-none, taken-one}
use Rattle.tb_told.proofs.company.tell_if_taken.Goals as goal

pub returns-then-not-choice : goal.returns-then-not-choice
returns-then-not-choice c = none-told c.args.pieces.now.items _ (taken-none c.args.choice.now (ap (λ (y : Choice). y.chosen) (sym c.choice.view_is) ∙ c.if-not-choice.true))

pub returns : goal.returns
returns c =
    let x = c.args.choice.now in
    ok-same c.tell.result c.args.pieces.now.items c.tell.new.pieces.items (Takes c.choice.inside.float ∷ []) (taken_told (x ∷ []))
    (ap (λ (y : Choice). Takes y.float ∷ []) c.choice.view_is ∙ taken-one x (ap (λ (y : Choice). y.chosen) (sym c.choice.view_is) ∙ c.if-not-choice.false)) c.tell.ensures
