use Rattle.std.proofs.Common.{sym, ap, ◌∙◌, List, append_assoc, codes, ℕ, ◌++◌, ◌≡◌}
use Rattle.tb_text.specs.Fields.{and_count}
use Rattle.tb_text.proofs.FrontLemmas.{cut-in, fails, on_joined}
use Rattle.tb_told.specs.declared.Spot.{Spot}
use Rattle.tb_told.specs.Lines.{column_number, spot_text}
use Rattle.tb_told.proofs.places.put_spot.Goals as goal
use Rattle.tb_told.proofs.places.put_spot.Goals.{then-at, else-at}

-- the parts, one after another
joined : (a b d e : List ℕ) → (a ++ b) ++ (d ++ e) ≡ a ++ b ++ d ++ e
joined a b d e = simp append_assoc

-- those of the text
parts : (at : Spot) → (codes " page" ++ and_count at.page) ++ (codes " column" ++ and_count (column_number at.second)) ≡ spot_text at
parts at = joined (codes " page") (and_count at.page) (codes " column") (and_count (column_number at.second))

pub returns-in_err-put_total : goal.returns-in_err-put_total
returns-in_err-put_total c =
    fails _ _ _ _ c.from_residual.ensures.0 (cut-in _ _ (parts c.args.at.now) c.in_err-put_total.ensures)

pub returns : goal.returns
returns c =
    let number : c.if-at.put_total ≡ column_number c.args.at.now.second =
    elim c.if-at.branch [ then-at w ↦ w.put_total-is ∙ sym (ap column_number w.if-at.true) | else-at w ↦ w.put_total-is ∙ sym (ap column_number w.if-at.false) ] in
    on_joined c.put_total-2.result c.args.out.now.items c.put_total.new.out.items c.put_total-2.new.out.items _ _ _ (parts c.args.at.now) c.in_ok-put_total.ensures (rw number at c.put_total-2.ensures)
