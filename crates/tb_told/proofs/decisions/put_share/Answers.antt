use Rattle.std.proofs.Common.{FitsSigned, List, append_assoc, codes, w64, ℕ, ℤ, ◌++◌, ◌≡◌}
use Rattle.std.proofs.lemmas.Int.{to_z-of_z}
use Rattle.tb_text.specs.Fields.{and_number}
use Rattle.tb_text.proofs.FrontLemmas.{cut-in, fails, on_joined}
use Rattle.tb_told.proofs.decisions.put_share.Goals as goal

-- the parts, one after another
joined : (a b d e : List ℕ) → (a ++ b) ++ (d ++ e) ≡ a ++ b ++ d ++ e
joined a b d e = simp append_assoc

-- those of the text
parts : (share high : ℤ) → (codes " share" ++ and_number share) ++ (codes " high" ++ and_number high) ≡ codes " share" ++ and_number share ++ codes " high" ++ and_number high
parts share high = joined (codes " share") (and_number share) (codes " high") (and_number high)

pub returns-in_err-put_measure : goal.returns-in_err-put_measure
returns-in_err-put_measure c =
    let a : FitsSigned w64 c.args.share = c.ranges.share in
    fails _ _ _ _ c.from_residual.ensures.0 (cut-in _ _ (parts c.args.share c.args.high) (simp to_z-of_z at c.in_err-put_measure.ensures))

pub returns : goal.returns
returns c =
    let a : FitsSigned w64 c.args.share = c.ranges.share in
    let b : FitsSigned w64 c.args.high = c.ranges.high in
    on_joined c.put_measure-2.result c.args.out.now.items c.put_measure.new.out.items c.put_measure-2.new.out.items _ _ _ (parts c.args.share c.args.high) (simp to_z-of_z at c.in_ok-put_measure.ensures) (simp to_z-of_z at c.put_measure-2.ensures)
