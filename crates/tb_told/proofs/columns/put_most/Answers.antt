use Rattle.std.proofs.Common.{FitsSigned, List, append_assoc, codes, w64, ℕ, ℤ, ◌++◌, ◌≡◌}
use Rattle.std.proofs.lemmas.Int.{to_z-of_z}
use Rattle.tb_text.specs.Fields.{and_number}
use Rattle.tb_text.proofs.FrontLemmas.{cut-in, fails, on_joined}
use Rattle.tb_told.proofs.columns.put_most.Goals as goal

-- the parts, one after another
joined : (a b d e : List ℕ) → (a ++ b) ++ (d ++ e) ≡ a ++ b ++ d ++ e
joined a b d e = simp append_assoc

-- those of the text
parts : (sum most : ℤ) → (codes " sum" ++ and_number sum) ++ (codes " most" ++ and_number most) ≡ codes " sum" ++ and_number sum ++ codes " most" ++ and_number most
parts sum most = joined (codes " sum") (and_number sum) (codes " most") (and_number most)

pub returns-in_err-put_sum : goal.returns-in_err-put_sum
returns-in_err-put_sum c =
    fails _ _ _ _ c.from_residual.ensures.0 (cut-in _ _ (parts c.args.sum.now c.args.most) c.in_err-put_sum.ensures)

pub returns : goal.returns
returns c =
    let b : FitsSigned w64 c.args.most = c.ranges.most in
    on_joined c.put_measure.result c.args.out.now.items c.put_sum.new.out.items c.put_measure.new.out.items _ _ _ (parts c.args.sum.now c.args.most) c.in_ok-put_sum.ensures (simp to_z-of_z at c.put_measure.ensures)
