use Rattle.std.proofs.Common.{FitsSigned, List, append_assoc, codes, refl, rules, w64, ℕ, ◌++◌, ◌≡◌}
use Rattle.std.proofs.lemmas.Int.{to_z-of_z}
use Rattle.tb_text.specs.Fields.{and_number, and_count}
use Rattle.tb_text.proofs.FrontLemmas.{cut, cut-in, cut-after, fails, on_joined}
use Rattle.tb_told.specs.declared.Counted.{Counted}
use Rattle.tb_told.specs.Lines.{count_text}
use Rattle.tb_told.proofs.fields.put_counted.Goals as goal

-- the parts, one after another
joined : (a b d e : List ℕ) → (a ++ b) ++ (d ++ e) ≡ a ++ b ++ d ++ e
joined a b d e = simp append_assoc

-- those of the text
parts : (t : Counted) → (codes " count" ++ and_number t.number) ++ (and_count t.used ++ and_number t.left) ≡ count_text t
parts t = joined (codes " count") (and_number t.number) (and_count t.used) (and_number t.left)

pub returns-in_err-put_measure : goal.returns-in_err-put_measure
returns-in_err-put_measure c =
    let a : FitsSigned w64 c.args.count.now.number = search rules in
    fails _ _ _ _ c.from_residual.ensures.0 (cut-in _ _ (parts c.args.count.now) (simp to_z-of_z at c.in_err-put_measure.ensures))

pub returns-in_err-put_count : goal.returns-in_err-put_count
returns-in_err-put_count c =
    let a : FitsSigned w64 c.args.count.now.number = search rules in
    fails _ _ _ _ c.from_residual-in_err-put_count.ensures.0 (cut-after _ _ (parts c.args.count.now) (simp to_z-of_z at c.in_ok-put_measure.ensures) (cut _ c.in_err-put_count.ensures))

pub returns : goal.returns
returns c =
    let a : FitsSigned w64 c.args.count.now.number = search rules in
    let b : FitsSigned w64 c.args.count.now.left = search rules in
    on_joined c.put_amount.result c.args.out.now.items c.put_measure.new.out.items c.put_amount.new.out.items _ _ _ (parts c.args.count.now) (simp to_z-of_z at c.in_ok-put_measure.ensures)
    (on_joined c.put_amount.result c.put_measure.new.out.items c.put_count.new.out.items c.put_amount.new.out.items _ _ _ refl c.in_ok-put_count.ensures (simp to_z-of_z at c.put_amount.ensures))
