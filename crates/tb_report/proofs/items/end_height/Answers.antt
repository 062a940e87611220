use Rattle.std.proofs.Common.{FitsSigned, List, [], append_assoc, refl, subst, w64, ℕ, ◌++◌, ◌∷◌, ◌≡◌}
use Rattle.std.specs.Int.{w128}
use Rattle.std.proofs.lemmas.Int.{to_z-of_z}
use Rattle.tb_text.specs.Fields.{and_number}
use Rattle.tb_text.specs.Fronts.{PutsFront, PutsAfter}
use Rattle.tb_text.proofs.FrontLemmas.{cut, fails, on_joined, past}
use Rattle.tb_report.proofs.items.end_height.Goals as goal

-- the parts, one after another
joined : (a b d : List ℕ) → a ++ (b ++ d) ≡ (a ++ b) ++ d
joined a b d = simp append_assoc

pub returns-in_err-put_field : goal.returns-in_err-put_field
returns-in_err-put_field c =
    let ft : FitsSigned w128 c.args.top = c.ranges.top in
    let fh : FitsSigned w64 c.args.height = c.ranges.height in
    fails _ _ _ _ c.from_residual.ensures.0 (subst (λ (t : List ℕ). PutsFront c.args.out.now.items t c.put_field.new.out.items) (joined (and_number c.args.top) (and_number c.args.height) (10 ∷ []))
    (cut (and_number c.args.height ++ 10 ∷ []) (simp to_z-of_z at c.in_err-put_field.ensures)))

pub returns-in_err-put_amount : goal.returns-in_err-put_amount
returns-in_err-put_amount c =
    let ft : FitsSigned w128 c.args.top = c.ranges.top in
    let fh : FitsSigned w64 c.args.height = c.ranges.height in
    fails _ _ _ _ c.from_residual-in_err-put_amount.ensures.0 (subst (λ (t : List ℕ). PutsFront c.args.out.now.items t c.put_amount.new.out.items) (joined (and_number c.args.top) (and_number c.args.height) (10 ∷ []))
    (past _ (simp to_z-of_z at c.in_ok-put_field.ensures) (cut (10 ∷ []) (simp to_z-of_z at c.in_err-put_amount.ensures))))

pub returns : goal.returns
returns c =
    let ft : FitsSigned w128 c.args.top = c.ranges.top in
    let fh : FitsSigned w64 c.args.height = c.ranges.height in
    subst (λ (t : List ℕ). PutsAfter c.end_line.result c.args.out.now.items t c.end_line.new.out.items) (joined (and_number c.args.top) (and_number c.args.height) (10 ∷ []))
    (on_joined c.end_line.result c.args.out.now.items c.put_field.new.out.items c.end_line.new.out.items _ _ _ refl (simp to_z-of_z at c.in_ok-put_field.ensures) (on_joined c.end_line.result c.put_field.new.out.items c.put_amount.new.out.items c.end_line.new.out.items _ _ _ refl (simp to_z-of_z at c.in_ok-put_amount.ensures) c.end_line.ensures))
