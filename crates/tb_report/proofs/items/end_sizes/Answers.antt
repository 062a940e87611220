use Rattle.std.proofs.Common.{FitsSigned, List, [], append_assoc, refl, subst, w64, ℕ, ◌++◌, ◌∷◌, ◌≡◌}
use Rattle.std.proofs.lemmas.Int.{to_z-of_z}
use Rattle.tb_text.specs.Fields.{and_number}
use Rattle.tb_text.specs.Fronts.{PutsFront, PutsAfter}
use Rattle.tb_text.proofs.FrontLemmas.{cut, fails, on_joined, past}
use Rattle.tb_report.proofs.items.end_sizes.Goals as goal

-- the parts, one after another
joined : (a b d : List ℕ) → a ++ (b ++ d) ≡ a ++ b ++ d
joined a b d = simp append_assoc

pub returns-in_err-put_amount : goal.returns-in_err-put_amount
returns-in_err-put_amount c =
    let fh : FitsSigned w64 c.args.height = c.ranges.height in
    let fd : FitsSigned w64 c.args.depth = c.ranges.depth in
    fails _ _ _ _ c.from_residual.ensures.0 (subst (λ (t : List ℕ). PutsFront c.args.out.now.items t c.put_amount.new.out.items) (joined (and_number c.args.height) (and_number c.args.depth) (10 ∷ []))
    (cut (and_number c.args.depth ++ 10 ∷ []) (simp to_z-of_z at c.in_err-put_amount.ensures)))

pub returns-in_err-put_amount-2 : goal.returns-in_err-put_amount-2
returns-in_err-put_amount-2 c =
    let fh : FitsSigned w64 c.args.height = c.ranges.height in
    let fd : FitsSigned w64 c.args.depth = c.ranges.depth in
    fails _ _ _ _ c.from_residual-in_err-put_amount-2.ensures.0 (subst (λ (t : List ℕ). PutsFront c.args.out.now.items t c.put_amount-2.new.out.items) (joined (and_number c.args.height) (and_number c.args.depth) (10 ∷ []))
    (past _ (simp to_z-of_z at c.in_ok-put_amount.ensures) (cut (10 ∷ []) (simp to_z-of_z at c.in_err-put_amount-2.ensures))))

pub returns : goal.returns
returns c =
    let fh : FitsSigned w64 c.args.height = c.ranges.height in
    let fd : FitsSigned w64 c.args.depth = c.ranges.depth in
    subst (λ (t : List ℕ). PutsAfter c.end_line.result c.args.out.now.items t c.end_line.new.out.items) (joined (and_number c.args.height) (and_number c.args.depth) (10 ∷ []))
    (on_joined c.end_line.result c.args.out.now.items c.put_amount.new.out.items c.end_line.new.out.items _ _ _ refl (simp to_z-of_z at c.in_ok-put_amount.ensures) (on_joined c.end_line.result c.put_amount.new.out.items c.put_amount-2.new.out.items c.end_line.new.out.items _ _ _ refl (simp to_z-of_z at c.in_ok-put_amount-2.ensures) c.end_line.ensures))
