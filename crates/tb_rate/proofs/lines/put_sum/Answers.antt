use Rattle.std.proofs.Common.{FitsSigned, List, [], append_assoc, refl, subst, ℕ, ◌++◌, ◌∷◌, ◌≡◌}
use Rattle.std.specs.Int.{w128}
use Rattle.std.proofs.lemmas.Int.{to_z-of_z}
use Rattle.tb_text.specs.Fields.{and_number}
use Rattle.tb_text.specs.Fronts.{PutsFront, PutsAfter}
use Rattle.tb_text.proofs.FrontLemmas.{cut, fails, on_joined, past}
use Rattle.tb_rate.proofs.lines.put_sum.Goals as goal

-- the parts, one after another
joined : (a b d : List ℕ) → a ++ (b ++ d) ≡ (a ++ b) ++ d
joined a b d = simp append_assoc

pub returns-in_err-put : goal.returns-in_err-put
returns-in_err-put c =
    fails _ _ _ _ c.from_residual.ensures.0 (subst (λ (t : List ℕ). PutsFront c.args.out.now.items t c.put.new.out.items) (joined c.args.word.now (and_number c.args.demerits) (10 ∷ []))
    (cut (and_number c.args.demerits ++ 10 ∷ []) c.in_err-put.ensures))

pub returns-in_err-put_field : goal.returns-in_err-put_field
returns-in_err-put_field c =
    let d : FitsSigned w128 c.args.demerits = c.ranges.demerits in
    fails _ _ _ _ c.from_residual-in_err-put_field.ensures.0 (subst (λ (t : List ℕ). PutsFront c.args.out.now.items t c.put_field.new.out.items) (joined c.args.word.now (and_number c.args.demerits) (10 ∷ []))
    (past _ c.in_ok-put.ensures (cut (10 ∷ []) (simp to_z-of_z at c.in_err-put_field.ensures))))

pub returns : goal.returns
returns c =
    let d : FitsSigned w128 c.args.demerits = c.ranges.demerits in
    subst (λ (t : List ℕ). PutsAfter c.end_line.result c.args.out.now.items t c.end_line.new.out.items) (joined c.args.word.now (and_number c.args.demerits) (10 ∷ []))
    (on_joined c.end_line.result c.args.out.now.items c.put.new.out.items c.end_line.new.out.items _ _ _ refl c.in_ok-put.ensures
    (on_joined c.end_line.result c.put.new.out.items c.put_field.new.out.items c.end_line.new.out.items _ _ _ refl (simp to_z-of_z at c.in_ok-put_field.ensures) c.end_line.ensures))
