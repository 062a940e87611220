use Rattle.std.proofs.Common.{FitsSigned, List, append_assoc, refl, subst, w64, ℕ, ◌++◌, ◌≡◌}
use Rattle.std.proofs.lemmas.Int.{to_z-of_z}
use Rattle.tb_text.specs.Fields.{and_number, and_text}
use Rattle.tb_text.specs.Fronts.{PutsFront, PutsAfter}
use Rattle.tb_text.proofs.FrontLemmas.{cut, fails, on_joined, past}
use Rattle.tb_report.specs.Lines.{side_text}
use Rattle.tb_report.proofs.items.put_moved.Goals as goal

-- the parts, one after another
joined : (a b d e : List ℕ) → a ++ b ++ (d ++ e) ≡ a ++ b ++ d ++ e
joined a b d e = simp append_assoc

pub returns-in_err-put_named : goal.returns-in_err-put_named
returns-in_err-put_named c =
    let fs : FitsSigned w64 c.args.shift = c.ranges.shift in
    fails _ _ _ _ c.from_residual.ensures.0 (subst (λ (t : List ℕ). PutsFront c.args.out.now.items t c.put_named.new.out.items) (joined c.args.word.now c.args.name.now (and_text (side_text c.args.side)) (and_number c.args.shift))
    (cut (and_text (side_text c.args.side) ++ and_number c.args.shift) (simp c.as_bytes.ensures at c.in_err-put_named.ensures)))

pub returns-in_err-put_text : goal.returns-in_err-put_text
returns-in_err-put_text c =
    let fs : FitsSigned w64 c.args.shift = c.ranges.shift in
    fails _ _ _ _ c.from_residual-in_err-put_text.ensures.0 (subst (λ (t : List ℕ). PutsFront c.args.out.now.items t c.put_text.new.out.items) (joined c.args.word.now c.args.name.now (and_text (side_text c.args.side)) (and_number c.args.shift))
    (past _ (simp c.as_bytes.ensures at c.in_ok-put_named.ensures) (cut (and_number c.args.shift) (simp c.side_text.ensures at c.in_err-put_text.ensures))))

pub returns : goal.returns
returns c =
    let fs : FitsSigned w64 c.args.shift = c.ranges.shift in
    subst (λ (t : List ℕ). PutsAfter c.put_amount.result c.args.out.now.items t c.put_amount.new.out.items) (joined c.args.word.now c.args.name.now (and_text (side_text c.args.side)) (and_number c.args.shift))
    (on_joined c.put_amount.result c.args.out.now.items c.put_named.new.out.items c.put_amount.new.out.items _ _ _ refl (simp c.as_bytes.ensures at c.in_ok-put_named.ensures) (on_joined c.put_amount.result c.put_named.new.out.items c.put_text.new.out.items c.put_amount.new.out.items _ _ _ refl (simp c.side_text.ensures at c.in_ok-put_text.ensures) (simp to_z-of_z at c.put_amount.ensures)))
