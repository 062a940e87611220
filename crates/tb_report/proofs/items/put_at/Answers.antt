use Rattle.std.proofs.Common.{FitsSigned, List, [], append_assoc, refl, subst, ℕ, ◌++◌, ◌∷◌, ◌≡◌}
use Rattle.std.specs.Int.{w128}
use Rattle.std.proofs.lemmas.Int.{to_z-of_z}
use Rattle.tb_text.specs.Fields.{and_number}
use Rattle.tb_text.specs.Fronts.{PutsFront, PutsAfter}
use Rattle.tb_text.proofs.FrontLemmas.{cut, fails, on_joined}
use Rattle.tb_report.proofs.items.put_at.Goals as goal

-- the parts, one after another
joined : (a b d e : List ℕ) → a ++ b ++ (d ++ e) ≡ a ++ b ++ d ++ e
joined a b d e = simp append_assoc

pub returns-in_err-put_named : goal.returns-in_err-put_named
returns-in_err-put_named c =
    let ft : FitsSigned w128 c.args.top = c.ranges.top in
    fails _ _ _ _ c.from_residual.ensures.0 (subst (λ (t : List ℕ). PutsFront c.args.out.now.items t c.put_named.new.out.items) (joined c.args.word.now c.args.name.now (and_number c.args.top) (10 ∷ []))
    (cut (and_number c.args.top ++ 10 ∷ []) (simp c.as_bytes.ensures at c.in_err-put_named.ensures)))

pub returns : goal.returns
returns c =
    let ft : FitsSigned w128 c.args.top = c.ranges.top in
    subst (λ (t : List ℕ). PutsAfter c.end_at.result c.args.out.now.items t c.end_at.new.out.items) (joined c.args.word.now c.args.name.now (and_number c.args.top) (10 ∷ []))
    (on_joined c.end_at.result c.args.out.now.items c.put_named.new.out.items c.end_at.new.out.items _ _ _ refl (simp c.as_bytes.ensures at c.in_ok-put_named.ensures) (simp to_z-of_z at c.end_at.ensures))
