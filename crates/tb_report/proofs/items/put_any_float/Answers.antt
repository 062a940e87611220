use Rattle.std.proofs.Common.{FitsSigned, List, [], append_assoc, refl, subst, w64, ℕ, ◌++◌, ◌∷◌, ◌≡◌}
use Rattle.std.specs.Int.{w128}
use Rattle.std.proofs.lemmas.Int.{to_z-of_z}
use Rattle.tb_text.specs.Fields.{and_number}
use Rattle.tb_text.specs.Fronts.{PutsFront, PutsAfter}
use Rattle.tb_text.proofs.FrontLemmas.{cut, fails, on_joined}
use Rattle.tb_report.specs.Lines.{float_label}
use Rattle.tb_report.proofs.items.put_any_float.Goals as goal

-- the parts, one after another
joined : (a b d e : List ℕ) → a ++ (b ++ d ++ e) ≡ (a ++ b ++ d) ++ e
joined a b d e = simp append_assoc

pub returns-in_err-put_float_label : goal.returns-in_err-put_float_label
returns-in_err-put_float_label c =
    let ft : FitsSigned w128 c.args.top = c.ranges.top in
    let fh : FitsSigned w64 c.args.height = c.ranges.height in
    fails _ _ _ _ c.from_residual.ensures.0 (subst (λ (t : List ℕ). PutsFront c.args.out.now.items t c.put_float_label.new.out.items) (joined (float_label c.args.name.now c.args.class c.args.place) (and_number c.args.top) (and_number c.args.height) (10 ∷ []))
    (cut (and_number c.args.top ++ and_number c.args.height ++ 10 ∷ []) c.in_err-put_float_label.ensures))

pub returns : goal.returns
returns c =
    let ft : FitsSigned w128 c.args.top = c.ranges.top in
    let fh : FitsSigned w64 c.args.height = c.ranges.height in
    subst (λ (t : List ℕ). PutsAfter c.end_height.result c.args.out.now.items t c.end_height.new.out.items) (joined (float_label c.args.name.now c.args.class c.args.place) (and_number c.args.top) (and_number c.args.height) (10 ∷ []))
    (on_joined c.end_height.result c.args.out.now.items c.put_float_label.new.out.items c.end_height.new.out.items _ _ _ refl c.in_ok-put_float_label.ensures (simp to_z-of_z at c.end_height.ensures))
