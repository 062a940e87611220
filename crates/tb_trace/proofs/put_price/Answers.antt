use Rattle.std.proofs.Common.{FitsSigned, List, append_assoc, codes, refl, subst, w64, ℕ, ◌++◌, ◌≡◌}
use Rattle.std.proofs.lemmas.Int.{to_z-of_z}
use Rattle.tb_text.specs.Fields.{and_number}
use Rattle.tb_text.specs.Fronts.{PutsFront, PutsAfter}
use Rattle.tb_text.proofs.FrontLemmas.{cut, fails, on_joined}
use Rattle.tb_trace.specs.Lines.{and_cost}
use Rattle.tb_trace.proofs.put_price.Goals as goal

-- the parts, one after another
joined : (a b d e : List ℕ) → a ++ b ++ (d ++ e) ≡ a ++ b ++ d ++ e
joined a b d e = simp append_assoc

pub returns-in_err-put_measure : goal.returns-in_err-put_measure
returns-in_err-put_measure c =
    let fp : FitsSigned w64 c.args.penalty = c.ranges.penalty in
    let fc : FitsSigned w64 c.args.cost = c.ranges.cost in
    fails _ _ _ _ c.from_residual.ensures.0 (subst (λ (t : List ℕ). PutsFront c.args.out.now.items t c.put_measure.new.out.items) (joined (codes " p") (and_number c.args.penalty) (codes " c") (and_cost c.args.cost))
    (cut (codes " c" ++ and_cost c.args.cost) (simp to_z-of_z at c.in_err-put_measure.ensures)))

pub returns : goal.returns
returns c =
    let fp : FitsSigned w64 c.args.penalty = c.ranges.penalty in
    let fc : FitsSigned w64 c.args.cost = c.ranges.cost in
    subst (λ (t : List ℕ). PutsAfter c.put_cost.result c.args.out.now.items t c.put_cost.new.out.items) (joined (codes " p") (and_number c.args.penalty) (codes " c") (and_cost c.args.cost))
    (on_joined c.put_cost.result c.args.out.now.items c.put_measure.new.out.items c.put_cost.new.out.items _ _ _ refl (simp to_z-of_z at c.in_ok-put_measure.ensures) (simp to_z-of_z at c.put_cost.ensures))
