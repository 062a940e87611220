use Rattle.std.proofs.Common.{◌≡◌, subst, ℕ, List, ◌++◌, append_assoc, codes, rules, FitsSigned, w64}
use Rattle.std.proofs.lemmas.Int.{to_z-of_z}
use Rattle.tb_text.specs.Fields.{and_number}
use Rattle.tb_text.specs.Fronts.{PutsFront}
use Rattle.tb_text.proofs.FrontLemmas.{cut, fails, on_joined}
use Rattle.tb_trace.specs.Lines.{and_cost}
use Rattle.tb_trace.proofs.put_costs.Goals as goal

-- two texts of four parts
fours-joined : (a b c d e f g h : List ℕ) → (a ++ b ++ c ++ d) ++ (e ++ f ++ g ++ h) ≡ a ++ b ++ c ++ d ++ e ++ f ++ g ++ h
fours-joined a b c d e f g h = simp append_assoc

pub returns : goal.returns
returns c =
    let t = c.args.t.now in
    let g : FitsSigned w64 t.goal = search rules in
    let b : FitsSigned w64 t.badness = search rules in
    let p : FitsSigned w64 t.penalty = search rules in
    let d : FitsSigned w64 t.cost = search rules in
    let front = simp to_z-of_z at c.in_ok-put_fit.ensures in
    let back = simp to_z-of_z at c.put_price.ensures in
    on_joined c.put_price.result c.args.out.now.items c.put_fit.new.out.items c.put_price.new.out.items
    (codes " g" ++ and_number t.goal ++ codes " b" ++ and_cost t.badness) (codes " p" ++ and_number t.penalty ++ codes " c" ++ and_cost t.cost)
    (codes " g" ++ and_number t.goal ++ codes " b" ++ and_cost t.badness ++ codes " p" ++ and_number t.penalty ++ codes " c" ++ and_cost t.cost)
    (fours-joined (codes " g") (and_number t.goal) (codes " b") (and_cost t.badness) (codes " p") (and_number t.penalty) (codes " c") (and_cost t.cost)) front back

pub returns-in_err-put_fit : goal.returns-in_err-put_fit
returns-in_err-put_fit c =
    let t = c.args.t.now in
    let g : FitsSigned w64 t.goal = search rules in
    let b : FitsSigned w64 t.badness = search rules in
    fails _ _ _ _ c.from_residual.ensures.0 (subst (λ (x : List ℕ). PutsFront c.args.out.now.items x c.put_fit.new.out.items)
    (fours-joined (codes " g") (and_number t.goal) (codes " b") (and_cost t.badness) (codes " p") (and_number t.penalty) (codes " c") (and_cost t.cost))
    (cut (codes " p" ++ and_number t.penalty ++ codes " c" ++ and_cost t.cost) (simp to_z-of_z at c.in_err-put_fit.ensures)))
