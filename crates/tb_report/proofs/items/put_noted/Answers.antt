use Rattle.std.proofs.Common.{FitsSigned, List, [], append_assoc, refl, subst, w64, ℕ, ◌++◌, ◌∷◌, ◌≡◌}
use Rattle.std.specs.Int.{w128}
use Rattle.std.proofs.lemmas.Int.{to_z-of_z}
use Rattle.tb_text.specs.Fields.{and_number, and_text}
use Rattle.tb_text.specs.Fronts.{PutsFront, PutsAfter}
use Rattle.tb_text.proofs.FrontLemmas.{cut, fails, on_joined}
use Rattle.tb_report.specs.Lines.{side_text}
use Rattle.tb_report.proofs.items.put_noted.Goals as goal

-- the parts, one after another
joined : (a b d e f g h i : List ℕ) → a ++ b ++ d ++ e ++ (f ++ g ++ h ++ i) ≡ a ++ b ++ d ++ e ++ f ++ g ++ h ++ i
joined a b d e f g h i = simp append_assoc

pub returns-in_err-put_moved : goal.returns-in_err-put_moved
returns-in_err-put_moved c =
    let fs : FitsSigned w64 c.args.shift = c.ranges.shift in
    let ft : FitsSigned w128 c.args.top = c.ranges.top in
    let fh : FitsSigned w64 c.args.height = c.ranges.height in
    let fd : FitsSigned w64 c.args.depth = c.ranges.depth in
    fails _ _ _ _ c.from_residual.ensures.0 (subst (λ (t : List ℕ). PutsFront c.args.out.now.items t c.put_moved.new.out.items) (joined c.args.word.now c.args.name.now (and_text (side_text c.args.side)) (and_number c.args.shift) (and_number c.args.top) (and_number c.args.height) (and_number c.args.depth) (10 ∷ []))
    (cut (and_number c.args.top ++ and_number c.args.height ++ and_number c.args.depth ++ 10 ∷ []) (simp to_z-of_z at c.in_err-put_moved.ensures)))

pub returns : goal.returns
returns c =
    let fs : FitsSigned w64 c.args.shift = c.ranges.shift in
    let ft : FitsSigned w128 c.args.top = c.ranges.top in
    let fh : FitsSigned w64 c.args.height = c.ranges.height in
    let fd : FitsSigned w64 c.args.depth = c.ranges.depth in
    subst (λ (t : List ℕ). PutsAfter c.end_box.result c.args.out.now.items t c.end_box.new.out.items) (joined c.args.word.now c.args.name.now (and_text (side_text c.args.side)) (and_number c.args.shift) (and_number c.args.top) (and_number c.args.height) (and_number c.args.depth) (10 ∷ []))
    (on_joined c.end_box.result c.args.out.now.items c.put_moved.new.out.items c.end_box.new.out.items _ _ _ refl (simp to_z-of_z at c.in_ok-put_moved.ensures) (simp to_z-of_z at c.end_box.ensures))
