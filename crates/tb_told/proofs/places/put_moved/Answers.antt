use Rattle.std.proofs.Common.{FitsSigned, List, [], append_assoc, codes, refl, rules, w64, ℕ, ◌++◌, ◌∷◌, ◌≡◌}
use Rattle.std.proofs.lemmas.Int.{to_z-of_z}
use Rattle.tb_text.specs.Fields.{and_number, and_text, line}
use Rattle.tb_text.proofs.FrontLemmas.{cut, cut-in, cut-after, fails, on_joined}
use Rattle.tb_node.specs.declared.Margin.{Margin}
use Rattle.tb_margin.specs.declared.Placed.{Placed}
use Rattle.tb_report.specs.Lines.{side_text}
use Rattle.tb_margin.specs.Margin.{note_height}
use Rattle.tb_told.proofs.places.put_moved.Goals as goal

-- the parts, one after another
joined : (a b d e f g : List ℕ) → (a ++ b ++ d ++ e) ++ (f ++ g) ≡ (a ++ b ++ d ++ e ++ f) ++ g
joined a b d e f g = simp append_assoc

-- those of the text
parts : (m : Margin) (placed : Placed) → (codes " high" ++ and_number (note_height placed.side m) ++ codes " shift" ++ and_number placed.shift) ++ (and_text (side_text placed.side) ++ 10 ∷ []) ≡ line (codes " high" ++ and_number (note_height placed.side m) ++ codes " shift" ++ and_number placed.shift ++ and_text (side_text placed.side))
parts m placed = joined (codes " high") (and_number (note_height placed.side m)) (codes " shift") (and_number placed.shift) (and_text (side_text placed.side)) (10 ∷ [])

pub returns-in_err-put_shift : goal.returns-in_err-put_shift
returns-in_err-put_shift c =
    let a : FitsSigned w64 c.args.placed.now.shift = search rules in
    let b : FitsSigned w64 c.height_on.result = search rules in
    fails _ _ _ _ c.from_residual.ensures.0 (cut-in _ _ (parts c.args.m.now c.args.placed.now) (rw c.height_on.ensures at (simp to_z-of_z at c.in_err-put_shift.ensures)))

pub returns-in_err-put_text : goal.returns-in_err-put_text
returns-in_err-put_text c =
    let a : FitsSigned w64 c.args.placed.now.shift = search rules in
    let b : FitsSigned w64 c.height_on.result = search rules in
    fails _ _ _ _ c.from_residual-in_err-put_text.ensures.0 (cut-after _ _ (parts c.args.m.now c.args.placed.now) (rw c.height_on.ensures at (simp to_z-of_z at c.in_ok-put_shift.ensures)) (cut _ (simp c.side_text.ensures at c.in_err-put_text.ensures)))

pub returns : goal.returns
returns c =
    let a : FitsSigned w64 c.args.placed.now.shift = search rules in
    let b : FitsSigned w64 c.height_on.result = search rules in
    on_joined c.end_line.result c.args.out.now.items c.put_shift.new.out.items c.end_line.new.out.items _ _ _ (parts c.args.m.now c.args.placed.now) (rw c.height_on.ensures at (simp to_z-of_z at c.in_ok-put_shift.ensures))
    (on_joined c.end_line.result c.put_shift.new.out.items c.put_text.new.out.items c.end_line.new.out.items _ _ _ refl (simp c.side_text.ensures at c.in_ok-put_text.ensures) c.end_line.ensures)
