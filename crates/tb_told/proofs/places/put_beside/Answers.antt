use Rattle.std.proofs.Common.{FitsSigned, List, [], append_assoc, codes, refl, w64, ℕ, ℤ, ◌++◌, ◌∷◌, ◌≡◌}
use Rattle.std.proofs.lemmas.Int.{to_z-of_z}
use Rattle.tb_text.specs.Fields.{and_number, and_count, and_text}
use Rattle.tb_text.proofs.FrontLemmas.{cut, cut-in, cut-after, past, fails, on_joined}
use Rattle.tb_node.specs.declared.Margin.{Margin}
use Rattle.tb_margin.specs.declared.Placed.{Placed}
use Rattle.tb_told.specs.declared.Spot.{Spot}
use Rattle.tb_report.specs.Lines.{side_text}
use Rattle.tb_margin.specs.Margin.{note_height}
use Rattle.tb_told.specs.Lines.{spot_text, beside_line}
use Rattle.tb_told.proofs.places.put_beside.Goals as goal

-- the parts, one after another
joined : (a b d e f g h i j k l m n o : List ℕ) → (a ++ b ++ d) ++ (e ++ ((f ++ g ++ h ++ i) ++ ((j ++ k ++ l ++ m ++ n) ++ o))) ≡ (a ++ b ++ d ++ e ++ f ++ g ++ h ++ i ++ j ++ k ++ l ++ m ++ n) ++ o
joined a b d e f g h i j k l m n o = simp append_assoc

-- those of the text
parts : (at : Spot) (m : Margin) (text reach : ℤ) (placed : Placed) → (codes "beside" ++ and_text m.name ++ and_count m.line) ++ (spot_text at ++ ((codes " text" ++ and_number text ++ codes " reach" ++ and_number reach) ++ ((codes " high" ++ and_number (note_height placed.side m) ++ codes " shift" ++ and_number placed.shift ++ and_text (side_text placed.side)) ++ 10 ∷ []))) ≡ beside_line at m text reach placed
parts at m text reach placed = joined (codes "beside") (and_text m.name) (and_count m.line) (spot_text at) (codes " text") (and_number text) (codes " reach") (and_number reach) (codes " high") (and_number (note_height placed.side m)) (codes " shift") (and_number placed.shift) (and_text (side_text placed.side)) (10 ∷ [])

pub returns-in_err-put_note : goal.returns-in_err-put_note
returns-in_err-put_note c =
    fails _ _ _ _ c.from_residual.ensures.0 (cut-in _ _ (parts c.args.at.now c.args.m.now c.args.text c.args.reach c.args.placed.now) c.in_err-put_note.ensures)

pub returns-in_err-put_spot : goal.returns-in_err-put_spot
returns-in_err-put_spot c =
    fails _ _ _ _ c.from_residual-in_err-put_spot.ensures.0 (cut-after _ _ (parts c.args.at.now c.args.m.now c.args.text c.args.reach c.args.placed.now) c.in_ok-put_note.ensures (cut _ c.in_err-put_spot.ensures))

pub returns-in_err-put_reach : goal.returns-in_err-put_reach
returns-in_err-put_reach c =
    let a : FitsSigned w64 c.args.text = c.ranges.text in
    let b : FitsSigned w64 c.args.reach = c.ranges.reach in
    fails _ _ _ _ c.from_residual-in_err-put_reach.ensures.0 (cut-after _ _ (parts c.args.at.now c.args.m.now c.args.text c.args.reach c.args.placed.now) c.in_ok-put_note.ensures (past _ c.in_ok-put_spot.ensures (cut _ (simp to_z-of_z at c.in_err-put_reach.ensures))))

pub returns : goal.returns
returns c =
    let a : FitsSigned w64 c.args.text = c.ranges.text in
    let b : FitsSigned w64 c.args.reach = c.ranges.reach in
    on_joined c.put_moved.result c.args.out.now.items c.put_note.new.out.items c.put_moved.new.out.items _ _ _ (parts c.args.at.now c.args.m.now c.args.text c.args.reach c.args.placed.now) c.in_ok-put_note.ensures
    (on_joined c.put_moved.result c.put_note.new.out.items c.put_spot.new.out.items c.put_moved.new.out.items _ _ _ refl c.in_ok-put_spot.ensures
    (on_joined c.put_moved.result c.put_spot.new.out.items c.put_reach.new.out.items c.put_moved.new.out.items _ _ _ refl (simp to_z-of_z at c.in_ok-put_reach.ensures) c.put_moved.ensures))
