use Rattle.std.proofs.Common.{FitsSigned, List, [], append_assoc, codes, refl, w64, ℕ, ℤ, ◌++◌, ◌∷◌, ◌≡◌}
use Rattle.std.proofs.lemmas.Int.{to_z-of_z}
use Rattle.tb_text.specs.Fields.{and_number, line}
use Rattle.tb_text.proofs.FrontLemmas.{cut, cut-in, cut-after, past, fails, on_joined}
use Rattle.tb_node.specs.declared.Float.{Float}
use Rattle.tb_told.specs.declared.Spot.{Spot}
use Rattle.tb_told.specs.Lines.{float_text}
use Rattle.tb_told.proofs.places.put_call.Goals as goal

-- the parts, one after another
joined : (a b d e f : List ℕ) → a ++ (b ++ ((d ++ e) ++ f)) ≡ (a ++ b ++ d ++ e) ++ f
joined a b d e f = simp append_assoc

-- those of the text
parts : (at : Spot) (f : Float) (text : ℤ) → codes "call" ++ (float_text at f ++ ((codes " text" ++ and_number text) ++ 10 ∷ [])) ≡ line (codes "call" ++ float_text at f ++ codes " text" ++ and_number text)
parts at f text = joined (codes "call") (float_text at f) (codes " text") (and_number text) (10 ∷ [])

pub returns-in_err-put : goal.returns-in_err-put
returns-in_err-put c =
    fails _ _ _ _ c.from_residual.ensures.0 (cut-in _ _ (parts c.args.at.now c.args.f.now c.args.text) c.in_err-put.ensures)

pub returns-in_err-put_float : goal.returns-in_err-put_float
returns-in_err-put_float c =
    fails _ _ _ _ c.from_residual-in_err-put_float.ensures.0 (cut-after _ _ (parts c.args.at.now c.args.f.now c.args.text) c.in_ok-put.ensures (cut _ c.in_err-put_float.ensures))

pub returns-in_err-put_measure : goal.returns-in_err-put_measure
returns-in_err-put_measure c =
    let a : FitsSigned w64 c.args.text = c.ranges.text in
    fails _ _ _ _ c.from_residual-in_err-put_measure.ensures.0 (cut-after _ _ (parts c.args.at.now c.args.f.now c.args.text) c.in_ok-put.ensures (past _ c.in_ok-put_float.ensures (cut _ (simp to_z-of_z at c.in_err-put_measure.ensures))))

pub returns : goal.returns
returns c =
    let a : FitsSigned w64 c.args.text = c.ranges.text in
    on_joined c.end_line.result c.args.out.now.items c.put.new.out.items c.end_line.new.out.items _ _ _ (parts c.args.at.now c.args.f.now c.args.text) c.in_ok-put.ensures
    (on_joined c.end_line.result c.put.new.out.items c.put_float.new.out.items c.end_line.new.out.items _ _ _ refl c.in_ok-put_float.ensures
    (on_joined c.end_line.result c.put_float.new.out.items c.put_measure.new.out.items c.end_line.new.out.items _ _ _ refl (simp to_z-of_z at c.in_ok-put_measure.ensures) c.end_line.ensures))
