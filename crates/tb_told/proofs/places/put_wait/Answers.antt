use Rattle.std.proofs.Common.{List, [], append_assoc, codes, refl, ℕ, ◌++◌, ◌∷◌, ◌≡◌}
use Rattle.tb_text.specs.Fields.{line}
use Rattle.tb_text.proofs.FrontLemmas.{cut, cut-in, cut-after, fails, on_joined}
use Rattle.tb_node.specs.declared.Float.{Float}
use Rattle.tb_told.specs.declared.Spot.{Spot}
use Rattle.tb_told.specs.Lines.{float_text}
use Rattle.tb_told.proofs.places.put_wait.Goals as goal

-- the parts, one after another
joined : (a b d : List ℕ) → a ++ (b ++ d) ≡ (a ++ b) ++ d
joined a b d = simp append_assoc

-- those of the text
parts : (at : Spot) (f : Float) → codes "wait" ++ (float_text at f ++ 10 ∷ []) ≡ line (codes "wait" ++ float_text at f)
parts at f = joined (codes "wait") (float_text at f) (10 ∷ [])

pub returns-in_err-put : goal.returns-in_err-put
returns-in_err-put c =
    fails _ _ _ _ c.from_residual.ensures.0 (cut-in _ _ (parts c.args.at.now c.args.f.now) c.in_err-put.ensures)

pub returns-in_err-put_float : goal.returns-in_err-put_float
returns-in_err-put_float c =
    fails _ _ _ _ c.from_residual-in_err-put_float.ensures.0 (cut-after _ _ (parts c.args.at.now c.args.f.now) c.in_ok-put.ensures (cut _ c.in_err-put_float.ensures))

pub returns : goal.returns
returns c =
    on_joined c.end_line.result c.args.out.now.items c.put.new.out.items c.end_line.new.out.items _ _ _ (parts c.args.at.now c.args.f.now) c.in_ok-put.ensures
    (on_joined c.end_line.result c.put.new.out.items c.put_float.new.out.items c.end_line.new.out.items _ _ _ refl c.in_ok-put_float.ensures c.end_line.ensures)
