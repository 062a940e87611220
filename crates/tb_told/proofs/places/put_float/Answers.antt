use Rattle.std.proofs.Common.{FitsSigned, List, append_assoc, codes, refl, rules, w64, ℕ, ◌++◌, ◌≡◌}
use Rattle.std.proofs.lemmas.Int.{to_z-of_z}
use Rattle.tb_text.specs.Fields.{and_number, and_count, and_text}
use Rattle.tb_text.proofs.FrontLemmas.{cut, cut-in, cut-after, past, fails, on_joined}
use Rattle.tb_node.specs.declared.Float.{Float}
use Rattle.tb_told.specs.declared.Spot.{Spot}
use Rattle.tb_told.specs.Lines.{places_text, width_text, spot_text, float_text}
use Rattle.tb_told.proofs.places.put_float.Goals as goal

-- the parts, one after another
joined : (a b d e f g h i j k l : List ℕ) → a ++ (b ++ (d ++ ((e ++ f) ++ ((g ++ h) ++ ((i ++ j) ++ (k ++ l)))))) ≡ a ++ b ++ d ++ e ++ f ++ g ++ h ++ i ++ j ++ k ++ l
joined a b d e f g h i j k l = simp append_assoc

-- those of the text
parts : (at : Spot) (f : Float) → and_text f.name ++ (and_count f.line ++ (spot_text at ++ ((codes " class" ++ and_count f.class) ++ ((codes " places" ++ and_text (places_text f.bang f.places)) ++ ((codes " width" ++ and_text (width_text f.wide)) ++ (codes " high" ++ and_number f.height)))))) ≡ float_text at f
parts at f = joined (and_text f.name) (and_count f.line) (spot_text at) (codes " class") (and_count f.class) (codes " places") (and_text (places_text f.bang f.places)) (codes " width") (and_text (width_text f.wide)) (codes " high") (and_number f.height)

pub returns-in_err-put_text : goal.returns-in_err-put_text
returns-in_err-put_text c =
    fails _ _ _ _ c.from_residual.ensures.0 (cut-in _ _ (parts c.args.at.now c.args.f.now) (simp c.as_bytes.ensures at c.in_err-put_text.ensures))

pub returns-in_err-put_count : goal.returns-in_err-put_count
returns-in_err-put_count c =
    fails _ _ _ _ c.from_residual-in_err-put_count.ensures.0 (cut-after _ _ (parts c.args.at.now c.args.f.now) (simp c.as_bytes.ensures at c.in_ok-put_text.ensures) (cut _ (simp c.from.ensures at c.in_err-put_count.ensures)))

pub returns-in_err-put_spot : goal.returns-in_err-put_spot
returns-in_err-put_spot c =
    fails _ _ _ _ c.from_residual-in_err-put_spot.ensures.0 (cut-after _ _ (parts c.args.at.now c.args.f.now) (simp c.as_bytes.ensures at c.in_ok-put_text.ensures) (past _ (simp c.from.ensures at c.in_ok-put_count.ensures) (cut _ c.in_err-put_spot.ensures)))

pub returns-in_err-put_total : goal.returns-in_err-put_total
returns-in_err-put_total c =
    fails _ _ _ _ c.from_residual-in_err-put_total.ensures.0 (cut-after _ _ (parts c.args.at.now c.args.f.now) (simp c.as_bytes.ensures at c.in_ok-put_text.ensures) (past _ (simp c.from.ensures at c.in_ok-put_count.ensures) (past _ c.in_ok-put_spot.ensures (cut _ (simp c.from-2.ensures at c.in_err-put_total.ensures)))))

pub returns-in_err-put_places : goal.returns-in_err-put_places
returns-in_err-put_places c =
    fails _ _ _ _ c.from_residual-in_err-put_places.ensures.0 (cut-after _ _ (parts c.args.at.now c.args.f.now) (simp c.as_bytes.ensures at c.in_ok-put_text.ensures) (past _ (simp c.from.ensures at c.in_ok-put_count.ensures) (past _ c.in_ok-put_spot.ensures (past _ (simp c.from-2.ensures at c.in_ok-put_total.ensures) (cut _ c.in_err-put_places.ensures)))))

pub returns-in_err-put_width : goal.returns-in_err-put_width
returns-in_err-put_width c =
    fails _ _ _ _ c.from_residual-in_err-put_width.ensures.0 (cut-after _ _ (parts c.args.at.now c.args.f.now) (simp c.as_bytes.ensures at c.in_ok-put_text.ensures) (past _ (simp c.from.ensures at c.in_ok-put_count.ensures) (past _ c.in_ok-put_spot.ensures (past _ (simp c.from-2.ensures at c.in_ok-put_total.ensures) (past _ c.in_ok-put_places.ensures (cut _ c.in_err-put_width.ensures))))))

pub returns : goal.returns
returns c =
    let a : FitsSigned w64 c.args.f.now.height = search rules in
    on_joined c.put_measure.result c.args.out.now.items c.put_text.new.out.items c.put_measure.new.out.items _ _ _ (parts c.args.at.now c.args.f.now) (simp c.as_bytes.ensures at c.in_ok-put_text.ensures)
    (on_joined c.put_measure.result c.put_text.new.out.items c.put_count.new.out.items c.put_measure.new.out.items _ _ _ refl (simp c.from.ensures at c.in_ok-put_count.ensures)
    (on_joined c.put_measure.result c.put_count.new.out.items c.put_spot.new.out.items c.put_measure.new.out.items _ _ _ refl c.in_ok-put_spot.ensures
    (on_joined c.put_measure.result c.put_spot.new.out.items c.put_total.new.out.items c.put_measure.new.out.items _ _ _ refl (simp c.from-2.ensures at c.in_ok-put_total.ensures)
    (on_joined c.put_measure.result c.put_total.new.out.items c.put_places.new.out.items c.put_measure.new.out.items _ _ _ refl c.in_ok-put_places.ensures
    (on_joined c.put_measure.result c.put_places.new.out.items c.put_width.new.out.items c.put_measure.new.out.items _ _ _ refl c.in_ok-put_width.ensures (simp to_z-of_z at c.put_measure.ensures))))))
