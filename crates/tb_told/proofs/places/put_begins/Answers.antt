use Rattle.std.proofs.Common.{FitsSigned, List, [], append_assoc, codes, refl, rules, w64, ℕ, ◌++◌, ◌∷◌, ◌≡◌}
use Rattle.std.proofs.lemmas.Int.{to_z-of_z}
use Rattle.tb_text.specs.Fields.{and_number}
use Rattle.tb_text.proofs.FrontLemmas.{cut, cut-in, cut-after, past, fails, on_joined}
use Rattle.tb_fpage.specs.declared.Wanted.{Wanted}
use Rattle.tb_told.specs.declared.Spot.{Spot}
use Rattle.tb_told.specs.Lines.{begins_word, begins_text, begins_line}
use Rattle.tb_told.proofs.places.put_begins.Goals as goal

-- the parts, one after another
joined : (a b d e f : List ℕ) → a ++ (b ++ ((d ++ e) ++ f)) ≡ (a ++ b ++ d ++ e) ++ f
joined a b d e f = simp append_assoc

-- those of the text
parts : (at : Spot) (z : Wanted) → begins_word z.clearing ++ (begins_text at z.wide ++ ((codes " height" ++ and_number z.height) ++ 10 ∷ [])) ≡ begins_line at z
parts at z = joined (begins_word z.clearing) (begins_text at z.wide) (codes " height") (and_number z.height) (10 ∷ [])

pub returns-in_err-put_begins_word : goal.returns-in_err-put_begins_word
returns-in_err-put_begins_word c =
    fails _ _ _ _ c.from_residual.ensures.0 (cut-in _ _ (parts c.args.at.now c.args.wanted.now) c.in_err-put_begins_word.ensures)

pub returns-in_err-put_begins_at : goal.returns-in_err-put_begins_at
returns-in_err-put_begins_at c =
    fails _ _ _ _ c.from_residual-in_err-put_begins_at.ensures.0 (cut-after _ _ (parts c.args.at.now c.args.wanted.now) c.in_ok-put_begins_word.ensures (cut _ c.in_err-put_begins_at.ensures))

pub returns-in_err-put_measure : goal.returns-in_err-put_measure
returns-in_err-put_measure c =
    let a : FitsSigned w64 c.args.wanted.now.height = search rules in
    fails _ _ _ _ c.from_residual-in_err-put_measure.ensures.0 (cut-after _ _ (parts c.args.at.now c.args.wanted.now) c.in_ok-put_begins_word.ensures (past _ c.in_ok-put_begins_at.ensures (cut _ (simp to_z-of_z at c.in_err-put_measure.ensures))))

pub returns : goal.returns
returns c =
    let a : FitsSigned w64 c.args.wanted.now.height = search rules in
    on_joined c.end_line.result c.args.out.now.items c.put_begins_word.new.out.items c.end_line.new.out.items _ _ _ (parts c.args.at.now c.args.wanted.now) c.in_ok-put_begins_word.ensures
    (on_joined c.end_line.result c.put_begins_word.new.out.items c.put_begins_at.new.out.items c.end_line.new.out.items _ _ _ refl c.in_ok-put_begins_at.ensures
    (on_joined c.end_line.result c.put_begins_at.new.out.items c.put_measure.new.out.items c.end_line.new.out.items _ _ _ refl (simp to_z-of_z at c.in_ok-put_measure.ensures) c.end_line.ensures))
