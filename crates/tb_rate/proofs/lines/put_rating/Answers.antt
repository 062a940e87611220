use Rattle.std.proofs.Common.{FitsSigned, List, [], append_assoc, codes, refl, rules, subst, ℕ, ◌++◌, ◌∷◌, ◌≡◌}
use Rattle.std.specs.Int.{w128}
use Rattle.std.proofs.lemmas.Int.{to_z-of_z}
use Rattle.tb_text.specs.Fields.{and_number, and_count, line}
use Rattle.tb_text.specs.Fronts.{PutsFront, PutsAfter}
use Rattle.tb_text.proofs.FrontLemmas.{cut, fails, on_joined, past}
use Rattle.tb_trace.specs.Lines.{and_cost}
use Rattle.tb_rate.specs.declared.Rating.{Rating}
use Rattle.tb_rate.specs.RatingLines.{rating_line}
use Rattle.tb_rate.proofs.lines.put_rating.Goals as goal

-- the parts of the line
abbrev front : Rating → List ℕ
front r = codes "rated" ++ and_count r.page ++ codes " badness" ++ and_cost r.badness ++ codes " penalty" ++ and_number r.penalty

abbrev middle : Rating → List ℕ
middle r = codes " waiting" ++ and_count r.waiting ++ codes " held" ++ and_count r.held

abbrev back : Rating → List ℕ
back r = line (codes " demerits" ++ and_number r.demerits)

-- one after another
parts : (a b c d e f g h i j k l end : List ℕ) → (a ++ b ++ c ++ d ++ e ++ f) ++ ((g ++ h ++ i ++ j) ++ ((k ++ l) ++ end)) ≡ (a ++ b ++ c ++ d ++ e ++ f ++ g ++ h ++ i ++ j ++ k ++ l) ++ end
parts a b c d e f g h i j k l end = simp append_assoc

joined : (r : Rating) → front r ++ (middle r ++ back r) ≡ rating_line r
joined r = parts (codes "rated") (and_count r.page) (codes " badness") (and_cost r.badness) (codes " penalty") (and_number r.penalty) (codes " waiting") (and_count r.waiting) (codes " held") (and_count r.held) (codes " demerits") (and_number r.demerits) (10 ∷ [])

pub returns-in_err-put_break : goal.returns-in_err-put_break
returns-in_err-put_break c =
    let r = c.args.r.now in
    fails _ _ _ _ c.from_residual.ensures.0 (subst (λ (t : List ℕ). PutsFront c.args.out.now.items t c.put_break.new.out.items) (joined r) (cut (middle r ++ back r) c.in_err-put_break.ensures))

pub returns-in_err-put_left_over : goal.returns-in_err-put_left_over
returns-in_err-put_left_over c =
    let r = c.args.r.now in
    fails _ _ _ _ c.from_residual-in_err-put_left_over.ensures.0 (subst (λ (t : List ℕ). PutsFront c.args.out.now.items t c.put_left_over.new.out.items) (joined r) (past _ c.in_ok-put_break.ensures (cut (back r) c.in_err-put_left_over.ensures)))

pub returns : goal.returns
returns c =
    let r = c.args.r.now in
    let d : FitsSigned w128 c.args.r.now.demerits = search rules in
    subst (λ (t : List ℕ). PutsAfter c.put_sum.result c.args.out.now.items t c.put_sum.new.out.items) (joined r)
    (on_joined c.put_sum.result c.args.out.now.items c.put_break.new.out.items c.put_sum.new.out.items _ _ _ refl c.in_ok-put_break.ensures
    (on_joined c.put_sum.result c.put_break.new.out.items c.put_left_over.new.out.items c.put_sum.new.out.items _ _ _ refl c.in_ok-put_left_over.ensures (simp to_z-of_z at c.put_sum.ensures)))
