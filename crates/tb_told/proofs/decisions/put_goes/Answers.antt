use Rattle.std.proofs.Common.{List, [], append_assoc, codes, refl, ℕ, ◌++◌, ◌∷◌, ◌≡◌}
use Rattle.tb_text.specs.Fields.{and_text}
use Rattle.tb_text.proofs.FrontLemmas.{cut, cut-in, cut-after, fails, on_joined}
use Rattle.tb_node.specs.declared.Name.{Name}
use Rattle.tb_report.specs.Lines.{where_text}
use Rattle.tb_told.specs.Lines.{goes_line}
use Rattle.tb_told.proofs.decisions.put_goes.Goals as goal

-- the parts, one after another
joined : (a b d e : List ℕ) → (a ++ b) ++ (d ++ e) ≡ (a ++ b ++ d) ++ e
joined a b d e = simp append_assoc

-- those of the text
parts : (name : Name) (place : List ℕ) → (codes "goes" ++ and_text name) ++ (and_text place ++ 10 ∷ []) ≡ goes_line name place
parts name place = joined (codes "goes") (and_text name) (and_text place) (10 ∷ [])

pub returns-in_err-put_head : goal.returns-in_err-put_head
returns-in_err-put_head c =
    fails _ _ _ _ c.from_residual.ensures.0 (cut-in _ _ (parts c.args.name.now (where_text c.args.place)) c.in_err-put_head.ensures)

pub returns-in_err-put_text : goal.returns-in_err-put_text
returns-in_err-put_text c =
    fails _ _ _ _ c.from_residual-in_err-put_text.ensures.0 (cut-after _ _ (parts c.args.name.now (where_text c.args.place)) c.in_ok-put_head.ensures (cut _ (simp c.where_text.ensures at c.in_err-put_text.ensures)))

pub returns : goal.returns
returns c =
    on_joined c.end_line.result c.args.out.now.items c.put_head.new.out.items c.end_line.new.out.items _ _ _ (parts c.args.name.now (where_text c.args.place)) c.in_ok-put_head.ensures
    (on_joined c.end_line.result c.put_head.new.out.items c.put_text.new.out.items c.end_line.new.out.items _ _ _ refl (simp c.where_text.ensures at c.in_ok-put_text.ensures) c.end_line.ensures)
