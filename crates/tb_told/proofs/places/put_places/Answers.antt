use Rattle.std.proofs.Common.{Bool, List, append_assoc, codes, refl, ℕ, ◌++◌, ◌≡◌}
use Rattle.tb_text.specs.Fields.{and_text}
use Rattle.tb_text.proofs.FrontLemmas.{cut, cut-in, cut-after, past, fails, on_joined}
use Rattle.tb_node.specs.declared.Places.{Places}
use Rattle.tb_told.specs.Lines.{text_if, places_text}
use Rattle.tb_told.proofs.places.put_places.Goals as goal

-- the parts, one after another
joined : (a b d e f g : List ℕ) → a ++ (b ++ (d ++ (e ++ (f ++ g)))) ≡ a ++ (b ++ d ++ e ++ f ++ g)
joined a b d e f g = simp append_assoc

-- those of the text
parts : (bang : Bool) (p : Places) → codes " places " ++ (text_if bang (codes "!") ++ (text_if p.h (codes "h") ++ (text_if p.t (codes "t") ++ (text_if p.b (codes "b") ++ text_if p.p (codes "p"))))) ≡ codes " places" ++ and_text (places_text bang p)
parts bang p = joined (codes " places ") (text_if bang (codes "!")) (text_if p.h (codes "h")) (text_if p.t (codes "t")) (text_if p.b (codes "b")) (text_if p.p (codes "p"))

pub returns-in_err-put : goal.returns-in_err-put
returns-in_err-put c =
    fails _ _ _ _ c.from_residual.ensures.0 (cut-in _ _ (parts c.args.bang c.args.p.now) c.in_err-put.ensures)

pub returns-in_err-put_if : goal.returns-in_err-put_if
returns-in_err-put_if c =
    fails _ _ _ _ c.from_residual-in_err-put_if.ensures.0 (cut-after _ _ (parts c.args.bang c.args.p.now) c.in_ok-put.ensures (cut _ c.in_err-put_if.ensures))

pub returns-in_err-put_if-2 : goal.returns-in_err-put_if-2
returns-in_err-put_if-2 c =
    fails _ _ _ _ c.from_residual-in_err-put_if-2.ensures.0 (cut-after _ _ (parts c.args.bang c.args.p.now) c.in_ok-put.ensures (past _ c.in_ok-put_if.ensures (cut _ c.in_err-put_if-2.ensures)))

pub returns-in_err-put_if-3 : goal.returns-in_err-put_if-3
returns-in_err-put_if-3 c =
    fails _ _ _ _ c.from_residual-in_err-put_if-3.ensures.0 (cut-after _ _ (parts c.args.bang c.args.p.now) c.in_ok-put.ensures (past _ c.in_ok-put_if.ensures (past _ c.in_ok-put_if-2.ensures (cut _ c.in_err-put_if-3.ensures))))

pub returns-in_err-put_if-4 : goal.returns-in_err-put_if-4
returns-in_err-put_if-4 c =
    fails _ _ _ _ c.from_residual-in_err-put_if-4.ensures.0 (cut-after _ _ (parts c.args.bang c.args.p.now) c.in_ok-put.ensures (past _ c.in_ok-put_if.ensures (past _ c.in_ok-put_if-2.ensures (past _ c.in_ok-put_if-3.ensures (cut _ c.in_err-put_if-4.ensures)))))

pub returns : goal.returns
returns c =
    on_joined c.put_if-5.result c.args.out.now.items c.put.new.out.items c.put_if-5.new.out.items _ _ _ (parts c.args.bang c.args.p.now) c.in_ok-put.ensures
    (on_joined c.put_if-5.result c.put.new.out.items c.put_if.new.out.items c.put_if-5.new.out.items _ _ _ refl c.in_ok-put_if.ensures
    (on_joined c.put_if-5.result c.put_if.new.out.items c.put_if-2.new.out.items c.put_if-5.new.out.items _ _ _ refl c.in_ok-put_if-2.ensures
    (on_joined c.put_if-5.result c.put_if-2.new.out.items c.put_if-3.new.out.items c.put_if-5.new.out.items _ _ _ refl c.in_ok-put_if-3.ensures
    (on_joined c.put_if-5.result c.put_if-3.new.out.items c.put_if-4.new.out.items c.put_if-5.new.out.items _ _ _ refl c.in_ok-put_if-4.ensures c.put_if-5.ensures))))
