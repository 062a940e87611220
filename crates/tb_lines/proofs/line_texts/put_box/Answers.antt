use Rattle.std.proofs.Common.{◌≡◌, ◌++◌, ◌∷◌, [], List, ℕ, codes, decimal, subst, refl, append_assoc}
use Rattle.tb_text.specs.Fronts.{PutsAfter}
use Rattle.tb_text.proofs.FrontLemmas.{on_joined, when_ok}
use Rattle.tb_lines.specs.LineText.{box_line}
use Rattle.tb_lines.proofs.line_texts.put_box.Goals as goal

-- the parts, one after another
joined : (a b d e f g h i j : List ℕ) → a ++ (b ++ (d ++ e ++ (f ++ g ++ (h ++ i ++ j)))) ≡ a ++ b ++ d ++ e ++ f ++ g ++ h ++ i ++ j
joined a b d e f g h i j = simp append_assoc

pub returns : goal.returns
returns c =
    let s = c.args.size in
    when_ok c.put-3.result c.args.out.now.items (box_line c.args.name.now c.args.number s) c.put-3.new.out.items
    (subst (λ (t : List ℕ). PutsAfter c.put-3.result c.args.out.now.items t c.put-3.new.out.items)
    (joined (codes "box ") c.args.name.now (codes ".") (decimal c.args.number) (codes " ") (decimal s.height) (codes " ") (decimal s.depth) (10 ∷ []))
    (on_joined c.put-3.result c.args.out.now.items c.put.new.out.items c.put-3.new.out.items _ _ _ refl c.in_ok-put.ensures
    (on_joined c.put-3.result c.put.new.out.items c.put-2.new.out.items c.put-3.new.out.items _ _ _ refl c.in_ok-put-2.ensures
    (on_joined c.put-3.result c.put-2.new.out.items c.put_counted.new.out.items c.put-3.new.out.items _ _ _ refl c.in_ok-put_counted.ensures
    (on_joined c.put-3.result c.put_counted.new.out.items c.put_counted-2.new.out.items c.put-3.new.out.items _ _ _ refl (simp c.from.ensures at c.in_ok-put_counted-2.ensures)
    (on_joined c.put-3.result c.put_counted-2.new.out.items c.put_counted-3.new.out.items c.put-3.new.out.items _ _ _ refl (simp c.from-2.ensures at c.in_ok-put_counted-3.ensures) c.put-3.ensures))))))
