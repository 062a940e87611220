use Rattle.std.proofs.Common.{◌≡◌, ◌++◌, List, ℕ, codes, subst, refl, append_assoc, FitsSigned, w64, rules}
use Rattle.std.proofs.lemmas.Int.{to_z-of_z}
use Rattle.tb_text.specs.Fields.{and_number, and_count, and_text}
use Rattle.tb_text.specs.Fronts.{PutsAfter}
use Rattle.tb_text.proofs.FrontLemmas.{on_joined, when_ok}
use Rattle.tb_galley.specs.CanonicalText.{wide_text, places_text, float_text}
use Rattle.tb_galley.proofs.item_texts.put_float.Goals as goal

-- the parts, one after another
joined : (a b d e f g : List ℕ) → a ++ (b ++ (d ++ (e ++ (f ++ g)))) ≡ a ++ b ++ d ++ e ++ f ++ g
joined a b d e f g = simp append_assoc

pub returns : goal.returns
returns c =
    let f = c.args.float.now in
    let height : FitsSigned w64 f.height = search rules in
    when_ok c.put_amount.result c.args.out.now.items (float_text f) c.put_amount.new.out.items (subst (λ (t : List ℕ). PutsAfter c.put_amount.result c.args.out.now.items t c.put_amount.new.out.items)
    (joined (codes "float") (and_text f.name) (and_count f.class) (wide_text f.wide) (places_text f.bang f.places) (and_number f.height))
    (on_joined c.put_amount.result c.args.out.now.items c.put.new.out.items c.put_amount.new.out.items _ _ _ refl c.in_ok-put.ensures
    (on_joined c.put_amount.result c.put.new.out.items c.put_text.new.out.items c.put_amount.new.out.items _ _ _ refl (simp c.as_bytes.ensures at c.in_ok-put_text.ensures)
    (on_joined c.put_amount.result c.put_text.new.out.items c.put_count.new.out.items c.put_amount.new.out.items _ _ _ refl (simp c.from.ensures at c.in_ok-put_count.ensures)
    (on_joined c.put_amount.result c.put_count.new.out.items c.put-2.new.out.items c.put_amount.new.out.items _ _ _ refl (rw c.wide.ensures at c.in_ok-put-2.ensures)
    (on_joined c.put_amount.result c.put-2.new.out.items c.put_places.new.out.items c.put_amount.new.out.items _ _ _ refl c.in_ok-put_places.ensures (simp to_z-of_z at c.put_amount.ensures)))))))
