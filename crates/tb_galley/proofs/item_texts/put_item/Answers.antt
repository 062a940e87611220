use Rattle.std.proofs.Common.{◌++◌, ◌∙◌, List, ℕ, ap, refl, append_assoc}
use Rattle.tb_text.specs.Fields.{line}
use Rattle.tb_text.proofs.FrontLemmas.{on_joined, when_ok}
use Rattle.tb_galley.specs.CanonicalText.{float_text, margin_text, ending_text}
use Rattle.tb_galley.proofs.item_texts.put_item.Goals as goal

pub returns-in_ok-put_ending-in-Float : goal.returns-in_ok-put_ending-in-Float
returns-in_ok-put_ending-in-Float c =
    let f = c.in-Float.float in
    let first = c.in_ok-put_float-in-Float.ensures in
    let both = c.in_ok-put_ending-in-Float.ensures ∙ ap (λ (t : List ℕ). t ++ ending_text c.in-Float.vert f.nobreak) first ∙ append_assoc c.args.out.now.items (float_text f) (ending_text c.in-Float.vert f.nobreak) in
    rw c.in-Float.is (when_ok c.put-in-Float.result c.args.out.now.items (line (float_text f ++ ending_text c.in-Float.vert f.nobreak)) c.put-in-Float.new.out.items
    (on_joined c.put-in-Float.result c.args.out.now.items c.put_ending.new.out.items c.put-in-Float.new.out.items _ _ _ refl both c.put-in-Float.ensures))

pub returns-in_ok-put_ending-in-Margin : goal.returns-in_ok-put_ending-in-Margin
returns-in_ok-put_ending-in-Margin c =
    let m = c.in-Margin.margin in
    let first = c.in_ok-put_margin-in-Margin.ensures in
    let both = c.in_ok-put_ending-in-Margin.ensures ∙ ap (λ (t : List ℕ). t ++ ending_text c.in-Margin.vert m.nobreak) first ∙ append_assoc c.args.out.now.items (margin_text m) (ending_text c.in-Margin.vert m.nobreak) in
    rw c.in-Margin.is (when_ok c.put-in-Margin.result c.args.out.now.items (line (margin_text m ++ ending_text c.in-Margin.vert m.nobreak)) c.put-in-Margin.new.out.items
    (on_joined c.put-in-Margin.result c.args.out.now.items c.put_ending-in-Margin.new.out.items c.put-in-Margin.new.out.items _ _ _ refl both c.put-in-Margin.ensures))
