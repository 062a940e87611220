use Rattle.std.proofs.Common.{List, append_assoc, codes, ℕ, ◌++◌, ◌≡◌}
use Rattle.tb_text.specs.Fields.{and_count, and_text}
use Rattle.tb_text.proofs.FrontLemmas.{cut-in, fails, on_joined}
use Rattle.tb_node.specs.declared.Margin.{Margin}
use Rattle.tb_told.proofs.places.put_note.Goals as goal

-- the parts, one after another
joined : (a b d : List ℕ) → (a ++ b) ++ d ≡ a ++ b ++ d
joined a b d = simp append_assoc

-- those of the text
parts : (m : Margin) → (codes "beside" ++ and_text m.name) ++ and_count m.line ≡ codes "beside" ++ and_text m.name ++ and_count m.line
parts m = joined (codes "beside") (and_text m.name) (and_count m.line)

pub returns-in_err-put_head : goal.returns-in_err-put_head
returns-in_err-put_head c =
    fails _ _ _ _ c.from_residual.ensures.0 (cut-in _ _ (parts c.args.m.now) c.in_err-put_head.ensures)

pub returns : goal.returns
returns c =
    on_joined c.put_count.result c.args.out.now.items c.put_head.new.out.items c.put_count.new.out.items _ _ _ (parts c.args.m.now) c.in_ok-put_head.ensures (simp c.from.ensures at c.put_count.ensures)
