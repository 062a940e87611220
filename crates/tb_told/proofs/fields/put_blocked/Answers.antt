use Rattle.std.proofs.Common.{List, append_assoc, ℕ, ◌++◌, ◌≡◌}
use Rattle.std.specs.Prelude.{Option}
use Rattle.tb_text.specs.Fields.{and_text}
use Rattle.tb_text.proofs.FrontLemmas.{cut-in, fails, on_joined}
use Rattle.tb_node.specs.declared.Name.{Name}
use Rattle.tb_node.specs.declared.Float.{Float}
use Rattle.tb_told.specs.Lines.{blocker_text}
use Rattle.tb_told.proofs.fields.put_blocked.Goals as goal

-- the parts, one after another
joined : (a b d : List ℕ) → (a ++ b) ++ d ≡ a ++ b ++ d
joined a b d = simp append_assoc

-- those of the text
parts : (word : List ℕ) (name : Name) (blocker : Option Float) → (word ++ and_text name) ++ blocker_text blocker ≡ word ++ and_text name ++ blocker_text blocker
parts word name blocker = joined word (and_text name) (blocker_text blocker)

pub returns-in_err-put_head : goal.returns-in_err-put_head
returns-in_err-put_head c =
    fails _ _ _ _ c.from_residual.ensures.0 (cut-in _ _ (parts c.args.word.now c.args.name.now c.args.blocker.now) c.in_err-put_head.ensures)

pub returns : goal.returns
returns c =
    on_joined c.put_blocker.result c.args.out.now.items c.put_head.new.out.items c.put_blocker.new.out.items _ _ _ (parts c.args.word.now c.args.name.now c.args.blocker.now) c.in_ok-put_head.ensures c.put_blocker.ensures
