use Rattle.std.proofs.Common.{FitsSigned, List, append_assoc, codes, rules, w64, ℕ, ◌++◌, ◌≡◌}
use Rattle.std.proofs.lemmas.Int.{to_z-of_z}
use Rattle.tb_text.specs.Fields.{and_number}
use Rattle.tb_text.proofs.FrontLemmas.{cut-in, fails, on_joined}
use Rattle.tb_told.specs.declared.Entering.{Entering}
use Rattle.tb_told.proofs.decisions.put_needs.Goals as goal

-- the parts, one after another
joined : (a b d e f g h i : List ℕ) → (a ++ b ++ d ++ e) ++ (f ++ g ++ h ++ i) ≡ a ++ b ++ d ++ e ++ f ++ g ++ h ++ i
joined a b d e f g h i = simp append_assoc

-- those of the text
parts : (t : Entering) → (codes " least" ++ and_number t.least ++ codes " high" ++ and_number t.high) ++ (codes " room" ++ and_number t.room ++ codes " need" ++ and_number t.need) ≡ codes " least" ++ and_number t.least ++ codes " high" ++ and_number t.high ++ codes " room" ++ and_number t.room ++ codes " need" ++ and_number t.need
parts t = joined (codes " least") (and_number t.least) (codes " high") (and_number t.high) (codes " room") (and_number t.room) (codes " need") (and_number t.need)

pub returns-in_err-put_least : goal.returns-in_err-put_least
returns-in_err-put_least c =
    let a : FitsSigned w64 c.args.t.now.least = search rules in
    let b : FitsSigned w64 c.args.t.now.high = search rules in
    fails _ _ _ _ c.from_residual.ensures.0 (cut-in _ _ (parts c.args.t.now) (simp to_z-of_z at c.in_err-put_least.ensures))

pub returns : goal.returns
returns c =
    let a : FitsSigned w64 c.args.t.now.least = search rules in
    let b : FitsSigned w64 c.args.t.now.high = search rules in
    let d : FitsSigned w64 c.args.t.now.room = search rules in
    let e : FitsSigned w64 c.args.t.now.need = search rules in
    on_joined c.put_room.result c.args.out.now.items c.put_least.new.out.items c.put_room.new.out.items _ _ _ (parts c.args.t.now) (simp to_z-of_z at c.in_ok-put_least.ensures) (simp to_z-of_z at c.put_room.ensures)
