use Rattle.std.proofs.Common.{FitsSigned, List, append_assoc, codes, w64, ℕ, ℤ, ◌++◌, ◌≡◌}
use Rattle.std.proofs.lemmas.Int.{to_z-of_z}
use Rattle.tb_text.specs.Fields.{and_number}
use Rattle.tb_text.proofs.FrontLemmas.{cut-in, fails, on_joined}
use Rattle.tb_told.proofs.decisions.put_fit.Goals as goal

-- the parts, one after another
joined : (a b d e f g h i : List ℕ) → (a ++ b ++ d ++ e) ++ (f ++ g ++ h ++ i) ≡ a ++ b ++ d ++ e ++ f ++ g ++ h ++ i
joined a b d e f g h i = simp append_assoc

-- those of the text
parts : (room need share high : ℤ) → (codes " room" ++ and_number room ++ codes " need" ++ and_number need) ++ (codes " share" ++ and_number share ++ codes " high" ++ and_number high) ≡ codes " room" ++ and_number room ++ codes " need" ++ and_number need ++ codes " share" ++ and_number share ++ codes " high" ++ and_number high
parts room need share high = joined (codes " room") (and_number room) (codes " need") (and_number need) (codes " share") (and_number share) (codes " high") (and_number high)

pub returns-in_err-put_room : goal.returns-in_err-put_room
returns-in_err-put_room c =
    let a : FitsSigned w64 c.args.room = c.ranges.room in
    let b : FitsSigned w64 c.args.need = c.ranges.need in
    fails _ _ _ _ c.from_residual.ensures.0 (cut-in _ _ (parts c.args.room c.args.need c.args.share c.args.high) (simp to_z-of_z at c.in_err-put_room.ensures))

pub returns : goal.returns
returns c =
    let a : FitsSigned w64 c.args.room = c.ranges.room in
    let b : FitsSigned w64 c.args.need = c.ranges.need in
    let d : FitsSigned w64 c.args.share = c.ranges.share in
    let e : FitsSigned w64 c.args.high = c.ranges.high in
    on_joined c.put_share.result c.args.out.now.items c.put_room.new.out.items c.put_share.new.out.items _ _ _ (parts c.args.room c.args.need c.args.share c.args.high) (simp to_z-of_z at c.in_ok-put_room.ensures) (simp to_z-of_z at c.put_share.ensures)
