use Rattle.std.proofs.Common.{refl, ◌≡◌, ◌++◌, ◌%◌, List, ℕ, FitsSigned, w32}
use Rattle.std.proofs.lemmas.Int.{to_z-of_z}
use Rattle.tb_dvi.specs.File.{signed_4, four, two_bytes, units, greatest_depth}
use Rattle.tb_dvi.proofs.JoinedTexts.{joins}
use Rattle.tb_text.proofs.FrontLemmas.{on_joined, cut, fails, past}
use Rattle.tb_dvi.proofs.file.put_fields.Goals as goal

pub returns : goal.returns
returns c =
    let t : FitsSigned w32 c.args.textheight = c.ranges.textheight in
    let l : FitsSigned w32 c.args.last = c.ranges.last in
    let old : List ℕ = c.args.out.now.items in
    let sizes : List ℕ = signed_4 c.args.textheight ++ four 19726336 ++ two_bytes (greatest_depth c.args.any) ++ two_bytes (c.args.pages % 65536) in
    let p1 : c.put_signed.new.out.items ≡ old ++ signed_4 c.args.last = simp to_z-of_z at c.in_ok-put_signed.ensures in
    let p2 = joins old c.put_signed.new.out.items c.put_units.new.out.items (signed_4 c.args.last) units p1 c.in_ok-put_units.ensures in
    let p3 = simp to_z-of_z at c.put_sizes.ensures in
    on_joined c.put_sizes.result old c.put_units.new.out.items c.put_sizes.new.out.items (signed_4 c.args.last ++ units) sizes _ refl p2 p3

pub returns-in_err-put_signed : goal.returns-in_err-put_signed
returns-in_err-put_signed c =
    let fl : FitsSigned w32 c.args.last = c.ranges.last in
    fails _ _ _ _ c.from_residual.ensures.0 (cut _ (simp to_z-of_z at c.in_err-put_signed.ensures))

pub returns-in_err-put_units : goal.returns-in_err-put_units
returns-in_err-put_units c =
    let fl : FitsSigned w32 c.args.last = c.ranges.last in
    fails _ _ _ _ c.from_residual-in_err-put_units.ensures.0 (past _ (simp to_z-of_z at c.in_ok-put_signed.ensures) (cut _ c.in_err-put_units.ensures))
