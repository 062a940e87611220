use Rattle.std.proofs.Common.{refl, rules, ◌≡◌, ◌++◌, ◌%◌, List, ℕ, FitsSigned, w32}
use Rattle.std.proofs.lemmas.Int.{to_z-of_z}
use Rattle.tb_dvi.specs.File.{signed_4, four, two_bytes, greatest_depth}
use Rattle.tb_dvi.proofs.JoinedTexts.{joins}
use Rattle.tb_text.proofs.FrontLemmas.{on_joined, cut, fails, past}
use Rattle.tb_dvi.proofs.file.put_sizes.Goals as goal

pub returns : goal.returns
returns c =
    let t : FitsSigned w32 c.args.textheight = c.ranges.textheight in
    let old : List ℕ = c.args.out.now.items in
    let p1 : c.put_signed.new.out.items ≡ old ++ signed_4 c.args.textheight = simp to_z-of_z at c.in_ok-put_signed.ensures in
    let p2 = joins old c.put_signed.new.out.items c.put_four.new.out.items (signed_4 c.args.textheight) (four 19726336) p1 c.in_ok-put_four.ensures in
    let p3 = joins old c.put_four.new.out.items c.put_two.new.out.items (signed_4 c.args.textheight ++ four 19726336) (two_bytes (greatest_depth c.args.any)) p2 (search rules) in
    on_joined c.put_two-2.result old c.put_two.new.out.items c.put_two-2.new.out.items (signed_4 c.args.textheight ++ four 19726336 ++ two_bytes (greatest_depth c.args.any)) (two_bytes (c.args.pages % 65536)) _ refl p3 c.put_two-2.ensures

pub returns-in_err-put_signed : goal.returns-in_err-put_signed
returns-in_err-put_signed c =
    let ft : FitsSigned w32 c.args.textheight = c.ranges.textheight in
    fails _ _ _ _ c.from_residual.ensures.0 (cut _ (simp to_z-of_z at c.in_err-put_signed.ensures))

pub returns-in_err-put_four : goal.returns-in_err-put_four
returns-in_err-put_four c =
    let ft : FitsSigned w32 c.args.textheight = c.ranges.textheight in
    fails _ _ _ _ c.from_residual-in_err-put_four.ensures.0 (past _ (simp to_z-of_z at c.in_ok-put_signed.ensures) (cut _ c.in_err-put_four.ensures))

pub returns-in_err-put_two : goal.returns-in_err-put_two
returns-in_err-put_two c =
    let ft : FitsSigned w32 c.args.textheight = c.ranges.textheight in
    fails _ _ _ _ c.from_residual-in_err-put_two.ensures.0 (past _ (simp to_z-of_z at c.in_ok-put_signed.ensures) (past _ c.in_ok-put_four.ensures (cut _ (rw c.greatest_depth.ensures at c.in_err-put_two.ensures))))
