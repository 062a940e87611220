use Rattle.std.proofs.Common.{◌≡◌, ◌++◌, ◌∷◌, [], List, ℕ, codes, FitsSigned, w64}
use Rattle.std.proofs.lemmas.Int.{to_z-of_z}
use Rattle.tb_text.specs.Fields.{and_number}
use Rattle.tb_dvi.proofs.JoinedTexts.{joins, joins-last}
use Rattle.tb_dvi.proofs.listing.put_rule.Goals as goal

pub returns : goal.returns
returns c =
    let h : FitsSigned w64 c.args.h = c.ranges.h in
    let v : FitsSigned w64 c.args.v = c.ranges.v in
    let a : FitsSigned w64 c.args.height = c.ranges.height in
    let b : FitsSigned w64 c.args.width = c.ranges.width in
    let old : List ℕ = c.args.out.now.items in
    let t1 : List ℕ = codes "rule" ++ and_number c.args.h in
    let t2 : List ℕ = t1 ++ and_number c.args.v in
    let t3 : List ℕ = t2 ++ and_number c.args.height in
    let t4 : List ℕ = t3 ++ and_number c.args.width in
    let p1 : c.put_measure.new.out.items ≡ old ++ t1 = simp to_z-of_z at c.in_ok-put_measure.ensures in
    let p2 = joins old c.put_measure.new.out.items c.put_amount.new.out.items t1 (and_number c.args.v) p1 (simp to_z-of_z at c.in_ok-put_amount.ensures) in
    let p3 = joins old c.put_amount.new.out.items c.put_amount-2.new.out.items t2 (and_number c.args.height) p2 (simp to_z-of_z at c.in_ok-put_amount-2.ensures) in
    let p4 = joins old c.put_amount-2.new.out.items c.put_amount-3.new.out.items t3 (and_number c.args.width) p3 (simp to_z-of_z at c.in_ok-put_amount-3.ensures) in
    joins-last c.end_line.result old c.put_amount-3.new.out.items c.end_line.new.out.items t4 (10 ∷ []) p4 c.end_line.ensures
