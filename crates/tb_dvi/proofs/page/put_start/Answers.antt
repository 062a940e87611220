use Rattle.std.proofs.Common.{refl, ◌≡◌, ◌++◌, ◌∷◌, ◌%◌, [], List, ℕ, replicate, FitsSigned, w32}
use Rattle.std.proofs.lemmas.Int.{to_z-of_z}
use Rattle.tb_dvi.specs.File.{four, signed_4}
use Rattle.tb_dvi.proofs.JoinedTexts.{joins}
use Rattle.tb_text.proofs.FrontLemmas.{on_joined, cut, fails, past}
use Rattle.tb_dvi.proofs.page.put_start.Goals as goal

pub returns : goal.returns
returns c =
    let l : FitsSigned w32 c.args.last = c.ranges.last in
    let old : List ℕ = c.args.out.now.items in
    let b1 : List ℕ = 139 ∷ [] in
    let b2 : List ℕ = b1 ++ four (c.args.number % 4294967296) in
    let b3 : List ℕ = b2 ++ replicate 36 0 in
    let p1 : c.put.new.out.items ≡ old ++ b1 = c.in_ok-put.ensures in
    let p2 = joins old c.put.new.out.items c.put_four.new.out.items b1 (four (c.args.number % 4294967296)) p1 c.in_ok-put_four.ensures in
    let p3 = joins old c.put_four.new.out.items c.put-2.new.out.items b2 (replicate 36 0) p2 c.in_ok-put-2.ensures in
    on_joined c.put_signed.result old c.put-2.new.out.items c.put_signed.new.out.items b3 (signed_4 c.args.last) _ refl p3 (simp to_z-of_z at c.put_signed.ensures)

pub returns-in_err-put : goal.returns-in_err-put
returns-in_err-put c =
    fails _ _ _ _ c.from_residual.ensures.0 (cut _ c.in_err-put.ensures)

pub returns-in_err-put_four : goal.returns-in_err-put_four
returns-in_err-put_four c =
    fails _ _ _ _ c.from_residual-in_err-put_four.ensures.0 (past _ c.in_ok-put.ensures (cut _ c.in_err-put_four.ensures))

pub returns-in_err-put-2 : goal.returns-in_err-put-2
returns-in_err-put-2 c =
    fails _ _ _ _ c.from_residual-in_err-put-2.ensures.0 (past _ c.in_ok-put.ensures (past _ c.in_ok-put_four.ensures (cut _ c.in_err-put-2.ensures)))
