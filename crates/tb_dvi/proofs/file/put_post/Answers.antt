use Rattle.std.proofs.Common.{refl, rules, ◌∷◌, [], List, ℕ, FitsSigned, w32, w64}
use Rattle.std.proofs.lemmas.Int.{to_z-of_z}
use Rattle.tb_dvi.specs.File.{post_fields, file_end}
use Rattle.tb_dvi.proofs.JoinedTexts.{joins}
use Rattle.tb_text.proofs.FrontLemmas.{on_joined, cut, fails, past}
use Rattle.tb_dvi.proofs.file.put_post.Goals as goal

pub returns : goal.returns
returns c =
    let height : FitsSigned w32 c.args.p.now.textheight = c.requires.height in
    let wide : FitsSigned w64 c.args.p.now.textheight = search rules in
    let last : FitsSigned w64 c.args.last = c.ranges.last in
    let short : FitsSigned w32 c.args.last = search rules in
    let old : List ℕ = c.args.out.now.items in
    let fields : List ℕ = post_fields c.args.p.now.textheight c.args.pages c.args.any c.args.last in
    let p2 = joins old c.put.new.out.items c.put_fields.new.out.items (248 ∷ []) fields c.in_ok-put.ensures (simp to_z-of_z at c.in_ok-put_fields.ensures) in
    on_joined c.put_end.result old c.put_fields.new.out.items c.put_end.new.out.items (248 ∷ fields) (file_end c.args.place) _ refl p2 c.put_end.ensures

pub returns-in_err-put : goal.returns-in_err-put
returns-in_err-put c =
    fails _ _ _ _ c.from_residual.ensures.0 (cut _ c.in_err-put.ensures)

pub returns-in_err-put_fields : goal.returns-in_err-put_fields
returns-in_err-put_fields c =
    let height : FitsSigned w32 c.args.p.now.textheight = c.requires.height in
    let wide : FitsSigned w64 c.args.p.now.textheight = search rules in
    let last : FitsSigned w64 c.args.last = c.ranges.last in
    let short : FitsSigned w32 c.args.last = search rules in
    fails _ _ _ _ c.from_residual-in_err-put_fields.ensures.0 (past _ c.in_ok-put.ensures (cut _ (simp to_z-of_z at c.in_err-put_fields.ensures)))
