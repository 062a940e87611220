use Rattle.std.proofs.Common.{rules, FitsSigned, w64}
use Rattle.std.proofs.lemmas.Int.{to_z-of_z}
use Rattle.tb_galley.specs.CanonicalText.{box_text, pair_text}
use Rattle.tb_galley.proofs.JoinedTexts.{on_joined}
use Rattle.tb_galley.proofs.item_texts.put_sides.Goals as goal

pub returns : goal.returns
returns c =
    let a : FitsSigned w64 c.args.margin.now.left_height = search rules in
    let b : FitsSigned w64 c.args.margin.now.left_depth = search rules in
    let d : FitsSigned w64 c.args.margin.now.right_height = search rules in
    let e : FitsSigned w64 c.args.margin.now.right_depth = search rules in
    let front = simp to_z-of_z at c.in_ok-put_box.ensures in
    let back = simp to_z-of_z at c.put_pair.ensures in
    on_joined c.put_pair.result c.args.out.now.items c.put_box.new.out.items c.put_pair.new.out.items
    (box_text c.args.word.now c.args.margin.now.name c.args.margin.now.left_height c.args.margin.now.left_depth)
    (pair_text c.args.margin.now.right_height c.args.margin.now.right_depth)
    front back
