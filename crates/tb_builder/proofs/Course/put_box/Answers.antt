use Rattle.std.proofs.Common.{refl, FitsSigned, w64}
use Rattle.std.proofs.lemmas.Int.{to_z-of_z}
use Rattle.tb_node.specs.Shape.{box}
use Rattle.tb_builder.proofs.LegalPlaces.CourseLemmas.{course_put_shape}
use Rattle.tb_builder.proofs.Course.put_box.Goals as goal

pub returns : goal.returns
returns c = λ n z page bs held shape h a i.
    let t : FitsSigned w64 c.args.height = c.ranges.height in
    let d : FitsSigned w64 c.args.depth = c.ranges.depth in
    let value = simp to_z-of_z at c.add_box.ensures.value in
    course_put_shape z c.args.self.now _ page bs held n (box c.args.height c.args.depth) shape h a i value refl refl refl
