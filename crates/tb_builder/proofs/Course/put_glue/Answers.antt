use Rattle.std.proofs.Common.{refl}
use Rattle.tb_node.specs.Shape.{glue}
use Rattle.tb_builder.proofs.LegalPlaces.CourseLemmas.{course_put_shape}
use Rattle.tb_builder.proofs.Course.put_glue.Goals as goal

pub returns : goal.returns
returns c = λ n z page bs held shape h a i. course_put_shape z c.args.self.now _ page bs held n (glue c.args.g) shape h a i c.add_glue.ensures.value refl refl refl
