use Rattle.std.proofs.Common.{refl}
use Rattle.tb_builder.proofs.LegalPlaces.CourseLemmas.{course_put_flat}
use Rattle.tb_builder.proofs.Course.put_flat.Goals as goal

pub returns : goal.returns
returns c = λ n z page bs held flat h a i. course_put_flat z c.args.self.now _ page bs held n c.args.lasting flat h a i refl refl refl refl
