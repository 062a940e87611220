use Rattle.std.proofs.Common.{refl}
use Rattle.tb_builder.proofs.LegalPlaces.CourseLemmas.{course_put_node}
use Rattle.tb_builder.proofs.Course.put.Goals as goal

pub returns : goal.returns
returns c = λ z page bs held h a i. course_put_node z c.args.self.now _ page bs held c.args.n.now h a i c.add.ensures.value refl refl c.is_lasting-self.ensures
