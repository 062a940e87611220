use Rattle.std.proofs.Common.{refl}
use Rattle.tb_node.specs.PlainNodes.{inserted_of}
use Rattle.tb_builder.proofs.LegalPlaces.CourseLemmas.{course_joined}
use Rattle.tb_builder.proofs.Course.join_late.Goals as goal

pub returns : goal.returns
returns c = λ held class size z page bs line number h co.
    course_joined z c.args.self.now _ page bs line (inserted_of held c.args.ins.now) class size c.args.index h co number
    (λ marked a. c.arrive_late.ensures.stands held class size c.args.self.now.scan z page marked line number a co) (λ marked a. c.arrive_late.ensures.scan class c.args.self.now.scan z page marked a) refl refl
