use Rattle.std.proofs.Common.{refl, FitsSigned, w64}
use Rattle.std.proofs.lemmas.Int.{to_z-of_z}
use Rattle.tb_pool.specs.Lists.{list_at}
use Rattle.tb_node.specs.PlainNodes.{inserted_of}
use Rattle.tb_builder.proofs.LegalPlaces.CourseLemmas.{course_joined}
use Rattle.tb_builder.proofs.Course.join.Goals as goal

pub returns : goal.returns
returns c = λ z page bs line h co.
    let b : FitsSigned w64 c.args.box_size = c.ranges.box_size in
    let stands = simp to_z-of_z at c.arrive.ensures.stands in
    course_joined z c.args.self.now _ page bs line (inserted_of (list_at c.args.store.now) c.args.ins.now) c.args.class.now c.args.box_size c.args.index h co c.requires.number
    (λ marked a. stands z page marked line a co) (λ marked a. c.arrive.ensures.scan z page marked a) refl refl
