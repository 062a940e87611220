use Rattle.std.proofs.Common.{FitsSigned, w64}
use Rattle.std.proofs.lemmas.Int.{to_z-of_z}
use Rattle.tb_builder.proofs.LegalPlaces.CourseLemmas.{course_started}
use Rattle.tb_builder.proofs.courses.started.Goals as goal

pub returns : goal.returns
returns c = λ z page g l differ loose lasting.
    let m : FitsSigned w64 c.args.max_depth = c.ranges.max_depth in
    let h : FitsSigned w64 c.args.goal = c.ranges.goal in
    let value = simp to_z-of_z at c.new_scan.ensures.value in
    let stands = simp to_z-of_z at c.new_account.ensures in
    course_started z _ c.args.max_depth page value l c.new_scan.ensures.none (stands z g differ) lasting loose
