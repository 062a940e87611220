use Rattle.std.proofs.Common.{refl, FitsSigned, w64, arith}
use Rattle.std.proofs.lemmas.Int.{to_z-of_z}
use Rattle.tb_builder.proofs.WorkedPages.WorkedLemmas.{open_ready, sized_class, no_skip, extent_of}
use Rattle.tb_page_tests.proofs.builder.open.Goals as goal

pub returns-clause-ready : goal.returns-clause-ready
returns-clause-ready c =
    let g : FitsSigned w64 c.args.goal = c.ranges.goal in
    simp to_z-of_z (open_ready c.in_ok-builder.builder c.new_builder.new.store _ _ c.in_ok-builder.ensures.sound c.in_ok-builder.ensures.contents (sized_class _ refl c.fixed.ensures) refl (record { goal = c.requires; depth = extent_of 0 (omega arith); top_skip = extent_of 10 (omega arith); foot_skip = no_skip _ c.fixed-2.ensures }))
