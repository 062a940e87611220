use Rattle.std.proofs.Common.{length}
use Rattle.tb_builder.specs.Contents.{contents_of}
use Rattle.tb_builder.proofs.Events.FilledLemmas.{Filling}
use Rattle.tb_builder.proofs.Builder.fill.Given as goal

abbrev pub invariant-turns : goal.invariant-turns
invariant-turns l = Filling l.fn.self l.fn.store l.ask l.self l.store

abbrev pub decreases-turns : goal.decreases-turns
decreases-turns l = length (contents_of l.self l.store).waiting
