use Rattle.tb_builder.specs.Contents.{contents_of}
use Rattle.tb_builder.specs.Courses.{IsSound}
use Rattle.tb_page_tests.proofs.PlainLemmas.{IsFilling}
use Rattle.tb_page_tests.proofs.plain.fires.Given as goal

abbrev pub invariant-loop : goal.invariant-loop
invariant-loop l = record {
  sound : IsSound l.p.builder l.p.store;
  filling : IsFilling (contents_of l.p.builder l.p.store) l.p.ask;
}
