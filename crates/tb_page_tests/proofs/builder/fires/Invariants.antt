use Rattle.std.proofs.Common.{◌≡◌, ◌≤◌, true, []}
use Rattle.tb_builder.specs.Contents.{contents_of}
use Rattle.tb_builder.specs.Ownership.{has_class}
use Rattle.tb_builder.specs.Courses.{IsSound}
use Rattle.tb_builder.specs.PageEvents.{NextFits}
use Rattle.tb_builder.specs.SizedContents.{IsSizedAsk, IsSizedContents, whole_count}
use Rattle.tb_page_tests.proofs.builder.fires.Given as goal

abbrev pub invariant-loop : goal.invariant-loop
invariant-loop l = record {
  sound : IsSound l.p.builder l.p.store;
  fits : NextFits (contents_of l.p.builder l.p.store) l.p.ask;
  none_held : (contents_of l.p.builder l.p.store).held ≡ [];
  sized : IsSizedContents (contents_of l.p.builder l.p.store);
  few : whole_count (contents_of l.p.builder l.p.store) ≤ 4194305;
  asked : IsSizedAsk l.p.ask;
  known : has_class (contents_of l.p.builder l.p.store).classes 254 ≡ true;
}
