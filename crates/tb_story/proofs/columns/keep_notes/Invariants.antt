use Rattle.std.proofs.Common.{◌≡◌, drop}
use Rattle.tb_story.specs.Summary.{kept_all}
use Rattle.tb_story.specs.Counts.{AreOver, StaysSound}
use Rattle.tb_story.proofs.columns.keep_notes.Given as goal

abbrev pub invariant-loop-n : goal.invariant-loop-n
invariant-loop-n l = record {
  over : AreOver l.over l.stories;
  sound : StaysSound l.over l.fn.stories l.stories;
  left : kept_all l.notes l.fn.stories ≡ kept_all (drop l.n-index l.notes) l.stories;
}
