use Rattle.std.proofs.Common.{refl, sym, ap, ◌∙◌}
use Rattle.std.proofs.lemmas.List.{drop_all}
use Rattle.tb_story.specs.Summary.{kept_all}
use Rattle.tb_story.proofs.StoryLemmas.{kept_step}
use Rattle.tb_story.proofs.columns.keep_notes.Goals as goal

pub loop-n-init : goal.loop-n-init
loop-n-init c = record { over = c.requires; sound = λ n h. h; left = refl }

pub loop-n-preserved : goal.loop-n-preserved
loop-n-preserved c = record {
  over = c.keep_story.ensures.over;
  sound = λ n h. c.keep_story.ensures.sound n (c.loop-n.invariant.sound n h);
  left = c.loop-n.invariant.left ∙ kept_step c.args.notes.now c.loop-n.n-index c.n-item.result c.loop-n.stories c.keep_story.new.stories c.loop-n-test.true c.n-item.is c.keep_story.ensures.kept;
}

pub returns-clause-kept : goal.returns-clause-kept
returns-clause-kept c =
    sym (c.loop-n.invariant.left ∙ ap (λ t. kept_all t c.loop-n.stories) (drop_all c.loop-n.n-index c.args.notes.now c.loop-n-test.false))

pub returns-clause-over : goal.returns-clause-over
returns-clause-over c = c.loop-n.invariant.over

pub returns-clause-sound : goal.returns-clause-sound
returns-clause-sound c n h = c.loop-n.invariant.sound n h
