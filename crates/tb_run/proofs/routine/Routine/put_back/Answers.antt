use Rattle.std.proofs.Common.{◌∙◌, ap}
use Rattle.tb_builder.specs.Contents.{Contents}
use Rattle.tb_run.proofs.Turns.WholeLemmas.{back-contents, back-shown, back-whole}
use Rattle.tb_run.proofs.routine.Routine.put_back.Goals as goal

pub returns-clause-whole : goal.returns-clause-whole
returns-clause-whole c = back-whole c.args.self.now c.put_back.new.store c.close.new.self c.put_back.new.self c.args.list c.requires.whole c.requires.list c.put_back.ensures.sound c.put_back.ensures.others c.put_back.ensures.keeps c.close.ensures.closed (ap (λ (x : Contents). x.classes) c.put_back.ensures.contents)

pub returns-clause-contents : goal.returns-clause-contents
returns-clause-contents c =
    back-contents c.args.self.now c.put_back.new.store c.close.new.self c.put_back.new.self c.args.list c.requires.whole c.requires.list c.put_back.ensures.sound c.put_back.ensures.others c.put_back.ensures.keeps c.close.ensures.closed
    ∙ c.put_back.ensures.contents

pub returns-clause-events : goal.returns-clause-events
returns-clause-events c = (back-shown c.args.self.now c.put_back.new.store c.close.new.self c.put_back.new.self c.args.list c.requires.whole c.requires.list c.put_back.ensures.sound c.put_back.ensures.others c.put_back.ensures.keeps c.close.ensures.closed).events

pub returns-clause-state : goal.returns-clause-state
returns-clause-state c = (back-shown c.args.self.now c.put_back.new.store c.close.new.self c.put_back.new.self c.args.list c.requires.whole c.requires.list c.put_back.ensures.sound c.put_back.ensures.others c.put_back.ensures.keeps c.close.ensures.closed).state
