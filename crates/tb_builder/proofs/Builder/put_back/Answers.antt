use Rattle.tb_builder.proofs.Handover.FrontLemmas.{put_contents, put_sound, put_others, put_keeps}
use Rattle.tb_builder.proofs.Builder.put_back.Goals as goal

pub returns-clause-sound : goal.returns-clause-sound
returns-clause-sound c = put_sound c.args.self.now c.args.store.now c.put_in_front.new.store c.args.list c.requires.sound c.requires.joins c.requires.empty c.put_in_front.ensures.front

pub returns-clause-contents : goal.returns-clause-contents
returns-clause-contents c = put_contents c.args.self.now c.args.store.now c.put_in_front.new.store c.args.list c.requires.sound c.requires.joins c.requires.empty c.put_in_front.ensures.front

pub returns-clause-others : goal.returns-clause-others
returns-clause-others c = put_others c.args.self.now c.args.store.now c.put_in_front.new.store c.args.list c.requires.sound c.requires.joins c.requires.empty c.put_in_front.ensures.front

pub returns-clause-keeps : goal.returns-clause-keeps
returns-clause-keeps c = put_keeps c.args.self.now c.args.store.now c.put_in_front.new.store c.args.list c.requires.sound c.requires.joins c.requires.empty c.put_in_front.ensures.front
