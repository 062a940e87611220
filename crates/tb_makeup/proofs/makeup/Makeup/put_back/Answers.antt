use Rattle.std.proofs.Common.{◌∙◌}
use Rattle.tb_makeup.proofs.Shipping.BackLemmas.{back-sound, back-contents, back-others, back-keeps}
use Rattle.tb_makeup.proofs.makeup.Makeup.put_back.Goals as goal

pub returns-clause-sound : goal.returns-clause-sound
returns-clause-sound c = back-sound c.args.self.now.store c.put_back.new.store c.close.new.self c.args.self.now.builder c.put_back.new.self c.args.list c.requires.joins c.put_back.ensures.sound c.put_back.ensures.others c.put_back.ensures.keeps c.close.ensures.closed

pub returns-clause-contents : goal.returns-clause-contents
returns-clause-contents c =
    back-contents c.args.self.now.store c.put_back.new.store c.close.new.self c.args.self.now.builder c.put_back.new.self c.args.list c.requires.joins c.put_back.ensures.sound c.put_back.ensures.others c.put_back.ensures.keeps c.close.ensures.closed
    ∙ c.put_back.ensures.contents

pub returns-clause-others : goal.returns-clause-others
returns-clause-others c = back-others c.args.self.now.store c.put_back.new.store c.close.new.self c.args.self.now.builder c.put_back.new.self c.args.list c.requires.joins c.put_back.ensures.sound c.put_back.ensures.others c.put_back.ensures.keeps c.close.ensures.closed

pub returns-clause-keeps : goal.returns-clause-keeps
returns-clause-keeps c = back-keeps c.args.self.now.store c.put_back.new.store c.close.new.self c.args.self.now.builder c.put_back.new.self c.args.list c.requires.joins c.put_back.ensures.sound c.put_back.ensures.others c.put_back.ensures.keeps c.close.ensures.closed
