use Rattle.tb_plain.proofs.GrowLemmas.{box-grows, text-grows, text-emptied}
use Rattle.tb_plain.proofs.firing.gather_text.Goals as goal

pub returns-clause-grows : goal.returns-clause-grows
returns-clause-grows c =
    text-grows c.args.b.now c.take_box.new.self c.args.store.now c.take_box.new.store c.append.new.self c.args.list c.args.body _ _ c.requires.free c.requires.body_free c.requires.apart c.requires.leaves
    (box-grows c.args.b.now c.take_box.new.self c.args.store.now c.take_box.new.store c.args.list 253 c.take_box.ensures.sound c.take_box.ensures.contents c.take_box.ensures.taken c.take_box.ensures.others c.take_box.ensures.keeps)
    c.append.ensures.joined

pub returns-clause-emptied : goal.returns-clause-emptied
returns-clause-emptied c =
    text-emptied c.args.b.now c.take_box.new.self c.args.store.now c.take_box.new.store c.append.new.self c.args.list c.args.body _ _ c.requires.free c.requires.body_free c.requires.apart c.requires.leaves
    (box-grows c.args.b.now c.take_box.new.self c.args.store.now c.take_box.new.store c.args.list 253 c.take_box.ensures.sound c.take_box.ensures.contents c.take_box.ensures.taken c.take_box.ensures.others c.take_box.ensures.keeps)
    c.append.ensures.joined
