use Rattle.tb_plain.proofs.PutLemmas.{put-first}
use Rattle.tb_plain.proofs.taken_floats.put_list.Goals as goal

pub returns : goal.returns
returns c =
    put-first c.args.b.now c.put_first.new.self c.args.store.now c.put_first.new.store c.close.new.self c.args.list c.requires.joins c.put_first.ensures.sound c.put_first.ensures.contents
    c.put_first.ensures.others c.put_first.ensures.keeps c.put_first.ensures.owns c.close.ensures.closed
