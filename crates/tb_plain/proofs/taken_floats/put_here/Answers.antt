use Rattle.tb_plain.proofs.PutLemmas.{here-can, here-joins, here-put}
use Rattle.tb_plain.proofs.taken_floats.put_here.Goals as goal

pub put_list-requires-clause-builder : goal.put_list-requires-clause-builder
put_list-requires-clause-builder c = here-can c.args.b.now c.args.store.now c.here_list.new.store c.in_ok-list.list c.args.p.now c.args.f.now c.requires.builder c.in_ok-list.ensures.fresh c.in_ok-list.ensures.lists

pub put_list-requires-clause-joins : goal.put_list-requires-clause-joins
put_list-requires-clause-joins c = here-joins c.args.b.now c.args.store.now c.here_list.new.store c.in_ok-list.list c.args.p.now c.args.f.now c.requires.builder c.in_ok-list.ensures.fresh c.in_ok-list.ensures.lists

pub returns-clause-ok : goal.returns-clause-ok
returns-clause-ok c = here-put c.args.b.now c.args.store.now c.here_list.new.store c.in_ok-list.list c.args.p.now c.args.f.now c.requires.builder c.in_ok-list.ensures.fresh c.in_ok-list.ensures.lists c.put_list.new.b c.put_list.new.store c.put_list.ensures
