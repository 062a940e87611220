use Rattle.tb_column.proofs.StoreLemmas.{brought-before}
use Rattle.tb_column.proofs.areas.put_before.Goals as goal

pub returns-clause-lists : goal.returns-clause-lists
returns-clause-lists c =
    brought-before c.args.store.now c.append.new.self c.append-2.new.self c.close.new.self c.args.front c.args.l c.requires.apart c.append.ensures.joined c.append-2.ensures.joined c.close.ensures.closed
