use Rattle.tb_pool.specs.Lists.{list_at}
use Rattle.tb_float.proofs.SlotLemmas.{entries-are_floats}
use Rattle.tb_float.proofs.WaitingLemmas.{waiting-floats}
use Rattle.tb_float.proofs.firsts.Firsts.find.Goals as goal

pub push_firsts-requires-clause-floats : goal.push_firsts-requires-clause-floats
push_firsts-requires-clause-floats c =
    entries-are_floats c.args.p (list_at c.args.store.now c.args.list) (waiting-floats c.args.p c.requires.waiting) c.requires.slots
