use Rattle.tb_pool.specs.Lists.{list_at}
use Rattle.std.proofs.Common.{refl}
use Rattle.tb_builder.specs.Ownership.{ids_of}
use Rattle.tb_builder.proofs.Turns.FillLemmas.{first_is}
use Rattle.tb_builder.proofs.Sorting.GiveLemmas.{first_known}
use Rattle.tb_builder.proofs.Sorting.SettleLemmas.{holds_of}
use Rattle.tb_builder.proofs.Builder.hold_whole.Goals as goal

pub returns : goal.returns
returns c =
    let b = c.args.self.now in
    let s = c.args.store.now in
    let n = c.args.n.now in
    let f = first_is (list_at s b.page) n c.requires.first in
    let known = first_known (ids_of b) s n f.0 c.args.i.now c.requires.own f.1 c.requires.insertion in
    record {
      drops = holds_of b s c.move_first.new.self n f.0 c.args.i.now c.requires.own f.1 c.requires.insertion n refl known (c.move_first.ensures.moved n f.0 f.1);
      spare = c.move_first.ensures.spare;
    }
