use Rattle.tb_pool.specs.Lists.{list_at}
use Rattle.tb_builder.proofs.Turns.FillLemmas.{first_is}
use Rattle.tb_builder.proofs.Sorting.SettleLemmas.{holds_of}
use Rattle.tb_builder.proofs.Builder.hold.Goals as goal

pub returns : goal.returns
returns c =
    let b = c.args.self.now in
    let s = c.args.store.now in
    let f = first_is (list_at s b.page) c.args.n.now c.requires.first in
    record {
      drops = holds_of b s c.pass_on.new.store c.args.n.now f.0 c.args.i.now c.requires.own f.1 c.requires.insertion c.args.held c.requires.same c.requires.known (c.pass_on.ensures.passed c.args.n.now f.0 f.1);
      spare = c.pass_on.ensures.spare;
    }
