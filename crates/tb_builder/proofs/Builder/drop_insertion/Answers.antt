use Rattle.std.proofs.Common.{◌∙◌, ap, arith}
use Rattle.std.specs.FinMap.{remove}
use Rattle.tb_pool.specs.Lists.{list_at}
use Rattle.tb_builder.specs.Ownership.{ids_of}
use Rattle.tb_builder.proofs.Turns.FillLemmas.{first_is}
use Rattle.tb_builder.proofs.Ownership.StoreMoves.{one_other, live_kept, list_kept}
use Rattle.tb_builder.proofs.Sorting.GiveLemmas.{list_live, lacks_own}
use Rattle.tb_builder.proofs.Sorting.SettleLemmas.{drops_of}
use Rattle.tb_builder.proofs.Builder.drop_insertion.Goals as goal

pub close-requires : goal.close-requires
close-requires c =
    let b = c.args.self.now in
    let s = c.args.store.now in
    let f = first_is (list_at s b.page) c.args.n.now c.requires.first in
    let kept = one_other s c.drop_first.new.store b.page c.args.i.now.list f.0 (lacks_own (ids_of b) s c.args.n.now f.0 c.args.i.now c.requires.own f.1 c.requires.insertion).0 (c.drop_first.ensures.rest c.args.n.now f.0 f.1) in
    record {
      live = live_kept s c.drop_first.new.store c.args.i.now.list kept (list_live (ids_of b) s c.args.n.now f.0 c.args.i.now c.requires.own f.1 c.requires.insertion);
      empty = list_kept s c.drop_first.new.store c.args.i.now.list kept ∙ c.requires.empty;
    }

pub returns : goal.returns
returns c =
    let b = c.args.self.now in
    let s = c.args.store.now in
    let f = first_is (list_at s b.page) c.args.n.now c.requires.first in
    record {
      drops = drops_of b s c.close.new.self c.args.n.now f.0 c.args.i.now c.requires.own f.1 c.requires.insertion (c.close.ensures.closed ∙ ap (λ m. remove m c.args.i.now.list) (c.drop_first.ensures.rest c.args.n.now f.0 f.1));
      spare = omega (arith, c.close.ensures.spare, c.drop_first.ensures.spare);
    }
