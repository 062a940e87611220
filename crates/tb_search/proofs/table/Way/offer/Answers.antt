use Rattle.std.proofs.Common.{refl, inl, inr}
use Rattle.std.specs.Prelude.{reverse}
use Rattle.tb_search.proofs.OrderLemmas.{no-better-same}
use Rattle.tb_search.proofs.table.Way.offer.Goals as goal

pub returns-then-is_better : goal.returns-then-is_better
returns-then-is_better c = record {
  one = inr refl;
  first = c.is_better.ensures.better c.if-is_better.true;
  second = no-better-same c.args.way.demerits (reverse c.args.way.breaks.items);
}

pub returns-else-is_better : goal.returns-else-is_better
returns-else-is_better c = record {
  one = inl refl;
  first = no-better-same c.args.self.now.demerits (reverse c.args.self.now.breaks.items);
  second = c.is_better.ensures.worse c.if-is_better.false;
}
