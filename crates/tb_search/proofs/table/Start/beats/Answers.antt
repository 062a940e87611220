use Rattle.std.proofs.Common.{subst}
use Rattle.tb_search.specs.Plain.{CostsAbove}
use Rattle.tb_search.proofs.SumLemmas.{less-is}
use Rattle.tb_search.proofs.table.Start.beats.Goals as goal

pub returns : goal.returns
returns c leads = record {
  plain = c.if-not-self.false;
  leads = c.leads_to.ensures leads;
  costs =
      subst (λ m. CostsAbove c.args.line m c.args.prices.now) (less-is c.args.way.now.demerits c.args.self.now.way.demerits c.requires.low.low c.requires.low.high c.requires.mine.way.low c.requires.mine.way.high)
      (c.are_above.ensures c.if-not-are_above.false);
}
