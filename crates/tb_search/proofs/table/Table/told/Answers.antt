use Rattle.std.proofs.Common.{◌∙◌, ap}
use Rattle.tb_search.specs.Prices.{prices_among}
use Rattle.tb_search.proofs.table.Table.told.Goals as goal

pub prices_of-requires-clause-dear : goal.prices_of-requires-clause-dear
prices_of-requires-clause-dear c = (c.requires.told c.if-found.true).dear

pub returns-then-found : goal.returns-then-found
returns-then-found c =
    let params = c.params-params.ensures ∙ ap (λ r. r.machine.params) c.deref.ensures in
    record {
      happened = c.args.happened.now;
      tells = c.requires.told c.if-found.true;
      prices = c.in_ok-prices.ensures ∙ (λ i. prices_among (params i) (c.requires.table.penalties i) c.args.happened.now);
      plain = c.requires.plain;
    }
