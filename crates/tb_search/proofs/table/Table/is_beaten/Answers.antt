use Rattle.std.proofs.Common.{sym, subst, ◌∙◌}
use Rattle.tb_search.specs.Plain.{BeatsAt}
use Rattle.tb_search.proofs.KeepLemmas.{looked-low}
use Rattle.tb_search.proofs.PlainLemmas.{of-some}
use Rattle.tb_search.proofs.table.Table.is_beaten.Goals as goal

pub place_of_better-requires-clause-starts : goal.place_of_better-requires-clause-starts
place_of_better-requires-clause-starts c =
    looked-low c.args.self.now c.args.behind c.requires.level c.requires.table c.index.result.now c.index.ensures c.as_slice-starts.result.now c.as_slice-starts.ensures.value

pub returns : goal.returns
returns c some =
    let t = c.args.self.now in
    let found = of-some (λ k. BeatsAt t.may_alternate c.as_slice-starts.result.now k c.args.branch.now c.args.way.now c.args.line c.args.prices.now) c.place_of_better.result c.place_of_better.ensures (sym c.is_some.ensures ∙ some) in
    record {
      level = c.index.result.now;
      here = c.index.ensures;
      place = found.0;
      beats = subst (λ xs. BeatsAt t.may_alternate xs found.0 c.args.branch.now c.args.way.now c.args.line c.args.prices.now) c.as_slice-starts.ensures.value found.1;
    }
