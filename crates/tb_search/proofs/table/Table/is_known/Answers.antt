use Rattle.std.proofs.Common.{sym, ◌∙◌}
use Rattle.tb_search.proofs.KeepLemmas.{looked-branches, looked-classes, found-some, found-none}
use Rattle.tb_search.proofs.table.Table.is_known.Goals as goal

pub place_for-requires-clause-starts : goal.place_for-requires-clause-starts
place_for-requires-clause-starts c = looked-branches c.args.self.now c.args.left c.requires.left c.requires.table c.index.result.now c.index.ensures c.as_slice.result.now c.as_slice.ensures.value

pub place_for-requires-clause-classes : goal.place_for-requires-clause-classes
place_for-requires-clause-classes c =
    looked-classes c.args.self.now c.args.left c.requires.left c.requires.table c.index.result.now c.index.ensures c.as_slice.result.now c.as_slice.ensures.value (record { branch = c.args.branch.now; way = c.args.way.now }) c.requires.classes

pub returns-clause-known : goal.returns-clause-known
returns-clause-known c some =
    found-some c.args.self.now c.args.left c.requires.left c.requires.table c.index.result.now c.index.ensures c.as_slice.result.now c.as_slice.ensures.value (record { branch = c.args.branch.now; way = c.args.way.now }) c.place_for.result c.requires.sides c.place_for.ensures (sym c.is_some.ensures ∙ some)

pub returns-clause-first : goal.returns-clause-first
returns-clause-first c none =
    c.is_some.ensures ∙ found-none c.args.self.now c.args.left c.requires.left c.requires.table c.index.result.now c.index.ensures c.as_slice.result.now c.as_slice.ensures.value (record { branch = c.args.branch.now; way = c.args.way.now }) c.place_for.result c.place_for.ensures none
