use Rattle.std.proofs.Common.{refl, sym, subst, List, map}
use Rattle.std.specs.Prelude.{reverse}
use Rattle.std.specs.List.{AllByRecursion}
use Rattle.std.specs.Vec.{with_item}
use Rattle.tb_best.specs.ClosedTables.{rows_know}
use Rattle.tb_search.specs.declared.table.Start.{Start}
use Rattle.tb_search.specs.Branches.{shown}
use Rattle.tb_search.specs.AheadInCode.{items_ahead}
use Rattle.tb_search.specs.Searched.{KnowsAsMuch}
use Rattle.tb_search.specs.Starts.{row_of, IsStart}
use Rattle.tb_search.proofs.KeepLemmas.{looked-branches, looked-classes, level-all, level-more, level-keeps, set-table, set-continues, set-rows}
use Rattle.tb_search.proofs.table.Table.insert.Goals as goal

pub needless_place-requires-clause-starts : goal.needless_place-requires-clause-starts
needless_place-requires-clause-starts c = looked-branches c.args.self.now c.args.left c.requires.left c.requires.table c.index.result.now c.index.ensures c.as_slice.result.now c.as_slice.ensures.value

pub needless_place-requires-clause-classes : goal.needless_place-requires-clause-classes
needless_place-requires-clause-classes c =
    looked-classes c.args.self.now c.args.left c.requires.left c.requires.table c.index.result.now c.index.ensures c.as_slice.result.now c.as_slice.ensures.value c.args.start c.requires.start.classes

pub returns-in-Some-clause-table : goal.returns-in-Some-clause-table
returns-in-Some-clause-table c =
    let t = c.args.self.now in
    set-table t c.args.left c.requires.left c.requires.table c.swap_start-needless.new.starts _ t.count refl
    (subst (AllByRecursion (IsStart t.galley.now t.bound c.args.left)) (sym c.swap_start-needless.ensures)
    (level-all t c.args.left c.requires.left c.requires.table c.index.result.now c.index_mut.result.now c.index.ensures c.index_mut.ensures.value c.as_slice.result.now c.as_slice.ensures.value c.in-Some.k c.args.start c.in-Some.ensures c.requires.start))

pub returns-in-Some-clause-continues : goal.returns-in-Some-clause-continues
returns-in-Some-clause-continues c =
    let t = c.args.self.now in
    set-continues t c.args.left c.requires.left c.requires.table c.swap_start-needless.new.starts _ t.count refl c.index_mut.result.now c.index_mut.ensures.value
    (subst (λ (xs : List Start). KnowsAsMuch t.galley.now (map (row_of t.galley.now c.args.left) c.index_mut.result.now.items) (map (row_of t.galley.now c.args.left) xs)) (sym c.swap_start-needless.ensures)
    (level-more t c.args.left c.requires.left c.requires.table c.index.result.now c.index_mut.result.now c.index.ensures c.index_mut.ensures.value c.as_slice.result.now c.as_slice.ensures.value c.in-Some.k c.args.start c.in-Some.ensures c.requires.start))

pub returns-in-Some-clause-known : goal.returns-in-Some-clause-known
returns-in-Some-clause-known c =
    let t = c.args.self.now in
    let y = c.args.start in
    let level = c.swap_start-needless.new.starts in
    set-rows t c.args.left c.requires.left c.requires.table level (with_item t.starts c.args.left level) t.count refl (shown y.branch) (items_ahead t.galley.now c.args.left) y.way.demerits (reverse y.way.breaks.items)
    (subst (λ (xs : List Start). rows_know (map (row_of t.galley.now c.args.left) xs) (shown y.branch) (items_ahead t.galley.now c.args.left) y.way.demerits (reverse y.way.breaks.items)) (sym c.swap_start-needless.ensures)
    (level-keeps t c.args.left c.requires.left c.requires.table c.index.result.now c.index_mut.result.now c.index.ensures c.index_mut.ensures.value c.as_slice.result.now c.as_slice.ensures.value c.in-Some.k c.args.start c.in-Some.ensures c.requires.start))
