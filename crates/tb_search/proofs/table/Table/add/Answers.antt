use Rattle.std.proofs.Common.{◌≡◌, refl, sym, subst, ◌+◌, List, [], ◌∷◌, ◌++◌, map}
use Rattle.std.specs.Prelude.{reverse}
use Rattle.std.proofs.lemmas.Result.{on_ok_weaker}
use Rattle.std.specs.List.{AllByRecursion}
use Rattle.std.specs.Vec.{with_item}
use Rattle.tb_best.specs.ClosedTables.{rows_know}
use Rattle.tb_search.specs.declared.table.Start.{Start}
use Rattle.tb_search.specs.Branches.{shown}
use Rattle.tb_search.specs.AheadInCode.{items_ahead}
use Rattle.tb_search.specs.Searched.{KnowsMore}
use Rattle.tb_search.specs.Starts.{row_of, IsStart}
use Rattle.tb_search.proofs.KeepLemmas.{all-with, as-much, known-with, known-last, level-starts, set-table, set-continues, set-rows}
use Rattle.tb_search.proofs.table.Table.add.Goals as goal

pub returns-clause-table : goal.returns-clause-table
returns-clause-table c = on_ok_weaker c.push_start.result (λ (h : c.push_start.new.starts.items ≡ c.index_mut.result.now.items ++ c.args.start ∷ []).
    let t = c.args.self.now in
    let v = c.index_mut.result.now in
    set-table t c.args.left c.requires.left c.requires.table c.push_start.new.starts _ (t.count + 1) refl
    (subst (AllByRecursion (IsStart t.galley.now t.bound c.args.left)) (sym h)
    (all-with (IsStart t.galley.now t.bound c.args.left) v.items c.args.start (level-starts t c.args.left c.requires.left c.requires.table v c.index_mut.ensures.value) c.requires.start))) c.push_start.ensures

pub returns-clause-continues : goal.returns-clause-continues
returns-clause-continues c = on_ok_weaker c.push_start.result (λ (h : c.push_start.new.starts.items ≡ c.index_mut.result.now.items ++ c.args.start ∷ []).
    let t = c.args.self.now in
    let v = c.index_mut.result.now in
    set-continues t c.args.left c.requires.left c.requires.table c.push_start.new.starts _ (t.count + 1) refl v c.index_mut.ensures.value
    (as-much t.galley.now (map (row_of t.galley.now c.args.left) v.items) (map (row_of t.galley.now c.args.left) c.push_start.new.starts.items)
    (subst (λ (xs : List Start). KnowsMore (map (row_of t.galley.now c.args.left) v.items) (map (row_of t.galley.now c.args.left) xs)) (sym h) (known-with t.galley.now c.args.left v.items c.args.start)))) c.push_start.ensures

pub returns-clause-known : goal.returns-clause-known
returns-clause-known c = on_ok_weaker c.push_start.result (λ (h : c.push_start.new.starts.items ≡ c.index_mut.result.now.items ++ c.args.start ∷ []).
    let t = c.args.self.now in
    let v = c.index_mut.result.now in
    let s = shown c.args.start.branch in
    let w = c.args.start.way in
    set-rows t c.args.left c.requires.left c.requires.table c.push_start.new.starts (with_item t.starts c.args.left c.push_start.new.starts) (t.count + 1) refl s (items_ahead t.galley.now c.args.left) w.demerits (reverse w.breaks.items)
    (subst (λ (xs : List Start). rows_know (map (row_of t.galley.now c.args.left) xs) s (items_ahead t.galley.now c.args.left) w.demerits (reverse w.breaks.items)) (sym h) (known-last t.galley.now c.args.left v.items c.args.start))) c.push_start.ensures
