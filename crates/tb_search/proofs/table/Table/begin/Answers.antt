use Rattle.std.proofs.Common.{◌≡◌, refl, sym, ap, subst, ◌∙◌, ◌+◌, length, arith}
use Rattle.std.specs.Borrow.{Bor}
use Rattle.std.specs.Prelude.{pos, reverse}
use Rattle.tb_galley.specs.declared.Galley.{Galley}
use Rattle.tb_items.proofs.GalleyItems.{galley-items}
use Rattle.tb_items.proofs.GalleyNodeLemmas.{galley-nodes}
use Rattle.tb_run.proofs.ServedAgain.GalleyRuns.{galley-classes}
use Rattle.tb_steps.proofs.RunParams.{params-runnable}
use Rattle.tb_best.specs.ItemsAhead.{all_ahead}
use Rattle.tb_best.specs.ClosedTables.{rows_know}
use Rattle.tb_search.specs.declared.table.Way.{Way}
use Rattle.tb_search.specs.Branches.{shown}
use Rattle.tb_search.specs.AheadInCode.{items_ahead}
use Rattle.tb_search.specs.Starts.{rows_of, IsStart}
use Rattle.tb_search.proofs.AheadLemmas.{all-counted}
use Rattle.tb_search.proofs.PlaceFlags.{few-items}
use Rattle.tb_search.proofs.SearchSteps.{if-both}
use Rattle.tb_search.proofs.BeginLemmas.{first-start, first-known}
use Rattle.tb_search.proofs.table.Table.begin.Goals as goal
use Rattle.tb_search.proofs.table.Table.begin.Goals.{After-len}

pub start-requires-clause-params : goal.start-requires-clause-params
start-requires-clause-params c = params-runnable c.args.galley.now.params c.requires.valid.params

pub start-requires-clause-items : goal.start-requires-clause-items
start-requires-clause-items c = galley-items c.args.galley.now c.requires.valid

pub start-requires-clause-classes : goal.start-requires-clause-classes
start-requires-clause-classes c = galley-classes c.args.galley.now (params-runnable c.args.galley.now.params c.requires.valid.params) c.requires.valid

pub start-requires-clause-nodes : goal.start-requires-clause-nodes
start-requires-clause-nodes c = galley-nodes c.args.galley.now (params-runnable c.args.galley.now.params c.requires.valid.params).foot c.requires.valid

pub overflow_add-len : goal.overflow_add-len
overflow_add-len c = let few = few-items c.args.galley.now c.requires.valid in let e = c.len.ensures in omega (arith, few, e)

-- the first level is that of all items
all-items : (c : After-len) → c.len.result + 1 ≡ length (all_ahead c.args.galley.now)
all-items c = let n = all-counted c.args.galley.now in let e = c.len.ensures in omega (arith, n, e)

pub keep-requires-clause-left : goal.keep-requires-clause-left
keep-requires-clause-left c =
    let l = c.requires.levels in
    let n = all-counted c.args.galley.now in
    let e = c.len.ensures in
    omega (arith, l, n, e)

pub keep-requires-clause-start : goal.keep-requires-clause-start
keep-requires-clause-start c =
    let w : Way = record { breaks = c.new.result; demerits = pos 0 } in
    subst (λ (g : Galley). IsStart g c.args.self.now.bound (c.len.result + 1) (record { branch = c.in_ok-first.first; way = w })) (sym c.requires.galley)
    (first-start c.args.galley.now (c.len.result + 1) c.in_ok-first.first w c.in_ok-first.ensures.state (all-items (goal.at.keep-requires-clause-start c).After-len) c.new.ensures.items refl c.args.self.now.bound c.in_ok-first.ensures.branch
    c.in_ok-first.ensures.items c.in_ok-first.ensures.plain c.requires.low)

pub returns-clause-begun : goal.returns-clause-begun
returns-clause-begun c =
    let w : Way = record { breaks = c.new.result; demerits = pos 0 } in
    if-both c.keep.result _ _ _ c.keep.ensures.continues (c.keep.ensures.first c.requires.none)
    (λ on h.
    first-known c.args.galley.now (c.len.result + 1) c.in_ok-first.first w c.in_ok-first.ensures.state (all-items (goal.at.returns-clause-begun c).After-len) c.new.ensures.items refl (rows_of c.keep.new.self)
    (subst (λ (g : Galley). rows_know (rows_of c.keep.new.self) (shown c.in_ok-first.first) (items_ahead g (c.len.result + 1)) w.demerits (reverse w.breaks.items)) (ap (λ (x : Bor Galley). x.now) on.later.galley ∙ c.requires.galley) h))
