use Rattle.std.proofs.Common.{◌≡◌, sym, subst, reverse, arith}
use Rattle.tb_search.specs.declared.table.Start.{Start}
use Rattle.tb_search.specs.Branches.{shown}
use Rattle.tb_search.specs.AheadInCode.{items_ahead}
use Rattle.tb_search.specs.Starts.{IsReached}
use Rattle.tb_search.specs.Continues.{IsSearchedBy}
use Rattle.tb_search.proofs.ReachedWays.{end-rated}
use Rattle.tb_search.proofs.SearchSteps.{as-searched, kept-searched, end-searched, if-both}
use Rattle.tb_search.proofs.table.Table.arrive.Goals as goal

pub returns-then-left-gt0-clause-searched : goal.returns-then-left-gt0-clause-searched
returns-then-left-gt0-clause-searched c =
    if-both c.keep.result _ _ _ c.keep.ensures.continues c.keep.ensures.known
    (λ on known. kept-searched c.args.self.now c.keep.new.self on.later c.args.left (shown c.args.branch) c.args.way known)

pub end-requires-clause-rated : goal.end-requires-clause-rated
end-requires-clause-rated c =
    let none : c.args.left ≡ 0 = let e = c.if-left-gt0.false in omega (arith, e) in
    let x : Start = record { branch = c.args.branch; way = c.args.way } in
    end-rated c.args.self.now.galley.now x (subst (λ n. IsReached c.args.self.now.galley.now n x) none c.requires.reached) c.requires.quiet

pub returns-clause-searched : goal.returns-clause-searched
returns-clause-searched c =
    let none : c.args.left ≡ 0 = let e = c.if-left-gt0.false in omega (arith, e) in
    let s = shown c.args.branch in
    let w = c.args.way in
    as-searched c.end.new.self s (items_ahead c.args.self.now.galley.now c.args.left) w.demerits (reverse w.breaks.items)
    (subst (λ n. IsSearchedBy c.end.new.self s (items_ahead c.args.self.now.galley.now n) w.demerits (reverse w.breaks.items)) (sym none)
    (end-searched c.args.self.now c.end.new.self c.end.ensures.continues.later s w c.requires.quiet c.end.ensures.best))
