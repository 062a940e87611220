use Rattle.std.proofs.Common.{◌≡◌, sym, ap, subst, ◌∙◌, [], ◌∷◌, length, length-append, arith}
use Rattle.std.specs.List.{AllByRecursion}
use Rattle.tb_search.specs.Starts.{IsStart}
use Rattle.tb_search.proofs.LevelLemmas.{without-last, last-level}
use Rattle.tb_search.proofs.table.Table.search_beam.Goals as goal
use Rattle.tb_search.proofs.table.Table.search_beam.Goals.{After-len-left}

-- how many items the states of the last level have ahead
so-many : (c : After-len-left) → c.len-left.result ≡ length c.pop.new.self.items
so-many c = c.len-left.ensures ∙ c.pop.new.self.ok.0

pub expand_few-requires-clause-inside : goal.expand_few-requires-clause-inside
expand_few-requires-clause-inside c =
    let a = so-many (goal.at.expand_few-requires-clause-inside c).After-len-left in
    let b = c.levels.invariant.table.levels in
    let d = ap length c.in-Some.ensures.items in
    let e = length-append c.pop.new.self.items (c.in-Some.starts ∷ []) in
    omega (arith, a, b, d, e)

pub expand_few-requires-clause-table : goal.expand_few-requires-clause-table
expand_few-requires-clause-table c = without-last c.levels.self c.pop.new.self c.in-Some.starts c.levels.invariant.table c.in-Some.ensures.items

pub expand_few-requires-clause-starts : goal.expand_few-requires-clause-starts
expand_few-requires-clause-starts c =
    subst (λ n. AllByRecursion (IsStart c.levels.self.galley.now c.levels.self.bound n) c.in-Some.starts.items) (sym (so-many (goal.at.expand_few-requires-clause-starts c).After-len-left))
    (last-level c.levels.self c.pop.new.self c.in-Some.starts c.levels.invariant.table c.in-Some.ensures.items)
