use Rattle.std.proofs.Common.{◌≡◌, refl, sym, ap, subst, ◌∙◌, [], ◌∷◌, map, length, length-append, arith}
use Rattle.std.specs.List.{AllByRecursion}
use Rattle.tb_search.specs.Starts.{row_of, IsStart}
use Rattle.tb_search.specs.Continues.{HasSearched}
use Rattle.tb_search.specs.declared.table.Table.{Table}
use Rattle.tb_search.proofs.LaterLemmas.{searched-itself, level-searched, searched-through}
use Rattle.tb_search.proofs.LevelLemmas.{without-last, last-level}
use Rattle.tb_search.proofs.table.Table.search.Goals as goal
use Rattle.tb_search.proofs.table.Table.search.Goals.{After-len-left}

pub levels-init : goal.levels-init
levels-init c = record { table = c.requires; searched = searched-itself c.args.self.now }

-- how many items the states of the last level have ahead
so-many : (c : After-len-left) → c.len-left.result ≡ length c.pop.new.self.items
so-many c = c.len-left.ensures ∙ c.pop.new.self.ok.0

pub expand_all-requires-clause-inside : goal.expand_all-requires-clause-inside
expand_all-requires-clause-inside c =
    let a = so-many (goal.at.expand_all-requires-clause-inside c).After-len-left in
    let b = c.levels.invariant.table.levels in
    let d = ap length c.in-Some.ensures.items in
    let e = length-append c.pop.new.self.items (c.in-Some.starts ∷ []) in
    omega (arith, a, b, d, e)

pub expand_all-requires-clause-table : goal.expand_all-requires-clause-table
expand_all-requires-clause-table c = without-last c.levels.self c.pop.new.self c.in-Some.starts c.levels.invariant.table c.in-Some.ensures.items

pub expand_all-requires-clause-starts : goal.expand_all-requires-clause-starts
expand_all-requires-clause-starts c =
    subst (λ n. AllByRecursion (IsStart c.levels.self.galley.now c.levels.self.bound n) c.in-Some.starts.items) (sym (so-many (goal.at.expand_all-requires-clause-starts c).After-len-left))
    (last-level c.levels.self c.pop.new.self c.in-Some.starts c.levels.invariant.table c.in-Some.ensures.items)

pub levels-preserved : goal.levels-preserved
levels-preserved c =
    let t = c.levels.self in
    let before : Table = record t { starts = c.pop.new.self } in
    let after = c.expand_all.new.self in
    record {
      table = c.in_ok-expand_all.ensures.table;
      searched =
          searched-through [] c.args.self.now t after c.levels.invariant.searched
          (level-searched t before after c.in-Some.starts refl refl refl c.in-Some.ensures.items
          (subst (λ n. HasSearched (map (row_of t.galley.now n) c.in-Some.starts.items) before after) (so-many (goal.at.levels-preserved c).After-len-left) c.in_ok-expand_all.ensures.searched));
    }
