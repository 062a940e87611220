use Rattle.std.proofs.Common.{refl, sym, subst, [], ◌∷◌, ◌++◌, length, ◌≤◌}
use Rattle.std.specs.Borrow.{Bor}
use Rattle.std.specs.List.{AllByRecursion}
use Rattle.tb_galley.specs.declared.Galley.{Galley}
use Rattle.tb_best.specs.ItemsAhead.{all_ahead}
use Rattle.tb_search.specs.Starts.{IsStart}
use Rattle.tb_search.proofs.LevelLemmas.{last-all}
use Rattle.tb_search.proofs.table.Table.expand_few.Goals as goal
use Rattle.tb_search.proofs.table.Table.expand_few.Goals.{In-Some}

pub starts-init : goal.starts-init
starts-init c = record {
  table = c.requires.table;
  galley = refl;
  levels = refl;
  starts = c.requires.starts;
}

-- the states that are left, the last one apart
left-starts : (c : In-Some) → AllByRecursion (IsStart c.starts.self.galley.now c.starts.self.bound c.args.left) (c.pop.new.self.items ++ c.in-Some.start ∷ [])
left-starts c = subst (AllByRecursion (IsStart c.starts.self.galley.now c.starts.self.bound c.args.left)) c.in-Some.ensures.items c.starts.invariant.starts

pub expand-requires-clause-start : goal.expand-requires-clause-start
expand-requires-clause-start c = last-all (IsStart c.starts.self.galley.now c.starts.self.bound c.args.left) c.pop.new.self.items c.in-Some.start (left-starts (goal.at.expand-requires-clause-start c).In-Some)

pub expand-requires-clause-inside : goal.expand-requires-clause-inside
expand-requires-clause-inside c = subst (λ (x : Bor Galley). c.args.left ≤ length (all_ahead x.now)) (sym c.starts.invariant.galley) c.requires.inside
