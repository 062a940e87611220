use Rattle.std.proofs.Common.{refl, sym, subst, ◌∙◌, [], ◌∷◌, ◌++◌, List, map, length, ◌≤◌}
use Rattle.std.specs.List.{AllByRecursion}
use Rattle.tb_galley.specs.declared.Galley.{Galley}
use Rattle.std.specs.Borrow.{Bor}
use Rattle.tb_best.specs.ItemsAhead.{all_ahead}
use Rattle.tb_search.specs.declared.table.Start.{Start}
use Rattle.tb_search.specs.Starts.{row_of, IsStart}
use Rattle.tb_search.specs.Continues.{HasSearched}
use Rattle.tb_search.proofs.LaterLemmas.{IsSearchedTo, none-yet, last-searched}
use Rattle.tb_search.proofs.LevelLemmas.{front-all, last-all, starts-later}
use Rattle.tb_search.proofs.table.Table.expand_all.Goals as goal
use Rattle.tb_search.proofs.table.Table.expand_all.Goals.{In-Some}

pub starts-init : goal.starts-init
starts-init c = record {
  table = c.requires.table;
  levels = refl;
  starts = c.requires.starts;
  searched = none-yet c.args.self.now.galley.now c.args.left c.args.starts.items c.args.self.now;
}

-- the states that are left, the last one apart
left-starts : (c : In-Some) → AllByRecursion (IsStart c.starts.self.galley.now c.starts.self.bound c.args.left) (c.pop.new.self.items ++ c.in-Some.start ∷ [])
left-starts c = subst (AllByRecursion (IsStart c.starts.self.galley.now c.starts.self.bound c.args.left)) c.in-Some.ensures.items c.starts.invariant.starts

pub expand-requires-clause-start : goal.expand-requires-clause-start
expand-requires-clause-start c = last-all (IsStart c.starts.self.galley.now c.starts.self.bound c.args.left) c.pop.new.self.items c.in-Some.start (left-starts (goal.at.expand-requires-clause-start c).In-Some)

pub starts-preserved : goal.starts-preserved
starts-preserved c =
    let t = c.args.self.now in
    let u = c.starts.self in
    let v = c.expand.new.self in
    let galley = c.starts.invariant.searched.later.galley in
    record {
      table = c.in_ok-expand.ensures.table;
      levels = c.in_ok-expand.ensures.levels ∙ c.starts.invariant.levels;
      starts =
          starts-later u v c.args.left c.pop.new.self.items c.in_ok-expand.ensures.searched.later
          (front-all (IsStart u.galley.now u.bound c.args.left) c.pop.new.self.items c.in-Some.start (left-starts (goal.at.starts-preserved c).In-Some));
      searched =
          last-searched t.galley.now c.args.left (map (row_of t.galley.now c.args.left) c.args.starts.items) c.pop.new.self.items c.in-Some.start t u v
          (subst (λ (xs : List Start). IsSearchedTo t.galley.now c.args.left (map (row_of t.galley.now c.args.left) c.args.starts.items) xs t u) c.in-Some.ensures.items c.starts.invariant.searched)
          (subst (λ (x : Bor Galley). HasSearched (row_of x.now c.args.left c.in-Some.start ∷ []) u v) galley c.in_ok-expand.ensures.searched);
    }

pub expand-requires-clause-inside : goal.expand-requires-clause-inside
expand-requires-clause-inside c = subst (λ (x : Bor Galley). c.args.left ≤ length (all_ahead x.now)) (sym c.starts.invariant.searched.later.galley) c.requires.inside
