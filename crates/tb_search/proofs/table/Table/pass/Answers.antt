use Rattle.std.proofs.Common.{◌≡◌, sym, subst, inl, suc, ◌-◌, ◌<◌, arith}
use Rattle.std.specs.Borrow.{Bor}
use Rattle.tb_galley.specs.declared.Galley.{Galley}
use Rattle.tb_search.specs.declared.table.Start.{Start}
use Rattle.tb_search.specs.Branches.{shown}
use Rattle.tb_search.specs.AheadInCode.{items_ahead}
use Rattle.tb_search.specs.Calm.{with_first, IsCalm}
use Rattle.tb_rate.specs.Places.{place_penalties}
use Rattle.tb_search.specs.Told.{IsTold, Tells}
use Rattle.tb_search.proofs.CalmLemmas.{calm-now, one-far, one-calm}
use Rattle.tb_search.proofs.StopLemmas.{if-some-more, if-some-now}
use Rattle.tb_search.proofs.ExpandLemmas.{none-taken, next-taken-on, inside-now, level-now}
use Rattle.tb_search.proofs.ReachedWays.{start-of, start-reached}
use Rattle.tb_search.proofs.table.Table.pass.Goals as goal

-- ---- the loop

pub calm_items-requires-clause-some : goal.calm_items-requires-clause-some
calm_items-requires-clause-some c = c.requires.start.some

pub calm_items-requires-clause-reached : goal.calm_items-requires-clause-reached
calm_items-requires-clause-reached c = start-reached c.args.self.now.galley.now c.args.self.now.bound c.args.left c.args.start c.requires.start

pub told-requires-clause-branch : goal.told-requires-clause-branch
told-requires-clause-branch c = c.requires.start.branch

pub told-requires-clause-told : goal.told-requires-clause-told
told-requires-clause-told c is = subst (λ hs. Tells hs (with_first c.in_ok-found.found.count (items_ahead c.args.self.now.galley.now c.args.left) (shown c.args.start.branch))) (sym c.as_slice.ensures.value) (c.in_ok-found.ensures.told is)

pub items-init : goal.items-init
items-init c = record {
  table = c.requires.table;
  on = none-taken c.args.self.now c.args.left c.args.start (start-reached c.args.self.now.galley.now c.args.self.now.bound c.args.left c.args.start c.requires.start) c.requires.start.high;
  may = c.requires.start.quiet;
  fewer = c.in_ok-found.ensures.fewer;
  calm = c.in_ok-found.ensures.calm;
  told = if-some-more _ _ c.as_ref-told.result (λ t h _. h) (if-some-now _ c.as_ref-told.result c.in_ok-told.told c.as_ref-told.ensures.value c.in_ok-told.ensures);
}

pub cut-requires-clause-some : goal.cut-requires-clause-some
cut-requires-clause-some c = let test = c.items-test.true in let fewer = c.items.invariant.fewer in omega (arith, test, fewer)

pub cut-requires-clause-level : goal.cut-requires-clause-level
cut-requires-clause-level c = level-now c.args.self.now c.args.left c.args.start c.items.self c.items.left (record { branch = c.items.branch; way = c.args.start.way }) c.items.invariant.on c.requires.level

pub cut-requires-clause-inside : goal.cut-requires-clause-inside
cut-requires-clause-inside c = inside-now c.args.self.now c.args.left c.args.start c.items.self c.items.left (record { branch = c.items.branch; way = c.args.start.way }) c.items.invariant.on c.requires.inside

pub cut-requires-clause-reached : goal.cut-requires-clause-reached
cut-requires-clause-reached c = c.items.invariant.on.reached

pub cut-requires-clause-high : goal.cut-requires-clause-high
cut-requires-clause-high c = c.items.invariant.on.high

pub cut-requires-clause-told : goal.cut-requires-clause-told
cut-requires-clause-told c =
    let i = c.items.invariant in
    let test = c.items-test.true in
    let s = shown c.items.branch in
    let g = c.items.self.galley.now in
    let cs = items_ahead g c.items.left in
    let one : c.items.calm ≡ suc (c.items.calm - 1) = omega (arith, test) in
    if-some-more _ _ c.as_ref-told.result
    (λ t told. record {
      more = c.items.calm - 1;
      calm = subst (λ n. IsCalm s cs n) one (i.calm test);
      told = subst (λ n. IsTold (place_penalties g.items) (with_first n cs s) t.now) one (told test);
    })
    i.told

pub take-requires : goal.take-requires
take-requires c = c.items.invariant.on.reached.branch

-- ---- an item was taken

pub items-preserved : goal.items-preserved
items-preserved c =
    let i = c.items.invariant in
    let t = c.items.self in
    let u = c.cut.new.self in
    let x : Start = record { branch = c.items.branch; way = c.args.start.way } in
    let test = c.items-test.true in
    let fewer = i.fewer in
    let some : 0 < c.items.left = omega (arith, test, fewer) in
    let one : c.items.calm ≡ suc (c.items.calm - 1) = omega (arith, test) in
    let taken = c.in_ok-take.ensures.taken in
    let inside = inside-now c.args.self.now c.args.left c.args.start t c.items.left x i.on c.requires.inside in
    let calm : IsCalm (shown c.take.new.self) (items_ahead u.galley.now (c.items.left - 1)) (c.items.calm - 1) =
    subst (λ (g : Bor Galley). IsCalm (shown c.take.new.self) (items_ahead g.now (c.items.left - 1)) (c.items.calm - 1)) (sym c.in_ok-cut.ensures.continues.later.galley)
    (one-calm t.galley.now x c.items.left c.take.new.self inside some i.on.reached taken c.items.calm (c.items.calm - 1) one (i.calm test))
    in
    record {
      table = c.in_ok-cut.ensures.table;
      on =
          next-taken-on c.args.self.now c.args.left c.args.start t u c.items.left x c.take.new.self c.requires.inside some i.on i.may c.in_ok-cut.ensures.continues c.in_ok-cut.ensures.searched taken
          (c.in_ok-take.ensures.branch c.if-not-branch.false);
      may = inl (calm-now (shown c.take.new.self) (items_ahead u.galley.now (c.items.left - 1)) (c.items.calm - 1) calm);
      fewer = omega (arith, test, fewer);
      calm = λ _. calm;
      told =
          if-some-more _ _ c.as_ref-told.result
          (λ w told _.
          subst (λ (g : Bor Galley). IsTold (place_penalties g.now.items) (with_first (c.items.calm - 1) (items_ahead g.now (c.items.left - 1)) (shown c.take.new.self)) w.now) (sym c.in_ok-cut.ensures.continues.later.galley)
          (subst (λ y. IsTold (place_penalties t.galley.now.items) y w.now) (one-far t.galley.now x c.items.left c.take.new.self inside some i.on.reached taken c.items.calm (c.items.calm - 1) one) (told test)))
          i.told;
    }

-- ---- the state up to which they were taken

pub returns-clause-taken : goal.returns-clause-taken
returns-clause-taken c = c.items.invariant.on

pub returns-clause-start : goal.returns-clause-start
returns-clause-start c =
    let on = c.items.invariant.on in
    let fewer = c.items.invariant.fewer in
    let some : 0 < c.items.left = omega (arith, fewer) in
    start-of c.items.self.galley.now c.items.self.bound c.items.left (record { branch = c.items.branch; way = c.args.start.way }) on.reached some c.items.invariant.may on.high
