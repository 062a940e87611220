use Rattle.std.proofs.Common.{refl, sym, subst, ◌<◌, length, arith}
use Rattle.std.proofs.lemmas.Result.{on_ok_weaker}
use Rattle.std.specs.Prelude.{pos, ◌≤ℤ◌}
use Rattle.tb_rate.specs.Places.{place_penalties}
use Rattle.tb_search.specs.declared.table.Start.{Start}
use Rattle.tb_search.specs.declared.table.Table.{Table}
use Rattle.tb_search.specs.Branches.{shown}
use Rattle.tb_search.specs.FilledBranches.{HasFired, FillsTo}
use Rattle.tb_search.specs.Starts.{IsTable}
use Rattle.tb_search.specs.Continues.{Continues}
use Rattle.tb_search.proofs.ClosedLemmas.{fired-copied}
use Rattle.tb_search.proofs.FuelLemmas.{fired-fewer}
use Rattle.tb_search.proofs.LaterLemmas.{continues-itself}
use Rattle.tb_search.proofs.ReachedWays.{start-of}
use Rattle.tb_search.proofs.SearchSteps.{if-both, full-may, kept-searched}
use Rattle.tb_search.proofs.SettleLemmas.{IsFilledOn, IsStartSearched, none-filled, one-filled, filled-over, filled-refused, filled-full}
use Rattle.tb_search.proofs.SumLemmas.{within-bound, above-bound, sum-fits, sum-is, within-range, page-few}
use Rattle.tb_search.proofs.table.Table.settle.Goals as goal

-- ---- the loop

pub fires-init : goal.fires-init
fires-init c = record { same = refl; on = none-filled c.args.self.now c.args.left (record { branch = c.args.branch; way = c.args.way }) c.requires.reached c.requires.high }

pub page-requires-clause-table : goal.page-requires-clause-table
page-requires-clause-table c = subst IsTable (sym c.fires.invariant.same) c.requires.table

pub page-requires-clause-branch : goal.page-requires-clause-branch
page-requires-clause-branch c = c.fires.invariant.on.reached.branch

-- ---- a page fired

fired : (c : goal.After-struct_told-in-Fired-1) → HasFired (place_penalties c.fires.self.galley.now.items) c.in-Fired.demerits c.fires.branch c.page.new.trials.page
fired c = subst (λ f. FillsTo (place_penalties c.fires.self.galley.now.items) c.fires.branch f c.page.new.trials.page) c.in-Fired.is c.in_ok-filled.ensures

range : (c : goal.After-struct_told-in-Fired-1) → c.fires.self.bound ≤ℤ pos 1000000000000000000000000000
range c = (subst IsTable (sym c.fires.invariant.same) c.requires.table).range

within : (c : goal.After-struct_told-in-Fired-1) → c.fires.way.demerits ≤ℤ c.fires.self.bound
within c = within-bound c.fires.way.demerits c.fires.self.bound c.fires.invariant.on.reached.low c.fires.invariant.on.high (range c) c.fires-test.true

-- the state that goes on is a copy of the one after it
copied : (c : goal.After-struct_told-in-Fired-1) → HasFired (place_penalties c.fires.self.galley.now.items) c.in-Fired.demerits c.fires.branch c.copy_from.new.self
copied c =
    let copy = c.in_ok-copy_from-in-Fired.ensures in
    fired-copied (place_penalties c.fires.self.galley.now.items) c.in-Fired.demerits c.fires.branch c.page.new.trials.page c.copy_from.new.self copy.branch copy.state copy.ahead copy.plain (fired c)

pub copy_from-requires : goal.copy_from-requires
copy_from-requires c =
    let places = place_penalties c.fires.self.galley.now.items in
    let after : HasFired places c.in-Fired.demerits c.fires.branch c.page.new.trials.page = subst (λ f. FillsTo places c.fires.branch f c.page.new.trials.page) c.in-Fired.is c.in_ok-filled.ensures in
    after.branch

pub overflow_add-way : goal.overflow_add-way
overflow_add-way c =
    sum-fits c.fires.way.demerits c.in-Fired.demerits c.fires.invariant.on.reached.low (within-range c.fires.way.demerits c.fires.self.bound (pos 1000000000000000000000000000) (within c) (range c)) (fired c).low (page-few c.in-Fired.demerits (fired c).high)

pub fires-smaller : goal.fires-smaller
fires-smaller c = fired-fewer (place_penalties c.fires.self.galley.now.items) c.in-Fired.demerits c.fires.branch c.copy_from.new.self c.fires.invariant.on.reached.branch (copied c)

pub fires-preserved : goal.fires-preserved
fires-preserved c =
    let x : Start = record { branch = c.args.branch; way = c.args.way } in
    record {
      same = c.fires.invariant.same;
      on =
          subst (λ d. IsFilledOn c.fires.self c.args.left x (record { branch = c.copy_from.new.self; way = record { breaks = c.fires.way.breaks; demerits = d } }))
          (sym (sum-is c.fires.way.demerits c.in-Fired.demerits c.fires.invariant.on.reached.low (within-range c.fires.way.demerits c.fires.self.bound (pos 1000000000000000000000000000) (within c) (range c)) (fired c).low (page-few c.in-Fired.demerits (fired c).high)))
          (one-filled c.fires.self c.args.left x (record { branch = c.fires.branch; way = c.fires.way }) c.copy_from.new.self c.in-Fired.demerits c.fires.invariant.on (within c) (copied c));
    }

-- ---- no page fires

pub arrive-requires-clause-table : goal.arrive-requires-clause-table
arrive-requires-clause-table c = subst IsTable (sym c.fires.invariant.same) c.requires.table

pub arrive-requires-clause-level : goal.arrive-requires-clause-level
arrive-requires-clause-level c = subst (λ (t : Table). c.args.left < length t.starts.items) (sym c.fires.invariant.same) c.requires.level

pub arrive-requires-clause-reached : goal.arrive-requires-clause-reached
arrive-requires-clause-reached c = c.fires.invariant.on.reached

pub arrive-requires-clause-high : goal.arrive-requires-clause-high
arrive-requires-clause-high c =
    within-bound c.fires.way.demerits c.fires.self.bound c.fires.invariant.on.reached.low c.fires.invariant.on.high (subst IsTable (sym c.fires.invariant.same) c.requires.table).range c.fires-test.true

pub returns-in-Quiet-clause-continues : goal.returns-in-Quiet-clause-continues
returns-in-Quiet-clause-continues c = on_ok_weaker c.arrive.result (subst (λ (t : Table). Continues t c.arrive.new.self) c.fires.invariant.same) c.arrive.ensures.continues

pub returns-in-Quiet-clause-searched : goal.returns-in-Quiet-clause-searched
returns-in-Quiet-clause-searched c =
    if-both c.arrive.result _ _ _ c.arrive.ensures.continues c.arrive.ensures.searched
    (λ on searched.
    subst (λ (t : Table). IsStartSearched t.galley.now c.args.left (record { branch = c.args.branch; way = c.args.way }) c.arrive.new.self) c.fires.invariant.same
    (c.fires.invariant.on.back c.arrive.new.self on.later searched))

-- ---- the pool is full

pub keep-requires-clause-table : goal.keep-requires-clause-table
keep-requires-clause-table c = subst IsTable (sym c.fires.invariant.same) c.requires.table

pub keep-requires-clause-left : goal.keep-requires-clause-left
keep-requires-clause-left c = subst (λ (t : Table). c.args.left < length t.starts.items) (sym c.fires.invariant.same) c.requires.level

pub keep-requires-clause-start : goal.keep-requires-clause-start
keep-requires-clause-start c =
    let on = c.fires.invariant.on in
    let full = subst (λ f. FillsTo (place_penalties c.fires.self.galley.now.items) c.fires.branch f c.page.new.trials.page) c.in-Full.is c.in_ok-filled.ensures in
    start-of c.fires.self.galley.now c.fires.self.bound c.args.left (record { branch = c.fires.branch; way = c.fires.way }) on.reached c.if-left-gt0.true (full-may (shown c.fires.branch) full)
    (within-bound c.fires.way.demerits c.fires.self.bound on.reached.low on.high (subst IsTable (sym c.fires.invariant.same) c.requires.table).range c.fires-test.true)

pub returns-then-left-gt0-clause-continues : goal.returns-then-left-gt0-clause-continues
returns-then-left-gt0-clause-continues c = on_ok_weaker c.keep.result (subst (λ (t : Table). Continues t c.keep.new.self) c.fires.invariant.same) c.keep.ensures.continues

pub returns-then-left-gt0-clause-searched : goal.returns-then-left-gt0-clause-searched
returns-then-left-gt0-clause-searched c =
    if-both c.keep.result _ _ _ c.keep.ensures.continues c.keep.ensures.known
    (λ on known.
    subst (λ (t : Table). IsStartSearched t.galley.now c.args.left (record { branch = c.args.branch; way = c.args.way }) c.keep.new.self) c.fires.invariant.same
    (c.fires.invariant.on.back c.keep.new.self on.later
    (kept-searched c.fires.self c.keep.new.self on.later c.args.left (shown c.fires.branch) c.fires.way known)))

pub returns-in-Full-clause-table : goal.returns-in-Full-clause-table
returns-in-Full-clause-table c = subst IsTable (sym c.fires.invariant.same) c.requires.table

pub returns-in-Full-clause-continues : goal.returns-in-Full-clause-continues
returns-in-Full-clause-continues c = subst (λ (t : Table). Continues t c.fires.self) c.fires.invariant.same (continues-itself c.fires.self)

pub returns-in-Full-clause-searched : goal.returns-in-Full-clause-searched
returns-in-Full-clause-searched c =
    let full = subst (λ f. FillsTo (place_penalties c.fires.self.galley.now.items) c.fires.branch f c.page.new.trials.page) c.in-Full.is c.in_ok-filled.ensures in
    subst (λ (t : Table). IsStartSearched t.galley.now c.args.left (record { branch = c.args.branch; way = c.args.way }) c.fires.self) c.fires.invariant.same
    (filled-full c.fires.self c.args.left (record { branch = c.args.branch; way = c.args.way }) (record { branch = c.fires.branch; way = c.fires.way }) c.fires.invariant.on (let e = c.if-left-gt0.false in omega (arith, e)) full)

-- ---- no run goes on, or there are too many demerits

pub returns-in-Refused-clause-table : goal.returns-in-Refused-clause-table
returns-in-Refused-clause-table c = subst IsTable (sym c.fires.invariant.same) c.requires.table

pub returns-in-Refused-clause-continues : goal.returns-in-Refused-clause-continues
returns-in-Refused-clause-continues c = subst (λ (t : Table). Continues t c.fires.self) c.fires.invariant.same (continues-itself c.fires.self)

pub returns-in-Refused-clause-searched : goal.returns-in-Refused-clause-searched
returns-in-Refused-clause-searched c =
    let refused = subst (λ f. FillsTo (place_penalties c.fires.self.galley.now.items) c.fires.branch f c.page.new.trials.page) c.in-Refused.is c.in_ok-filled.ensures in
    subst (λ (t : Table). IsStartSearched t.galley.now c.args.left (record { branch = c.args.branch; way = c.args.way }) c.fires.self) c.fires.invariant.same
    (filled-refused c.fires.self c.args.left (record { branch = c.args.branch; way = c.args.way }) (record { branch = c.fires.branch; way = c.fires.way }) c.fires.invariant.on refused)

pub returns-clause-table : goal.returns-clause-table
returns-clause-table c = subst IsTable (sym c.fires.invariant.same) c.requires.table

pub returns-clause-continues : goal.returns-clause-continues
returns-clause-continues c = subst (λ (t : Table). Continues t c.fires.self) c.fires.invariant.same (continues-itself c.fires.self)

pub returns-clause-searched : goal.returns-clause-searched
returns-clause-searched c =
    let on = c.fires.invariant.on in
    subst (λ (t : Table). IsStartSearched t.galley.now c.args.left (record { branch = c.args.branch; way = c.args.way }) c.fires.self) c.fires.invariant.same
    (filled-over c.fires.self c.args.left (record { branch = c.args.branch; way = c.args.way }) (record { branch = c.fires.branch; way = c.fires.way }) on
    (above-bound c.fires.way.demerits c.fires.self.bound on.reached.low on.high (subst IsTable (sym c.fires.invariant.same) c.requires.table).range c.fires-test.false))
