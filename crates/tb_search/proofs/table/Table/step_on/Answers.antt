use Rattle.std.proofs.Common.{◌≡◌, ◌∙◌, subst, inl, inr, ◌-◌, arith}
use Rattle.tb_rate.specs.Places.{place_penalties}
use Rattle.tb_best.specs.PlanDemerits.{unlimited_step}
use Rattle.tb_search.specs.declared.table.Start.{Start}
use Rattle.tb_search.specs.Branches.{shown}
use Rattle.tb_search.specs.FilledBranches.{HasFired, IsQuiet, IsFull, IsRefused, IsRefusal, FillsTo}
use Rattle.tb_search.specs.Starts.{IsReached}
use Rattle.tb_search.specs.Continues.{IsTakenOn}
use Rattle.tb_search.proofs.ExpandLemmas.{none-taken, next-taken-on, inside-now, level-now, taken-refused, taken-ended, taken-left, summed-fits, summed-high, summed-reached, summed-searched}
use Rattle.tb_search.proofs.ReachedWays.{start-reached, end-rated}
use Rattle.tb_search.proofs.SearchSteps.{full-may}
use Rattle.tb_search.proofs.table.Table.step_on.Goals as goal
use Rattle.tb_search.proofs.table.Table.step_on.Goals.{Else-not-branch}

-- ---- the loop

pub items-init : goal.items-init
items-init c =
    let g = c.args.self.now.galley.now in
    record {
      table = c.requires.table;
      on = none-taken c.args.self.now c.args.left c.args.start (start-reached g c.args.self.now.bound c.args.left c.args.start c.requires.start) c.requires.start.high;
      may = c.requires.start.quiet;
      some = inl c.requires.start.some;
    }

pub cut-requires-clause-level : goal.cut-requires-clause-level
cut-requires-clause-level c = level-now c.args.self.now c.args.left c.args.start c.items.self c.items.left (record { branch = c.items.branch; way = c.args.start.way }) c.items.invariant.on c.requires.level

pub cut-requires-clause-inside : goal.cut-requires-clause-inside
cut-requires-clause-inside c = inside-now c.args.self.now c.args.left c.args.start c.items.self c.items.left (record { branch = c.items.branch; way = c.args.start.way }) c.items.invariant.on c.requires.inside

pub cut-requires-clause-reached : goal.cut-requires-clause-reached
cut-requires-clause-reached c = c.items.invariant.on.reached

pub cut-requires-clause-high : goal.cut-requires-clause-high
cut-requires-clause-high c = c.items.invariant.on.high

pub take-requires : goal.take-requires
take-requires c = c.items.invariant.on.reached.branch

-- ---- an item was taken

-- the state after it
abbrev after : Else-not-branch → Start
after c = record { branch = c.take.new.self; way = c.args.start.way }

taken : (c : Else-not-branch) → IsTakenOn c.args.self.now c.args.left c.args.start c.cut.new.self (c.items.left - 1) (after c)
taken c =
    next-taken-on c.args.self.now c.args.left c.args.start c.items.self c.cut.new.self c.items.left (record { branch = c.items.branch; way = c.args.start.way }) c.take.new.self c.requires.inside c.items-test.true c.items.invariant.on
    c.items.invariant.may c.in_ok-cut.ensures.continues c.in_ok-cut.ensures.searched c.in_ok-take.ensures.taken (c.in_ok-take.ensures.branch c.if-not-branch.false)

pub page-requires-clause-branch : goal.page-requires-clause-branch
page-requires-clause-branch c = c.in_ok-take.ensures.branch c.if-not-branch.false

-- ---- a page fired

pub overflow_add-way : goal.overflow_add-way
overflow_add-way c =
    let e = (goal.at.overflow_add-way c).Else-not-branch in
    let places = place_penalties c.cut.new.self.galley.now.items in
    let fired : HasFired places c.in-Fired.demerits c.take.new.self c.page.new.trials.page = subst (λ f. FillsTo places c.take.new.self f c.page.new.trials.page) c.in-Fired.is c.in_ok-filled.ensures in
    summed-fits c.args.self.now c.args.left c.args.start c.cut.new.self (c.items.left - 1) (after e) (taken e) c.in_ok-cut.ensures.table.range c.page.new.trials.page c.in-Fired.demerits fired

pub go_on-requires-clause-reached : goal.go_on-requires-clause-reached
go_on-requires-clause-reached c =
    let e = (goal.at.go_on-requires-clause-reached c).Else-not-branch in
    let places = place_penalties c.cut.new.self.galley.now.items in
    let fired : HasFired places c.in-Fired.demerits c.take.new.self c.page.new.trials.page = subst (λ f. FillsTo places c.take.new.self f c.page.new.trials.page) c.in-Fired.is c.in_ok-filled.ensures in
    summed-reached c.args.self.now c.args.left c.args.start c.cut.new.self (c.items.left - 1) (after e) (taken e) c.in_ok-cut.ensures.table.range c.page.new.trials.page c.in-Fired.demerits fired

pub go_on-requires-clause-high : goal.go_on-requires-clause-high
go_on-requires-clause-high c =
    let e = (goal.at.go_on-requires-clause-high c).Else-not-branch in
    let places = place_penalties c.cut.new.self.galley.now.items in
    let fired : HasFired places c.in-Fired.demerits c.take.new.self c.page.new.trials.page = subst (λ f. FillsTo places c.take.new.self f c.page.new.trials.page) c.in-Fired.is c.in_ok-filled.ensures in
    summed-high c.args.self.now c.args.left c.args.start c.cut.new.self (c.items.left - 1) (after e) (taken e) c.in_ok-cut.ensures.table.range c.page.new.trials.page c.in-Fired.demerits fired

pub go_on-requires-clause-level : goal.go_on-requires-clause-level
go_on-requires-clause-level c =
    let level = level-now c.args.self.now c.args.left c.args.start c.items.self c.items.left (record { branch = c.items.branch; way = c.args.start.way }) c.items.invariant.on c.requires.level in
    let levels = c.in_ok-cut.ensures.continues.levels in
    let some = c.items-test.true in
    omega (arith, level, levels, some)

pub returns-in-Fired-clause-levels : goal.returns-in-Fired-clause-levels
returns-in-Fired-clause-levels c = c.in_ok-go_on-in-Fired.ensures.continues.levels ∙ (taken (goal.at.returns-in-Fired-clause-levels c).Else-not-branch).levels

pub returns-in-Fired-clause-searched : goal.returns-in-Fired-clause-searched
returns-in-Fired-clause-searched c =
    let e = (goal.at.returns-in-Fired-clause-searched c).Else-not-branch in
    let places = place_penalties c.cut.new.self.galley.now.items in
    let fired : HasFired places c.in-Fired.demerits c.take.new.self c.page.new.trials.page = subst (λ f. FillsTo places c.take.new.self f c.page.new.trials.page) c.in-Fired.is c.in_ok-filled.ensures in
    summed-searched c.args.self.now c.args.left c.args.start c.cut.new.self (c.items.left - 1) (after e) (taken e) c.in_ok-cut.ensures.table.range c.page.new.trials.page c.in-Fired.demerits fired c.go_on.new.self
    c.in_ok-go_on-in-Fired.ensures.continues c.in_ok-go_on-in-Fired.ensures.searched

-- ---- the run ends well

pub end-requires-clause-rated : goal.end-requires-clause-rated
end-requires-clause-rated c =
    let e = (goal.at.end-requires-clause-rated c).Else-not-branch in
    let none : c.items.left - 1 ≡ 0 = let t = c.if-left-eq0.true in omega (arith, t) in
    let places = place_penalties c.cut.new.self.galley.now.items in
    let quiet : IsQuiet (shown c.take.new.self) = subst (λ f. FillsTo places c.take.new.self f c.page.new.trials.page) c.in-Quiet.is c.in_ok-filled.ensures in
    end-rated c.cut.new.self.galley.now (after e) (subst (λ n. IsReached c.cut.new.self.galley.now n (after e)) none (taken e).reached) quiet

pub end-requires-clause-bounded : goal.end-requires-clause-bounded
end-requires-clause-bounded c = (taken (goal.at.end-requires-clause-bounded c).Else-not-branch).high

pub returns-then-left-eq0-clause-levels : goal.returns-then-left-eq0-clause-levels
returns-then-left-eq0-clause-levels c = c.end.ensures.continues.levels ∙ (taken (goal.at.returns-then-left-eq0-clause-levels c).Else-not-branch).levels

pub returns-then-left-eq0-clause-searched : goal.returns-then-left-eq0-clause-searched
returns-then-left-eq0-clause-searched c =
    let e = (goal.at.returns-then-left-eq0-clause-searched c).Else-not-branch in
    let none : c.items.left - 1 ≡ 0 = let t = c.if-left-eq0.true in omega (arith, t) in
    let places = place_penalties c.cut.new.self.galley.now.items in
    let quiet : IsQuiet (shown c.take.new.self) = subst (λ f. FillsTo places c.take.new.self f c.page.new.trials.page) c.in-Quiet.is c.in_ok-filled.ensures in
    taken-ended c.args.self.now c.args.left c.args.start c.cut.new.self (c.items.left - 1) (after e) (taken e) c.end.new.self none quiet c.end.ensures.continues c.end.ensures.best

-- ---- no run goes on

pub returns-in-Refused-clause-levels : goal.returns-in-Refused-clause-levels
returns-in-Refused-clause-levels c = (taken (goal.at.returns-in-Refused-clause-levels c).Else-not-branch).levels

pub returns-in-Refused-clause-searched : goal.returns-in-Refused-clause-searched
returns-in-Refused-clause-searched c =
    let e = (goal.at.returns-in-Refused-clause-searched c).Else-not-branch in
    let places = place_penalties c.cut.new.self.galley.now.items in
    let refused : IsRefused (shown c.take.new.self) = subst (λ f. FillsTo places c.take.new.self f c.page.new.trials.page) c.in-Refused.is c.in_ok-filled.ensures in
    taken-refused c.args.self.now c.args.left c.args.start c.cut.new.self (c.items.left - 1) (after e) (taken e) refused

-- ---- the next item

pub items-preserved-else-left-eq0 : goal.items-preserved-else-left-eq0
items-preserved-else-left-eq0 c =
    let places = place_penalties c.cut.new.self.galley.now.items in
    let quiet : IsQuiet (shown c.take.new.self) = subst (λ f. FillsTo places c.take.new.self f c.page.new.trials.page) c.in-Quiet.is c.in_ok-filled.ensures in
    record { table = c.in_ok-cut.ensures.table; on = taken (goal.at.items-preserved-else-left-eq0 c).Else-not-branch; may = inl quiet.quiet; some = inl (let t = c.if-left-eq0.false in omega (arith, t)) }

pub items-preserved : goal.items-preserved
items-preserved c =
    let places = place_penalties c.cut.new.self.galley.now.items in
    let full : IsFull (shown c.take.new.self) = subst (λ f. FillsTo places c.take.new.self f c.page.new.trials.page) c.in-Full.is c.in_ok-filled.ensures in
    record { table = c.in_ok-cut.ensures.table; on = taken (goal.at.items-preserved c).Else-not-branch; may = full-may (shown c.take.new.self) full; some = inr full.step }

pub returns-clause-levels : goal.returns-clause-levels
returns-clause-levels c = c.items.invariant.on.levels

pub returns-clause-searched : goal.returns-clause-searched
returns-clause-searched c =
    let none : c.items.left ≡ 0 = let t = c.items-test.false in omega (arith, t) in
    let left : IsRefusal (unlimited_step (shown c.items.branch)) = elim c.items.invariant.some [ inl some ↦ absurd (omega (arith, none, some)) | inr k ↦ k ] in
    taken-left c.args.self.now c.args.left c.args.start c.items.self c.items.left (record { branch = c.items.branch; way = c.args.start.way }) c.items.invariant.on none c.items.invariant.may left
