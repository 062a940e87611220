use Rattle.std.proofs.Common.{◌≡◌, sym, ◌∙◌, ap, subst, ◌-◌, ◌++◌, [], ◌∷◌, reverse}
use Rattle.std.specs.Prelude.{pos, ◌+ℤ◌}
use Rattle.tb_rate.specs.Places.{place_penalties}
use Rattle.tb_steps.specs.Run.{goes_on}
use Rattle.tb_best.specs.PlanDemerits.{unlimited_step}
use Rattle.tb_search.specs.declared.table.Start.{Start}
use Rattle.tb_search.specs.Branches.{shown, IsBranch}
use Rattle.tb_search.specs.FilledBranches.{HasFired, FillsTo}
use Rattle.tb_search.specs.AheadInCode.{items_ahead}
use Rattle.tb_search.specs.Starts.{IsReached}
use Rattle.tb_search.specs.Continues.{IsSearchedAsGoodBy}
use Rattle.tb_search.proofs.AheadLemmas.{next_ahead}
use Rattle.tb_search.proofs.LaterLemmas.{continues-itself}
use Rattle.tb_search.proofs.ReachedWays.{shown-cut, reached-cut, reached-fired, reached-flag}
use Rattle.tb_search.proofs.SearchSteps.{if-both}
use Rattle.tb_search.proofs.SumLemmas.{paid-above, paid-fits, paid-sum, paid-high}
use Rattle.tb_search.proofs.CutLemmas.{IsCutBefore, cut-before, read-back, of-next, cut-fired, cut-paid-over, cut-unfired}
use Rattle.tb_search.proofs.table.Table.put_break.Goals as goal
use Rattle.tb_search.proofs.table.Table.put_break.Goals.{After-fill, In-Fired}

-- a break was put into the copy
made : (c : After-fill) → IsCutBefore c.args.self.now c.args.left c.args.number (record { branch = c.args.branch.now; way = c.args.way.now }) c.cut.new.self
made c =
    let r = c.requires in
    let copy = c.in_ok-copy_from.ensures in
    cut-before c.args.self.now c.args.left c.args.number (record { branch = c.args.branch.now; way = c.args.way.now }) c.copy_from.new.self c.cut.new.self r.table r.some r.inside r.number r.place r.reached copy.state copy.ahead c.in_ok-cut.ensures.taken

-- ---- a page fired

fired : (c : In-Fired) → HasFired (place_penalties c.args.self.now.galley.now.items) c.in-Fired.demerits c.cut.new.self c.fill.new.self
fired c =
    subst (λ f. FillsTo (place_penalties c.args.self.now.galley.now.items) c.cut.new.self f c.fill.new.self) c.in-Fired.is
    (subst (λ ps. FillsTo ps c.cut.new.self c.in_ok-demerits.field-0 c.fill.new.self) c.requires.table.penalties c.in_ok-demerits.ensures)

pub overflow_add-way-in-Fired : goal.overflow_add-way-in-Fired
overflow_add-way-in-Fired c =
    paid-fits c.args.way.now.demerits c.args.self.now.bound c.in-Fired.demerits c.requires.reached.low c.requires.high c.requires.table.range (fired (goal.at.overflow_add-way-in-Fired c).In-Fired).low (fired (goal.at.overflow_add-way-in-Fired c).In-Fired).high

pub go_on-requires-clause-reached : goal.go_on-requires-clause-reached
go_on-requires-clause-reached c =
    let g = c.args.self.now.galley.now in
    let k = c.args.left - 1 in
    let x : Start = record { branch = c.args.branch.now; way = c.args.way.now } in
    let a = c.args.way.now.demerits in
    let breaks = c.in_ok-breaks.breaks in
    let m = made (goal.at.go_on-requires-clause-reached c).After-fill in
    let f = fired (goal.at.go_on-requires-clause-reached c).In-Fired in
    let is : IsBranch c.cut.new.self = c.in_ok-cut.ensures.branch c.if-not-branch.false in
    let y : Start = record { branch = c.cut.new.self; way = record { breaks = breaks; demerits = a +ℤ pos 1000 } } in
    let more : breaks.items ≡ c.args.way.now.breaks.items ++ (next_ahead g k).number ∷ [] =
    c.in_ok-breaks.ensures ∙ (λ i. c.as_slice.ensures.value i ++ sym m.numbered i ∷ [])
    in
    let cut = reached-cut g k x c.cut.new.self breaks m.some m.reached m.place m.taken is more in
    let same = shown-cut g k x c.cut.new.self m.some m.reached m.place m.taken in
    reached-flag g k c.fill.new.self c.args.plain _
    (subst (λ e. IsReached g k (record { branch = c.fill.new.self; way = record { breaks = breaks; demerits = e } }))
    (sym (paid-sum a c.args.self.now.bound c.in-Fired.demerits c.requires.reached.low c.requires.high c.requires.table.range f.low f.high))
    (reached-fired g k y c.fill.new.self c.in-Fired.demerits cut f))
    (λ set. c.requires.plain set f.events f.records (shown c.fill.new.self) (subst (λ z. unlimited_step z ≡ goes_on f.events f.records (shown c.fill.new.self)) same f.step))

pub go_on-requires-clause-high : goal.go_on-requires-clause-high
go_on-requires-clause-high c =
    paid-high c.args.way.now.demerits c.args.self.now.bound c.in-Fired.demerits c.requires.reached.low c.requires.high c.requires.table.range (fired (goal.at.go_on-requires-clause-high c).In-Fired).low (fired (goal.at.go_on-requires-clause-high c).In-Fired).high

pub returns-else-way-self-clause-searched : goal.returns-else-way-self-clause-searched
returns-else-way-self-clause-searched c =
    let t = c.args.self.now in
    let u = c.go_on.new.self in
    let k = c.args.left - 1 in
    let x : Start = record { branch = c.args.branch.now; way = c.args.way.now } in
    let a = c.args.way.now.demerits in
    let m = made (goal.at.returns-else-way-self-clause-searched c).After-fill in
    let f = fired (goal.at.returns-else-way-self-clause-searched c).In-Fired in
    let sum = paid-sum a t.bound c.in-Fired.demerits c.requires.reached.low c.requires.high c.requires.table.range f.low f.high in
    let back : reverse c.in_ok-breaks.breaks.items ≡ (next_ahead t.galley.now k).number ∷ reverse c.args.way.now.breaks.items =
    read-back c.in_ok-breaks.breaks.items c.args.way.now.breaks.items (next_ahead t.galley.now k).number c.args.number
    (c.in_ok-breaks.ensures ∙ ap (λ bs. bs ++ c.args.number ∷ []) c.as_slice.ensures.value) m.numbered
    in
    if-both c.go_on.result _ _ _ c.go_on.ensures.continues c.go_on.ensures.searched
    (λ on searched.
    of-next t c.args.left x u c.requires.some
    (cut-fired t k x m.some m.reached m.place c.cut.new.self m.taken u c.fill.new.self c.in-Fired.demerits on.later f
    (subst (λ bs. IsSearchedAsGoodBy u (shown c.fill.new.self) (items_ahead t.galley.now k) ((a +ℤ pos 1000) +ℤ c.in-Fired.demerits) bs) back
    (subst (λ e. IsSearchedAsGoodBy u (shown c.fill.new.self) (items_ahead t.galley.now k) e (reverse c.in_ok-breaks.breaks.items)) sum searched))))

-- ---- it costs too much

pub returns-then-way-self-clause-continues : goal.returns-then-way-self-clause-continues
returns-then-way-self-clause-continues c = continues-itself c.args.self.now

pub returns-then-way-self-clause-searched : goal.returns-then-way-self-clause-searched
returns-then-way-self-clause-searched c =
    let t = c.args.self.now in
    let k = c.args.left - 1 in
    let x : Start = record { branch = c.args.branch.now; way = c.args.way.now } in
    let m = made (goal.at.returns-then-way-self-clause-searched c).After-fill in
    let f = fired (goal.at.returns-then-way-self-clause-searched c).In-Fired in
    of-next t c.args.left x t c.requires.some
    (cut-paid-over t k x m.some m.reached m.place c.cut.new.self m.taken c.fill.new.self c.in-Fired.demerits f
    (paid-above c.args.way.now.demerits t.bound c.in-Fired.demerits c.requires.reached.low c.requires.high c.requires.table.range f.low f.high c.if-way-self.true))

-- ---- no page fired

pub returns-in-Quiet : goal.returns-in-Quiet
returns-in-Quiet c =
    let t = c.args.self.now in
    let x : Start = record { branch = c.args.branch.now; way = c.args.way.now } in
    let m = made (goal.at.returns-in-Quiet c).After-fill in
    let f =
    subst (λ ps. FillsTo ps c.cut.new.self c.in_ok-demerits.field-0 c.fill.new.self) c.requires.table.penalties c.in_ok-demerits.ensures
    in
    record {
      table = c.requires.table;
      continues = continues-itself t;
      searched = of-next t c.args.left x t c.requires.some (cut-unfired t (c.args.left - 1) x m.some m.reached m.place c.cut.new.self m.taken c.in_ok-demerits.field-0 c.fill.new.self c.in-Quiet.is f);
    }
