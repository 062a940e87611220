use Rattle.std.proofs.Common.{sym, ◌∙◌}
use Rattle.tb_float.proofs.EntryLemmas.{next-is_float}
use Rattle.tb_fpage.proofs.WalkLemmas.{next-float, no-float}
use Rattle.tb_told.proofs.ChoiceLemmas.{pass-next, pass-all, pass-end}
use Rattle.tb_told.proofs.choices.pass_over.Goals as goal

pub float-requires : goal.float-requires
float-requires c =
    let way = c.loop-entry.invariant.way in
    next-is_float c.in-Some.entry.now c.next.new.self way.0 (sym c.in-Some.ensures.steps ∙ way.1)

pub returns-then-left-eq0 : goal.returns-then-left-eq0
returns-then-left-eq0 c =
    let way = c.loop-entry.invariant.way in
    pass-all c.loop-entry.choices.items _ c.loop-entry.left way.0 c.if-left-eq0.true way.2

pub loop-entry-preserved : goal.loop-entry-preserved
loop-entry-preserved c =
    let way = c.loop-entry.invariant.way in
    let next = next-float c.in-Some.entry.now c.next.new.self way.0 c.float.result.now (sym c.in-Some.ensures.steps ∙ way.1) c.float.ensures in
    record {
      can_next = tt;
      is_finite = tt;
      way = (next.0, next.1, pass-next c.loop-entry.choices.items c.push.new.self.items _ c.loop-entry.left c.float.result.now way.0 next.0 next.2 c.if-left-eq0.false c.in_ok-push.ensures.items way.2);
    }

pub returns : goal.returns
returns c =
    let way = c.loop-entry.invariant.way in
    pass-end c.loop-entry.choices.items _ c.loop-entry.left way.0 (no-float way.0 (sym c.in-None.ensures.steps.0 ∙ way.1)) way.2
