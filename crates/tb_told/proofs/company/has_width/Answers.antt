use Rattle.std.proofs.Common.{sym, ap, ◌∙◌}
use Rattle.std.specs.Prelude.{◌||◌}
use Rattle.tb_float.proofs.EntryLemmas.{next-is_float}
use Rattle.tb_fpage.proofs.WalkLemmas.{next-float, no-float}
use Rattle.tb_told.specs.Tales.{has_width}
use Rattle.tb_told.proofs.company.has_width.Goals as goal

pub float-requires : goal.float-requires
float-requires c =
    let way = c.loop-entry.invariant.way in
    next-is_float c.in-Some.entry.now c.next.new.self way.0 (sym c.in-Some.ensures.steps ∙ way.1)

pub returns-then-is_of_width : goal.returns-then-is_of_width
returns-then-is_of_width c =
    let way = c.loop-entry.invariant.way in
    let next = next-float c.in-Some.entry.now c.next.new.self way.0 c.float.result.now (sym c.in-Some.ensures.steps ∙ way.1) c.float.ensures in
    sym (way.2 ∙ ap (has_width c.args.wide) next.2 ∙ ap (λ b. b || has_width c.args.wide next.0) (sym c.is_of_width.ensures ∙ c.if-is_of_width.true))

pub loop-entry-preserved : goal.loop-entry-preserved
loop-entry-preserved c =
    let way = c.loop-entry.invariant.way in
    let next = next-float c.in-Some.entry.now c.next.new.self way.0 c.float.result.now (sym c.in-Some.ensures.steps ∙ way.1) c.float.ensures in
    record {
      can_next = tt;
      is_finite = tt;
      way = (next.0, next.1, way.2 ∙ ap (has_width c.args.wide) next.2 ∙ ap (λ b. b || has_width c.args.wide next.0) (sym c.is_of_width.ensures ∙ c.if-is_of_width.false));
    }

pub returns : goal.returns
returns c =
    let way = c.loop-entry.invariant.way in
    sym (way.2 ∙ ap (has_width c.args.wide) (no-float way.0 (sym c.in-None.ensures.steps.0 ∙ way.1)))
