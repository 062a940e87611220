use Rattle.std.proofs.Common.{sym, ap, drop, ◌++◌, ◌∙◌}
use Rattle.std.proofs.lemmas.List.{drop-map}
use Rattle.tb_float.specs.Pool.{FloatPool}
use Rattle.tb_float.specs.Lists.{entries_of}
use Rattle.tb_float.specs.declared.Part.TheVariants as parts
use Rattle.tb_float.proofs.EntryLemmas.{next-is_float}
use Rattle.tb_fpage.proofs.WalkLemmas.{next-float, no-float}
use Rattle.tb_why.specs.ShownTurns.{all_waits}
use Rattle.tb_why.proofs.WovenLemmas.{waits-more, waits-last}
use Rattle.tb_why.proofs.turns.show_waits.Goals as goal

pub loop-entry-init : goal.loop-entry-init
loop-entry-init c =
    let fs = drop c.args.from c.args.machine.now.pool.lists.second in
    record {
      can_next = tt;
      is_finite = tt;
      way = (
        fs,
        c.into_iter-entry-iterator.ensures.into_iter_gives ∙ c.entries_from-entry-items.ensures ∙ ap (λ (p : FloatPool). drop c.args.from (entries_of parts.Second p.lists)) c.pool.ensures ∙ drop-map _ c.args.from c.args.machine.now.pool.lists.second,
        ap (λ s. c.args.shown.now.items ++ all_waits s fs) c.spot-spot.ensures,
      );
    }

pub float-requires : goal.float-requires
float-requires c =
    let way = c.loop-entry.invariant.way in
    next-is_float c.in-Some.entry.now c.next.new.self way.0 (sym c.in-Some.ensures.steps ∙ way.1)

pub loop-entry-preserved : goal.loop-entry-preserved
loop-entry-preserved c =
    let way = c.loop-entry.invariant.way in
    let f = c.float.result.now in
    let next = next-float c.in-Some.entry.now c.next.new.self way.0 f (sym c.in-Some.ensures.steps ∙ way.1) c.float.ensures in
    record {
      can_next = tt;
      is_finite = tt;
      way = (next.0, next.1, waits-more c.loop-entry.shown.items c.show_tale.new.shown.items c.spot-spot.result f way.0 next.0 _ next.2 c.in_ok-show_tale.ensures way.2);
    }

pub returns : goal.returns
returns c =
    let way = c.loop-entry.invariant.way in
    waits-last c.loop-entry.shown.items _ c.spot-spot.result way.0 (no-float way.0 (sym c.in-None.ensures.steps.0 ∙ way.1)) way.2
