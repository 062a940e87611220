use Rattle.std.proofs.Common.{sym, refl, ◌∙◌}
use Rattle.tb_float.specs.Lists.{floats_of}
use Rattle.tb_float.proofs.EntryLemmas.{next-is_float}
use Rattle.tb_why.proofs.LeavingLemmas.{area-entries, next-float, back-more, back-last}
use Rattle.tb_why.proofs.lists.tell_back.Goals as goal

pub loop-entry-init : goal.loop-entry-init
loop-entry-init c =
    let l = c.args.pool.now.lists in
    record {
      can_next = tt;
      is_finite = tt;
      way = (floats_of c.args.from l, c.into_iter-entry-iterator.ensures.into_iter_gives ∙ c.entries-entry-items.ensures ∙ area-entries c.args.from c.requires l, refl);
    }

pub float-requires : goal.float-requires
float-requires c =
    let way = c.loop-entry.invariant.way in
    next-is_float c.in-Some.entry.now c.next.new.self way.0 (sym c.in-Some.ensures.steps ∙ way.1)

pub loop-entry-preserved : goal.loop-entry-preserved
loop-entry-preserved c =
    let way = c.loop-entry.invariant.way in
    let f = c.float.result.now in
    let next = next-float c.in-Some.entry.now c.next.new.self way.0 f (sym c.in-Some.ensures.steps ∙ way.1) c.float.ensures in
    record {
      can_next = tt;
      is_finite = tt;
      way = (next.0, next.2, back-more c.loop-entry.pieces.items c.push.new.self.items _ c.args.place f way.0 next.0 next.1 c.in_ok-push.ensures.items way.2);
    }

pub returns : goal.returns
returns c =
    let way = c.loop-entry.invariant.way in
    back-last c.loop-entry.pieces.items _ c.args.place c.loop-entry.entry-iterator way.0 c.in-None.ensures.steps.0 way.1 way.2
