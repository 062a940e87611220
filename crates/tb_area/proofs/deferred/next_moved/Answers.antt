use Rattle.std.proofs.Common.{◌≡◌, take, drop, add-one, sym, ◌∙◌, arith}
use Rattle.tb_float.specs.declared.Part.TheVariants as parts
use Rattle.tb_float.specs.Lists.{float_entries}
use Rattle.tb_float.proofs.EntryLemmas.{drop-entries, next-is_float, next-entry, no-entry}
use Rattle.tb_area.specs.Deferred.{filled}
use Rattle.tb_area.specs.DeferredWalk.{GoesOn}
use Rattle.tb_area.proofs.DeferredWalks.{IsNextEntry, finds-place, finds-none, finds-full, area-closed, area-kept, sized-at}
use Rattle.tb_area.proofs.deferred.next_moved.Goals.{After-float-f, After-keep}
use Rattle.tb_area.proofs.deferred.next_moved.Goals as goal

pub returns-then-kept-len : goal.returns-then-kept-len
returns-then-kept-len c = finds-none _ _ _ _ _ _ (λ end h. h) (omega (arith, c.len.ensures.value))

pub loop-entry-init : goal.loop-entry-init
loop-entry-init c = record {
  can_next = tt;
  is_finite = tt;
  left = c.into_iter-entry-iterator.ensures.into_iter_gives ∙ c.entries_from-entry-items.ensures ∙ drop-entries c.args.kept.now.count c.args.pool.now.lists.deferred;
  way = λ end h. h;
}

pub float-f-requires : goal.float-f-requires
float-f-requires c =
    next-is_float c.in-Some-entry.entry.now c.next.new.self (drop c.loop-entry.kept.count c.args.pool.now.lists.deferred) (sym c.in-Some-entry.ensures.steps ∙ c.loop-entry.invariant.left)

-- the entry is that of the next float, and the others come behind it
next_is : (c : After-float-f) → IsNextEntry c.args.pool.now.lists.deferred c.loop-entry.kept.count c.float-f.result.now c.next.new.self
next_is c =
    next-entry c.args.pool.now.lists.deferred c.loop-entry.kept.count _ _ _ (sym c.in-Some-entry.ensures.steps ∙ c.loop-entry.invariant.left) c.float-f.ensures

pub place_behind-requires-clause-extent : goal.place_behind-requires-clause-extent
place_behind-requires-clause-extent c =
    let next = next_is (goal.at.place_behind-requires-clause-extent c).After-float-f in
    sized-at c.args.pool.now.lists.deferred c.loop-entry.kept.count _ c.len.ensures.sized next.0

pub returns-in_default-place_behind : goal.returns-in_default-place_behind
returns-in_default-place_behind c =
    let next = next_is (goal.at.returns-in_default-place_behind c).After-float-f in
    finds-place _ _ _ _ _ _ _ _ c.loop-entry.invariant.way next.0 c.in_default-place_behind.not-Deferred c.place_behind.ensures

-- the float there stays, and the walk goes on behind it
goes_on : (c : After-keep) → IsNextEntry c.args.pool.now.lists.deferred c.loop-entry.kept.count c.float-f.result.now c.next.new.self → record { can_next : Unit {0}; is_finite : Unit {0}; left : c.next.new.self ≡ float_entries (drop c.keep.new.self.count c.args.pool.now.lists.deferred); way : GoesOn parts.Deferred (filled c.args.p.now c.args.s.now) c.args.pool.now.lists c.args.kept.now c.keep.new.self }
goes_on c next = record {
  can_next = tt;
  is_finite = tt;
  left = rw (c.keep.ensures.count, add-one) next.1;
  way = λ end h. area-kept c.args.p.now c.args.s.now c.loop-entry.kept c.keep.new.self _ c.float-f.result.now c.keep.ensures.count next.0 c.keep.ensures.classes c.keep.ensures.left c.in-Deferred.ensures end (c.loop-entry.invariant.way end h);
}

pub loop-entry-preserved-then-had : goal.loop-entry-preserved-then-had
loop-entry-preserved-then-had c =
    let w = goal.at.loop-entry-preserved-then-had c in
    goes_on w.After-keep (next_is w.After-float-f)

pub returns-then-is_full : goal.returns-then-is_full
returns-then-is_full c =
    let w = goal.at.returns-then-is_full c in
    let on = goes_on w.After-keep (next_is w.After-float-f) in
    let l = c.args.pool.now.lists in
    let u = c.keep.new.self in
    finds-full _ _ _ _ _ u _ (area-closed c.args.p.now c.args.s.now l) c.len-kept.ensures.value on.way (λ end way. c.is_full.ensures.all c.if-is_full.true (take u.count l.deferred) l.deferred way.classes way.left)

pub loop-entry-preserved : goal.loop-entry-preserved
loop-entry-preserved c =
    let w = goal.at.loop-entry-preserved c in
    goes_on w.After-keep (next_is w.After-float-f)

pub returns : goal.returns
returns c =
    finds-none _ _ _ _ _ _ c.loop-entry.invariant.way (no-entry c.args.pool.now.lists.deferred c.loop-entry.kept.count (sym c.in-None.ensures.steps.0 ∙ c.loop-entry.invariant.left))
