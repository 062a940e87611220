use Rattle.std.proofs.Common.{◌≡◌, take, drop, add-one, sym, ap, ◌∙◌, arith}
use Rattle.tb_float.specs.declared.Suppress.{Suppress}
use Rattle.tb_float.specs.Lists.{float_entries, floats_of}
use Rattle.tb_float.proofs.EntryLemmas.{drop-entries, next-is_float, next-entry, no-entry}
use Rattle.tb_float.proofs.WaitingLemmas.{waiting-entries, waiting-count}
use Rattle.tb_area.specs.Deferred.{doubled}
use Rattle.tb_area.specs.DeferredWalk.{GoesOn}
use Rattle.tb_area.proofs.DeferredWalks.{IsNextEntry, finds-place, finds-none, finds-full, double-closes, double-kept}
use Rattle.tb_area.proofs.deferred.next_double.Goals.{After-float-f, After-keep}
use Rattle.tb_area.proofs.deferred.next_double.Goals as goal

pub returns-then-kept-len : goal.returns-then-kept-len
returns-then-kept-len c = λ s. finds-none _ _ _ _ _ _ (λ end h. h) (omega (arith, c.len.ensures.value, waiting-count c.args.from c.requires.waiting c.args.pool.now.lists))

pub loop-entry-init : goal.loop-entry-init
loop-entry-init c =
    let fs = floats_of c.args.from c.args.pool.now.lists in
    let k = c.args.kept.now.count in
    record {
      can_next = tt;
      is_finite = tt;
      left = c.into_iter-entry-iterator.ensures.into_iter_gives ∙ c.entries_from-entry-items.ensures ∙ ap (drop k) (waiting-entries c.args.from c.requires.waiting c.args.pool.now.lists) ∙ drop-entries k fs;
      way = λ s end h. h;
    }

pub float-f-requires : goal.float-f-requires
float-f-requires c =
    let fs = floats_of c.args.from c.args.pool.now.lists in
    next-is_float c.in-Some-entry.entry.now c.next.new.self (drop c.loop-entry.kept.count fs) (sym c.in-Some-entry.ensures.steps ∙ c.loop-entry.invariant.left)

-- the entry is that of the next float, and the others come behind it
next_is : (c : After-float-f) → IsNextEntry (floats_of c.args.from c.args.pool.now.lists) c.loop-entry.kept.count c.float-f.result.now c.next.new.self
next_is c =
    next-entry (floats_of c.args.from c.args.pool.now.lists) c.loop-entry.kept.count _ _ _ (sym c.in-Some-entry.ensures.steps ∙ c.loop-entry.invariant.left) c.float-f.ensures

pub returns-in_default-double_behind : goal.returns-in_default-double_behind
returns-in_default-double_behind c =
    let next = next_is (goal.at.returns-in_default-double_behind c).After-float-f in
    λ s. finds-place _ _ _ _ _ _ _ _ (c.loop-entry.invariant.way s) next.0 c.in_default-double_behind.not-Deferred (c.double_behind.ensures s)

-- the float there stays, and the walk goes on behind it
goes_on : (c : After-keep) → IsNextEntry (floats_of c.args.from c.args.pool.now.lists) c.loop-entry.kept.count c.float-f.result.now c.next.new.self → record { can_next : Unit {0}; is_finite : Unit {0}; left : c.next.new.self ≡ float_entries (drop c.keep.new.self.count (floats_of c.args.from c.args.pool.now.lists)); way : (s : Suppress) → GoesOn c.args.from (doubled c.args.from c.args.p.now s) c.args.pool.now.lists c.args.kept.now c.keep.new.self }
goes_on c next = record {
  can_next = tt;
  is_finite = tt;
  left = rw (c.keep.ensures.count, add-one) next.1;
  way = λ s end h. double-kept c.args.from c.args.p.now s c.loop-entry.kept c.keep.new.self _ c.float-f.result.now c.keep.ensures.count next.0 c.keep.ensures.classes c.keep.ensures.left (c.in-Deferred.ensures s) end (c.loop-entry.invariant.way s end h);
}

pub loop-entry-preserved-then-had : goal.loop-entry-preserved-then-had
loop-entry-preserved-then-had c =
    let w = goal.at.loop-entry-preserved-then-had c in
    goes_on w.After-keep (next_is w.After-float-f)

pub returns-then-is_full : goal.returns-then-is_full
returns-then-is_full c = λ s.
    let w = goal.at.returns-then-is_full c in
    let on = goes_on w.After-keep (next_is w.After-float-f) in
    let from = c.args.from in
    let l = c.args.pool.now.lists in
    let u = c.keep.new.self in
    finds-full _ _ _ _ _ u _ (double-closes from c.args.p.now s l) (c.len-kept.ensures.value ∙ waiting-count from c.requires.waiting l) (on.way s) (λ end way. c.is_full.ensures.all c.if-is_full.true (take u.count (floats_of from l)) (floats_of from l) way.classes way.left)

pub loop-entry-preserved : goal.loop-entry-preserved
loop-entry-preserved c =
    let w = goal.at.loop-entry-preserved c in
    goes_on w.After-keep (next_is w.After-float-f)

pub returns : goal.returns
returns c = λ s.
    finds-none _ _ _ _ _ _ (c.loop-entry.invariant.way s) (no-entry (floats_of c.args.from c.args.pool.now.lists) c.loop-entry.kept.count (sym c.in-None.ensures.steps.0 ∙ c.loop-entry.invariant.left))
