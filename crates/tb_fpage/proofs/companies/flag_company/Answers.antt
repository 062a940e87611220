use Rattle.std.proofs.Common.{◌≡◌, ◌<◌, ◌+◌, ◌-◌, ℕ, zero, suc, Bool, true, List, [], ◌∷◌, ◌++◌, length, take, drop, refl, sym, ap, ◌∙◌, subst, arith}
use Rattle.std.specs.Prelude.{slice_set}
use Rattle.std.proofs.Math.ListN.{length-set}
use Rattle.std.proofs.lemmas.List.{length-take-le}
use Rattle.std.proofs.lemmas.Option.{slice_get_within}
use Rattle.tb_float.specs.Lists.{float_entries, floats_of}
use Rattle.tb_float.proofs.WaitingLemmas.{waiting-entries}
use Rattle.tb_float.proofs.EntryLemmas.{drop-entries, next-is_float}
use Rattle.tb_fpage.specs.Walk.{IsMarking}
use Rattle.tb_fpage.proofs.WalkLemmas.{IsNextFloat, next-float, no-float, left-next, within-drop, on-way-room}
use Rattle.tb_fpage.proofs.MarkingLemmas.{marking-start, marking-next, marking-over, marking-full}
use Rattle.tb_fpage.proofs.companies.flag_company.Goals.{After-float}
use Rattle.tb_fpage.proofs.companies.flag_company.Goals as goal

first-flag : (bs : List Bool) → 0 < length bs → take 1 (slice_set bs 0 true) ≡ true ∷ []
first-flag [] lt = absurd (omega (arith, lt))
first-flag (b ∷ bs) lt = refl

next-flag : (n : ℕ) (bs : List Bool) (b : Bool) → n < length bs → take (n + 1) (slice_set bs n b) ≡ take n bs ++ b ∷ []
next-flag n [] b lt = absurd (omega (arith, lt))
next-flag zero (c ∷ bs) b lt = refl
next-flag (suc n) (c ∷ bs) b lt =
    let shift : suc n + 1 ≡ suc (n + 1) = omega arith in
    ap (λ m. take m (c ∷ slice_set bs n b)) shift ∙ ap (λ cs. c ∷ cs) (next-flag n bs b (omega (arith, lt)))

pub loop-entry-init : goal.loop-entry-init
loop-entry-init c =
    let all = floats_of c.args.from c.args.pool.now.lists in
    let w = c.args.found.walk in
    let flags = c.args.flags.now in
    let h = c.requires.head in
    record {
      can_next = tt;
      is_finite = tt;
      left = c.into_iter-entry-iterator.ensures.into_iter_gives ∙ c.entries_from-entry-items.ensures ∙ ap (drop w.seen) (waiting-entries c.args.from c.requires.waiting c.args.pool.now.lists) ∙ drop-entries w.seen all;
      marking = subst (λ bs. IsMarking w c.args.wanted.now all (w.seen - 1) bs) (sym (first-flag flags c.requires.some)) (marking-start c.args.wanted.now w all h);
      few = omega (arith, length-set flags 0 true, c.requires.some);
      many = length-set flags 0 true;
      within = omega (arith, slice_get_within all h.place h.head h.there, h.seen);
    }

-- the next float
next : (c : After-float) → IsNextFloat (drop c.loop-entry.walk.seen (floats_of c.args.from c.args.pool.now.lists)) c.float.result.now c.next.new.self
next c =
    let all = floats_of c.args.from c.args.pool.now.lists in
    next-float c.in-Some.entry.now c.next.new.self (drop c.loop-entry.walk.seen all) c.float.result.now (sym c.in-Some.ensures.steps ∙ c.loop-entry.invariant.left) c.float.ensures

-- there is a flag for it
room : (c : After-float) → c.loop-entry.count < length c.loop-entry.flags
room c =
    let all = floats_of c.args.from c.args.pool.now.lists in
    let w = c.loop-entry.walk in
    let f = next c in
    let m = c.loop-entry.invariant.marking in
    let less : w.seen < length all = within-drop w.seen all f.0 c.float.result.now (sym f.2) in
    omega (arith, c.requires.room w.seen c.if-walk-found.false less, m.passed, length-take-le c.loop-entry.count c.loop-entry.flags c.loop-entry.invariant.few, c.loop-entry.invariant.many)

pub float-requires : goal.float-requires
float-requires c =
    let all = floats_of c.args.from c.args.pool.now.lists in
    next-is_float c.in-Some.entry.now c.next.new.self (drop c.loop-entry.walk.seen all) (sym c.in-Some.ensures.steps ∙ c.loop-entry.invariant.left)

pub visit-joins-requires-clause-height : goal.visit-joins-requires-clause-height
visit-joins-requires-clause-height c =
    let all = floats_of c.args.from c.args.pool.now.lists in
    let f = next (goal.at.visit-joins-requires-clause-height c).After-float in
    (on-way-room c.args.wanted.now c.loop-entry.walk all f.0 c.float.result.now _ c.requires.few (sym f.2) c.loop-entry.invariant.marking.way).1

pub bounds-flags-count : goal.bounds-flags-count
bounds-flags-count c = room (goal.at.bounds-flags-count c).After-float

pub loop-entry-preserved : goal.loop-entry-preserved
loop-entry-preserved c =
    let all = floats_of c.args.from c.args.pool.now.lists in
    let z = c.args.wanted.now in
    let w = c.loop-entry.walk in
    let v = c.visit-joins.new.self in
    let f = c.float.result.now in
    let b = c.visit-joins.result in
    let n = c.loop-entry.count in
    let flags = c.loop-entry.flags in
    let e = c.visit-joins.ensures in
    let at = (goal.at.loop-entry-preserved c).After-float in
    let is = next at in
    let more = room at in
    record {
      can_next = tt;
      is_finite = tt;
      left = is.1 ∙ ap float_entries (left-next w v all is.0 f e.seen (sym is.2));
      marking = subst (λ bs. IsMarking v z all (c.args.found.walk.seen - 1) bs) (sym (next-flag n flags b more))
          (marking-next z w v all is.0 f b (c.args.found.walk.seen - 1) (take n flags) e.seen (sym is.2) e.joins e.stands c.loop-entry.invariant.marking);
      few = omega (arith, length-set flags n b, more);
      many = length-set flags n b ∙ c.loop-entry.invariant.many;
      within = omega (arith, within-drop w.seen all is.0 f (sym is.2), e.seen);
    }

pub returns-then-walk-found-clause-flags : goal.returns-then-walk-found-clause-flags
returns-then-walk-found-clause-flags c =
    let all = floats_of c.args.from c.args.pool.now.lists in
    marking-full c.args.wanted.now c.loop-entry.walk all (c.args.found.walk.seen - 1) (take c.loop-entry.count c.loop-entry.flags) c.args.found.last c.if-walk-found.true c.requires.last c.loop-entry.invariant.marking

pub returns-clause-flags : goal.returns-clause-flags
returns-clause-flags c =
    let all = floats_of c.args.from c.args.pool.now.lists in
    let w = c.loop-entry.walk in
    let none : [] ≡ drop w.seen all = sym (no-float (drop w.seen all) (sym c.in-None.ensures.steps.0 ∙ c.loop-entry.invariant.left)) in
    marking-over c.args.wanted.now w all (c.args.found.walk.seen - 1) (take c.loop-entry.count c.loop-entry.flags) none c.loop-entry.invariant.marking
