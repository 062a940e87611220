use Rattle.std.proofs.Common.{◌≡◌, ℕ, ◌+◌, ◌≤◌, Bool, true, false, List, [], ◌∷◌, length, refl, sym, ap, ◌∙◌, arith}
use Rattle.std.specs.Prelude.{if◌then◌else◌}
use Rattle.tb_node.specs.declared.Float.{Float}
use Rattle.tb_float.proofs.EntryLemmas.{next-is_float}
use Rattle.tb_fpage.proofs.WalkLemmas.{next-float, no-float}
use Rattle.tb_sheet.specs.Sheet.{deep_count}
use Rattle.tb_output.proofs.pages.deep_doubles.Goals as goal

-- no more floats have a depth than there are
at_most : (fs : List Float) → deep_count fs ≤ length fs
at_most [] = omega arith
at_most (f ∷ fs) = by_depth f.deep (at_most fs)
  where
    by_depth : (deep : Bool) → deep_count fs ≤ length fs → (if deep then 1 else 0) + deep_count fs ≤ length (f ∷ fs)
    by_depth true h = omega (arith, h)
    by_depth false h = omega (arith, h)

-- those behind a float, and the number with it
passed : (count whole : ℕ) (f : Float) (fs gs : List Float) → fs ≡ f ∷ gs → count + deep_count fs ≡ whole → (count + (if f.deep then 1 else 0)) + deep_count gs ≡ whole
passed count whole f fs gs next h = by_depth f.deep (sym (ap deep_count next))
  where
    by_depth : (deep : Bool) → (if deep then 1 else 0) + deep_count gs ≡ deep_count fs → (count + (if deep then 1 else 0)) + deep_count gs ≡ whole
    by_depth true e = omega (arith, e, h)
    by_depth false e = omega (arith, e, h)

-- the number so far is small
few : (count whole : ℕ) (fs all : List Float) → count + deep_count fs ≡ whole → whole ≡ deep_count all → length all ≤ 4096 → count ≤ 4096
few count whole fs all h e most = let less = at_most all in omega (arith, h, e, most, less)

pub loop-entry-init : goal.loop-entry-init
loop-entry-init c = record {
  can_next = tt;
  is_finite = tt;
  way = (c.args.pool.now.lists.double, c.into_iter-entry-iterator.ensures.into_iter_gives ∙ c.entries-entry-items.ensures, omega arith);
}

pub float-requires : goal.float-requires
float-requires c =
    let way = c.loop-entry.invariant.way in
    next-is_float c.in-Some.entry.now c.next.new.self way.0 (sym c.in-Some.ensures.steps ∙ way.1)

pub with_depth-count-requires : goal.with_depth-count-requires
with_depth-count-requires c =
    let l = c.args.pool.now.lists in
    let most : length l.double ≤ 4096 = let n = c.len-few.ensures.value in let small = c.len-few.ensures.small in omega (arith, n, small) in
    let way = c.loop-entry.invariant.way in
    few c.loop-entry.count (deep_count l.double) way.0 l.double way.2 refl most

pub loop-entry-preserved : goal.loop-entry-preserved
loop-entry-preserved c =
    let way = c.loop-entry.invariant.way in
    let next = next-float c.in-Some.entry.now c.next.new.self way.0 c.float.result.now (sym c.in-Some.ensures.steps ∙ way.1) c.float.ensures in
    record {
      can_next = tt;
      is_finite = tt;
      way = (next.0, next.1, ap (λ k. k + deep_count next.0) c.with_depth-count.ensures ∙ passed c.loop-entry.count (deep_count c.args.pool.now.lists.double) c.float.result.now way.0 next.0 next.2 way.2);
    }

-- all were passed
whole_is : (count whole : ℕ) (fs : List Float) → fs ≡ [] → count + deep_count fs ≡ whole → count ≡ whole
whole_is count whole fs none h = let e = ap deep_count none in omega (arith, e, h)

pub returns-clause-value : goal.returns-clause-value
returns-clause-value c =
    let way = c.loop-entry.invariant.way in
    whole_is c.loop-entry.count _ way.0 (no-float way.0 (sym c.in-None.ensures.steps.0 ∙ way.1)) way.2

pub returns-clause-few : goal.returns-clause-few
returns-clause-few c =
    let l = c.args.pool.now.lists in
    let most : length l.double ≤ 4096 = let n = c.len-few.ensures.value in let small = c.len-few.ensures.small in omega (arith, n, small) in
    let way = c.loop-entry.invariant.way in
    few c.loop-entry.count (deep_count l.double) way.0 l.double way.2 refl most
