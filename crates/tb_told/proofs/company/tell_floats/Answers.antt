use Rattle.std.proofs.Common.{◌≡◌, ◌++◌, suc, Some, slice_get, take, drop, sym, ap, ◌∙◌, add-one, append-nil, arith}
use Rattle.std.proofs.lemmas.Option.{slice_get_within}
use Rattle.tb_float.specs.Lists.{float_entries, floats_of}
use Rattle.tb_float.proofs.EntryLemmas.{next-is_float, next-entry}
use Rattle.tb_fpage.proofs.WalkLemmas.{no-float}
use Rattle.tb_told.specs.ColumnTold.{told_from}
use Rattle.tb_told.specs.ColumnPieces.{in_column, unless_made}
use Rattle.tb_told.proofs.CompanyLemmas.{next-float-told, last-float-told}
use Rattle.tb_told.proofs.company.tell_floats.Goals.{After-float}
use Rattle.tb_told.proofs.company.tell_floats.Goals as goal

pub float-requires : goal.float-requires
float-requires c = next-is_float c.in-Some.entry.now c.next.new.self (drop c.loop-entry.place (floats_of c.args.from c.args.pool.now.lists)) (sym c.in-Some.ensures.steps ∙ c.loop-entry.invariant.left)

-- the float is at the place, and the others come behind it
there : (c : After-float) → let all = floats_of c.args.from c.args.pool.now.lists in (slice_get all c.loop-entry.place ≡ Some c.float.result.now) × (c.next.new.self ≡ float_entries (drop (suc c.loop-entry.place) all))
there c = next-entry (floats_of c.args.from c.args.pool.now.lists) c.loop-entry.place _ _ _ (sym c.in-Some.ensures.steps ∙ c.loop-entry.invariant.left) c.float.ensures

pub tell_float-requires-clause-there : goal.tell_float-requires-clause-there
tell_float-requires-clause-there c = (there (goal.at.tell_float-requires-clause-there c).After-float).0

pub overflow_add-place : goal.overflow_add-place
overflow_add-place c =
    let at = there (goal.at.overflow_add-place c).After-float in
    omega (arith, slice_get_within (floats_of c.args.from c.args.pool.now.lists) c.loop-entry.place c.float.result.now at.0, c.requires.few)

pub loop-entry-preserved : goal.loop-entry-preserved
loop-entry-preserved c =
    let at = there (goal.at.loop-entry-preserved c).After-float in
    let z = c.args.wanted.now in
    let all = floats_of c.args.from c.args.pool.now.lists in
    let k = c.loop-entry.place in
    let new = c.tell_float.new.pieces.items in
    record {
      can_next = tt;
      is_finite = tt;
      left = at.1 ∙ ap (λ n. float_entries (drop n all)) (sym (add-one k));
      told =
          ap (λ n. new ++ in_column (told_from z (take n all) (drop n all))) (add-one k)
          ∙ next-float-told z all k c.float.result.now _ c.loop-entry.pieces.items new at.0 c.loop-entry.invariant.told (λ later. sym (ap (λ b. new ++ in_column (unless_made b later)) c.if-branch.false) ∙ c.in_ok-tell_float.ensures later);
    }

pub returns-then-branch : goal.returns-then-branch
returns-then-branch c =
    let at = there (goal.at.returns-then-branch c).After-float in
    let new = c.tell_float.new.pieces.items in
    last-float-told c.args.wanted.now (floats_of c.args.from c.args.pool.now.lists) c.loop-entry.place c.float.result.now _ c.loop-entry.pieces.items new at.0 c.loop-entry.invariant.told
    (λ later. sym (ap (λ b. new ++ in_column (unless_made b later)) c.if-branch.true) ∙ c.in_ok-tell_float.ensures later)

pub returns : goal.returns
returns c =
    let all = floats_of c.args.from c.args.pool.now.lists in
    let k = c.loop-entry.place in
    let none = no-float (drop k all) (sym c.in-None.ensures.steps.0 ∙ c.loop-entry.invariant.left) in
    sym (append-nil c.loop-entry.pieces.items)
    ∙ sym (ap (λ fs. c.loop-entry.pieces.items ++ in_column (told_from c.args.wanted.now (take k all) fs)) none)
    ∙ c.loop-entry.invariant.told
