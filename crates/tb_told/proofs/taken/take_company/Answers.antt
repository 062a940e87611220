use mir.Val.{to_z, of_z}
use Rattle.std.proofs.Common.{◌≡◌, sym, ap, subst, ◌∙◌, w64, arith}
use Rattle.std.specs.Prelude.{None}
use Rattle.std.proofs.lemmas.Int.{ints}
use Rattle.tb_float.specs.Lists.{floats_of}
use Rattle.tb_float.specs.Pool.{FloatPool, HasNoMarks}
use Rattle.tb_float.proofs.WaitingLemmas.{none-chosen}
use Rattle.tb_fpage.specs.declared.Wanted.{Wanted}
use Rattle.tb_fpage.specs.Company.{wanted_of, company}
use Rattle.tb_fpage.specs.Choice.{IsChosen}
use Rattle.tb_fpage.proofs.CompanyLemmas.{wanted-is}
use Rattle.tb_told.proofs.LeavingLemmas.{left-lists, left-unmarked}
use Rattle.tb_told.proofs.taken.take_company.Goals as goal

pub choose-requires-clause-unmarked : goal.choose-requires-clause-unmarked
choose-requires-clause-unmarked c = none-chosen c.args.from c.requires.waiting c.args.pool.now c.requires.unmarked

pub returns-then-not-choose : goal.returns-then-not-choose
returns-then-not-choose c =
    let z = c.args.wanted.now in
    let z' = wanted_of (to_z w64 (of_z w64 z.height)) (to_z w64 (of_z w64 z.minimum)) (to_z w64 (of_z w64 z.sep)) z.clearing z.wide in
    let wanted : z' ≡ z = wanted-is z.height _ z.minimum _ z.sep _ z.clearing z.wide (omega (arith, ints)) (omega (arith, ints)) (omega (arith, ints)) in
    let same = c.choose.ensures.unchanged c.if-not-choose.true in
    record {
      taken = λ e. absurd cc;
      none = λ _. subst (λ (u : Wanted). company u (floats_of c.args.from c.args.pool.now.lists) ≡ None) wanted (c.choose.ensures.none c.if-not-choose.true);
      unchanged = λ _. same;
      unmarked = subst (λ v. HasNoMarks v) (sym same) c.requires.unmarked;
    }

pub returns : goal.returns
returns c =
    let z = c.args.wanted.now in
    let z' = wanted_of (to_z w64 (of_z w64 z.height)) (to_z w64 (of_z w64 z.minimum)) (to_z w64 (of_z w64 z.sep)) z.clearing z.wide in
    let wanted : z' ≡ z = wanted-is z.height _ z.minimum _ z.sep _ z.clearing z.wide (omega (arith, ints)) (omega (arith, ints)) (omega (arith, ints)) in
    let v = c.args.pool.now in
    let mid = c.choose.new.pool in
    let from = c.args.from in
    let h = subst (λ (u : Wanted). IsChosen u from v mid) wanted (c.choose.ensures.chosen c.if-not-choose.false) in
    record {
      taken = λ _. record { choices = h.choices; found = h.found; lists = ap (λ (u : FloatPool). u.lists) c.drop_marked.ensures ∙ left-lists z v mid from c.requires.waiting h };
      none = λ e. absurd cc;
      unchanged = λ e. absurd cc;
      unmarked = subst (λ (u : FloatPool). HasNoMarks u) (sym c.drop_marked.ensures) (left-unmarked z v mid from c.requires.waiting h c.requires.unmarked);
    }
