use Rattle.std.proofs.Common.{◌≡◌, ℕ, List, ◌++◌, map, Some, sym, ap, subst, ◌∙◌, arith, w64}
use Rattle.std.proofs.lemmas.Int.{ints}
use mir.Val.{to_z, of_z}
use Rattle.tb_float.specs.Lists.{floats_of, of_class}
use Rattle.tb_float.specs.Pool.{FloatPool, marks_of, with_marks_of, marked_floats, unmarked_floats}
use Rattle.tb_fpage.specs.Company.{Choice, wanted_of, company}
use Rattle.tb_fpage.proofs.CompanyLemmas.{wanted-is}
use Rattle.tb_fpage.proofs.ChoiceLemmas.{is-chosen}
use Rattle.tb_fpage.proofs.LawLemmas.{order-unmarked, order-company, fits-company, high-company}
use Rattle.tb_fpage.proofs.choose.Goals as goal

pub returns-in_default-clause-class_order : goal.returns-in_default-clause-class_order
returns-in_default-clause-class_order c =
    let v = c.args.pool.now in
    let from = c.args.from in
    subst (λ (u : FloatPool). (k : ℕ) → of_class k (floats_of from v.lists) ≡ of_class k (marked_floats from u) ++ of_class k (unmarked_floats from u)) (sym c.prepare.ensures) (order-unmarked (marks_of from v) (floats_of from v.lists) c.requires.unmarked)

pub returns : goal.returns
returns c =
    let z' = wanted_of (to_z w64 (of_z w64 c.args.height)) (to_z w64 (of_z w64 c.args.minimum)) (to_z w64 (of_z w64 c.args.sep)) c.args.clearing c.args.wide in
    let z = wanted_of c.args.height c.args.minimum c.args.sep c.args.clearing c.args.wide in
    let wanted : z' ≡ z = wanted-is _ _ _ _ _ _ c.args.clearing c.args.wide (omega (arith, ints)) (omega (arith, ints)) (omega (arith, ints)) in
    let v = c.args.pool.now in
    let from = c.args.from in
    let fs = floats_of from v.lists in
    let found = subst (λ (u : FloatPool). (choices : List Choice) × (company z' (floats_of from u.lists) ≡ Some choices) × (c.mark_company.new.pool ≡ with_marks_of from (map (λ (d : Choice). d.chosen) choices) u)) c.prepare.ensures c.mark_company.ensures in
    let is = is-chosen z from v c.mark_company.new.pool found.0 c.requires.waiting (ap (λ y. company y fs) (sym wanted) ∙ found.1) found.2 in
    record {
      chosen = λ _. is;
      none = λ e. absurd cc;
      unchanged = λ e. absurd cc;
      class_order = order-company z fs is.choices _ _ is.found is.marked is.unmarked;
      fits = λ _. fits-company z fs is.choices _ is.found is.marked;
      high_enough = λ _. high-company z fs is.choices _ is.found is.marked;
    }
