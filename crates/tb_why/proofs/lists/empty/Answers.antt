use Rattle.std.proofs.Common.{◌≡◌, refl, ap, ◌∙◌, arith}
use Rattle.tb_float.specs.Lists.{entry_count}
use Rattle.tb_float.specs.Pool.{FloatPool}
use Rattle.tb_why.proofs.LeavingLemmas.{retired-lists, retired-fewer, left-none}
use Rattle.tb_why.proofs.lists.empty.Goals as goal

pub floats-init : goal.floats-init
floats-init c = record { lists = refl; unmarked = λ h. h }

pub floats-smaller : goal.floats-smaller
floats-smaller c = omega (arith, retired-fewer c.args.part c.requires c.floats.pool c.retire.new.self c.in-Some.field-0 c.in-Some.ensures.first c.in-Some.ensures.rest)

pub floats-preserved : goal.floats-preserved
floats-preserved c = record {
  lists = retired-lists c.args.part c.requires c.floats.pool c.retire.new.self c.in-Some.ensures.rest ∙ c.floats.invariant.lists;
  unmarked = λ h. c.in-Some.ensures.unmarked (c.floats.invariant.unmarked h);
}

pub returns-clause-lists : goal.returns-clause-lists
returns-clause-lists c =
    let l = c.floats.pool.lists in
    let none : entry_count c.args.part l ≡ 0 = c.retire.ensures.empty.0 (rw c.in_default.is refl) in
    ap (λ (x : FloatPool). x.lists) c.in_default.ensures.unchanged ∙ left-none c.args.part c.requires l none ∙ c.floats.invariant.lists
