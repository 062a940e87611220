use Rattle.std.proofs.Common.{[], ◌∷◌, take, ap, ◌∙◌, FitsSigned, w64, rules}
use Rattle.std.specs.Prelude.{not, ◌||◌, is_some, int_le}
use Rattle.std.proofs.lemmas.Int.{to_z-of_z}
use Rattle.tb_told.proofs.TestedLemmas.{first_is, none_is}
use Rattle.tb_told.proofs.ValueLemmas.{one-test, last-test}
use Rattle.tb_float.specs.Lists.{has_class, floats_of}
use Rattle.tb_told.specs.declared.Test.TheVariants as tests
use Rattle.tb_told.specs.Tested.{tested}
use Rattle.tb_told.proofs.heads.alone_at.Goals as goal

pub returns : goal.returns
returns c =
    let f = c.args.f.now in
    let before = take c.args.k (floats_of c.args.from c.args.pool.now.lists) in
    let h : FitsSigned w64 f.height = search rules in
    let m : FitsSigned w64 c.args.wanted.now.height = search rules in
    let blocker = c.first_of_class-blocker.ensures.first in
    let free = none_is c.first_of_class-blocker.result c.is_none.result (has_class f.class before) c.is_none.ensures (ap is_some blocker ∙ first_is f.class before) in
    let class = last-test c.failing.result c.is_none.result (not (has_class f.class before)) tests.Class c.failing.ensures free in
    let no_higher = one-test c.failing-2.result c.failing.result c.is_no_higher.result (int_le f.height c.args.wanted.now.height) tests.Tall (tested tests.Class (not (has_class f.class before)) ∷ []) c.failing-2.ensures c.is_no_higher.ensures class in
    let failed = one-test c.failing-failed.result c.failing-2.result c.may_be_alone.result (f.places.p || c.args.wanted.now.clearing) tests.Places (tested tests.Tall (int_le f.height c.args.wanted.now.height) ∷ tested tests.Class (not (has_class f.class before)) ∷ []) c.failing-failed.ensures c.may_be_alone.ensures no_higher in
    simp to_z-of_z (cc (blocker, failed))
