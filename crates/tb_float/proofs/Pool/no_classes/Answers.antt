use Rattle.std.proofs.Common.{subst}
use Rattle.tb_float.specs.Classes.{HasLeft}
use Rattle.tb_float.specs.Lists.{floats_of}
use Rattle.tb_float.specs.Pool.{FloatPool}
use Rattle.tb_float.specs.Shelves.{seen_pool, slots_of}
use Rattle.tb_float.proofs.TrackLemmas.{known-floats}
use Rattle.tb_float.proofs.Pool.no_classes.Goals as goal

pub returns-clause-left : goal.returns-clause-left
returns-clause-left c = λ p.
    let i = c.self.inside in
    let v = seen_pool (slots_of i.store i.shelves) i.size in
    subst (λ (u : FloatPool). HasLeft c.none_of.result (floats_of p u.lists)) c.self.view_is
    (c.none_of.ensures.left (floats_of p v.lists) (known-floats i.known.flags i.least (floats_of p v.lists) (c.self.invariant.tracked.floats p)))
