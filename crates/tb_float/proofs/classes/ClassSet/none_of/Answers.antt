use Rattle.std.proofs.Common.{◌≡◌, length, false, refl, rules}
use Rattle.tb_float.proofs.ClassLemmas.{get-replicate, left-none}
use Rattle.tb_float.proofs.classes.ClassSet.none_of.Goals as goal

pub returns-clause-classes : goal.returns-clause-classes
returns-clause-classes c = λ k lt. get-replicate 256 k false lt

pub returns-clause-left : goal.returns-clause-left
returns-clause-left c = λ fs h.
    let known = c.args.known.now in
    let many : length known.flags ≡ 256 = search rules in
    left-none _ known fs many refl c.count.ensures h
