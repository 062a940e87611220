use Rattle.std.proofs.Common.{false}
use Rattle.tb_float.proofs.ClassLemmas.{get-replicate}
use Rattle.tb_float.proofs.classes.ClassSet.none.Goals as goal

pub returns : goal.returns
returns c = λ k lt. get-replicate 256 k false lt
