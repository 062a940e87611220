use Rattle.std.proofs.Common.{sym, subst, ◌++◌, ◌∷◌, [], rules}
use Rattle.tb_node.specs.PlainNodes.{shape_of}
use Rattle.tb_pack.specs.Position.{Walked, HasPassed}
use Rattle.tb_pack.proofs.WalkLemmas.{has_passed-more}
use Rattle.tb_pack.proofs.position.Tops.pass.Goals as goal

pub returns-clause-value : goal.returns-clause-value
returns-clause-value c = search rules

pub returns-clause-passed : goal.returns-clause-passed
returns-clause-passed c = λ set before h.
    let P : Walked → Type 0 = λ w. HasPassed w set (before ++ shape_of c.args.n.now ∷ []) in
    subst P (sym (returns-clause-value c)) (has_passed-more c.args.self.now (shape_of c.args.n.now) set before h)
