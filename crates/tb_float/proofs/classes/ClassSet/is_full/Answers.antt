use Rattle.std.proofs.Common.{◌≡◌, length, rules}
use Rattle.std.proofs.lemmas.Bool.{eqb-true}
use Rattle.tb_float.proofs.ClassLemmas.{left-full}
use Rattle.tb_float.proofs.classes.ClassSet.is_full.Goals as goal

pub returns-clause-all : goal.returns-clause-all
returns-clause-all c = λ t fs all are h.
    let s = c.args.self.now in
    let many : length s.flags ≡ 256 = search rules in
    let none : s.left ≡ 0 = eqb-true s.left 0 t in
    left-full s fs all many none are h
