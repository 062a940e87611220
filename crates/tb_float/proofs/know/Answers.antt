use Rattle.std.proofs.Common.{◌≡◌, ◌<◌, length, [], ◌∷◌, sym, subst, arith, rules}
use Rattle.tb_float.specs.Classes.{AreKnown}
use Rattle.tb_float.specs.Lists.{float_before}
use Rattle.tb_float.proofs.ClassLemmas.{known-grows, known-one}
use Rattle.tb_float.proofs.know.Goals as goal

pub returns-in-Float-clause-more : goal.returns-in-Float-clause-more
returns-in-Float-clause-more c = λ fs h. subst (λ bs. AreKnown bs fs) (sym c.add.ensures.flags) (known-grows c.args.known.now.flags _ fs h)

pub returns-in-Float-clause-float : goal.returns-in-Float-clause-float
returns-in-Float-clause-float c =
    let f = c.in-Float.f in
    let known = c.args.known.now.flags in
    let many : length known ≡ 256 = search rules in
    let low : f.class < length known = omega arith in
    subst (λ e. AreKnown c.add.new.self.flags (float_before e [])) (sym c.in-Float.is) (subst (λ bs. AreKnown bs (f ∷ [])) (sym c.add.ensures.flags) (known-one known f low))
