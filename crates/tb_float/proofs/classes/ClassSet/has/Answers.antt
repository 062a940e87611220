use Rattle.std.proofs.Common.{◌≡◌, ◌<◌, false, length, arith, rules, sym, ◌∙◌}
use Rattle.std.proofs.lemmas.Option.{slice_get-get_or, same_Some}
use Rattle.tb_float.proofs.classes.ClassSet.has.Goals as goal

pub returns : goal.returns
returns c = λ fs h.
    let flags = c.args.self.now.flags in
    let many : length flags ≡ 256 = search rules in
    let low : c.args.class < 256 = omega arith in
    rw c.from.ensures (same_Some _ _ (sym (slice_get-get_or flags c.args.class false (omega arith)) ∙ h c.args.class low))
