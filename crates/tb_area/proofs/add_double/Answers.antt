use Rattle.std.proofs.Common.{◌≡◌, take, sym, ap, ◌∙◌}
use Rattle.std.proofs.lemmas.Option.{same_Some}
use Rattle.tb_float.specs.Lists.{floats_of}
use Rattle.tb_area.specs.Area.{double_place}
use Rattle.tb_area.proofs.LawLemmas.{double-kept}
use Rattle.tb_area.proofs.add_double.Goals as goal

pub returns-clause-place : goal.returns-clause-place
returns-clause-place c = λ s f there.
    let l = c.args.pool.now.lists in
    let before = take c.args.k (floats_of c.args.from l) in
    let g = c.waiting_float-f.result in
    let same : g ≡ f = same_Some g f (sym c.waiting_float-f.ensures.value ∙ there) in
    c.double_place.ensures s before c.has_class_before-earlier.ensures ∙ ap (λ h. double_place c.args.p.now l s before h) same

pub returns-clause-laws : goal.returns-clause-laws
returns-clause-laws c = double-kept c.args.p.now c.args.pool.now.lists (floats_of c.args.from c.args.pool.now.lists) c.args.k c.double_place.result (returns-clause-place c)
