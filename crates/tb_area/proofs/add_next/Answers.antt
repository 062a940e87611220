use Rattle.std.proofs.Common.{◌≡◌, take, sym, ap, ◌∙◌}
use Rattle.std.proofs.lemmas.Option.{same_Some}
use Rattle.tb_area.specs.Area.{next_place}
use Rattle.tb_area.proofs.LawLemmas.{next-kept}
use Rattle.tb_area.proofs.add_next.Goals as goal

pub returns-clause-place : goal.returns-clause-place
returns-clause-place c = λ f there.
    let l = c.args.pool.now.lists in
    let before = take c.args.k l.deferred in
    let g = c.waiting_float-f.result in
    let same : g ≡ f = same_Some g f (sym c.waiting_float-f.ensures.value ∙ there) in
    c.next_place.ensures before c.has_class_before-earlier.ensures ∙ ap (λ h. next_place c.args.p.now l c.args.s.now before h) same

pub returns-clause-laws : goal.returns-clause-laws
returns-clause-laws c = next-kept c.args.p.now c.args.pool.now.lists c.args.s.now c.args.k c.next_place.result (returns-clause-place c)
