use Rattle.std.proofs.Common.{◌≡◌, ◌∙◌, ap, suc, ◌-◌, take, arith}
use Rattle.tb_pool.specs.Lists.{list_at}
use Rattle.tb_break.specs.Places.{ends_lasting}
use Rattle.tb_break.specs.SplitPlace.{shapes}
use Rattle.tb_break.proofs.LegalLemmas.{lasting_there, none_within}
use Rattle.tb_break.proofs.places.lasts_before.Goals as goal

pub returns-in-Some : goal.returns-in-Some
returns-in-Some c =
    let next : suc (c.args.index - 1) ≡ c.args.index = omega (arith, c.if-index-eq0.false) in
    c.is_lasting.ensures ∙ lasting_there (list_at c.args.store.now c.args.l) (c.args.index - 1) c.in-Some.n.now c.in-Some.ensures
    ∙ ap (λ k. ends_lasting (take k (shapes c.args.store.now c.args.l))) next

pub returns-in-None : goal.returns-in-None
returns-in-None c = absurd (omega (arith, c.if-index-eq0.false, c.requires.within, none_within (list_at c.args.store.now c.args.l) (c.args.index - 1) c.in-None.ensures))
