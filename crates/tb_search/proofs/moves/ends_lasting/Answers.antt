use Rattle.std.proofs.Common.{sym, ◌∙◌, ap, false}
use Rattle.std.specs.Prelude.{option_copied}
use Rattle.tb_pool.specs.Lists.{list_at}
use Rattle.tb_search.specs.Told.{lasting_after}
use Rattle.tb_search.proofs.LastNodeLemmas.{told_by}
use Rattle.tb_search.proofs.ToldLemmas.{lasting-last}
use Rattle.tb_search.proofs.moves.ends_lasting.Goals as goal

pub returns-in-Some : goal.returns-in-Some
returns-in-Some c =
    c.lasting_after.ensures ∙ ap (told_by lasting_after false) (sym (ap option_copied c.in-Some.is) ∙ c.last_but_acts.ensures) ∙ lasting-last (list_at c.args.store.now) (list_at c.args.store.now c.args.list)

pub returns-in-None : goal.returns-in-None
returns-in-None c =
    ap (told_by lasting_after false) (sym (ap option_copied c.in-None.is) ∙ c.last_but_acts.ensures) ∙ lasting-last (list_at c.args.store.now) (list_at c.args.store.now c.args.list)
