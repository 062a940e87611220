use Rattle.std.proofs.Common.{sym, ap, ◌∙◌, ◌++◌, rules}
use Rattle.tb_pool.specs.Lists.{list_at, with_list}
use Rattle.tb_plain.specs.StoredLists.{back_list}
use Rattle.tb_plain.proofs.GrowLemmas.{none-put}
use Rattle.tb_plain.proofs.FireLemmas.{back-none, back-all}
use Rattle.tb_plain.proofs.firing.fill_back.Goals as goal

pub returns-then-not-goes_back : goal.returns-then-not-goes_back
returns-then-not-goes_back c =
    none-put c.args.store.now c.args.page.now.body (back_list c.args.p.now c.args.page.now.penalty c.args.page.now.held) c.requires.live
    (back-none c.args.p.now c.args.page.now.penalty c.args.page.now.held (sym c.goes_back.ensures ∙ search rules))

pub returns : goal.returns
returns c =
    c.push_page_for_held.ensures
    ∙ ap (λ xs. with_list c.args.store.now c.args.page.now.body (list_at c.args.store.now c.args.page.now.body ++ xs)) (sym (back-all c.args.p.now c.args.page.now.penalty c.args.page.now.held (sym c.goes_back.ensures ∙ search rules)))
