use Rattle.std.proofs.Common.{sym, ◌∙◌, ap, ◌++◌, append-nil}
use Rattle.tb_items.specs.Happenings.{events_of}
use Rattle.tb_best.specs.BestLines.{broken_at}
use Rattle.tb_top.specs.BestText.{shown_columns, turn_columns}
use Rattle.tb_top.proofs.Rated.RatedColumns.{shown-more}
use Rattle.tb_top.proofs.rated_pages.note_column.Goals as goal

pub returns-in_default-last_champion : goal.returns-in_default-last_champion
returns-in_default-last_champion c = λ store.
    let before = shown_columns c.args.columns.now.items in
    sym (append-nil before)
    ∙ ap (λ o. before ++ broken_at o c.in-Some.rating.page) (c.in_default-last_champion.ensures store)
    ∙ ap (λ r. before ++ turn_columns (events_of store c.args.happened.now) r) (sym c.in-Some.is)

pub returns : goal.returns
returns c = λ store.
    let before = shown_columns c.args.columns.now.items in
    ap shown_columns c.in_ok-push.ensures.items
    ∙ shown-more c.args.columns.now.items _
    ∙ ap (λ o. before ++ broken_at o c.in-Some.rating.page) (sym (sym (c.last_champion.ensures store) ∙ c.in-Some-last_champion.is))
    ∙ ap (λ r. before ++ turn_columns (events_of store c.args.happened.now) r) (sym c.in-Some.is)
