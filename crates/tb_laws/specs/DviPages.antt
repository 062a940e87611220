-- The pages of a run, as its DVI file has them.
use Rattle.std.specs.Prelude.{List, [], ◌∷◌}
use Rattle.tb_sheet.specs.Sheet.{PlainSent}
use Rattle.tb_dvi.specs.File.{Page}
use Rattle.tb_dvi.specs.Progress.{sent_pages}
use Rattle.tb_steps.specs.Run.{Run}
use Rattle.tb_items.specs.RunEvents.{RunEvent, offered, sent}

-- what is sent among events
abbrev pub sent_among : List RunEvent → List PlainSent
sent_among [] = []
sent_among (offered t ∷ es) = sent_among es
sent_among (sent e ∷ es) = e ∷ sent_among es

-- the pages that are shipped among events
abbrev pub event_pages : List RunEvent → List Page
event_pages es = sent_pages (sent_among es)

-- all pages of a run
abbrev pub run_pages : Run → List Page
run_pages r = event_pages r.events
