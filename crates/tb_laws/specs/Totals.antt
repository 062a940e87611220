-- The totals of a run.
use Rattle.std.specs.Prelude.{List, [], ◌∷◌}
use Rattle.tb_report.specs.declared.Totals.{Totals}
use Rattle.tb_report.specs.RunTotals.{no_totals, with_sent}
use Rattle.tb_items.specs.RunEvents.{RunEvent, offered, sent}

-- the totals of what was sent; a try counts nothing
abbrev pub totals_of : List RunEvent → Totals
totals_of [] = no_totals
totals_of (offered t ∷ es) = totals_of es
totals_of (sent e ∷ es) = with_sent e (totals_of es)
