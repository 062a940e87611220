use Rattle.std.proofs.Common.{◌≡◌, ◌∙◌, ap, sym, [], ◌++◌, append-nil}
use Rattle.tb_items.specs.declared.happenings.Happening.TheVariants.{Sent}
use Rattle.tb_sheet.specs.declared.Sent.TheVariants.{Warn}
use Rattle.tb_top.proofs.DviFiles.DviSending.{holds-same}
use Rattle.tb_top.proofs.dvi_pages.send_happening.Goals as goal

pub returns-in-Tried-clause-sent : goal.returns-in-Tried-clause-sent
returns-in-Tried-clause-sent g c start ps more h = rw c.in-Tried.is (holds-same start _ _ ps h (ps ++ []) (append-nil ps))

pub returns-in-Warn-clause-sent : goal.returns-in-Warn-clause-sent
returns-in-Warn-clause-sent g c start ps more h =
    let warned : c.args.happening.now ≡ Sent (Warn c.in-Warn.field-0) = c.in-Sent.is ∙ ap Sent (sym c.event.view_is ∙ c.in-Warn.is) in
    rw warned (holds-same start _ _ ps h (ps ++ []) (append-nil ps))
