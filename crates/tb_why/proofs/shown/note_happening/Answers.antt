use Rattle.std.proofs.Common.{sym, subst}
use Rattle.tb_sheet.specs.StoredSheets.{IsLiveSent}
use Rattle.tb_items.specs.Happenings.{IsPage}
use Rattle.tb_why.proofs.PrintablePages.{live-sent}
use Rattle.tb_why.proofs.shown.note_happening.Goals as goal

pub note_sent-requires : goal.note_sent-requires
note_sent-requires c = subst (IsLiveSent c.args.store.now) (sym c.event.view_is) (live-sent c.args.store.now c.in-Sent.event (subst (IsPage c.args.store.now) c.in-Sent.is c.requires))
