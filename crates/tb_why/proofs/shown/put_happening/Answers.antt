use Rattle.std.proofs.Common.{sym, subst}
use Rattle.tb_report.specs.Printable.{IsPrintableSent}
use Rattle.tb_items.specs.Happenings.{IsPage}
use Rattle.tb_why.proofs.PrintablePages.{printable-sent}
use Rattle.tb_why.proofs.shown.put_happening.Goals as goal

pub put_sent-requires : goal.put_sent-requires
put_sent-requires c = subst (IsPrintableSent c.args.store.now) (sym c.event.view_is) (printable-sent c.args.store.now c.in-Sent.event (subst (IsPage c.args.store.now) c.in-Sent.is c.requires))
