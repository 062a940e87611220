use Rattle.std.proofs.Common.{rules}
use Rattle.tb_text_tests.proofs.dvi.pages.part.Goals as goal

pub returns : goal.returns
returns c = record { list = c.column-column.ensures.printable.list; share = c.column-column.ensures.printable.share; right = search rules }
