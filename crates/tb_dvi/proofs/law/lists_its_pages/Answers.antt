use Rattle.tb_dvi.proofs.FileLaw.{lists_its_pages as law}
use Rattle.tb_dvi.proofs.law.lists_its_pages.Goals as goal

pub returns : goal.returns
returns c = law
