use Rattle.tb_laws.proofs.DviFiles.WritablePages.{files-list}
use Rattle.tb_laws.proofs.laws.dvi_files_list_their_pages.Goals as goal

pub returns : goal.returns
returns _ = files-list
