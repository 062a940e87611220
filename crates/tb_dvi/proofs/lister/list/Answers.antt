use Rattle.std.proofs.Common.{sym}
use Rattle.tb_dvi.proofs.ListLemmas.{begins}
use Rattle.tb_dvi.proofs.lister.list.Goals as goal

pub read_on-requires-clause-reading : goal.read_on-requires-clause-reading
read_on-requires-clause-reading c =
    begins c.args.bytes.now c.in-Ok.length c.in_ok-lister.lister (sym c.in-Ok.ensures.value) c.in-Ok.ensures.within c.in_ok-lister.ensures
