use Rattle.std.proofs.Common.{refl}
use Rattle.tb_generator.proofs.NameLemmas.{named}
use Rattle.tb_generator.proofs.push_named.Goals as goal

pub sure_name-requires : goal.sure_name-requires
sure_name-requires c = rw c.requires.name (named 98 c.args.k refl c.requires.few)
