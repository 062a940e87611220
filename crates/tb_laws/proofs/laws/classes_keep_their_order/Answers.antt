use Rattle.tb_laws.proofs.ClassesRise.OrderedGalleys.{classes-keep-order}
use Rattle.tb_laws.proofs.laws.classes_keep_their_order.Goals as goal

pub returns : goal.returns
returns _ = classes-keep-order
