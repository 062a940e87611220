use Rattle.tb_builder.proofs.Handover.BoxLemmas.{void_is}
use Rattle.tb_builder.proofs.Builder.is_void.Goals as goal

pub returns : goal.returns
returns c = λ s. void_is s c.args.self.now.boxes c.args.class c.class_list.result c.class_list.ensures
