use Rattle.std.specs.Cmp.{second_so}
use Rattle.std.specs.List.{list_all}
use Rattle.tb_galley.specs.Classes.{do_classes_rise}
use Rattle.tb_galley.specs.Valid.{is_class}
use Rattle.tb_plans.proofs.broken_galley.with_breaks.Goals as goal

pub copied_classes-requires : goal.copied_classes-requires
copied_classes-requires c = second_so (list_all is_class c.args.galley.now.classes) (do_classes_rise c.args.galley.now.classes) c.requires.classes
