-- Galleys that can be run: valid ones, and those with page breaks put in.
use Rattle.std.specs.Prelude.{IsTrue}
use Rattle.tb_param.specs.Ranges.{are_params}
use Rattle.tb_galley.specs.declared.Galley.{Galley}
use Rattle.tb_galley.specs.GalleyNodes.{expanded}
use Rattle.tb_items.specs.Classes.{classes_of}
use Rattle.tb_items.specs.WaitingNodes.{AreItems}
use Rattle.tb_items.specs.GalleyNodes.{AreGalleyNodes}
use Rattle.tb_steps.specs.Runnable.{AreRunClasses}

-- the parameters, classes and items of the galley are in their ranges, and its nodes are not too many for a run
pub record CanRun (g : Galley) : Type 0 where
  pub params : IsTrue (are_params g.params)
  pub classes : AreRunClasses (classes_of g)
  pub items : AreItems (classes_of g) g.items
  pub nodes : AreGalleyNodes (classes_of g) (expanded g)
