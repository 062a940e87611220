-- What a run asks of the parameters and the classes of a galley.
use Rattle.std.specs.Prelude.{◌≤ℤ◌, List, All}
use Rattle.tb_node.specs.Fit.{IsExtent, IsPenalty}
use Rattle.tb_param.specs.declared.Params.{Params}
use Rattle.tb_insert.specs.declared.Class.{Class}
use Rattle.tb_builder.specs.Ownership.{ClassesFit}
use Rattle.tb_builder.specs.Pageable.{IsSizedClass}
use Rattle.tb_sheet.specs.Asked.{hold_penalty}
use Rattle.tb_output.specs.Machine.{IsLimit, AreOutputParams, AreClassesFrom}
use Rattle.tb_items.specs.GalleyNodes.{AreFootParams}

-- the parameters that a run looks at are in their ranges
pub record AreRunnable (p : Params) : Type 0 where
  pub output : AreOutputParams p
  pub topskip : IsExtent p.topskip
  pub maxnodes : IsLimit p.maxnodes
  pub splittopskip : IsExtent p.splittopskip
  pub floatingpenalty : IsPenalty p.floatingpenalty
  pub interline : hold_penalty ≤ℤ p.interlinepenalty
  pub foot : AreFootParams p

-- classes that a page builder and an output routine take
pub record AreRunClasses (cs : List Class) : Type 0 where
  pub rising : AreClassesFrom 0 cs
  pub fit : ClassesFit cs
  pub sized : All IsSizedClass cs
