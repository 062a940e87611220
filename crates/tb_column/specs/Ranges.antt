-- The ranges of the parameters on which columns depend.
use Rattle.std.specs.Prelude.{Option, Some, None}
use Rattle.tb_scaled.specs.declared.Glue.{Glue}
use Rattle.tb_node.specs.Fit.{IsDimension, IsExtent}
use Rattle.tb_param.specs.declared.Params.{Params}
use Rattle.tb_param.specs.declared.Rule.{Rule}
use Rattle.tb_node.specs.SmallAmounts.{IsAmount}
use Rattle.tb_float.specs.Ranges.{IsWithin, AreFloatParams}
use Rattle.tb_column.specs.declared.Enlarged.{Enlarged}
use Rattle.tb_column.specs.declared.Enlarged.TheVariants as enlarged

-- the amounts of glue are dimensions
pub record IsSizedGlue (g : Glue) : Type 0 where
  pub width : IsDimension g.width
  pub stretch : IsDimension g.stretch
  pub shrink : IsDimension g.shrink

-- the kerns of a rule are dimensions, and its height is one that is not below 0
abbrev pub IsSizedRule : Option Rule → Type 0
IsSizedRule None = Unit {0}
IsSizedRule (Some r) = IsDimension r.above × IsExtent r.height × IsDimension r.below

-- heights, limits, glue and rules of a column are in their ranges
pub record AreColumnParams (p : Params) : Type 0 where
  pub floats : AreFloatParams p
  pub maxdepth : IsExtent p.maxdepth
  pub skipfootins : IsSizedGlue p.skipfootins
  pub floatsep : IsSizedGlue p.floatsep
  pub textfloatsep : IsSizedGlue p.textfloatsep
  pub dblfloatsep : IsSizedGlue p.dblfloatsep
  pub dbltextfloatsep : IsSizedGlue p.dbltextfloatsep
  pub fptop : IsSizedGlue p.fptop
  pub fpsep : IsSizedGlue p.fpsep
  pub fpbot : IsSizedGlue p.fpbot
  pub dblfptop : IsSizedGlue p.dblfptop
  pub dblfpsep : IsSizedGlue p.dblfpsep
  pub dblfpbot : IsSizedGlue p.dblfpbot
  pub texttop : IsSizedGlue p.texttop
  pub textbottom : IsSizedGlue p.textbottom
  pub footfill : IsSizedGlue p.footfill
  pub footrule : IsSizedRule p.footrule
  pub toprule : IsSizedRule p.toprule
  pub bottomrule : IsSizedRule p.bottomrule
  pub dblrule : IsSizedRule p.dblrule

-- how a column is packed: higher by less than 2^54 in absolute value, or by a shrink that is an amount
abbrev pub IsEnlarged : Enlarged → Type 0
IsEnlarged enlarged.No = Unit {0}
IsEnlarged (enlarged.By d) = IsWithin 18014398509481984 d
IsEnlarged (enlarged.Shrunk s) = IsAmount s
