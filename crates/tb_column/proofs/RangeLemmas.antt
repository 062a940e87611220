-- Parameters in the ranges of their rows are in the ranges that the calls on columns need.
use Rattle.std.proofs.Common.{◌≡◌, refl, ℤ, pos, Bool, true, false, Option, Some, None, arith}
use Rattle.std.specs.Prelude.{◌&&◌, IsTrue}
use Rattle.std.proofs.lemmas.Int.{ints}
use Rattle.tb_scaled.specs.declared.Glue.{Glue}
use Rattle.tb_node.specs.Fit.{IsDimension, IsExtent}
use Rattle.tb_param.specs.declared.Params.{Params}
use Rattle.tb_param.specs.declared.Rule.{Rule}
use Rattle.tb_param.specs.Fields.{value_of}
use Rattle.tb_param.specs.Table.{Row, rows, value_fault, is_within, is_dimen, is_glue, is_rule, out_of_range}
use Rattle.tb_param.specs.Ranges.{is_no_fault, are_params}
use Rattle.tb_float.proofs.ParamLemmas.{all-at, dim-extent, float-params}
use Rattle.tb_column.specs.Ranges.{IsSizedGlue, IsSizedRule, AreColumnParams}

pub dimension : (z : ℤ) → IsTrue (is_dimen z) → IsDimension z
dimension z h = record { low = grind (arith, ints, h); high = grind (arith, ints, h) }

dimensions : (g : Glue) → (a b d : Bool) → is_dimen g.width ≡ a → is_dimen g.stretch ≡ b → is_dimen g.shrink ≡ d → IsTrue (is_no_fault (out_of_range (a && b && d))) → IsSizedGlue g
dimensions g true true true e f k h = record { width = dimension g.width e; stretch = dimension g.stretch f; shrink = dimension g.shrink k }
dimensions g true true false e f k h = cc
dimensions g true false d e f k h = cc
dimensions g false b d e f k h = cc

pub glue-in_range : (g : Glue) → IsTrue (is_no_fault (out_of_range (is_glue g))) → IsSizedGlue g
glue-in_range g h = dimensions g (is_dimen g.width) (is_dimen g.stretch) (is_dimen g.shrink) refl refl refl h

-- a height that is not below 0
extent : (z : ℤ) → IsTrue (is_within (pos 0) (pos 1073741823) z) → IsExtent z
extent z h = record { low = grind (arith, ints, h); high = grind (arith, ints, h) }

ruled : (r : Rule) → (a b d : Bool) → is_dimen r.above ≡ a → is_within (pos 0) (pos 1073741823) r.height ≡ b → is_dimen r.below ≡ d → IsTrue (is_no_fault (out_of_range (a && b && d))) → IsSizedRule (Some r)
ruled r true true true e f k h = (dimension r.above e, extent r.height f, dimension r.below k)
ruled r true true false e f k h = cc
ruled r true false d e f k h = cc
ruled r false b d e f k h = cc

rule-in_range : (r : Option Rule) → IsTrue (is_no_fault (out_of_range (is_rule r))) → IsSizedRule r
rule-in_range None h = tt
rule-in_range (Some r) h = ruled r (is_dimen r.above) (is_within (pos 0) (pos 1073741823) r.height) (is_dimen r.below) refl refl refl h

-- the amounts of a rule whose test holds
pub rule-sized : (r : Option Rule) → IsTrue (is_rule r) → IsSizedRule r
rule-sized r h = rule-in_range r (fits (is_rule r) h)
  where
    fits : (t : Bool) → IsTrue t → IsTrue (is_no_fault (out_of_range t))
    fits true k = refl
    fits false k = k

pub column-params : (p : Params) → IsTrue (are_params p) → AreColumnParams p
unfolding are_params
column-params p h =
    let test : Row → Bool = λ r. is_no_fault (value_fault r.form (value_of r.field p)) in
    record {
      floats = float-params p h;
      maxdepth = dim-extent (pos 0) p.maxdepth (omega (arith, ints)) (all-at test rows 2 _ refl h);
      skipfootins = glue-in_range p.skipfootins (all-at test rows 26 _ refl h);
      floatsep = glue-in_range p.floatsep (all-at test rows 15 _ refl h);
      textfloatsep = glue-in_range p.textfloatsep (all-at test rows 16 _ refl h);
      dblfloatsep = glue-in_range p.dblfloatsep (all-at test rows 18 _ refl h);
      dbltextfloatsep = glue-in_range p.dbltextfloatsep (all-at test rows 19 _ refl h);
      fptop = glue-in_range p.fptop (all-at test rows 20 _ refl h);
      fpsep = glue-in_range p.fpsep (all-at test rows 21 _ refl h);
      fpbot = glue-in_range p.fpbot (all-at test rows 22 _ refl h);
      dblfptop = glue-in_range p.dblfptop (all-at test rows 23 _ refl h);
      dblfpsep = glue-in_range p.dblfpsep (all-at test rows 24 _ refl h);
      dblfpbot = glue-in_range p.dblfpbot (all-at test rows 25 _ refl h);
      texttop = glue-in_range p.texttop (all-at test rows 44 _ refl h);
      textbottom = glue-in_range p.textbottom (all-at test rows 45 _ refl h);
      footfill = glue-in_range p.footfill (all-at test rows 51 _ refl h);
      footrule = rule-in_range p.footrule (all-at test rows 46 _ refl h);
      toprule = rule-in_range p.toprule (all-at test rows 47 _ refl h);
      bottomrule = rule-in_range p.bottomrule (all-at test rows 48 _ refl h);
      dblrule = rule-in_range p.dblrule (all-at test rows 49 _ refl h);
    }
