-- Parameters that lie in the ranges of their rows lie in the ranges that insertions take them over in.
use Rattle.std.proofs.Common.{refl, ℤ, pos, negsuc, Bool, arith}
use Rattle.std.specs.Prelude.{IsTrue}
use Rattle.std.proofs.lemmas.Int.{ints}
use Rattle.tb_node.specs.Fit.{IsPenalty}
use Rattle.tb_param.specs.declared.Params.{Params}
use Rattle.tb_param.specs.Fields.{value_of}
use Rattle.tb_param.specs.Table.{Row, rows, value_fault, is_within, out_of_range}
use Rattle.tb_param.specs.Ranges.{is_no_fault, are_params}
use Rattle.tb_float.proofs.ParamLemmas.{all-at, in-range, dim-extent}
use Rattle.tb_items.specs.GalleyNodes.{AreFootParams}

pub floating-penalty : (v : ℤ) → IsTrue (is_no_fault (out_of_range (is_within (negsuc 99999) (pos 100000) v))) → IsPenalty v
floating-penalty v h = let k = in-range (is_within (negsuc 99999) (pos 100000) v) h in record { low = grind (arith, ints, k); high = grind (arith, ints, k) }

pub foot-params : (p : Params) → IsTrue (are_params p) → AreFootParams p
unfolding are_params
foot-params p h =
    let test : Row → Bool = λ r. is_no_fault (value_fault r.form (value_of r.field p)) in
    record {
      split_depth = dim-extent (pos 0) p.footsplitdepth (omega (arith, ints)) (all-at test rows 29 _ refl h);
      split_top = dim-extent (pos 0) p.footsplittop (omega (arith, ints)) (all-at test rows 28 _ refl h);
      floating = floating-penalty p.footfloating (all-at test rows 30 _ refl h);
      enlarging_depth = dim-extent (pos 0) p.splitmaxdepth (omega (arith, ints)) (all-at test rows 32 _ refl h);
      enlarging_top = dim-extent (pos 0) p.splittopskip (omega (arith, ints)) (all-at test rows 31 _ refl h);
      enlarging_floating = floating-penalty p.floatingpenalty (all-at test rows 33 _ refl h);
    }
