-- Parameters that lie in the ranges of their rows lie in the ranges that the output routine requires, and stay there if one of them is set.
use Rattle.std.proofs.Common.{refl, ℤ, pos, Bool, arith}
use Rattle.std.specs.Prelude.{IsTrue, negsuc}
use Rattle.std.proofs.lemmas.Int.{ints}
use Rattle.tb_node.specs.Fit.{IsPenalty}
use Rattle.tb_param.specs.declared.Params.{Params}
use Rattle.tb_param.specs.Fields.{value_of}
use Rattle.tb_param.specs.Table.{Row, rows, value_fault, is_within, out_of_range}
use Rattle.tb_param.specs.Ranges.{is_no_fault, are_params}
use Rattle.tb_param.specs.declared.Change.{Change}
use Rattle.tb_param.specs.Changes.{changed}
use Rattle.tb_param.proofs.RangeLemmas.{changed-in-range}
use Rattle.tb_float.proofs.ParamLemmas.{all-at, in-range, dim-extent, page-share, double-page-share, margin-push}
use Rattle.tb_column.proofs.RangeLemmas.{glue-in_range, column-params}
use Rattle.tb_output.specs.Machine.{IsLimit, IsPoolSize, AreOutputParams}

within : (low high z : ℤ) → IsTrue (is_no_fault (out_of_range (is_within low high z))) → IsTrue (is_within low high z)
within low high z h = in-range (is_within low high z) h

limit : (z : ℤ) → IsTrue (is_no_fault (out_of_range (is_within (pos 1) (pos 1000000) z))) → IsLimit z
limit z h = let k = within (pos 1) (pos 1000000) z h in record { low = grind (arith, ints, k); high = grind (arith, ints, k) }

size : (z : ℤ) → IsTrue (is_no_fault (out_of_range (is_within (pos 2) (pos 4096) z))) → IsPoolSize z
size z h = let k = within (pos 2) (pos 4096) z h in record { low = grind (arith, ints, k); high = grind (arith, ints, k) }

interline : (z : ℤ) → IsTrue (is_no_fault (out_of_range (is_within (negsuc 9998) (pos 10000) z))) → IsPenalty z
interline z h = let k = within (negsuc 9998) (pos 10000) z h in record { low = grind (arith, ints, k); high = grind (arith, ints, k) }

pub output-params : (p : Params) → IsTrue (are_params p) → AreOutputParams p
unfolding are_params
output-params p h =
    let test : Row → Bool = λ r. is_no_fault (value_fault r.form (value_of r.field p)) in
    record {
      all = h;
      columns = column-params p h;
      floatpagefraction = page-share p h;
      dblfloatpagefraction = double-page-share p h;
      baselineskip = dim-extent (pos 0) p.baselineskip (omega (arith, ints)) (all-at test rows 3 _ refl h);
      intextsep = glue-in_range p.intextsep (all-at test rows 17 _ refl h);
      parskip = glue-in_range p.parskip (all-at test rows 35 _ refl h);
      interlinepenalty = interline p.interlinepenalty (all-at test rows 34 _ refl h);
      marginparpush = margin-push p h;
      splitmaxdepth = dim-extent (pos 0) p.splitmaxdepth (omega (arith, ints)) (all-at test rows 32 _ refl h);
      maxdeadcycles = limit p.maxdeadcycles (all-at test rows 40 _ refl h);
      maxpages = limit p.maxpages (all-at test rows 41 _ refl h);
      pool = size p.pool (all-at test rows 39 _ refl h);
    }

-- parameters of which one is set are the routine's too
pub changed-output : (p : Params) (c : Change) → AreOutputParams p → AreOutputParams (changed p c)
changed-output p c ok = output-params (changed p c) (changed-in-range p c ok.all)
