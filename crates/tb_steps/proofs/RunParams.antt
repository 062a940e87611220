-- A valid galley can be run: its parameters lie in the ranges that a run requires.
use Rattle.std.proofs.Common.{refl, ◌≤◌, ℤ, pos, negsuc, ◌≤ℤ◌, FitsSigned, w32, Bool, arith}
use Rattle.std.specs.Prelude.{IsTrue, nat_abs}
use Rattle.std.proofs.lemmas.Int.{ints}
use Rattle.tb_output.proofs.ColumnPages.ParamLemmas.{output-params}
use Rattle.tb_float.proofs.ParamLemmas.{all-at, in-range, dim-extent}
use Rattle.tb_node.specs.Fit.{IsExtent}
use Rattle.tb_param.specs.declared.Params.{Params}
use Rattle.tb_param.specs.Fields.{value_of}
use Rattle.tb_param.specs.Table.{Row, rows, value_fault, is_within, out_of_range}
use Rattle.tb_param.specs.Ranges.{is_no_fault, are_params}
use Rattle.tb_sheet.specs.Asked.{hold_penalty}
use Rattle.tb_output.specs.Machine.{IsLimit}
use Rattle.tb_items.proofs.FootParams.{floating-penalty, foot-params}
use Rattle.tb_steps.specs.Runnable.{AreRunnable}

-- the limits of a valid galley
pub record AreFewFirings (p : Params) : Type 0 where
  pub pages : nat_abs p.maxpages ≤ 1000000
  pub cycles : nat_abs p.maxdeadcycles ≤ 1000000

pub int-limit : (low high v : ℤ) → pos 0 ≤ℤ low → high ≤ℤ pos 4194304 → IsTrue (is_no_fault (out_of_range (is_within low high v))) → IsLimit v
int-limit low high v n m h = let k = in-range (is_within low high v) h in record { low = grind (arith, ints, n, m, k); high = grind (arith, ints, n, m, k) }

interline : (v : ℤ) → IsTrue (is_no_fault (out_of_range (is_within (negsuc 9998) (pos 10000) v))) → hold_penalty ≤ℤ v
interline v h = let k = in-range (is_within (negsuc 9998) (pos 10000) v) h in grind (arith, ints, k)

pub params-runnable : (p : Params) → IsTrue (are_params p) → AreRunnable p
unfolding are_params
params-runnable p h =
    let test : Row → Bool = λ r. is_no_fault (value_fault r.form (value_of r.field p)) in
    record {
      output = output-params p h;
      topskip = dim-extent (pos 1) p.topskip (omega (arith, ints)) (all-at test rows 1 _ refl h);
      maxnodes = int-limit (pos 100) (pos 4194304) p.maxnodes (omega (arith, ints)) (omega (arith, ints)) (all-at test rows 42 _ refl h);
      splittopskip = dim-extent (pos 0) p.splittopskip (omega (arith, ints)) (all-at test rows 31 _ refl h);
      floatingpenalty = floating-penalty p.floatingpenalty (all-at test rows 33 _ refl h);
      interline = interline p.interlinepenalty (all-at test rows 34 _ refl h);
      foot = foot-params p h;
    }

few : (v : ℤ) → IsTrue (is_no_fault (out_of_range (is_within (pos 1) (pos 1000000) v))) → nat_abs v ≤ 1000000
few v h = let k = in-range (is_within (pos 1) (pos 1000000) v) h in grind (arith, ints, k)

-- a run of a valid galley has not too many firings to be counted
pub few-firings : (p : Params) → IsTrue (are_params p) → AreFewFirings p
unfolding are_params
few-firings p h =
    let test : Row → Bool = λ r. is_no_fault (value_fault r.form (value_of r.field p)) in
    record { pages = few p.maxpages (all-at test rows 41 _ refl h); cycles = few p.maxdeadcycles (all-at test rows 40 _ refl h) }

-- ---- the greatest height has four bytes

extent-fits : (v : ℤ) → IsExtent v → FitsSigned w32 v
extent-fits (pos n) e = let high = e.high in record { sfits = grind (arith, ints, high) }
extent-fits (negsuc n) e = let low = e.low in absurd (grind (arith, ints, low))

pub height-fits : (p : Params) → AreRunnable p → FitsSigned w32 p.textheight
height-fits p h = extent-fits p.textheight h.output.columns.floats.textheight
