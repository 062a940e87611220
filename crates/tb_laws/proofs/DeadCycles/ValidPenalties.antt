-- What follows from the ranges of the parameters: the interline penalty forces no break, and the lengths of a page are not negative.
use Rattle.std.proofs.Common.{◌≡◌, refl, ℤ, pos, Bool, false, arith}
use Rattle.std.specs.Prelude.{IsTrue, int_le, ◌≤ℤ◌, negsuc}
use Rattle.std.proofs.lemmas.Int.{ints}
use Rattle.tb_float.proofs.ParamLemmas.{all-at, dim-extent, in-range}
use Rattle.tb_scaled.specs.Scaled.{eject_penalty}
use Rattle.tb_param.specs.declared.Params.{Params}
use Rattle.tb_param.specs.Fields.{value_of}
use Rattle.tb_param.specs.Table.{Row, rows, value_fault, is_within, out_of_range}
use Rattle.tb_param.specs.Ranges.{is_no_fault, are_params}

calm-penalty : (v : ℤ) → IsTrue (is_no_fault (out_of_range (is_within (negsuc 9998) (pos 10000) v))) → int_le v eject_penalty ≡ false
calm-penalty v h = let k = in-range (is_within (negsuc 9998) (pos 10000) v) h in grind (arith, ints, k)

pub interline-calm : (p : Params) → IsTrue (are_params p) → int_le p.interlinepenalty eject_penalty ≡ false
unfolding are_params
interline-calm p h =
    let test : Row → Bool = λ r. is_no_fault (value_fault r.form (value_of r.field p)) in
    calm-penalty p.interlinepenalty (all-at test rows 34 _ refl h)

-- ---- no length of a page is negative

pub topskip-low : (p : Params) → IsTrue (are_params p) → pos 0 ≤ℤ p.topskip
unfolding are_params
topskip-low p h =
    let test : Row → Bool = λ r. is_no_fault (value_fault r.form (value_of r.field p)) in
    let k = dim-extent (pos 1) p.topskip (omega (arith, ints)) (all-at test rows 1 _ refl h) in
    k.low

pub maxdepth-low : (p : Params) → IsTrue (are_params p) → pos 0 ≤ℤ p.maxdepth
unfolding are_params
maxdepth-low p h =
    let test : Row → Bool = λ r. is_no_fault (value_fault r.form (value_of r.field p)) in
    let k = dim-extent (pos 0) p.maxdepth (omega (arith, ints)) (all-at test rows 2 _ refl h) in
    k.low

pub textheight-low : (p : Params) → IsTrue (are_params p) → pos 0 ≤ℤ p.textheight
unfolding are_params
textheight-low p h =
    let test : Row → Bool = λ r. is_no_fault (value_fault r.form (value_of r.field p)) in
    let k = dim-extent (pos 1) p.textheight (omega (arith, ints)) (all-at test rows 0 _ refl h) in
    k.low
