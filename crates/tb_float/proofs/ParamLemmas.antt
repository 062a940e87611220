-- Parameters in the ranges of their rows are in the ranges that the calls on floats and notes need.
use Rattle.std.proofs.Common.{◌≡◌, refl, subst, ℕ, zero, suc, Bool, true, false, List, [], ◌∷◌, Some, slice_get, ℤ, pos, ◌≤ℤ◌, arith}
use Rattle.std.specs.Prelude.{◌&&◌, IsTrue}
use Rattle.std.specs.List.{list_all}
use Rattle.std.proofs.lemmas.Int.{ints}
use Rattle.std.proofs.lemmas.Bool.{and_parts}
use Rattle.tb_scaled.specs.declared.Glue.{Glue}
use Rattle.tb_param.specs.declared.Params.{Params}
use Rattle.tb_param.specs.Fields.{value_of}
use Rattle.tb_param.specs.Table.{Row, rows, value_fault, is_within, is_dimen, is_glue, out_of_range}
use Rattle.tb_param.specs.Ranges.{is_no_fault, are_params}
use Rattle.tb_float.specs.Ranges.{AreFloatParams, IsDimension, IsExtent, IsShare, IsCount}

pub all-at : (f : Row → Bool) (rs : List Row) (k : ℕ) (r : Row) → slice_get rs k ≡ Some r → IsTrue (list_all f rs) → IsTrue (f r)
all-at f [] k r e h = cc
all-at f (x ∷ xs) zero r e h = let same : x ≡ r = cc in subst (λ (y : Row). IsTrue (f y)) same (and_parts (f x) (list_all f xs) h).0
all-at f (x ∷ xs) (suc k) r e h = all-at f xs k r e (and_parts (f x) (list_all f xs) h).1

pub in-range : (t : Bool) → IsTrue (is_no_fault (out_of_range t)) → IsTrue t
in-range true h = refl
in-range false h = cc

pub dim-extent : (low v : ℤ) → pos 0 ≤ℤ low → IsTrue (is_no_fault (out_of_range (is_within low (pos 1073741823) v))) → IsExtent v
dim-extent low v n h = let k = in-range (is_within low (pos 1073741823) v) h in record { low = grind (arith, ints, n, k); high = grind (arith, ints, n, k) }

int-count : (v : ℤ) → IsTrue (is_no_fault (out_of_range (is_within (pos 0) (pos 1000) v))) → IsCount v
int-count v h = let k = in-range (is_within (pos 0) (pos 1000) v) h in record { low = grind (arith, ints, k); high = grind (arith, ints, k) }

frac-share : (v : ℤ) → IsTrue (is_no_fault (out_of_range (is_within (pos 0) (pos 65536) v))) → IsShare v
frac-share v h = let k = in-range (is_within (pos 0) (pos 65536) v) h in record { low = grind (arith, ints, k); high = grind (arith, ints, k) }

skip-width : (g : Glue) → IsTrue (is_no_fault (out_of_range (is_glue g))) → IsDimension g.width
skip-width g h =
    let k : IsTrue (is_dimen g.width) = (and_parts (is_dimen g.width) (is_dimen g.stretch) (and_parts (is_dimen g.width && is_dimen g.stretch) (is_dimen g.shrink) (in-range (is_glue g) h)).0).0 in
    record { low = grind (arith, ints, k); high = grind (arith, ints, k) }

pub float-params : (p : Params) → IsTrue (are_params p) → AreFloatParams p
unfolding are_params
float-params p h =
    let test : Row → Bool = λ r. is_no_fault (value_fault r.form (value_of r.field p)) in
    record {
      textheight = dim-extent (pos 1) p.textheight (omega (arith, ints)) (all-at test rows 0 _ refl h);
      topnumber = int-count p.topnumber (all-at test rows 5 _ refl h);
      bottomnumber = int-count p.bottomnumber (all-at test rows 6 _ refl h);
      totalnumber = int-count p.totalnumber (all-at test rows 7 _ refl h);
      dbltopnumber = int-count p.dbltopnumber (all-at test rows 8 _ refl h);
      topfraction = frac-share p.topfraction (all-at test rows 9 _ refl h);
      bottomfraction = frac-share p.bottomfraction (all-at test rows 10 _ refl h);
      textfraction = frac-share p.textfraction (all-at test rows 11 _ refl h);
      dbltopfraction = frac-share p.dbltopfraction (all-at test rows 13 _ refl h);
      floatsep = skip-width p.floatsep (all-at test rows 15 _ refl h);
      textfloatsep = skip-width p.textfloatsep (all-at test rows 16 _ refl h);
      intextsep = skip-width p.intextsep (all-at test rows 17 _ refl h);
      dblfloatsep = skip-width p.dblfloatsep (all-at test rows 18 _ refl h);
      dbltextfloatsep = skip-width p.dbltextfloatsep (all-at test rows 19 _ refl h);
    }

-- the shares of a column that a float column must exceed
pub page-share : (p : Params) → IsTrue (are_params p) → IsShare p.floatpagefraction
unfolding are_params
page-share p h =
    let test : Row → Bool = λ r. is_no_fault (value_fault r.form (value_of r.field p)) in
    frac-share p.floatpagefraction (all-at test rows 12 _ refl h)

pub double-page-share : (p : Params) → IsTrue (are_params p) → IsShare p.dblfloatpagefraction
unfolding are_params
double-page-share p h =
    let test : Row → Bool = λ r. is_no_fault (value_fault r.form (value_of r.field p)) in
    frac-share p.dblfloatpagefraction (all-at test rows 14 _ refl h)

-- the distance between two marginal notes
pub margin-push : (p : Params) → IsTrue (are_params p) → IsExtent p.marginparpush
unfolding are_params
margin-push p h =
    let test : Row → Bool = λ r. is_no_fault (value_fault r.form (value_of r.field p)) in
    dim-extent (pos 0) p.marginparpush (omega (arith, ints)) (all-at test rows 36 _ refl h)
