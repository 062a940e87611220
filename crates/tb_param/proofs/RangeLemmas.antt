-- Parameters stay in their ranges if one is set to a value in its row's range.
use Rattle.std.proofs.Common.{◌≡◌, ℕ, zero, suc, ℤ, pos, negsuc, Bool, true, false, ◌&&◌, List, [], ◌∷◌, map, set, Option, Some, None, Ok, bytes_eq, if◌then◌else◌, refl, ap, subst, sym, ◌∙◌}
use Rattle.std.specs.Prelude.{slice_get, unwrap_or, codes}
use Rattle.std.specs.Cmp.{first_so, second_so}
use Rattle.std.proofs.lemmas.Bool.{and_from}
use Rattle.tb_param.specs.declared.params.Params.{Params}
use Rattle.tb_param.specs.declared.ParamFault.{ParamFault}
use Rattle.tb_param.specs.declared.Value.{Value}
use Rattle.tb_param.specs.declared.Value.TheVariants as kinds
use Rattle.tb_param.specs.declared.table.Form.{Form}
use Rattle.tb_param.specs.declared.table.Form.TheVariants as forms
use Rattle.tb_param.specs.declared.fields.Field.{Field}
use Rattle.tb_param.specs.declared.fields.Field.TheVariants as fields
use Rattle.tb_param.specs.declared.changes.Change.{Change}
use Rattle.tb_param.specs.Fields.{value_of, with_value, place}
use Rattle.tb_param.specs.Changes.{row_of_field, is_in_range, with_whole, changed}
use Rattle.tb_param.specs.Values.{amount_of, glue_of, choice_of, rule_of}
use Rattle.tb_param.specs.Table.{Row, named, rows, row_in, row_of, value_fault, set_unless, set_by, set_to}
use Rattle.tb_param.specs.Defaults.{default_params}
use Rattle.tb_param.specs.Ranges.{is_no_fault, are_params}
use Rattle.tb_param.proofs.AllSet.{values, shaped, one_set}
use Rattle.tb_param.proofs.ChangeLemmas.{own-row}

-- whether a value is in the range of a form
abbrev pub fits : Form → Value → Bool
fits f v = is_no_fault (value_fault f v)

-- whether each value fits the form in its place
abbrev fits_all : List Form → List Value → Bool
fits_all [] vs = true
fits_all (f ∷ fs) [] = true
fits_all (f ∷ fs) (v ∷ vs) = fits f v && fits_all fs vs

abbrev fits_at : List Form → ℕ → Value → Bool
fits_at [] k v = true
fits_at (f ∷ fs) zero v = fits f v
fits_at (f ∷ fs) (suc k) v = fits_at fs k v

set_fits : (fs : List Form) (vs : List Value) (k : ℕ) (v : Value) → fits_at fs k v ≡ true → fits_all fs vs ≡ true → fits_all fs (set vs k v) ≡ true
set_fits [] vs k v h all = refl
set_fits (f ∷ fs) [] k v h all = refl
set_fits (f ∷ fs) (w ∷ vs) zero v h all = and_from (fits f v) (fits_all fs vs) h (second_so (fits f w) (fits_all fs vs) all)
set_fits (f ∷ fs) (w ∷ vs) (suc k) v h all =
    and_from (fits f w) (fits_all fs (set vs k v)) (first_so (fits f w) (fits_all fs vs) all) (set_fits fs vs k v h (second_so (fits f w) (fits_all fs vs) all))

abbrev row_forms : List Form
row_forms = map (λ (r : Row). r.form) rows

as_fits : (p : Params) → are_params p ≡ fits_all row_forms (values p)
unfolding are_params
as_fits p = refl

-- ---- a value that fits a row fits the place of its parameter

abbrev FitsPlace : Row → Type 0
FitsPlace r = (v : Value) → fits r.form v ≡ true → fits_at row_forms (place r.field) (shaped r.field v) ≡ true

-- each of the rows has the property
abbrev pub AllRows : (Row → Type 0) → List Row → Type 0
AllRows P [] = Unit {0}
AllRows P (r ∷ rs) = P r × AllRows P rs

int_fits : (low high : ℤ) (v : Value) → fits (forms.Int low high) v ≡ true → fits (forms.Int low high) (kinds.Int (amount_of v)) ≡ true
int_fits low high (kinds.Int n) h = h
int_fits low high v h = cc

dim_fits : (low : ℤ) (v : Value) → fits (forms.Dim low) v ≡ true → fits (forms.Dim low) (kinds.Dim (amount_of v)) ≡ true
dim_fits low (kinds.Dim n) h = h
dim_fits low v h = cc

frac_fits : (v : Value) → fits forms.Frac v ≡ true → fits forms.Frac (kinds.Frac (amount_of v)) ≡ true
frac_fits (kinds.Frac n) h = h
frac_fits v h = cc

skip_fits : (v : Value) → fits forms.Skip v ≡ true → fits forms.Skip (kinds.Skip (glue_of v)) ≡ true
skip_fits (kinds.Skip g) h = h
skip_fits v h = cc

bottom_fits : (v : Value) → fits forms.Bottom v ≡ true → fits forms.Bottom (kinds.Word (choice_of v)) ≡ true
bottom_fits (kinds.Word c) h = h
bottom_fits v h = cc

switch_fits : (v : Value) → fits forms.Switch v ≡ true → fits forms.Switch (kinds.Word (choice_of v)) ≡ true
switch_fits (kinds.Word c) h = h
switch_fits v h = cc

release_fits : (v : Value) → fits forms.Release v ≡ true → fits forms.Release (kinds.Word (choice_of v)) ≡ true
release_fits (kinds.Word c) h = h
release_fits v h = cc

foot_depth_fits : (v : Value) → fits forms.FootDepth v ≡ true → fits forms.FootDepth (kinds.Word (choice_of v)) ≡ true
foot_depth_fits (kinds.Word c) h = h
foot_depth_fits v h = cc

foot_place_fits : (v : Value) → fits forms.FootPlace v ≡ true → fits forms.FootPlace (kinds.Word (choice_of v)) ≡ true
foot_place_fits (kinds.Word c) h = h
foot_place_fits v h = cc

rule_fits : (v : Value) → fits forms.Rule v ≡ true → fits forms.Rule (kinds.Rule (rule_of v)) ≡ true
rule_fits (kinds.Rule r) h = h
rule_fits v h = cc

rows_fit : AllRows FitsPlace rows
rows_fit = (
  dim_fits (pos 1),
  (
    dim_fits (pos 1),
    (
      dim_fits (pos 0),
      (
        dim_fits (pos 0),
        (
          bottom_fits,
          (
            int_fits (pos 0) (pos 1000),
            (
              int_fits (pos 0) (pos 1000),
              (
                int_fits (pos 0) (pos 1000),
                (
                  int_fits (pos 0) (pos 1000),
                  (
                    frac_fits,
                    (
                      frac_fits,
                      (
                        frac_fits,
                        (
                          frac_fits,
                          (
                            frac_fits,
                            (
                              frac_fits,
                              (
                                skip_fits,
                                (
                                  skip_fits,
                                  (
                                    skip_fits,
                                    (
                                      skip_fits,
                                      (
                                        skip_fits,
                                        (
                                          skip_fits,
                                          (
                                            skip_fits,
                                            (
                                              skip_fits,
                                              (
                                                skip_fits,
                                                (
                                                  skip_fits,
                                                  (
                                                    skip_fits,
                                                    (
                                                      skip_fits,
                                                      (
                                                        dim_fits (pos 0),
                                                        (
                                                          dim_fits (pos 0),
                                                          (
                                                            dim_fits (pos 0),
                                                            (
                                                              int_fits (negsuc 99999) (pos 100000),
                                                              (
                                                                dim_fits (pos 0),
                                                                (
                                                                  dim_fits (pos 0),
                                                                  (
                                                                    int_fits (negsuc 99999) (pos 100000),
                                                                    (
                                                                      int_fits (negsuc 9998) (pos 10000),
                                                                      (
                                                                        skip_fits,
                                                                        (
                                                                          dim_fits (pos 0),
                                                                          (
                                                                            switch_fits,
                                                                            (
                                                                              switch_fits,
                                                                              (
                                                                                int_fits (pos 2) (pos 4096),
                                                                                (
                                                                                  int_fits (pos 1) (pos 1000000),
                                                                                  (
                                                                                    int_fits (pos 1) (pos 1000000),
                                                                                    (
                                                                                      int_fits (pos 100) (pos 4194304),
                                                                                      (release_fits, (skip_fits, (skip_fits, (rule_fits, (rule_fits, (rule_fits, (rule_fits, (foot_depth_fits, (skip_fits, (foot_place_fits, tt)))))))))),
                                                                                    ),
                                                                                  ),
                                                                                ),
                                                                              ),
                                                                            ),
                                                                          ),
                                                                        ),
                                                                      ),
                                                                    ),
                                                                  ),
                                                                ),
                                                              ),
                                                            ),
                                                          ),
                                                        ),
                                                      ),
                                                    ),
                                                  ),
                                                ),
                                              ),
                                            ),
                                          ),
                                        ),
                                      ),
                                    ),
                                  ),
                                ),
                              ),
                            ),
                          ),
                        ),
                      ),
                    ),
                  ),
                ),
              ),
            ),
          ),
        ),
      ),
    ),
  ),
)

row_in_by : (P : Row → Type 0) (q : Row) (qs : List Row) (name : List ℕ) (r : Row) → P q → (row_in qs name ≡ Some r → P r)
    → (t : Bool) → (if t then Some q else row_in qs name) ≡ Some r → P r
row_in_by P q qs name r here later true h = let e : q ≡ r = cc in subst P e here
row_in_by P q qs name r here later false h = later h

-- what holds of all rows holds of the one of a name
row_in_has : (P : Row → Type 0) (rs : List Row) (name : List ℕ) (r : Row) → AllRows P rs → row_in rs name ≡ Some r → P r
row_in_has P [] name r all h = cc
row_in_has P (q ∷ qs) name r all h =
    row_in_by P q qs name r all.0 (λ (e : row_in qs name ≡ Some r). row_in_has P qs name r all.1 e) (bytes_eq q.name name) h

-- setting a parameter to a value in its row's range keeps all in their ranges
pub stays_in_range : (name : List ℕ) (r : Row) (v : Value) (p : Params) → row_of name ≡ Some r → fits r.form v ≡ true → are_params p ≡ true → are_params (with_value r.field v p) ≡ true
unfolding row_of
stays_in_range name r v p found good h =
    as_fits (with_value r.field v p)
    ∙ ap (λ vs. fits_all row_forms vs) (one_set r.field v p)
    ∙ set_fits row_forms (values p) (place r.field) (shaped r.field v) (row_in_has FitsPlace rows name r rows_fit found v good) (sym (as_fits p) ∙ h)

unless_in_range : (name : List ℕ) (r : Row) (v : Value) (p q : Params) → row_of name ≡ Some r → (o : Option ParamFault) → o ≡ value_fault r.form v → set_unless o r v p ≡ Ok q → are_params p ≡ true → are_params q ≡ true
unless_in_range name r v p q found None e h all =
    let same : with_value r.field v p ≡ q = cc in
    subst (λ (x : Params). are_params x ≡ true) same (stays_in_range name r v p found (ap is_no_fault (sym e)) all)
unless_in_range name r v p q found (Some e) f h all = cc

by_in_range : (name : List ℕ) (v : Value) (p q : Params) (o : Option Row) → row_of name ≡ o → set_by v p o ≡ Ok q → are_params p ≡ true → are_params q ≡ true
by_in_range name v p q None found h all = cc
by_in_range name v p q (Some r) found h all = unless_in_range name r v p q found (value_fault r.form v) refl h all

-- so does `set`
pub set_in_range : (name : List ℕ) (v : Value) (p q : Params) → set_to name v p ≡ Ok q → are_params p ≡ true → are_params q ≡ true
set_in_range name v p q h all = by_in_range name v p q (row_of name) refl h all

-- ---- a parameter that is set among the items

row-at : (P : Row → Type 0) (rs : List Row) (k : ℕ) (d : Row) → AllRows P rs → P d → P (unwrap_or (slice_get rs k) d)
row-at P [] k d all h = h
row-at P (r ∷ rs) zero d all h = all.0
row-at P (r ∷ rs) (suc k) d all h = row-at P rs k d all.1 h

-- a value in the range of its parameter keeps all in their ranges
pub put-in-range : (f : Field) (v : Value) (p : Params) → fits (row_of_field f).form v ≡ true → are_params p ≡ true → are_params (with_value f v p) ≡ true
put-in-range f v p good h =
    as_fits (with_value f v p)
    ∙ ap (λ vs. fits_all row_forms vs) (one_set f v p)
    ∙ set_fits row_forms (values p) (place f) (shaped f v) (subst (λ (g : Field). fits_at row_forms (place g) (shaped g v) ≡ true) (own-row f) (row-at FitsPlace rows (place f) (named (codes "textheight") fields.Textheight (forms.Dim (pos 1))) rows_fit (dim_fits (pos 1)) v good)) (sym (as_fits p) ∙ h)

-- a value that a parameter has is in its range
held-fits : (fs : List Form) (vs : List Value) (k : ℕ) (v : Value) → fits_all fs vs ≡ true → slice_get vs k ≡ Some v → fits_at fs k v ≡ true
held-fits [] vs k v all e = refl
held-fits (f ∷ fs) [] k v all e = cc
held-fits (f ∷ fs) (w ∷ vs) zero v all e = let same : w ≡ v = cc in subst (λ (x : Value). fits f x ≡ true) same (first_so (fits f w) (fits_all fs vs) all)
held-fits (f ∷ fs) (w ∷ vs) (suc k) v all e = held-fits fs vs k v (second_so (fits f w) (fits_all fs vs) all) e

-- so does the value of other parameters that are in their ranges
own-in-range : (f : Field) (p q : Params) → slice_get (values p) (place f) ≡ Some (shaped f (value_of f p)) → are_params p ≡ true → are_params q ≡ true → are_params (with_value f (value_of f p) q) ≡ true
own-in-range f p q e hp hq =
    as_fits (with_value f (value_of f p) q)
    ∙ ap (λ vs. fits_all row_forms vs) (one_set f (value_of f p) q)
    ∙ set_fits row_forms (values q) (place f) (shaped f (value_of f p)) (held-fits row_forms (values p) (place f) (shaped f (value_of f p)) (sym (as_fits p) ∙ hp) e) (sym (as_fits q) ∙ hq)

whole-in-range : (p q : Params) → are_params p ≡ true → are_params q ≡ true → are_params (with_whole p q) ≡ true
whole-in-range p q hp hq =
    own-in-range fields.Release p _ refl hp
    (own-in-range fields.Maxnodes p _ refl hp
    (own-in-range fields.Maxpages p _ refl hp
    (own-in-range fields.Maxdeadcycles p _ refl hp
    (own-in-range fields.Pool p q refl hp hq))))

-- setting one among the items keeps all in their ranges
pub changed-in-range : (p : Params) (c : Change) → are_params p ≡ true → are_params (changed p c) ≡ true
changed-in-range p c h = whole-in-range p (if is_in_range c then with_value c.field c.value p else p) h (by_test (is_in_range c) refl)
  where
    by_test : (t : Bool) → is_in_range c ≡ t → are_params (if t then with_value c.field c.value p else p) ≡ true
    by_test true e = put-in-range c.field c.value p e h
    by_test false e = h

-- the defaults are in their ranges
pub defaults_are_in_range : are_params default_params ≡ true
unfolding are_params default_params
defaults_are_in_range = refl
