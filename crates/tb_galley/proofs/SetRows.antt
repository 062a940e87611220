-- The rows of parameters that are set among the items.
use Rattle.std.proofs.Common.{◌≡◌, ℕ, Bool, true, false, ◌==◌, List, [], ◌∷◌, Some, None, if◌then◌else◌, bytes_eq, refl, ap, subst, ◌∙◌}
use Rattle.std.proofs.lemmas.Bool.{eqb-true}
use Rattle.tb_param.specs.declared.fields.Field.{Field}
use Rattle.tb_param.specs.declared.fields.Field.TheVariants as fields
use Rattle.tb_param.specs.declared.changes.SetPlace.TheVariants as places
use Rattle.tb_param.specs.Changes.{row_of_field, set_place}
use Rattle.tb_param.specs.Table.{Row, rows, row_in, row_of, row_known, row_for, is_known_in}
use Rattle.tb_param.proofs.RangeLemmas.{AllRows}
use Rattle.tb_param.proofs.ChangeLemmas.{own-row}
use Rattle.tb_galley.specs.Faults.{row_place, asked_place}
use Rattle.tb_galley.proofs.ValueTexts.{is_plain_row}

-- ---- the row of a name is the row of its parameter

row_by : (P : Row → Type 0) (q : Row) (qs : List Row) (name : List ℕ) (r : Row) → P q → (row_in qs name ≡ Some r → P r)
    → (t : Bool) → (if t then Some q else row_in qs name) ≡ Some r → P r
row_by P q qs name r here later true h = let e : q ≡ r = cc in subst P e here
row_by P q qs name r here later false h = later h

in_rows : (P : Row → Type 0) (rs : List Row) (name : List ℕ) (r : Row) → AllRows P rs → row_in rs name ≡ Some r → P r
in_rows P [] name r all h = cc
in_rows P (q ∷ qs) name r all h = row_by P q qs name r all.0 (λ (e : row_in qs name ≡ Some r). in_rows P qs name r all.1 e) (bytes_eq q.name name) h

rows_own : AllRows (λ (r : Row). row_of_field r.field ≡ r) rows
rows_own = (refl, (refl, (refl, (refl, (refl, (refl, (refl, (refl, (refl, (refl, (refl, (refl, (refl, (refl, (refl, (refl, (refl, (refl, (refl, (refl, (refl, (refl, (refl, (refl, (refl, (refl, (refl, (refl, (refl, (refl, (refl, (refl, (refl, (refl, (refl, (refl, (refl, (refl, (refl, (refl, (refl, (refl, (refl, (refl, (refl, (refl, (refl, (refl, (refl, (refl, (refl, (refl, (refl, tt)))))))))))))))))))))))))))))))))))))))))))))))))))))

pub row_own : (name : List ℕ) (r : Row) → row_of name ≡ Some r → row_of_field r.field ≡ r
unfolding row_of
row_own name r found = in_rows (λ (q : Row). row_of_field q.field ≡ q) rows name r rows_own found

-- ---- the name of a parameter is found

pub row_found : (f : Field) → row_of (row_of_field f).name ≡ Some (row_of_field f)
unfolding row_of
row_found fields.Textheight = refl
row_found f = refl

pub row_plain : (f : Field) → is_plain_row (row_of_field f) ≡ true
row_plain fields.Textheight = refl
row_plain f = refl

known_last : (f : Field) → is_known_in 3 f ≡ true
known_last fields.Textheight = refl
known_last f = refl

-- a galley of version 3 has each parameter
pub row_in_last : (version : ℕ) (f : Field) → (version == 3) ≡ true → is_known_in version (row_of_field f).field ≡ true
row_in_last version f last = ap (λ v. is_known_in v (row_of_field f).field) (eqb-true version 3 last) ∙ known_last (row_of_field f).field

-- where the parameter that a line names may be set
pub asked_is : (version : ℕ) (f : Field) (fs : List (List ℕ)) → (version == 3) ≡ true → asked_place version ((row_of_field f).name ∷ fs) ≡ Some (set_place f)
asked_is version f fs last =
    let here : row_for version (row_of_field f).name ≡ Some (row_of_field f) =
    ap (λ o. row_known version o) (row_found f) ∙ ap (λ t. if t then Some (row_of_field f) else None) (row_in_last version f last) in
    ap (λ t. if t then row_place (row_for version (row_of_field f).name) else Some places.Nowhere) last
    ∙ ap row_place here
    ∙ ap (λ g. Some (set_place g)) (own-row f)
