-- A field that is read as the name of a parameter.
use Rattle.std.proofs.Common.{◌≡◌, ◌∙◌, ℕ, ◌+◌, Bool, true, false, List, [], ◌∷◌, Option, Some, None, Result, Ok, Err, refl, ap, sym, subst, bytes_eq, is_some, if◌then◌else◌}
use Rattle.std.specs.List.{list_all}
use Rattle.std.proofs.lemmas.Slice.Eq.{bytes_eq-Decides}
use Rattle.std.proofs.lemmas.Bool.{and_parts}
use Rattle.tb_param.specs.declared.fields.Field.{Field}
use Rattle.tb_param.specs.declared.table.Form.{Form}
use Rattle.tb_param.specs.declared.Value.{Value}
use Rattle.tb_param.specs.Table.{Row, rows, row_in, row_of, row_known, row_for}
use Rattle.tb_galley.specs.declared.Cause.{Cause}
use Rattle.tb_galley.specs.declared.Cause.TheVariants as causes
use Rattle.tb_galley.specs.declared.contents.Content.{Content}
use Rattle.tb_galley.specs.declared.contents.Content.TheVariants as contents
use Rattle.tb_galley.specs.declared.fields.At.{At}
use Rattle.tb_galley.specs.Faults.{is_printable}
use Rattle.tb_galley.specs.FieldReader.{Left, next_left, next_by, printed, mapped, ◌>>=◌, value_left, parameter_by, parameter_left, set_by, set_left}

abbrev are_visible : List ℕ → Bool
are_visible bs = list_all is_printable bs

abbrev all_visible : List Row → Bool
all_visible rs = list_all (λ (r : Row). are_visible r.name) rs

-- what is the name of a row has printable bytes only, as the names of all rows have
in_visible : (rs : List Row) → all_visible rs ≡ true → (name : List ℕ) → is_some (row_in rs name) ≡ true → are_visible name ≡ true
in_visible [] v name h = absurd (cc)
in_visible (r ∷ rs) v name h =
    let parts : (are_visible r.name ≡ true) × (all_visible rs ≡ true) = and_parts (are_visible r.name) (all_visible rs) v in
    by_test (λ g. in_visible rs parts.1 name g) parts.0 (bytes_eq r.name name) refl h
  where
    by_test : (is_some (row_in rs name) ≡ true → are_visible name ≡ true) → are_visible r.name ≡ true → (t : Bool) → bytes_eq r.name name ≡ t → is_some (if t then Some r else row_in rs name) ≡ true → are_visible name ≡ true
    by_test later here true e h = let same : r.name ≡ name = (bytes_eq-Decides r.name name).0 e in subst (λ xs. are_visible xs ≡ true) same here
    by_test later here false e h = later h

known_row : (version : ℕ) (o : Option Row) (r : Row) → row_known version o ≡ Some r → is_some o ≡ true
known_row version None r h = cc
known_row version (Some q) r h = refl

row_visible : (version : ℕ) (name : List ℕ) (r : Row) → row_for version name ≡ Some r → are_visible name ≡ true
unfolding row_of
row_visible version name r h = in_visible rows refl name (known_row version (row_of name) r h)

module _ (version : ℕ) (l : Left) (f : List ℕ) (fs : List (List ℕ)) (at : l.fields ≡ f ∷ fs) where
  abbrev after : Left
  after = record l { number = l.number + 1; fields = fs }

  abbrev named : Result (List ℕ × Left) At → Result ((Field × Form) × Left) At
  named r = r >>= λ x. parameter_by l.number x.1 (row_for version x.0)

  -- the parameter of a name is read
  pub some_parameter : (r : Row) → row_for version f ≡ Some r → parameter_left version l ≡ Ok ((r.field, r.form), after)
  unfolding parameter_left
  some_parameter r h =
      ap (λ xs. named (next_by l xs)) at
      ∙ ap (λ t. named (printed t l.number f after)) (row_visible version f r h)
      ∙ ap (λ o. parameter_by l.number after o) h

  -- what is no name of one is refused, by its bytes first
  pub no_parameter : row_for version f ≡ None → (c : Cause) → c ≡ (if are_visible f then causes.UnknownParameter else causes.NotAscii)
      → parameter_left version l ≡ Err (record { field = l.number; cause = c })
  unfolding parameter_left
  no_parameter h c cause = by (are_visible f) refl cause
    where
      by : (p : Bool) → are_visible f ≡ p → c ≡ (if p then causes.UnknownParameter else causes.NotAscii) → named (next_by l l.fields) ≡ Err (record { field = l.number; cause = c })
      by true e cause =
          ap (λ xs. named (next_by l xs)) at
          ∙ ap (λ t. named (printed t l.number f after)) e
          ∙ ap (λ o. parameter_by l.number after o) h
          ∙ ap (λ d. Err (record { field = l.number; cause = d })) (sym cause)
      by false e cause =
          ap (λ xs. named (next_by l xs)) at
          ∙ ap (λ t. named (printed t l.number f after)) e
          ∙ ap (λ d. Err (record { field = l.number; cause = d })) (sym cause)

pub no_field_left : (version : ℕ) (l : Left) → l.fields ≡ [] → parameter_left version l ≡ Err (record { field = l.number; cause = l.missing })
unfolding parameter_left
no_field_left version l e = ap (λ xs. next_by l xs >>= λ x. parameter_by l.number x.1 (row_for version x.0)) e

-- ---- a line of `set` is read as its parameter, and then a value in the parameter's form

abbrev with_value : (Field × Form) × Left → Result (Content × Left) At
with_value p = mapped (λ v. contents.Set p.0.0 v) (value_left p.0.1 p.1)

set_apart : (version : ℕ) (l : Left) → set_left version l ≡ (parameter_left version l >>= λ p. with_value p)
unfolding set_left parameter_left
set_apart version l = by (next_left l)
  where
    by_row : (n : ℕ) (m : Left) (o : Option Row) → set_by n m o ≡ (parameter_by n m o >>= λ p. with_value p)
    by_row n m None = refl
    by_row n m (Some r) = refl

    by : (x : Result (List ℕ × Left) At) → (x >>= λ y. set_by l.number y.1 (row_for version y.0)) ≡ ((x >>= λ y. parameter_by l.number y.1 (row_for version y.0)) >>= λ p. with_value p)
    by (Ok x) = by_row l.number x.1 (row_for version x.0)
    by (Err e) = refl

pub set_refused : (version : ℕ) (l : Left) (e : At) → parameter_left version l ≡ Err e → set_left version l ≡ Err e
set_refused version l e h = set_apart version l ∙ ap (λ r. r >>= λ p. with_value p) h

pub set_value_refused : (version : ℕ) (l m : Left) (field : Field) (form : Form) (e : At)
    → parameter_left version l ≡ Ok ((field, form), m) → value_left form m ≡ Err e → set_left version l ≡ Err e
set_value_refused version l m field form e h g =
    set_apart version l ∙ ap (λ r. r >>= λ p. with_value p) h ∙ ap (λ r. mapped (λ v. contents.Set field v) r) g

pub set_read : (version : ℕ) (l m n : Left) (field : Field) (form : Form) (v : Value)
    → parameter_left version l ≡ Ok ((field, form), m) → value_left form m ≡ Ok (v, n) → set_left version l ≡ Ok (contents.Set field v, n)
set_read version l m n field form v h g =
    set_apart version l ∙ ap (λ r. r >>= λ p. with_value p) h ∙ ap (λ r. mapped (λ v. contents.Set field v) r) g
