-- A field that is read as an amount while it is split off.
use Rattle.std.proofs.Common.{◌≡◌, ℕ, ◌+◌, ℤ, pos, Bool, true, false, not, List, ◌∷◌, Result, Ok, Some, None, ap, ◌∙◌, if◌then◌else◌}
use Rattle.std.specs.Prelude.{int_lt}
use Rattle.std.specs.List.{list_all}
use Rattle.tb_scaled.specs.declared.Order.{Order}
use Rattle.tb_scaled.specs.declared.Order.TheVariants.{Normal}
use Rattle.tb_text.specs.declared.TextFault.{TextFault}
use Rattle.tb_text.specs.Numbers.{dimension_of, stretch_of}
use Rattle.tb_galley.specs.declared.Cause.{Cause}
use Rattle.tb_galley.specs.declared.Cause.TheVariants as causes
use Rattle.tb_galley.specs.declared.fields.At.{At}
use Rattle.tb_galley.specs.Faults.{is_printable}
use Rattle.tb_galley.specs.Fields.{cause_of_read}
use Rattle.tb_galley.specs.Grammar.{read_or}
use Rattle.tb_galley.specs.FieldReader.{Left, next_left, next_by, printed, settled, at_fault, dimension_left, stretch_left, least_left, ◌>>=◌}
use Rattle.tb_galley.proofs.VisibleFields.{dimension_visible}

module _ (l : Left) (f : List ℕ) (fs : List (List ℕ)) (at : l.fields ≡ f ∷ fs) where
  abbrev pub after : Left
  after = record l { number = l.number + 1; fields = fs }

  next_is : list_all is_printable f ≡ true → next_left l ≡ Ok (f, after)
  next_is visible = ap (next_by l) at ∙ ap (λ t. printed t l.number f after) visible

  module _ (v : ℤ) (read : dimension_of f ≡ Ok v) where
    found : next_left l ≡ Ok (f, after)
    found = next_is (dimension_visible f v read)

    by_read : (ℤ → Bool) → Cause → Result ℤ TextFault → Result (ℤ × Left) At
    by_read test c r = settled l.number (cause_of_read test c r) (read_or (pos 0) r, after)

    pub dimension_is : dimension_left l ≡ Ok (v, after)
    unfolding dimension_left
    dimension_is =
        ap (λ r. r >>= λ x. settled l.number (cause_of_read (λ v. true) causes.Dimension (dimension_of x.0)) (read_or (pos 0) (dimension_of x.0), x.1)) found
        ∙ ap (λ r. settled l.number (cause_of_read (λ v. true) causes.Dimension r) (read_or (pos 0) r, after)) read

    pub least_is : (low : ℤ) (c : Cause) → least_left low c l ≡ settled l.number (if not (int_lt v low) then None else Some c) (v, after)
    unfolding least_left
    least_is low c =
        ap (λ r. r >>= λ x. settled l.number (cause_of_read (λ v. not (int_lt v low)) c (dimension_of x.0)) (read_or (pos 0) (dimension_of x.0), x.1)) found
        ∙ ap (λ r. settled l.number (cause_of_read (λ v. not (int_lt v low)) c r) (read_or (pos 0) r, after)) read

    pub least_read : (low : ℤ) (c : Cause) → int_lt v low ≡ false → least_left low c l ≡ Ok (v, after)
    least_read low c h = least_is low c ∙ ap (λ t. settled l.number (if not t then None else Some c) (v, after)) h

    pub least_fault : (low : ℤ) (c : Cause) → int_lt v low ≡ true → least_left low c l ≡ at_fault l.number c
    least_fault low c h = least_is low c ∙ ap (λ t. settled l.number (if not t then None else Some c) (v, after)) h

    pub stretch_is : stretch_of f ≡ Ok (v, Normal) → stretch_left l ≡ Ok ((v, Normal), after)
    unfolding stretch_left
    stretch_is same =
        ap (λ r. r >>= λ x. settled l.number (cause_of_read {X = ℤ × Order} (λ v. true) causes.Dimension (stretch_of x.0)) (read_or (pos 0, Normal) (stretch_of x.0), x.1)) found
        ∙ ap (λ r. settled l.number (cause_of_read {X = ℤ × Order} (λ v. true) causes.Dimension r) (read_or (pos 0, Normal) r, after)) same
