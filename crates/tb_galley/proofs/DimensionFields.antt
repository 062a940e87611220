-- A field that is no dimension of the range is refused, by its bytes first.
use Rattle.std.proofs.Common.{◌≡◌, ℕ, ◌+◌, ℤ, pos, Bool, true, false, not, List, ◌∷◌, Result, Err, ap, refl, ◌∙◌, if◌then◌else◌}
use Rattle.std.specs.Prelude.{int_lt}
use Rattle.std.specs.List.{list_all}
use Rattle.tb_text.specs.declared.TextFault.{TextFault}
use Rattle.tb_text.specs.Numbers.{dimension_of}
use Rattle.tb_galley.specs.declared.Cause.{Cause}
use Rattle.tb_galley.specs.declared.Cause.TheVariants as causes
use Rattle.tb_galley.specs.declared.fields.At.{At}
use Rattle.tb_galley.specs.Faults.{is_printable}
use Rattle.tb_galley.specs.Fields.{least_slot, slot_cause, text_cause, cause_of_read}
use Rattle.tb_galley.specs.Grammar.{read_or}
use Rattle.tb_galley.specs.FieldReader.{Left, ◌>>=◌, next_by, printed, settled, at_fault, dimension_in, least_left}

-- what is read by a field that was found
abbrev settled_at : ℤ → Cause → ℕ → List ℕ × Left → Result (ℤ × Left) At
settled_at low c n x = settled n (slot_cause (least_slot low c) x.0) (dimension_in x.0, x.1)

abbrev by_read : ℤ → Cause → ℕ → Left → Result ℤ TextFault → Result (ℤ × Left) At
by_read low c n after r = settled n (cause_of_read (λ v. not (int_lt v low)) c r) (read_or (pos 0) r, after)

-- a field that is no dimension
pub not_read : (low : ℤ) (c : Cause) (l : Left) (f : List ℕ) (fs : List (List ℕ)) (e : TextFault) → l.fields ≡ f ∷ fs → dimension_of f ≡ Err e
    → least_left low c l ≡ at_fault l.number (if list_all is_printable f then text_cause e else causes.NotAscii)
unfolding least_left
not_read low c l f fs e here why =
    ap (λ gs. next_by l gs >>= settled_at low c l.number) here ∙ by_visible (list_all is_printable f)
  where
    by_visible : (t : Bool) → (printed t l.number f (record l { number = l.number + 1; fields = fs }) >>= settled_at low c l.number)
        ≡ at_fault l.number (if t then text_cause e else causes.NotAscii)
    by_visible true = ap (by_read low c l.number (record l { number = l.number + 1; fields = fs })) why
    by_visible false = refl
