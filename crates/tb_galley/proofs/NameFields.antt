-- A field that is read as a name.
use Rattle.std.proofs.Common.{◌≡◌, ℕ, ◌+◌, Bool, true, false, List, ◌∷◌, Some, None, Result, Ok, Err, refl, ap, sym, ◌∙◌, if◌then◌else◌}
use Rattle.std.specs.List.{list_all}
use Rattle.tb_node.specs.Names.{is_name}
use Rattle.tb_galley.specs.declared.Cause.{Cause}
use Rattle.tb_galley.specs.declared.Cause.TheVariants as causes
use Rattle.tb_galley.specs.declared.fields.At.{At}
use Rattle.tb_galley.specs.Faults.{is_printable}
use Rattle.tb_galley.specs.Fields.{name_slot, slot_cause}
use Rattle.tb_galley.specs.FieldReader.{Left, next_by, printed, settled, ◌>>=◌, name_left}
use Rattle.tb_galley.proofs.SlotTexts.{name_text}

module _ (l : Left) (f : List ℕ) (fs : List (List ℕ)) (at : l.fields ≡ f ∷ fs) where
  abbrev after : Left
  after = record l { number = l.number + 1; fields = fs }

  abbrev named : Result (List ℕ × Left) At → Result (List ℕ × Left) At
  named r = r >>= λ x. settled l.number (slot_cause name_slot x.0) (x.0, x.1)

  -- a name is read, and its bytes are printable
  pub some_name : (m : List ℕ) → Some m ≡ (if is_name f then Some f else None) → name_left l ≡ Ok (m, after)
  unfolding name_left
  some_name m h = by (is_name f) refl h
    where
      by : (b : Bool) → is_name f ≡ b → Some m ≡ (if b then Some f else None) → named (next_by l l.fields) ≡ Ok (m, after)
      by true e h =
          ap (λ xs. named (next_by l xs)) at
          ∙ ap (λ t. named (printed t l.number f after)) (name_text f e).text.printable
          ∙ ap (λ t. settled l.number (if t then None else Some causes.BadName) (f, after)) e
          ∙ ap (λ g. Ok (g, after)) (sym (some-is h))
        where
          some-is : Some m ≡ Some f → m ≡ f
          some-is h = cc
      by false e h = cc

  -- what is no name is refused, by its bytes first
  pub no_name : None ≡ (if is_name f then Some f else None) → (c : Cause) → c ≡ (if list_all is_printable f then causes.BadName else causes.NotAscii)
      → name_left l ≡ Err (record { field = l.number; cause = c })
  unfolding name_left
  no_name h c cause = by (is_name f) (list_all is_printable f) refl refl h cause
    where
      by : (b p : Bool) → is_name f ≡ b → list_all is_printable f ≡ p → None ≡ (if b then Some f else None) → c ≡ (if p then causes.BadName else causes.NotAscii)
          → named (next_by l l.fields) ≡ Err (record { field = l.number; cause = c })
      by true p e q h cause = cc
      by false true e q h cause =
          ap (λ xs. named (next_by l xs)) at
          ∙ ap (λ t. named (printed t l.number f after)) q
          ∙ ap (λ t. settled l.number (if t then None else Some causes.BadName) (f, after)) e
          ∙ ap (λ d. Err (record { field = l.number; cause = d })) (sym cause)
      by false false e q h cause =
          ap (λ xs. named (next_by l xs)) at
          ∙ ap (λ t. named (printed t l.number f after)) q
          ∙ ap (λ d. Err (record { field = l.number; cause = d })) (sym cause)
