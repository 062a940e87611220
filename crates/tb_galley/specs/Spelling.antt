-- Tables: rows of a text and what is spelled so.
use Rattle.std.specs.Prelude.{ℕ, List, [], ◌∷◌, Option, Some, None, bytes_eq, if◌then◌else◌}
use Rattle.std.specs.Borrow.{Bor}

-- a text, and what is spelled so
pub record Spelled (A : Type 0) : Type 0 where
  pub text : List ℕ
  pub value : A

-- a row of a table that is held by reference
abbrev pub spelled_row : {A : Type 0} → Bor (List ℕ) × A → Spelled A
spelled_row r = record { text = r.0.now; value = r.1 }

-- a row of this text, and what it says
abbrev pub says : {A : Type 0} → List ℕ → A → Spelled A
says text value = record { text = text; value = value }

-- what the first row of this text spells
abbrev pub spelled_value : {A : Type 0} → List (Spelled A) → List ℕ → Option A
spelled_value [] text = None
spelled_value (r ∷ rs) text = if bytes_eq r.text text then Some r.value else spelled_value rs text
