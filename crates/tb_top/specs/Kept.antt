-- A text that is kept until it is written.
use Rattle.std.specs.Prelude.{◌≡◌, ℕ, List, ◌++◌, Option}
use Rattle.std.specs.Io.KnownBytes.{Appends}

-- a sink holds what it held, and may hold more
abbrev pub Grows : Option (List ℕ) → Option (List ℕ) → Type 0
Grows old new = (bytes : List ℕ) × Appends old new bytes

-- what was written since and what is kept now are what was kept before and these bytes
pub record Keeps (held_old held_new : Option (List ℕ)) (kept_old kept_new bytes : List ℕ) : Type 0 where
  pub written : List ℕ
  pub held : Appends held_old held_new written
  pub rest : kept_old ++ bytes ≡ written ++ kept_new
