-- The fields of a line that is written, as bytes.
use Rattle.std.specs.Prelude.{ℕ, ℤ, List, [], ◌∷◌, ◌++◌, decimal}
use Rattle.std.specs.Fmt.{signed_decimal}

-- a space and a number
abbrev pub and_number : ℤ → List ℕ
and_number n = 32 ∷ signed_decimal n

-- a space and a count
abbrev pub and_count : ℕ → List ℕ
and_count n = 32 ∷ decimal n

-- a space and a text
abbrev pub and_text : List ℕ → List ℕ
and_text t = 32 ∷ t

-- a text and the end of its line
abbrev pub line : List ℕ → List ℕ
line text = text ++ 10 ∷ []
