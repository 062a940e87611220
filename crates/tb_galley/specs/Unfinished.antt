-- A line whose end was not read yet.
use Rattle.std.specs.Prelude.{ℕ, List, take}

-- the most bytes that are kept of it: a line of this many is too long, with a carriage return at its end or not
abbrev pub kept_length : ℕ
kept_length = 257

-- what is kept of these bytes
unfoldable pub kept_line : List ℕ → List ℕ
kept_line bytes = take kept_length bytes
