-- How large the room that is required can be. No public definition cites this module.
use Rattle.std.specs.Prelude.{ℕ, ◌+◌, ◌*◌, ℤ}
use Rattle.tb_float.specs.Ranges.{IsWithin}

-- a height below 2^60 with a float and the least room of the text, at most 2^46, and this many separators
abbrev pub IsRequired : ℕ → ℤ → Type 0
IsRequired n z = IsWithin (1152991873351024640 + 1073741823 * n) z
