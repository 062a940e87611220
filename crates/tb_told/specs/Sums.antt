-- The height of floats together.
use Rattle.std.specs.Prelude.{ℤ}
use Rattle.tb_float.specs.Ranges.{IsWithin}

-- at most 2^78 either way: those of 4096 floats, each with a separator, and one more come to less
abbrev pub IsHeightSum : ℤ → Type 0
IsHeightSum z = IsWithin 302231454903657293676544 z
