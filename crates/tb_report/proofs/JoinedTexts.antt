-- Texts that are written piece by piece.
use Rattle.std.proofs.Common.{◌≡◌, List, ◌++◌, append_assoc, ℕ}

-- three fields and the end of a line after a text
pub line-three : (w t h d e : List ℕ) → w ++ ((t ++ h ++ d) ++ e) ≡ (w ++ t ++ h ++ d) ++ e
line-three w t h d e = simp append_assoc
