-- A text that is too long has one fault, whatever it says.
use Rattle.std.proofs.Common.{◌≡◌, ap, ℕ, true, nat_lt, List, length, Err, if◌then◌else◌}
use Rattle.tb_text.specs.Lines.{lines_of}
use Rattle.tb_galley.specs.declared.Cause.TheVariants.{InputSize}
use Rattle.tb_galley.specs.Faults.{fault}
use Rattle.tb_lines.specs.Grammar.{spelled_text, reading}
use Rattle.tb_lines.specs.Galley.{faulty, galley_of, lines_galley}

pub long_text : (bytes : List ℕ) → nat_lt 8388608 (length bytes) ≡ true → lines_galley bytes ≡ Err (faulty (fault 0 0 InputSize))
unfolding lines_galley reading
long_text bytes long = ap (λ t. galley_of (if t then Err (fault 0 0 InputSize) else spelled_text (lines_of bytes))) long
