-- Texts that are galleys.
use Rattle.std.specs.Prelude.{◌≡◌, ℕ, List, Ok}
use Rattle.tb_galley.specs.declared.Galley.{Galley}
use Rattle.tb_galley.specs.Grammar.{grammar}

-- the grammar of galleys gives a galley for these bytes
abbrev pub IsAccepted : List ℕ → Type 0
IsAccepted bytes = (g : Galley) × (grammar bytes ≡ Ok g)
