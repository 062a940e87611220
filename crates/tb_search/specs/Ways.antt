-- The parts of a way of the search, and of what the search knows of its galley.
use Rattle.std.specs.Prelude.{ℕ, Bool, true, List, [], ◌∷◌, ◌++◌, Option, Some, None, slice_set}

-- these flags, with true at each of these numbers; a number past the last flag is left out
abbrev pub marked : List Bool → List ℕ → List Bool
marked fs [] = fs
marked fs (n ∷ ns) = marked (slice_set fs n true) ns

-- these breaks, and perhaps one more behind them
abbrev pub with_last : List ℕ → Option ℕ → List ℕ
with_last bs None = bs
with_last bs (Some n) = bs ++ n ∷ []
