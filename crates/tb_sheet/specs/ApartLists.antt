-- Lists that are none of others.
use Rattle.std.specs.Prelude.{ℕ, List}
use Rattle.std.specs.List.{AllByRecursion}
use Rattle.tb_pool.specs.Frame.{IsNoneOf}

-- none of these is any of those
abbrev pub AreNoneOf : List ℕ → List ℕ → Type 0
AreNoneOf ls ms = AllByRecursion (λ l. IsNoneOf l ms) ls
