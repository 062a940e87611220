-- A list that is none of these, in the words of the builder's lists.
use Rattle.std.proofs.Common.{ℕ, List, [], ◌∷◌, sym}
use Rattle.tb_pool.specs.Frame.{IsNoneOf}
use Rattle.tb_builder.specs.Ownership.{Lacks}

pub none-lacks : (l : ℕ) (xs : List ℕ) → IsNoneOf l xs → Lacks l xs
none-lacks l [] h = tt
none-lacks l (x ∷ xs) h = ((λ e. h.0 (sym e)), none-lacks l xs h.1)

pub lacks-none : (l : ℕ) (xs : List ℕ) → Lacks l xs → IsNoneOf l xs
lacks-none l [] h = tt
lacks-none l (x ∷ xs) h = ((λ e. h.0 (sym e)), lacks-none l xs h.1)
