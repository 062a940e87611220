-- The last place of least cost, by places (TeX: The Program §974, §1005); a place is the number of nodes before it.
use Rattle.std.specs.Prelude.{◌≡◌, ℕ, ◌<◌, ℤ, pos, ◌+ℤ◌, ◌<ℤ◌, ◌≤ℤ◌, Bool, false, ◌||◌, List, ◌∷◌, ◌++◌, take, drop, int_le, Some, All}
use Rattle.tb_scaled.specs.Scaled.{awful_bad, eject_penalty}
use Rattle.tb_node.specs.Shape.{Shape}
use Rattle.tb_node.specs.Sums.{sums_of}
use Rattle.tb_break.specs.declared.Found.{Found}
use Rattle.tb_break.specs.declared.Best.{Best}
use Rattle.tb_break.specs.Places.{legal_at}
use Rattle.tb_break.specs.Cost.{cost_of}
use Rattle.tb_break.specs.Best.{Breakpoint}
use Rattle.tb_break.specs.Split.{place_kind}
use Rattle.tb_break.specs.Scan.{best_of}

-- the cost of splitting a list to height h with depth limit d after its first k nodes, at this penalty
abbrev pub cost_at : ℤ → ℤ → List Shape → ℕ → ℤ → ℤ
cost_at h d ns k p = cost_of (sums_of d (take k ns)) h p (pos 0)

-- nothing after this place is looked at: the list is overfull there, or the break is forced
abbrev pub stops_at : ℤ → ℤ → List Shape → ℕ → ℤ → Bool
stops_at h d ns k p = int_le awful_bad (cost_at h d ns k p) || int_le p eject_penalty

-- no legal place before this one is a stop
pub record IsReached (h d : ℤ) (ns : List Shape) (k : ℕ) : Type 0 where
  pub no_stop : (j : ℕ) (p : ℤ) → j < k → legal_at ns j ≡ Some p → stops_at h d ns j p ≡ false

-- of the legal places up to the first stop, and with it, f is the last of least cost
pub record IsLastLeast (h d : ℤ) (ns : List Shape) (f : Found) : Type 0 where
  pub legal : legal_at ns f.index ≡ Some f.penalty
  pub reached : IsReached h d ns f.index
  pub cost_is : f.cost ≡ cost_at h d ns f.index f.penalty
  pub least : (k : ℕ) (p : ℤ) → legal_at ns k ≡ Some p → IsReached h d ns k → f.cost ≤ℤ cost_at h d ns k p
  pub greatest : (k : ℕ) (p : ℤ) → legal_at ns k ≡ Some p → IsReached h d ns k → f.index < k → f.cost <ℤ cost_at h d ns k p
  pub size_is : f.size ≡ (sums_of d (take f.index ns)).total +ℤ (sums_of d (take f.index ns)).depth
  pub kind_is : f.kind ≡ place_kind (drop f.index ns)

-- b is kept of one of the places that were offered: none before it costs less, and each after it costs more
pub record IsLastOfLeast (bs : List Breakpoint) (b : Best) : Type 0 where
  pub before : List Breakpoint
  pub place : Breakpoint
  pub after : List Breakpoint
  pub offered : bs ≡ before ++ place ∷ after
  pub kept : b ≡ best_of place
  pub least : All (λ c. place.cost ≤ℤ c.cost) before
  pub last : All (λ c. place.cost <ℤ c.cost) after
