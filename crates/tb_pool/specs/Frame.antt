-- Which lists of a store a call may change: its own.
use Rattle.std.specs.Prelude.{◌≡◌, ◌≢◌, ℕ, List}
use Rattle.std.specs.List.{AllByRecursion}
use Rattle.std.specs.FinMap.{get}
use Rattle.tb_pool.specs.Lists.{Lists, IsLive}

-- this id is none of these
abbrev pub IsNoneOf : ℕ → List ℕ → Type 0
IsNoneOf q ls = AllByRecursion (λ l. l ≢ q) ls

-- only these lists changed, and lists that were opened: each other live list holds what it held, and is none of those owned afterwards
abbrev pub OnlyChanged : {T : Type 0} → List ℕ → List ℕ → Lists T → Lists T → Type 0
OnlyChanged mine ours store new = (q : ℕ) → IsLive store q → IsNoneOf q mine → (get new.lists q ≡ get store.lists q) × IsNoneOf q ours
