-- Lists that were opened in a store.
use Rattle.std.specs.Prelude.{◌≡◌, ℕ, true, List, [], ◌∷◌, map}
use Rattle.std.specs.FinMap.{get}
use Rattle.tb_pool.specs.Lists.{Lists, IsLive, list_at}
use Rattle.tb_node.specs.declared.Node.{Node}
use Rattle.tb_insert.specs.declared.Class.{Class}
use Rattle.tb_builder.specs.declared.ClassList.{ClassList}
use Rattle.tb_builder.specs.Ownership.{Lacks, AllDiffer, AllLive, box_ids}

-- the lists hold nothing
abbrev pub AllEmpty : Lists Node → List ℕ → Type 0
AllEmpty s [] = Unit {0}
AllEmpty s (x ∷ xs) = (list_at s x ≡ []) × AllEmpty s xs

-- these lists were opened in the store s, and no other list changed
pub record Opened (s t : Lists Node) (ids : List ℕ) : Type 0 where
  pub live : AllLive t ids
  pub differ : AllDiffer ids
  pub empty : AllEmpty t ids
  pub fresh : (q : ℕ) → IsLive s q → Lacks q ids
  pub others : (q : ℕ) → IsLive s q → get t.lists q ≡ get s.lists q

-- each of these boxes is void
abbrev pub AllVoid : List ClassList → Type 0
AllVoid [] = Unit {0}
AllVoid (e ∷ es) = (e.void ≡ true) × AllVoid es

-- a void box for each of the classes, with a list that was opened for it
pub record VoidBoxes (s t : Lists Node) (cs : List Class) (es : List ClassList) : Type 0 where
  pub opened : Opened s t (box_ids es)
  pub classes : map (λ e. e.class) es ≡ cs
  pub void : AllVoid es
