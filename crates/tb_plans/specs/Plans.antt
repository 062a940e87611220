-- Plans: page breaks that are put into a galley.
use Rattle.std.specs.Prelude.{ℕ, suc, pos, neg_ℤ, Bool, true, false, ◌==◌, IsTrue, List, [], ◌∷◌, if◌then◌else◌}
use Rattle.tb_galley.specs.declared.Item.{Item}
use Rattle.tb_galley.specs.declared.ItemKind.TheVariants as items
use Rattle.tb_galley.specs.declared.Galley.{Galley}
use Rattle.tb_plans.specs.Places.{places_of}

-- some of these numbers, in their order
abbrev pub is_part : List ℕ → List ℕ → Bool
is_part [] ks = true
is_part (b ∷ bs) [] = false
is_part (b ∷ bs) (k ∷ ks) = if b == k then is_part bs ks else is_part (b ∷ bs) ks

-- a plan: some of the places of a galley, in their order
abbrev pub IsPlan : Galley → List ℕ → Type 0
IsPlan g plan = IsTrue (is_part plan (places_of g))

-- a forced page break on the line of an item, as an author writes it
abbrev pub break_before : Item → Item
break_before n = record { line = n.line; kind = items.Penalty (neg_ℤ (pos 10000)) }

-- the items, the first of which has the number k, with a break before each whose number is next in the list
abbrev pub broken : ℕ → List Item → List ℕ → List Item
broken k [] bs = []
broken k (n ∷ ns) [] = n ∷ ns
broken k (n ∷ ns) (b ∷ bs) = if b == k then break_before n ∷ n ∷ broken (suc k) ns bs else n ∷ broken (suc k) ns (b ∷ bs)

-- the list begins with this number
abbrev pub is_first : List ℕ → ℕ → Bool
is_first [] k = false
is_first (b ∷ bs) k = b == k

-- an item, with a break before it if one goes here
abbrev pub with_break : Bool → Item → List Item
with_break here n = if here then break_before n ∷ n ∷ [] else n ∷ []

-- the galley with a page break before each item of the plan
abbrev pub with_breaks : Galley → List ℕ → Galley
with_breaks g plan = record g { items = broken 0 g.items plan }
