-- The places of classes among those of a builder, by their numbers.
use Rattle.std.specs.Prelude.{◌≡◌, ℕ, ◌<◌, ◌==◌, List, Option, position, slice_index_or}
use Rattle.tb_builder.specs.declared.ClassList.{ClassList}

-- for each number of 8 bits this is the place of the first class that has it
abbrev pub ArePlaces : List ClassList → List (Option ℕ) → Type 0
ArePlaces es places = (number : ℕ) (d : Option ℕ) → number < 256 → slice_index_or places number d ≡ position (λ e. e.class.number == number) es
