-- The solutions of a paragraph, and the least of them. Breaks are read from the last to the first here.
use Rattle.std.specs.Prelude.{◌≡◌, ℕ, ◌<◌, ◌+◌, ℤ, pos, ◌+ℤ◌, ◌≤ℤ◌, Bool, true, false, ◌==◌, ◌||◌, ◌&&◌, nat_lt, List, [], ◌∷◌, length, reverse, Option, Some, None, ◌⊎◌}
use Rattle.std.specs.List.{AllByRecursion}
use Rattle.tb_lines.specs.declared.entries.Entry.{Entry}
use Rattle.tb_lines.specs.declared.text.LineParams.{LineParams}
use Rattle.tb_lines.specs.declared.text.Item.{Item}
use Rattle.tb_lines.specs.Solution.{SolutionView}
use Rattle.tb_lines.specs.Entries.{list_of, is_legal, is_forced}
use Rattle.tb_lines.specs.Demerits.{line_demerits}

-- the break before, if there is one
abbrev pub first_of : List ℕ → Option ℕ
first_of [] = None
first_of (j ∷ js) = Some j

-- this break comes after the others
abbrev pub IsAfter : ℕ → List ℕ → Type 0
IsAfter j [] = Unit {0}
IsAfter j (i ∷ is) = i < j

-- each break comes after the one before it
abbrev pub IsFalling : List ℕ → Type 0
IsFalling [] = Unit {0}
IsFalling (j ∷ js) = IsAfter j js × IsFalling js

-- the break is one of these
abbrev pub IsAmong : ℕ → List ℕ → Type 0
IsAmong k [] = ⊥
IsAmong k (j ∷ js) = (k ≡ j) ⊎ IsAmong k js

-- a way to break a paragraph: legal breaks in their order, all forced ones among them, the last at the list's end
pub record IsSolution (es : List Entry) (js : List ℕ) : Type 0 where
  pub falling : IsFalling js
  pub legal : AllByRecursion (λ j. is_legal es j ≡ true) js
  pub forced : (k : ℕ) → is_forced es k ≡ true → IsAmong k js
  pub ends : (last : ℕ) × (first_of js ≡ Some last) × (last + 1 ≡ length es)

-- two amounts together, if there are both
abbrev pub sum_of_both : Option ℤ → Option ℤ → Option ℤ
sum_of_both None b = None
sum_of_both (Some a) None = None
sum_of_both (Some a) (Some b) = Some (a +ℤ b)

-- the demerits of all lines that these breaks make; none if a line is not feasible
abbrev pub total_demerits : LineParams → List Entry → List ℕ → Option ℤ
total_demerits ps es [] = Some (pos 0)
total_demerits ps es (j ∷ js) = sum_of_both (total_demerits ps es js) (line_demerits ps es (first_of js) j)

-- the first breaks are lexicographically greater than the second; if one begins the other, the longer is greater
abbrev pub is_greater : List ℕ → List ℕ → Bool
is_greater [] ys = false
is_greater (x ∷ xs) [] = true
is_greater (x ∷ xs) (y ∷ ys) = nat_lt y x || ((x == y) && is_greater xs ys)

-- these breaks are a feasible solution with this total, no feasible solution has less, and none of the same total is greater
pub record IsLeast (ps : LineParams) (es : List Entry) (js : List ℕ) (total : ℤ) : Type 0 where
  pub solution : IsSolution es js
  pub sum : total_demerits ps es js ≡ Some total
  pub least : (others : List ℕ) (d : ℤ) → IsSolution es others → total_demerits ps es others ≡ Some d → total ≤ℤ d
  pub greatest : (others : List ℕ) → IsSolution es others → total_demerits ps es others ≡ Some total → is_greater others js ≡ false

-- no solution is feasible
abbrev pub HasNone : LineParams → List Entry → Type 0
HasNone ps es = (js : List ℕ) (d : ℤ) → IsSolution es js → total_demerits ps es js ≡ Some d → ⊥

-- the least solution of the list of a paragraph's items; its breaks rise
abbrev pub IsLeastOf : LineParams → List Item → SolutionView → Type 0
IsLeastOf ps items s = IsLeast ps (list_of items) (reverse s.breaks) s.total
