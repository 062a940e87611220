-- What holds of the stories at any time: those at the front are over, and no count is past twice the sheets.
use Rattle.std.specs.Prelude.{◌≡◌, ◌≤◌, ℕ, zero, suc, ◌+◌, false, List, [], ◌∷◌, Option, Some, None}
use Rattle.std.specs.List.{AllByRecursion}
use Rattle.tb_story.specs.declared.Group.{Group}
use Rattle.tb_story.specs.Story.{StoryView, is_open}

-- the first so many floats were shipped
abbrev pub AreOver : ℕ → List StoryView → Type 0
AreOver zero ss = Unit {0}
AreOver (suc n) [] = ⊥
AreOver (suc n) (s ∷ ss) = (is_open s ≡ false) × AreOver n ss

-- for how many sheets the reason that goes on was told
abbrev pub open_times : Option Group → ℕ
open_times None = 0
open_times (Some g) = g.times

-- the float was placed no later than now; a sheet that a reason counts came before its last placing, or after it
pub record IsCounted (sheets : ℕ) (s : StoryView) : Type 0 where
  pub placed : s.put ≤ sheets
  pub times : open_times s.group ≤ sheets + s.put

-- both hold of all stories
pub record IsSound (n sheets : ℕ) (ss : List StoryView) : Type 0 where
  pub over : AreOver n ss
  pub counted : AllByRecursion (IsCounted sheets) ss

-- what held of the stories holds of the changed ones, after any number of sheets
abbrev pub StaysSound : ℕ → List StoryView → List StoryView → Type 0
StaysSound n old new = (sheets : ℕ) → IsSound n sheets old → IsSound n sheets new

-- the first so many stories are changed
abbrev pub changed_front : (StoryView → StoryView) → ℕ → List StoryView → List StoryView
changed_front change zero ss = ss
changed_front change (suc n) [] = []
changed_front change (suc n) (s ∷ ss) = change s ∷ changed_front change n ss
