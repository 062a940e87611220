-- A walk over the floats after a head, on its way. No public clause cites this module.
use Rattle.std.specs.Prelude.{◌≡◌, ℕ, ◌+◌, ◌≤◌, ◌*◌, ℤ, Bool, true, false, ◌||◌, ◌&&◌, List, [], ◌∷◌, ◌++◌, length, map, take, drop, suc, Some, slice_get}
use Rattle.tb_node.specs.declared.Float.{Float}
use Rattle.tb_float.specs.declared.classes.ClassSet.{ClassSet}
use Rattle.tb_float.specs.Classes.{AreClassesOf}
use Rattle.tb_float.specs.Ranges.{IsWithin}
use Rattle.tb_fpage.specs.declared.Wanted.{Wanted}
use Rattle.tb_fpage.specs.declared.walk.Walk.{Walk}
use Rattle.tb_fpage.specs.Company.{Choice, passed_over, company_height, choices_from, company_of_head, company_from, company, left_floats, is_head, is_made}

-- the company of the float at a place of a list
abbrev pub company_of_place : Wanted → ℕ → List Float → Float → List Choice
company_of_place z place fs f = company_of_head z (take place fs) f (drop (suc place) fs)

-- the float at a place is a head whose company is made
abbrev pub is_made_at : Wanted → ℕ → List Float → Float → Bool
is_made_at z place fs f = is_head z (take place fs) f && is_made z (company_of_place z place fs f)

-- a float is chosen
abbrev pub has_chosen : List Choice → Bool
has_chosen [] = false
has_chosen (c ∷ cs) = c.chosen || has_chosen cs

-- the walk that has passed the head at a place, if the floats before it have these classes
abbrev pub after_head : ℕ → ℤ → ClassSet → Walk
after_head place height earlier = record { seen = place + 1; last = place + 1; height = height; failed = earlier }

-- the choices on the floats before a head, and on the head
abbrev pub head_choices : List Float → Float → List Choice
head_choices before f = passed_over before ++ record { float = f; chosen = true } ∷ []

-- the next float is in the company, which has this height with it
abbrev pub taken : ℤ → Walk → Walk
taken height w = record w { seen = w.seen + 1; last = w.seen + 1; height = height }

-- the next float stays behind, and the classes of those that do are these
abbrev pub passed : ClassSet → Walk → Walk
passed failed w = record w { seen = w.seen + 1; failed = failed }

-- the last float of the company comes before this place
abbrev pub EndsBy : ℕ → List Choice → Type 0
EndsBy last cs = has_chosen (drop last cs) ≡ false

-- the last float of the company that makes the column comes before this place
abbrev pub CompanyEndsBy : ℕ → Wanted → List Float → Type 0
CompanyEndsBy last z fs = (choices : List Choice) → company z fs ≡ Some choices → EndsBy last choices

-- the choices so far, the height of the company, and the classes of the floats that stay behind
pub record IsWalkOf (w : Walk) (sep : ℤ) (before : List Choice) : Type 0 where
  pub seen : w.seen ≡ length before
  pub last : EndsBy w.last before
  pub last_within : w.last ≤ length before
  pub height : w.height ≡ company_height sep before
  pub within : IsWithin (36893488147419103232 * length before) w.height
  pub failed : AreClassesOf w.failed (left_floats before)
  pub head : has_chosen before ≡ true

-- a walk that makes these choices of all floats
pub record IsOnWay (w : Walk) (z : Wanted) (all : List Float) (choices : List Choice) : Type 0 where
  pub before : List Choice
  pub stands : IsWalkOf w z.sep before
  pub ends : choices_from z before (drop w.seen all) ≡ choices

-- a walk that has just passed the head of the company that makes the column
pub record IsAfterHead (w : Walk) (z : Wanted) (all : List Float) : Type 0 where
  pub place : ℕ
  pub head : Float
  pub there : slice_get all place ≡ Some head
  pub seen : w.seen ≡ place + 1
  pub stands : IsWalkOf w z.sep (head_choices (take place all) head)
  pub made : company z all ≡ Some (company_of_place z place all head)

-- the marks of all floats, if these flags are those of the floats from a place on and no other float is marked
abbrev pub marks_by : ℕ → List Bool → List Float → List Bool
marks_by head flags all = map (λ f. false) (take head all) ++ flags ++ map (λ f. false) (drop (head + length flags) all)

-- a walk that chooses the company that makes the column, if these flags are those of the head, at this place, and of the floats
-- behind it that were passed
pub record IsMarking (w : Walk) (z : Wanted) (all : List Float) (head : ℕ) (flags : List Bool) : Type 0 where
  pub choices : List Choice
  pub made : company z all ≡ Some choices
  pub way : IsOnWay w z all choices
  pub passed : w.seen ≡ head + length flags
  pub marked : map (λ c. c.chosen) way.before ≡ map (λ f. false) (take head all) ++ flags

-- no head before a place has a company that is made; these floats come from there on, and the set has the classes of those before them
pub record AreTried (z : Wanted) (earlier : ClassSet) (place : ℕ) (all left : List Float) : Type 0 where
  pub left_are : left ≡ drop place all
  pub within : place ≤ length all
  pub classes : AreClassesOf earlier (take place all)
  pub later : company_from z (take place all) left ≡ company z all
