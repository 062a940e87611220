-- Which classes a walk over floats has passed.
use Rattle.std.specs.Prelude.{◌≡◌, ℕ, ◌<◌, ◌≤◌, ◌≤ℤ◌, ◌+◌, ℤ, Bool, true, not, ◌&&◌, List, [], ◌∷◌, length, Some, slice_get, if◌then◌else◌}
use Rattle.std.specs.List.{AllByRecursion}
use Rattle.tb_node.specs.declared.Float.{Float}
use Rattle.tb_float.specs.declared.classes.ClassSet.{ClassSet}
use Rattle.tb_float.specs.Lists.{has_class, floats_of}
use Rattle.tb_float.specs.declared.Part.{Part}
use Rattle.tb_float.specs.declared.Part.TheVariants as parts
use Rattle.tb_float.specs.Pool.{FloatPool, marked_floats}

-- the set holds the classes of these floats, and no others
abbrev pub AreClassesOf : ClassSet → List Float → Type 0
AreClassesOf s fs = (k : ℕ) → k < 256 → slice_get s.flags k ≡ Some (has_class k fs)

-- each of these floats is of the class of one of those
abbrev pub AreOfClasses : List Float → List Float → Type 0
AreOfClasses fs all = (k : ℕ) → has_class k all ≡ true → has_class k fs ≡ true

-- the flags of these floats' classes are set
abbrev pub AreKnown : List Bool → List Float → Type 0
AreKnown known [] = Unit {0}
AreKnown known (f ∷ fs) = (slice_get known f.class ≡ Some true) × AreKnown known fs

-- none of these floats is lower
abbrev pub AreAtLeast : ℤ → List Float → Type 0
AreAtLeast least fs = AllByRecursion (λ (f : Float). least ≤ℤ f.height) fs

-- how many flags are set
abbrev pub set_count : List Bool → ℕ
set_count [] = 0
set_count (b ∷ bs) = (if b then 1 else 0) + set_count bs

-- how many of the known flags are not set
abbrev pub open_count : List Bool → List Bool → ℕ
open_count [] ks = 0
open_count (b ∷ bs) [] = 0
open_count (b ∷ bs) (k ∷ ks) = (if not b && k then 1 else 0) + open_count bs ks

-- the set counts how many of some classes it does not hold yet, and the classes of these floats are among them
pub record HasLeft (s : ClassSet) (all : List Float) : Type 0 where
  pub known : List Bool
  pub size : length known ≡ 256
  pub are : AreKnown known all
  pub left : s.left ≡ open_count s.flags known

-- how many floats are chosen for a column of floats
abbrev pub chosen_count : FloatPool → ℕ
chosen_count v = length (marked_floats parts.Deferred v) + length (marked_floats parts.Second v)

-- the class of a float is known, and the float is not lower than this
abbrev pub IsTracked : List Bool → ℤ → Float → Type 0
IsTracked known least f = (slice_get known f.class ≡ Some true) × (least ≤ℤ f.height)

-- this is so of all floats in the pool, and no more of them are chosen than that
pub record Tracks (Is : Float → Type 0) (chosen : ℕ) (v : FloatPool) : Type 0 where
  pub floats : (p : Part) → AllByRecursion Is (floats_of p v.lists)
  pub few : chosen_count v ≤ chosen

-- no mark before a place is set
abbrev pub AreSetFrom : ℕ → List Bool → Type 0
AreSetFrom marks_from ms = (k : ℕ) → slice_get ms k ≡ Some true → marks_from ≤ k

-- in neither list of floats that wait is a float before this place marked
pub record AreMarkedFrom (marks_from : ℕ) (v : FloatPool) : Type 0 where
  pub deferred : AreSetFrom marks_from v.marks
  pub second : AreSetFrom marks_from v.second_marks
