-- How the pool stores its lists. No public clause cites this module.
use Rattle.std.specs.Prelude.{◌≡◌, ◌≢◌, ℕ, ℤ, ◌+◌, ◌≤◌, Bool, true, false, ◌||◌, List, [], ◌∷◌, length, map, slice_get, Some}
use Rattle.tb_node.specs.declared.Float.{Float}
use Rattle.tb_pool.specs.Lists.{Lists, IsLive, list_at, with_list}
use Rattle.tb_float.specs.declared.Entry.{Entry}
use Rattle.tb_float.specs.declared.Entry.TheVariants as entries
use Rattle.tb_float.specs.declared.Part.{Part}
use Rattle.tb_float.specs.declared.Part.TheVariants as parts
use Rattle.tb_float.specs.declared.shelves.Shelves.{Shelves}
use Rattle.tb_float.specs.declared.by_part.ByPart.{ByPart}
use Rattle.tb_float.specs.Lists.{FloatLists, without_place, floats_among, lists_with, sum_of_lists, holds_notes, holds_marks}
use Rattle.tb_float.specs.Pool.{FloatPool, pool_with, first_marked}
use Rattle.tb_float.specs.Ranges.{IsSizedEntry}
use Rattle.tb_float.specs.Rooms.{total_height}
use Rattle.tb_float.specs.ByPart.{of_part}
use Rattle.tb_float.specs.Slots.{SlotView}
use Rattle.tb_float.specs.declared.classes.ClassSet.{ClassSet}
use Rattle.tb_float.specs.Classes.{AreMarkedFrom, IsTracked, Tracks}
use Rattle.tb_float.specs.declared.firsts.Firsts.{Firsts}
use Rattle.tb_float.specs.Firsts.{KnowsFirsts}

-- the id of the list of a part
abbrev pub shelf_of : Shelves → Part → ℕ
shelf_of s p = of_part s.lists p

-- the slots of each list of a store
abbrev pub slots_of : Lists SlotView → Shelves → Part → List SlotView
slots_of store shelves p = list_at store (shelf_of shelves p)

-- nine lists that live and differ, of which the last two are empty
pub record AreShelves (store : Lists SlotView) (s : Shelves) : Type 0 where
  pub live : (p : Part) → IsLive store (shelf_of s p)
  pub one_live : IsLive store s.one
  pub rest_live : IsLive store s.rest
  pub apart : (p q : Part) → p ≢ q → shelf_of s p ≢ shelf_of s q
  pub one_apart : (p : Part) → shelf_of s p ≢ s.one
  pub rest_apart : (p : Part) → shelf_of s p ≢ s.rest
  pub helpers_apart : s.one ≢ s.rest
  pub one_empty : list_at store s.one ≡ []
  pub rest_empty : list_at store s.rest ≡ []

-- the slot, not marked
abbrev pub unmarked_slot : SlotView → SlotView
unmarked_slot s = record { entry = s.entry; marked = false }

-- the slot, marked
abbrev pub marked_slot : SlotView → SlotView
marked_slot s = record { entry = s.entry; marked = true }

-- the slot, marked if it is already or if a flag is set
abbrev pub flagged_slot : Bool → SlotView → SlotView
flagged_slot b s = record { entry = s.entry; marked = b || s.marked }

-- the slots, of which the first are marked if their flags are set
abbrev pub flagged_slots : List Bool → List SlotView → List SlotView
flagged_slots [] ss = ss
flagged_slots (b ∷ bs) [] = []
flagged_slots (b ∷ bs) (s ∷ ss) = flagged_slot b s ∷ flagged_slots bs ss

-- the entries of slots
abbrev pub entries_in : List SlotView → List Entry
entries_in ss = map (λ s. s.entry) ss

-- the floats of slots; boxes of notes are left out
abbrev pub floats_in : List SlotView → List Float
floats_in ss = floats_among (entries_in ss)

-- for each slot, whether it is marked
abbrev pub marks_in : List SlotView → List Bool
marks_in ss = map (λ s. s.marked) ss

-- what contracts see of these lists of slots
abbrev pub seen_lists : (Part → List SlotView) → FloatLists
seen_lists at = lists_with (entries_in (at parts.Current)) (λ p. floats_in (at p))

-- what contracts see of a pool with these lists of slots, for `size` boxes
abbrev pub seen_pool : (Part → List SlotView) → ℕ → FloatPool
seen_pool at size = pool_with (seen_lists at) (λ p. marks_in (at p)) size

-- the entry is a float, and no box of a note
abbrev pub is_float : Entry → Bool
is_float (entries.Float f) = true
is_float (entries.Left m) = false
is_float (entries.Right m) = false

-- the slot may be in the list: its sizes are in range, only the current list holds boxes of notes, and only lists in which
-- floats wait hold marks
pub record IsSlotOf (p : Part) (s : SlotView) : Type 0 where
  pub sized : IsSizedEntry s.entry
  pub float : holds_notes p ≡ false → is_float s.entry ≡ true
  pub unmarked : holds_marks p ≡ false → s.marked ≡ false

-- each of these slots may be in the list
abbrev pub AreSlotsOf : Part → List SlotView → Type 0
AreSlotsOf p [] = Unit {0}
AreSlotsOf p (s ∷ ss) = IsSlotOf p s × AreSlotsOf p ss

-- how many slots there are in all lists
abbrev pub slot_count : (Part → List SlotView) → ℕ
slot_count at = sum_of_lists (λ p. length (at p))

-- each slot may be in its list, and the sums of heights are those of the lists
pub record AreSound (at : Part → List SlotView) (heights : ByPart ℤ) : Type 0 where
  pub slots : (p : Part) → AreSlotsOf p (at p)
  pub heights_are : (p : Part) → of_part heights p ≡ total_height (floats_in (at p))

-- at most `size` boxes are in the pool, and there is a spare place for each that may still come
pub record HasPlaces (at : Part → List SlotView) (size spare : ℕ) : Type 0 where
  pub within : slot_count at ≤ size
  pub room : size ≤ slot_count at + spare
  pub small : size ≤ 4096

-- the store holds the pool: its lists are live and apart, each slot may be in its list, the sums of heights are right, and
-- there are places for `size` boxes
pub record IsStored (store : Lists SlotView) (shelves : Shelves) (heights : ByPart ℤ) (size : ℕ) : Type 0 where
  pub shelves_are : AreShelves store shelves
  pub sound : AreSound (slots_of store shelves) heights
  pub places : HasPlaces (slots_of store shelves) size store.spare

-- the pool is stored, and what it knows of classes, of marks and of first floats holds
pub record IsPooled (store : Lists SlotView) (shelves : Shelves) (heights : ByPart ℤ) (size : ℕ) (known : ClassSet) (chosen : ℕ) (least : ℤ) (marks_from : ℕ) (firsts : Firsts) : Type 0 where
  pub stored : IsStored store shelves heights size
  pub tracked : Tracks (IsTracked known.flags least) chosen (seen_pool (slots_of store shelves) size)
  pub marked_from : AreMarkedFrom marks_from (seen_pool (slots_of store shelves) size)
  pub firsts_known : KnowsFirsts firsts (seen_lists (slots_of store shelves))

-- the first marked slot left its list
pub record HasTaken (s : SlotView) (from : ℕ) (old new : Lists SlotView) : Type 0 where
  pub was : slice_get (list_at old from) (first_marked (marks_in (list_at old from))) ≡ Some s
  pub taken : new.lists ≡ with_list old from (without_place (first_marked (marks_in (list_at old from))) (list_at old from))
  pub spare : new.spare ≡ old.spare + 1
