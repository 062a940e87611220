-- What contracts see of the float pool, and how its calls change it.
use Rattle.std.specs.Prelude.{◌≡◌, ℕ, suc, Bool, true, false, ◌||◌, List, [], ◌∷◌, ◌++◌, length, take, drop, replicate, slice_set, if◌then◌else◌}
use Rattle.tb_node.specs.declared.Float.{Float}
use Rattle.tb_node.specs.declared.Places.{Places}
use Rattle.tb_float.specs.declared.Entry.{Entry}
use Rattle.tb_float.specs.declared.Entry.TheVariants as entries
use Rattle.tb_float.specs.declared.Part.{Part}
use Rattle.tb_float.specs.declared.Part.TheVariants as parts
use Rattle.tb_float.specs.Lists.{FloatLists, without_place, float_entries, floats_of, with_floats_of}

-- the seven lists, a mark for each float that waits in the deferred or in the second list, and how many boxes may live
pub record FloatPool : Type 0 where
  pub lists : FloatLists
  pub marks : List Bool
  pub second_marks : List Bool
  pub size : ℕ

-- the pool with these lists and with these marks for the two in which floats wait
abbrev pub pool_with : FloatLists → (Part → List Bool) → ℕ → FloatPool
pool_with l ms size = record { lists = l; marks = ms parts.Deferred; second_marks = ms parts.Second; size = size }

-- the marks of the floats that wait in a list; other lists have none
abbrev pub marks_of : Part → FloatPool → List Bool
marks_of parts.Deferred v = v.marks
marks_of parts.Second v = v.second_marks
marks_of p v = []

-- the pool with these marks for one of its lists
abbrev pub with_marks_of : Part → List Bool → FloatPool → FloatPool
with_marks_of parts.Deferred ms v = record v { marks = ms }
with_marks_of parts.Second ms v = record v { second_marks = ms }
with_marks_of p ms v = v

-- the pool with these in one of its lists: entries if it is the current one; else floats, with these marks if they wait
abbrev pub with_contents : Part → List Entry → List Float → List Bool → FloatPool → FloatPool
with_contents parts.Current es fs ms v = record v { lists = record v.lists { current = es } }
with_contents p es fs ms v = with_marks_of p ms (record v { lists = with_floats_of p fs v.lists })

-- the boxes that were taken go to the end of the current list
abbrev pub with_current : List Entry → FloatPool → FloatPool
with_current es v = record v { lists = record v.lists { current = v.lists.current ++ es } }

-- the entry at a place has left its list
abbrev pub without_entry : Part → ℕ → FloatPool → FloatPool
without_entry p k v = with_contents p (without_place k v.lists.current) (without_place k (floats_of p v.lists)) (without_place k (marks_of p v)) v

-- floats that come after those of a list; none of them is marked
abbrev pub with_floats_after : Part → List Float → FloatPool → FloatPool
with_floats_after p fs v = with_contents p (v.lists.current ++ float_entries fs) (floats_of p v.lists ++ fs) (marks_of p v ++ replicate (length fs) false) v

-- floats that come before those of a list; none of them is marked
abbrev pub with_floats_before : Part → List Float → FloatPool → FloatPool
with_floats_before p fs v = with_contents p (float_entries fs ++ v.lists.current) (fs ++ floats_of p v.lists) (replicate (length fs) false ++ marks_of p v) v

-- all entries have left the list
abbrev pub without_entries : Part → FloatPool → FloatPool
without_entries p v = with_contents p [] [] [] v

-- no entry of the list is marked
abbrev pub without_marks : Part → FloatPool → FloatPool
without_marks p v = with_marks_of p (replicate (length (marks_of p v)) false) v

-- a float goes from its place to the end of another list, and loses its mark
abbrev pub moved_float : Part → ℕ → Part → Float → FloatPool → FloatPool
moved_float from k to f v = with_floats_after to (f ∷ []) (without_entry from k v)

-- the floats of one list go before those of another, and lose their marks
abbrev pub joined_before : Part → Part → FloatPool → FloatPool
joined_before from to v = with_floats_before to (floats_of from v.lists) (without_entries from v)

-- the float may go elsewhere from now on
abbrev pub with_places : Places → Float → Float
with_places places f = record f { places = places }

-- another float is at a place
abbrev pub with_float_at : Part → ℕ → Float → FloatPool → FloatPool
with_float_at p k f v = with_contents p (slice_set v.lists.current k (entries.Float f)) (slice_set (floats_of p v.lists) k f) (marks_of p v) v

-- the float at a place of a list is chosen for a column of floats
abbrev pub with_mark : Part → ℕ → FloatPool → FloatPool
with_mark from k v = with_marks_of from (slice_set (marks_of from v) k true) v

-- the marks, of which the first are set if their flags are
abbrev pub flagged : List Bool → List Bool → List Bool
flagged [] ms = ms
flagged (b ∷ bs) [] = []
flagged (b ∷ bs) (m ∷ ms) = (b || m) ∷ flagged bs ms

-- the floats of a list from a place on are chosen for a column of floats if their flags are set
abbrev pub with_flags : Part → ℕ → List Bool → FloatPool → FloatPool
with_flags from k bs v = with_marks_of from (take k (marks_of from v) ++ flagged bs (drop k (marks_of from v))) v

-- the floats whose marks are set; a float without a mark counts as not marked
abbrev pub marked_among : List Bool → List Float → List Float
marked_among [] fs = []
marked_among (m ∷ ms) [] = []
marked_among (m ∷ ms) (f ∷ fs) = if m then f ∷ marked_among ms fs else marked_among ms fs

-- the floats whose marks are not set, those without a mark among them
abbrev pub unmarked_among : List Bool → List Float → List Float
unmarked_among [] fs = fs
unmarked_among (m ∷ ms) [] = []
unmarked_among (m ∷ ms) (f ∷ fs) = if m then unmarked_among ms fs else f ∷ unmarked_among ms fs

-- the floats of a list that are chosen for a column of floats
abbrev pub marked_floats : Part → FloatPool → List Float
marked_floats from v = marked_among (marks_of from v) (floats_of from v.lists)

-- the floats of a list that are not chosen
abbrev pub unmarked_floats : Part → FloatPool → List Float
unmarked_floats from v = unmarked_among (marks_of from v) (floats_of from v.lists)

-- no float is chosen
pub record HasNoMarks (v : FloatPool) : Type 0 where
  pub deferred : marked_floats parts.Deferred v ≡ []
  pub second : marked_floats parts.Second v ≡ []

-- the place of the first mark that is set
abbrev pub first_marked : List Bool → ℕ
first_marked [] = 0
first_marked (m ∷ ms) = if m then 0 else suc (first_marked ms)
