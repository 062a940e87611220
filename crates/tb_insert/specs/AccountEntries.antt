-- What an account keeps of a class and of a page (TeX: The Program §1008 to §1010).
use Rattle.std.specs.Prelude.{◌≡◌, ℕ, ℤ, pos, ◌<◌, ◌+ℤ◌, ◌-ℤ◌, ◌==◌, Bool, true, false, ◌&&◌, List, [], ◌∷◌, map, length, Option, None, Some, nat_lt, nat_le, int_le, ◌||◌, slice_index_or, if◌then◌else◌}
use Rattle.std.specs.List.{list_any}
use Rattle.tb_node.specs.PlainNodes.{Inserted, PlainNode, node_shape}
use Rattle.tb_node.specs.Sums.{sums_of}
use Rattle.tb_node.specs.declared.Sums.{Sums}
use Rattle.tb_node.specs.NodeSums.{stretched_sums}
use Rattle.tb_break.specs.Scan.{Scanned}
use Rattle.tb_scaled.specs.Scaled.{min_ℤ}
use Rattle.tb_insert.specs.declared.Class.{Class}
use Rattle.tb_insert.specs.declared.Entry.{Entry}
use Rattle.tb_insert.specs.declared.Account.{Account}
use Rattle.tb_insert.specs.Terms.{sums_with}
use Rattle.tb_insert.specs.Account.{ClassBox, Frozen, Label, whole, split, late, Labelled, insertions, is_met, has_split, class_box, class_height, labelled, terms_after, scaled_by, label_where, clamped, unscaled_room}

-- ---- the classes

-- one of the classes has this number
abbrev pub numbered : List ClassBox → ℕ → Bool
numbered cs k = list_any (λ c. c.class.number == k) cs

-- the numbers of the classes differ
abbrev pub Differ : List ClassBox → Type 0
Differ [] = Unit {0}
Differ (c ∷ cs) = (numbered cs c.class.number ≡ false) × Differ cs

-- a class, with a box of this size
abbrev pub boxed : Class → ℤ → ClassBox
boxed class size = record { class = class; size = size }

-- ---- the last insertion that was let in, and where one is split

-- the insertion is let in: it goes whole or is split
abbrev pub is_let_in : Label → Bool
is_let_in whole = true
is_let_in (split f) = true
is_let_in late = false

-- the place at which an insertion is split, if that is before its list's end
abbrev pub split_before_end : Label → Inserted → Option ℕ
split_before_end whole i = None
split_before_end (split f) i = if nat_lt f.index (length i.inner) then Some f.index else None
split_before_end late i = None

-- the place of the last insertion of the class that was let in among these, or o if there is none
abbrev pub last_from : Option ℕ → List Labelled → ℕ → Option ℕ
last_from o [] k = o
last_from o (l ∷ ls) k = last_from (if (l.inserted.class == k) && is_let_in l.label then Some l.index else o) ls k

-- the place of the last insertion of the class that was let in among these, if there is one
abbrev pub last_let_in : List Labelled → ℕ → Option ℕ
last_let_in ls k = last_from None ls k

-- the first of the two that is some
abbrev pub or_else : {X : Type 0} → Option X → Option X → Option X
or_else None o = o
or_else (Some x) o = Some x

-- the insertion at this place with its break, if it has one
abbrev pub cut_there : ℕ → Option ℕ → Option (ℕ × ℕ)
cut_there index None = None
cut_there index (Some p) = Some (index, p)

-- a labelled insertion of class k with its break, if it has one; none if it is of another class
abbrev pub cut_of_one : Labelled → ℕ → Option (ℕ × ℕ)
cut_of_one l k = if l.inserted.class == k then cut_there l.index (split_before_end l.label l.inserted) else None

-- the insertion of the class that is split before its list's end, with the place of its break
abbrev pub cut_in : List Labelled → ℕ → Option (ℕ × ℕ)
cut_in [] k = None
cut_in (l ∷ ls) k = or_else (cut_of_one l k) (cut_in ls k)

-- ---- what is kept

-- there is such an insertion, and the place is not after it
abbrev pub reaches : Option ℕ → ℕ → Bool
reaches None i = false
reaches (Some m) i = nat_le i m

-- the last insertion let in up to the mark: the last of all if it is up to the mark, else the earlier one
abbrev pub last_at : Option ℕ → Option ℕ → Option ℕ → Option ℕ
last_at mark None earlier = None
last_at mark (Some i) earlier = if reaches mark i then Some i else earlier

-- the split insertion, if it came up to the mark
abbrev pub cut_up_to : Option ℕ → Option (ℕ × ℕ) → Option (ℕ × ℕ)
cut_up_to mark None = None
cut_up_to mark (Some c) = if reaches mark c.0 then Some c else None

-- the place of the last of these insertions
abbrev pub last_place : List Labelled → Option ℕ
last_place [] = None
last_place (l ∷ ls) = or_else (last_place ls) (Some l.index)

-- the place, if there is one, is at most that of the newest
abbrev pub IsUpTo : Option ℕ → Option ℕ → Type 0
IsUpTo newest None = Unit {0}
IsUpTo newest (Some i) = reaches newest i ≡ true

-- the split insertion, if there is one, is not after the newest
abbrev pub IsCutUpTo : Option ℕ → Option (ℕ × ℕ) → Type 0
IsCutUpTo newest None = Unit {0}
IsCutUpTo newest (Some c) = reaches newest c.0 ≡ true

-- the entry of a class that has no insertion yet
abbrev pub blank_entry : Entry
blank_entry = record { met = false; split = false; height = pos 0; last = None; marked = None; cut = None }

-- the entry of a class on this page: what is left from an earlier page does not count
abbrev pub entry_of : Account → ℕ → Entry
entry_of a k = if slice_index_or a.on_page k false then slice_index_or a.entries k blank_entry else blank_entry

-- the entry of a class is that of the labelled insertions, and of those at the mark
pub record EntryStands (e : Entry) (z : Frozen) (newest mark : Option ℕ) (ls marked : List Labelled) (k : ℕ) : Type 0 where
  pub met : e.met ≡ is_met (insertions ls) k
  pub split : e.split ≡ has_split ls k
  pub height : e.met ≡ true → e.height ≡ class_height z.classes ls k
  pub last : e.last ≡ last_let_in ls k
  pub last_before : IsUpTo newest e.last
  pub last_marked : last_at mark e.last e.marked ≡ last_let_in marked k
  pub cut : e.cut ≡ cut_in ls k
  pub cut_before : IsCutUpTo newest e.cut
  pub cut_marked : cut_up_to mark e.cut ≡ cut_in marked k

-- this is the account of this list of a page, and at its last mark of that list (the empty one, if there was no mark),
-- under a frozen goal, a depth limit, classes and box sizes
pub record IsAccountOf (a : Account) (z : Frozen) (page marked : List PlainNode) : Type 0 where
  pub differ : Differ z.classes
  pub goal : a.goal ≡ (terms_after z page).goal
  pub penalties : a.penalties ≡ (terms_after z page).penalties
  pub entries : (k : ℕ) → k < 256 → EntryStands (entry_of a k) z a.newest a.mark (labelled z page) (labelled z marked) k
  pub newest : (i : ℕ) → reaches a.newest i ≡ true → i < length page
  pub mark : (i : ℕ) → reaches a.mark i ≡ true → reaches a.newest i ≡ true
  pub newest_is : a.newest ≡ last_place (labelled z page)
  pub mark_is : a.mark ≡ last_place (labelled z marked)

-- the goal that an account has
abbrev pub goal_of : Account → ℤ
goal_of a = a.goal

-- the insert penalties that an account has
abbrev pub penalties_in : Account → ℤ
penalties_in a = a.penalties

-- the scan has the sums of this list of a page, with the stretch and the shrink of the skips of its classes
pub record IsScanOfPage (s : Scanned) (z : Frozen) (page : List PlainNode) : Type 0 where
  pub under : s.max_depth ≡ z.limit
  pub sums : s.sums ≡ sums_with (sums_of z.limit (map node_shape page)) (terms_after z page)

-- an insertion of this class comes to the list's end; the class and the size of its box are those of its number
pub record ComesTo (z : Frozen) (page : List PlainNode) (s : Scanned) (class : Class) (size : ℤ) (index : ℕ) : Type 0 where
  pub numbered_so : numbered z.classes class.number ≡ true
  pub own : class_box z.classes class.number ≡ boxed class size
  pub place : index ≡ length page
  pub scan : IsScanOfPage s z page

-- ---- what an account finds for an insertion

-- the scaled height fits into what is left, and the class stays within its limit
abbrev pub goes_whole : ℤ → ℤ → ℤ → ℤ → ℤ → ℤ → Bool
goes_whole scaled room shrink height v limit = (int_le scaled (pos 0) || int_le scaled (room +ℤ shrink)) && int_le (height +ℤ v) limit

-- the height to which an insertion is split
abbrev pub split_height : ℤ → ℤ → ℤ → ℤ
split_height factor room left = clamped (min_ℤ (unscaled_room factor room) left)

-- the goal once the class of an insertion is met: what its box holds, scaled, and the width of its skip are taken off,
-- unless the class was met before
abbrev pub met_goal : Bool → ℤ → Class → ℤ → ℤ
met_goal met goal class size = if met then goal else goal -ℤ (scaled_by class.factor size +ℤ class.skip.width)

-- the scan then: the stretch and shrink of the skip are added, unless the class was met before
abbrev pub met_scan : Bool → Scanned → Class → Scanned
met_scan met s class = if met then s else record s { sums = stretched_sums s.sums class.skip }

-- the height of the class then: the size of its box, unless the class was met before
abbrev pub met_height : Bool → ℤ → ℤ → ℤ
met_height met height size = if met then height else size

-- the label of an insertion, by the entry of its class
abbrev pub label_by : Bool → Class → ℤ → ℤ → Sums → Inserted → Label
label_by sp class goal height s i = if sp then late else label_where (boxed class height) goal height s s.shrink i
