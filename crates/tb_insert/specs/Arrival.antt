-- What the arrival of an insertion changes (TeX: The Program §1008 to §1010).
use Rattle.std.specs.Prelude.{◌≡◌, ℕ, ℤ, pos, ◌≤ℤ◌, ◌+ℤ◌, ◌-ℤ◌, Bool, ◌||◌, ◌&&◌, true, false, Some, List, map, if◌then◌else◌, slice_set, slice_index_or}
use Rattle.tb_pool.specs.Lists.{Lists, IsLive, list_at}
use Rattle.tb_node.specs.declared.Node.{Node}
use Rattle.tb_node.specs.declared.Insertion.{Insertion}
use Rattle.tb_node.specs.PlainNodes.{Inserted, inserted_of, PlainNode, node_shape}
use Rattle.tb_node.specs.Sums.{sums_of}
use Rattle.tb_node.specs.SmallAmounts.{IsAmount, IsSmall}
use Rattle.tb_break.specs.SplitPlace.{shapes, NodesFit, SumsFit}
use Rattle.tb_break.specs.Scan.{Scanned}
use Rattle.tb_insert.specs.declared.Part.{Part}
use Rattle.tb_insert.specs.declared.Part.TheVariants.{Whole, Split, Late}
use Rattle.tb_insert.specs.declared.Class.{Class}
use Rattle.tb_insert.specs.declared.Entry.{Entry}
use Rattle.tb_insert.specs.declared.Account.{Account}
use Rattle.tb_insert.specs.Terms.{sums_with}
use Rattle.tb_insert.specs.Account.{Frozen, Label, whole, split, late, scaled_by, taken_by, penalty_of, is_split, class_height, labelled, terms_after}
use Rattle.tb_insert.specs.AccountEntries.{numbered, blank_entry, entry_of, met_goal, met_scan, met_height, label_by, is_let_in, last_at, or_else, cut_there, split_before_end}

-- the label that the code found
abbrev pub label_part : Part → Label
label_part Whole = whole
label_part (Split f) = split f
label_part Late = late

-- the label that an insertion gets
abbrev pub label_here : Account → Scanned → Entry → Inserted → Class → ℤ → Label
label_here a s e i class size = label_by e.split class (met_goal e.met a.goal class size) (met_height e.met e.height size) (met_scan e.met s class).sums i

-- the goal after it: what it takes is taken off, scaled
abbrev pub goal_here : Account → Scanned → Entry → Inserted → Class → ℤ → ℤ
goal_here a s e i class size = met_goal e.met a.goal class size -ℤ scaled_by class.factor (taken_by (label_here a s e i class size) i)

-- the height of its class after it
abbrev pub height_here : Account → Scanned → Entry → Inserted → Class → ℤ → ℤ
height_here a s e i class size = met_height e.met e.height size +ℤ taken_by (label_here a s e i class size) i

-- the insert penalties after it
abbrev pub penalties_here : Account → Scanned → Entry → Inserted → Class → ℤ → ℤ
penalties_here a s e i class size = a.penalties +ℤ penalty_of (label_here a s e i class size) i

-- the list of an insertion can be split
pub record InnerFits (store : Lists Node) (i : Insertion) : Type 0 where
  pub live : IsLive store i.list
  pub nodes : NodesFit (shapes store i.list)
  pub sums : SumsFit i.split_depth (shapes store i.list)
  pub depth : IsAmount i.split_depth
  pub depth_low : pos 0 ≤ℤ i.split_depth

-- the amounts of a class fit
pub record ClassFits (class : Class) : Type 0 where
  pub factor : IsAmount class.factor
  pub stretch : IsAmount class.skip.stretch
  pub shrink : IsAmount class.skip.shrink

-- the sums, the goal, the penalties and the heights of the classes after this list of a page fit
pub record PageFits (z : Frozen) (page : List PlainNode) : Type 0 where
  pub sums : IsSmall (sums_with (sums_of z.limit (map node_shape page)) (terms_after z page))
  pub goal : IsAmount (terms_after z page).goal
  pub penalties : IsAmount (terms_after z page).penalties
  pub heights : (k : ℕ) → numbered z.classes k ≡ true → IsAmount (class_height z.classes (labelled z page) k)

-- all that is added up fits, if the insertion's class has the entry e
pub record FitsWith (e : Entry) (store : Lists Node) (a : Account) (s : Scanned) (i : Insertion) (class : Class) (size : ℤ) : Type 0 where
  pub inner : InnerFits store i
  pub own : ClassFits class
  pub met_sums : IsSmall (met_scan e.met s class).sums
  pub goal : IsAmount (goal_here a s e (inserted_of (list_at store) i) class size)
  pub height : IsAmount (height_here a s e (inserted_of (list_at store) i) class size)
  pub penalties : IsAmount (penalties_here a s e (inserted_of (list_at store) i) class size)

-- all that is added up when the insertion arrives fits, by the entry that its class has
abbrev pub ArriveFits : Lists Node → Account → Scanned → Insertion → Class → ℤ → Type 0
ArriveFits store a s i class size = FitsWith (entry_of a i.class) store a s i class size

-- the account, the scan and the entry of the class, before and after
pub record Arrived (a b : Account) (s t : Scanned) (e f : Entry) (i : Inserted) (index : ℕ) (class : Class) (size : ℤ) : Type 0 where
  pub goal : b.goal ≡ goal_here a s e i class size
  pub penalties : b.penalties ≡ penalties_here a s e i class size
  pub scan : t ≡ met_scan e.met s class
  pub met : f.met ≡ true
  pub split : f.split ≡ (e.split || is_split (label_here a s e i class size))
  pub height : f.height ≡ height_here a s e i class size
  pub last : f.last ≡ (if is_let_in (label_here a s e i class size) then Some index else e.last)
  pub marked : f.marked ≡ last_at a.mark e.last e.marked
  pub cut : f.cut ≡ or_else e.cut (cut_there index (split_before_end (label_here a s e i class size) i))

-- the entry of a class after a late insertion
abbrev pub late_entry : Account → Entry → Entry
late_entry a e = record e { marked = last_at a.mark e.last e.marked }

-- the account after a late insertion of a class that is on the page, with this penalty and at this place
abbrev pub with_late : Account → ℕ → ℤ → ℕ → Account
with_late a class floating index = record a {
  on_page = slice_set a.on_page class true;
  penalties = a.penalties +ℤ floating;
  newest = Some index;
  entries = slice_set a.entries class (late_entry a (slice_index_or a.entries class blank_entry));
}

-- whether a class of the page has a split insertion, so that each further one is late
abbrev pub is_cut_off : Account → ℕ → Bool
is_cut_off a class = slice_index_or a.on_page class false && (slice_index_or a.entries class blank_entry).met && (slice_index_or a.entries class blank_entry).split

-- it has one
pub record IsCutOff (a : Account) (class : ℕ) : Type 0 where
  pub here : slice_index_or a.on_page class false ≡ true
  pub met : (slice_index_or a.entries class blank_entry).met ≡ true
  pub split : (slice_index_or a.entries class blank_entry).split ≡ true

-- the penalties after a late insertion fit
abbrev pub LateFits : Account → Insertion → Type 0
LateFits a i = IsAmount (a.penalties +ℤ i.floating)
