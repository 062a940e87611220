-- Laws of whole runs.
use Rattle.std.specs.Prelude.{◌≡◌, ◌<ℤ◌, ℕ, ℤ, pos, ◌+◌, ◌+ℤ◌, ◌==◌, nat_lt, Bool, true, false, not, ◌||◌, ◌&&◌, IsTrue, List, [], ◌∷◌, ◌++◌, length, map, filter, IsPermutation, if◌then◌else◌}
use Rattle.std.specs.List.{list_any, AllByRecursion}
use Rattle.std.specs.Bool.{beq}
use Rattle.tb_scaled.specs.Scaled.{fraction_of}
use Rattle.tb_node.specs.declared.RuleOf.TheVariants as rules
use Rattle.tb_node.specs.declared.What.TheVariants as what
use Rattle.tb_node.specs.declared.Where.{Where}
use Rattle.tb_node.specs.declared.Where.TheVariants as places
use Rattle.tb_node.specs.declared.Float.{Float}
use Rattle.tb_node.specs.PlainNodes.{hbox, rule, PlainKind, plain, PlainNode}
use Rattle.tb_param.specs.declared.Params.{Params}
use Rattle.tb_param.specs.Release.{has_second}
use Rattle.tb_galley.specs.declared.Leaf.{Leaf}
use Rattle.tb_galley.specs.declared.LeafKind.{LeafKind}
use Rattle.tb_galley.specs.declared.LeafKind.TheVariants as leaves
use Rattle.tb_galley.specs.declared.Item.{Item}
use Rattle.tb_galley.specs.declared.ItemKind.{ItemKind}
use Rattle.tb_galley.specs.declared.ItemKind.TheVariants as items
use Rattle.tb_galley.specs.declared.Galley.{Galley}
use Rattle.tb_galley.specs.Valid.{IsValid}
use Rattle.tb_galley.specs.GalleyNodes.{two_after}
use Rattle.tb_float.specs.Lists.{FloatLists, no_floats}
use Rattle.tb_float.specs.Rooms.{area_taken, double_taken}
use Rattle.tb_report.specs.declared.Totals.{Totals}
use Rattle.tb_column.specs.Column.{PlainColumn}
use Rattle.tb_sheet.specs.Sheet.{warned, shipped}
use Rattle.tb_output.specs.State.{Recorded, placed, output, emptied}
use Rattle.tb_report.specs.RunTotals.{sheet_nodes}
use Rattle.tb_laws.specs.Totals.{totals_of}
use Rattle.tb_laws.specs.DviFiles.{FileListsPages}
use Rattle.tb_steps.specs.Run.{Run, End, done, run_of}
use Rattle.tb_items.specs.RunEvents.{RunEvent, offered, sent}

-- ---- what a galley has, by lines

-- the line of a box or rule in a foot; none for its glue, kerns and penalties
abbrev pub leaf_boxes : ℕ → LeafKind → List ℕ
leaf_boxes n (leaves.Hbox name h d) = n ∷ []
leaf_boxes n (leaves.Rule name h d) = n ∷ []
leaf_boxes n _ = []

-- the lines of the boxes and rules of a foot
abbrev pub foot_boxes : List Leaf → List ℕ
foot_boxes [] = []
foot_boxes (l ∷ ls) = leaf_boxes l.line l.kind ++ foot_boxes ls

-- the line of a box or rule outside feet; none for another item
abbrev pub text_line : ℕ → ItemKind → List ℕ
text_line n (items.Hbox name h d) = n ∷ []
text_line n (items.Rule name h d) = n ∷ []
text_line n _ = []

-- the lines of the boxes and rules of an item that is a foot; none of another item
abbrev pub foot_line : ℕ → ItemKind → List ℕ
foot_line n (items.Foot class ls) = foot_boxes ls
foot_line n _ = []

-- the line of a marginal note; none for another item
abbrev pub note_line : ℕ → ItemKind → List ℕ
note_line n (items.Margin m vert) = n ∷ []
note_line n _ = []

-- the lines that a function of an item gives, for all items in their order
abbrev pub lines_by : (ℕ → ItemKind → List ℕ) → List Item → List ℕ
lines_by lines [] = []
lines_by lines (n ∷ ns) = lines n.line n.kind ++ lines_by lines ns

-- the float of an item, if it is one; a title over both columns is a double float of class 0
abbrev pub float_of : ItemKind → List Float
float_of (items.Float f vert) = f ∷ []
float_of (items.Head f) = f ∷ []
float_of _ = []

-- the floats of a galley, in its order
abbrev pub galley_floats : List Item → List Float
galley_floats [] = []
galley_floats (n ∷ ns) = float_of n.kind ++ galley_floats ns

-- a float as it is taken: in one column it is single
abbrev pub as_taken : Bool → Float → Float
as_taken two f = record f { wide = f.wide && two }

-- the floats as they are taken
abbrev pub taken_floats : Bool → List Item → List Float
taken_floats two [] = []
taken_floats two (n ∷ ns) = map (as_taken two) (float_of n.kind) ++ taken_floats (two_after two n.kind) ns

-- the lines of floats
abbrev pub float_lines : List Float → List ℕ
float_lines [] = []
float_lines (f ∷ fs) = f.line ∷ float_lines fs

-- ---- what a run ships, in order

-- by page; on a page the double floats, and then the columns from left to right
abbrev pub shipped_nodes : List RunEvent → List PlainNode
shipped_nodes [] = []
shipped_nodes (offered t ∷ es) = shipped_nodes es
shipped_nodes (sent (warned w) ∷ es) = shipped_nodes es
shipped_nodes (sent (shipped page sheet) ∷ es) = sheet_nodes sheet ++ shipped_nodes es

-- the line of a node if it is a box or rule of the galley
abbrev pub box_lines_of : ℕ → PlainKind → List ℕ
box_lines_of n (plain (hbox (what.Text name) h d)) = n ∷ []
box_lines_of n (plain (rule (rules.Item name) h d)) = n ∷ []
box_lines_of n _ = []

-- the line of the float whose box a node is, if it is one
abbrev pub float_lines_of : ℕ → PlainKind → List ℕ
float_lines_of n (plain (hbox (what.Float name class place item) h d)) = item ∷ []
float_lines_of n _ = []

-- the line of the marginal note whose box a node is, if it is one
abbrev pub note_lines_of : ℕ → PlainKind → List ℕ
note_lines_of n (plain (hbox (what.Margin name side item shift height depth) h d)) = item ∷ []
note_lines_of n _ = []

-- the lines that a function of a node gives, for all nodes in their order
abbrev pub node_lines : (ℕ → PlainKind → List ℕ) → List PlainNode → List ℕ
node_lines lines [] = []
node_lines lines (n ∷ ns) = lines n.line n.kind ++ node_lines lines ns

-- the number is in the list
abbrev pub is_in : List ℕ → ℕ → Bool
is_in xs n = list_any (λ x. x == n) xs

-- the lines of the boxes and rules of the galley that a run ships, in the order in which it ships them
abbrev pub shipped_boxes : Run → List ℕ
shipped_boxes r = node_lines box_lines_of (shipped_nodes r.events)

-- the lines of the floats that a run ships
abbrev pub shipped_floats : Run → List ℕ
shipped_floats r = node_lines float_lines_of (shipped_nodes r.events)

-- each box, rule, float and note ships once, and the text in order
pub record ShipsOnce (g : Galley) (r : Run) : Type 0 where
  pub text : filter (λ n. not (is_in (lines_by foot_line g.items) n)) (shipped_boxes r) ≡ lines_by text_line g.items
  pub feet : IsPermutation (filter (is_in (lines_by foot_line g.items)) (shipped_boxes r)) (lines_by foot_line g.items)
  pub floats : IsPermutation (shipped_floats r) (float_lines (galley_floats g.items))
  pub notes : IsPermutation (node_lines note_lines_of (shipped_nodes r.events)) (lines_by note_line g.items)

-- ---- the order of a class

-- the column has the box of the float of this line
abbrev pub holds_float : ℕ → PlainColumn → Bool
holds_float line c = is_in (node_lines float_lines_of c.nodes) line

-- in records after k columns of the run: the column that has the float is none of the first n + 1
abbrev pub is_past : ℕ → ℕ → ℕ → List Recorded → Bool
is_past line n k [] = false
is_past line n k (output c ∷ rs) = if holds_float line c then nat_lt (n + 1) (k + 1) else is_past line n (k + 1) rs
is_past line n k (placed p f place l height ∷ rs) = is_past line n k rs
is_past line n k (emptied l ∷ rs) = is_past line n k rs

-- a float is placed in the text
abbrev pub is_here : Where → Bool
is_here places.Here = true
is_here _ = false

-- in records after n columns of the run: the float of this line is placed in the text, and ships in a later column than the next one
abbrev pub is_carried_from : ℕ → ℕ → List Recorded → List Recorded → Bool
is_carried_from line n all [] = false
is_carried_from line n all (output c ∷ rs) = is_carried_from line (n + 1) all rs
is_carried_from line n all (placed p f place l height ∷ rs) =
    ((f.line == line) && is_here place && is_past line n 0 all) || is_carried_from line n all rs
is_carried_from line n all (emptied l ∷ rs) = is_carried_from line n all rs

-- a break carried the float past the column in which it was placed
abbrev pub is_carried : Run → ℕ → Bool
is_carried r line = is_carried_from line 0 r.records r.records

-- a is in the list, and b after it
abbrev pub comes_before : ℕ → ℕ → List ℕ → Bool
comes_before a b [] = false
comes_before a b (x ∷ xs) = ((x == a) && is_in xs b) || comes_before a b xs

-- two floats are of one kind: of one class, and in release 2014 of one width
abbrev pub same_kind : Params → Float → Float → Bool
same_kind p f h = (f.class == h.class) && (not (has_second p) || beq f.wide h.wide)

-- the float ships before each later one of its kind, or was carried
abbrev pub IsFirstOf : Params → Run → Float → List Float → Type 0
IsFirstOf p r f later = AllByRecursion (λ h. IsTrue (same_kind p f h) → IsTrue (comes_before f.line h.line (shipped_floats r) || is_carried r f.line)) later

-- each float ships before each later one of its kind, or was carried
abbrev pub KeepsClassOrder : Params → Run → List Float → Type 0
KeepsClassOrder p r [] = Unit {0}
KeepsClassOrder p r (f ∷ fs) = IsFirstOf p r f fs × KeepsClassOrder p r fs

-- ---- the limits of an area

-- how many floats are in the text, at the top and at the bottom
abbrev pub in_text_count : FloatLists → ℕ
in_text_count l = length l.here + length l.top + length l.bottom

-- what is taken of an area is with a further height less than its share, and it holds fewer floats than it may
pub record WithinArea (taken share number : ℤ) (held : ℕ) (height : ℤ) : Type 0 where
  pub room : (taken +ℤ height) <ℤ share
  pub count : pos held <ℤ number

-- what holds when a float without the mark `!` is placed, with the lists and the column height just before
abbrev pub PlacedWithin : Params → Float → FloatLists → ℤ → Where → Type 0
PlacedWithin p f l height places.Here = pos (in_text_count l) <ℤ p.totalnumber
PlacedWithin p f l height places.Top = WithinArea (area_taken p l.top) (fraction_of p.topfraction height) p.topnumber (length l.top) f.height × (pos (in_text_count l) <ℤ p.totalnumber)
PlacedWithin p f l height places.Bottom = WithinArea (area_taken p l.bottom) (fraction_of p.bottomfraction height) p.bottomnumber (length l.bottom) f.height × (pos (in_text_count l) <ℤ p.totalnumber)
PlacedWithin p f l height places.Double = WithinArea (double_taken p l) (fraction_of p.dbltopfraction p.textheight) p.dbltopnumber (length l.double) f.height
PlacedWithin p f l height places.Page = Unit {0}
PlacedWithin p f l height places.Deferred = Unit {0}

-- a float without `!` was placed within its limits, by the parameters that held when it was placed; nothing is required of other records
abbrev pub KeepsLimits : Recorded → Type 0
KeepsLimits (placed p f place l height) = IsTrue (not f.bang) → PlacedWithin p f l height place
KeepsLimits (output c) = Unit {0}
KeepsLimits (emptied l) = Unit {0}

-- ---- the lists at a change of columns, where a measure is set, and at the end

-- at a change of columns, where an item sets a measure, or at the end of a run that ends well, all float lists are empty; nothing is required of other records
abbrev pub IsEmptied : Recorded → Type 0
IsEmptied (placed p f place l height) = Unit {0}
IsEmptied (output c) = Unit {0}
IsEmptied (emptied l) = l ≡ no_floats

-- each run of a valid galley records empty lists alone, whatever its end
abbrev pub ListsAreEmptied : Type 0
ListsAreEmptied = (g : Galley) → IsValid g → AllByRecursion IsEmptied (run_of g).records

-- the run ends well
abbrev pub EndsDone : End → Type 0
EndsDone (done left) = Unit {0}
EndsDone _ = ⊥

-- each box, rule, float and note of a valid galley ships once, if its run ends well
abbrev pub EachShipsOnce : Type 0
EachShipsOnce = (g : Galley) → IsValid g → EndsDone (run_of g).end → ShipsOnce g (run_of g)

-- the totals are those of the galley: its boxes and rules, those in feet counted, and its floats
pub record HasTotals (g : Galley) (t : Totals) : Type 0 where
  pub boxes : t.boxes ≡ length (lines_by text_line g.items) + length (lines_by foot_line g.items)
  pub floats : t.floats ≡ length (galley_floats g.items)

-- a run that ends well has the totals of its galley
abbrev pub TotalsAreKept : Type 0
TotalsAreKept = (g : Galley) → IsValid g → EndsDone (run_of g).end → HasTotals g (totals_of (run_of g).events)

-- the floats of each kind of a valid galley ship in the galley's order, but for those that a break carried, if its run ends well
abbrev pub ClassesKeepOrder : Type 0
ClassesKeepOrder = (g : Galley) → IsValid g → EndsDone (run_of g).end → KeepsClassOrder g.params (run_of g) (taken_floats false g.items)

-- no record of the run places a float without `!` past the limits of its list, as they are when it is placed
abbrev pub WithinLimits : Run → Type 0
WithinLimits r = AllByRecursion KeepsLimits r.records

-- no run places a float without the mark `!` past the limits of its list
abbrev pub LimitsHold : Type 0
LimitsHold = (g : Galley) → WithinLimits (run_of g)

-- the DVI file of a valid galley whose run ends well lists the placements of the run
abbrev pub FilesListTheirPages : Type 0
FilesListTheirPages = (g : Galley) → IsValid g → EndsDone (run_of g).end → FileListsPages g

-- the laws of the run of a galley that ended well with these totals: each box, rule, float and note ships once, and the
-- totals are the galley's; floats of one kind keep their order, but for those that a break carried; no area takes a float
-- past its limits; all float lists are empty at each change of columns, at each measure that is set, and at the end; its
-- DVI file lists its placements
pub record KeepsLaws (g : Galley) (t : Totals) : Type 0 where
  pub ships_once : ShipsOnce g (run_of g)
  pub totals : HasTotals g t
  pub class_order : KeepsClassOrder g.params (run_of g) (taken_floats false g.items)
  pub area_limits : WithinLimits (run_of g)
  pub empty_lists : AllByRecursion IsEmptied (run_of g).records
  pub dvi_file : FileListsPages g
