-- What the laws of the summary say of its stories: where they landed, and for how many sheets their reasons count.
use Rattle.std.specs.Prelude.{◌≡◌, ◌⊎◌, ⊤, ℕ, ◌+◌, ◌≤◌, Bool, true, false, List, [], ◌∷◌, ◌++◌, Option, Some, None, is_some, if◌then◌else◌}
use Rattle.std.specs.List.{AllByRecursion}
use Rattle.tb_node.specs.declared.What.{What}
use Rattle.tb_node.specs.declared.What.TheVariants as what
use Rattle.tb_node.specs.declared.Where.{Where}
use Rattle.tb_node.specs.PlainNodes.{hbox, PlainKind, plain, PlainNode}
use Rattle.tb_sheet.specs.Sheet.{PlainSheet, one, wide, two, PlainSent, warned, shipped}
use Rattle.tb_items.specs.RunEvents.{offered, sent}
use Rattle.tb_told.specs.declared.ToldColumn.{ToldColumn}
use Rattle.tb_told.specs.declared.ToldColumn.TheVariants.{Heads, Joins, Companied, Takes}
use Rattle.tb_told.specs.declared.Tale.{Tale}
use Rattle.tb_told.specs.declared.Tale.TheVariants.{Waits, Calls, Decides, InColumn, Back, Stands, PutOut}
use Rattle.tb_story.specs.declared.Group.{Group}
use Rattle.tb_story.specs.declared.Noted.{Noted}
use Rattle.tb_story.specs.declared.Cause.{Cause}
use Rattle.tb_story.specs.declared.Cause.TheVariants as causes
use Rattle.tb_story.specs.declared.Kept.{Kept}
use Rattle.tb_told.specs.declared.Test.TheVariants as tests
use Rattle.tb_told.specs.declared.Told.{Told}
use Rattle.tb_told.specs.declared.Told.TheVariants.{Enters, TestsWide}
use Rattle.tb_node.specs.declared.Float.{Float}
use Rattle.tb_story.specs.Story.{StoryView, waits, is_story_of, or_else, last_of}
use Rattle.tb_story.specs.Summary.{SummaryView, noted_of, after_tale}
use Rattle.tb_story.specs.Counts.{open_times}
use Rattle.tb_why.specs.WhyRun.{Shown, happens, tells}
use Rattle.tb_why.specs.Summary.{after_event, after_shown}

-- ---- where a story landed

-- the box is that of the float of a line, at a place
abbrev pub IsBoxOf : ℕ → Where → What → Type 0
IsBoxOf line place (what.Float name class at item) = (at ≡ place) × (item ≡ line)
IsBoxOf line place w = ⊥

-- the node is that box
abbrev pub IsNodeOf : ℕ → Where → PlainKind → Type 0
IsNodeOf line place (plain (hbox w h d)) = IsBoxOf line place w
IsNodeOf line place k = ⊥

-- it is among these nodes
abbrev pub HasFloat : ℕ → Where → List PlainNode → Type 0
HasFloat line place [] = ⊥
HasFloat line place (n ∷ ns) = IsNodeOf line place n.kind ⊎ HasFloat line place ns

-- it is on the page
abbrev pub HoldsFloat : ℕ → Where → PlainSheet → Type 0
HoldsFloat line place (one c) = HasFloat line place c.nodes
HoldsFloat line place (wide c) = HasFloat line place c.nodes
HoldsFloat line place (two tops at left right) = HasFloat line place tops ⊎ (HasFloat line place left.nodes ⊎ HasFloat line place right.nodes)

-- page n is sent with it
abbrev pub IsSentWith : ℕ → ℕ → Where → PlainSent → Type 0
IsSentWith line n place (warned w) = ⊥
IsSentWith line n place (shipped page sheet) = (page ≡ n) × HoldsFloat line place sheet

-- it is shown that page n is sent with it
abbrev pub IsShownWith : ℕ → ℕ → Where → Shown → Type 0
IsShownWith line n place (tells t) = ⊥
IsShownWith line n place (happens (offered t)) = ⊥
IsShownWith line n place (happens (sent e)) = IsSentWith line n place e

-- page n was shipped with the box of the float of this line, at this place
abbrev pub HasShipped : ℕ → ℕ → Where → List Shown → Type 0
HasShipped line n place [] = ⊥
HasShipped line n place (x ∷ xs) = IsShownWith line n place x ⊎ HasShipped line n place xs

-- if a story landed on a page, at a place, this holds of its line, the page and the place
abbrev pub LandedBy : (ℕ → ℕ → Where → Type 0) → ℕ → Where → Option ℕ → Type 0
LandedBy Holds line place None = ⊤
LandedBy Holds line place (Some n) = Holds line n place

abbrev pub IsLanded : (ℕ → ℕ → Where → Type 0) → StoryView → Type 0
IsLanded Holds s = LandedBy Holds s.float.line s.place s.landed

-- each story that landed did so where its float was shipped
abbrev pub AreLandedAsShipped : List Shown → List StoryView → Type 0
AreLandedAsShipped xs ss = AllByRecursion (IsLanded (λ line n place. HasShipped line n place xs)) ss

-- ---- which floats a tale keeps back or places

-- the lines of the floats that are noted
abbrev pub noted_lines : List Noted → List ℕ
noted_lines [] = []
noted_lines (n ∷ ns) = n.float.line ∷ noted_lines ns

-- of what is told of a column of floats: a company that is made keeps those that head none and those that stay behind
abbrev pub column_lines : ToldColumn → SummaryView → List ℕ
column_lines (Heads f t) m = f.line ∷ []
column_lines (Joins f t) m = []
column_lines (Companied f t) m = f.line ∷ (noted_lines m.alone ++ noted_lines m.passed)
column_lines (Takes f) m = f.line ∷ []

-- of a tale
abbrev pub moved_lines : Tale → SummaryView → List ℕ
moved_lines (Decides f t) m = f.line ∷ []
moved_lines (Back f place) m = f.line ∷ []
moved_lines (InColumn t) m = column_lines t m
moved_lines t m = []

-- ---- for how many sheets the reasons of a story count

-- these reasons
abbrev pub times_over : List Group → ℕ
times_over [] = 0
times_over (g ∷ gs) = g.times + times_over gs

-- all of its reasons: the sum of its times
abbrev pub times_of : StoryView → ℕ
times_of s = times_over s.groups + open_times s.group

-- up to which sheet they count: while the float waits, up to now; else up to where it was placed, or stands
abbrev pub counted_to : ℕ → StoryView → ℕ
counted_to sheets s = if waits s then sheets else s.put

-- if so many sheets had been put out at its call, the sum of its times is the number of sheets since then
pub record IsTimed (sheets before : ℕ) (s : StoryView) : Type 0 where
  pub times : before + times_of s ≡ counted_to sheets s
  pub placed : s.put ≤ sheets

-- the same of each story, with the sheets at its call
abbrev pub AreTimed : ℕ → List ℕ → List StoryView → Type 0
AreTimed sheets [] [] = ⊤
AreTimed sheets [] (s ∷ ss) = ⊥
AreTimed sheets (b ∷ bs) [] = ⊥
AreTimed sheets (b ∷ bs) (s ∷ ss) = IsTimed sheets b s × AreTimed sheets bs ss

-- ---- sheets and calls

-- how many sheets there are once this is shown
abbrev pub sheets_after : Shown → ℕ → ℕ
sheets_after (tells PutOut) n = n + 1
sheets_after x n = n

-- and once all these are
abbrev pub sheets_of : ℕ → List Shown → ℕ
sheets_of n [] = n
sheets_of n (x ∷ xs) = sheets_of (sheets_after x n) xs

-- the number of sheets, if a float is called or begins to wait
abbrev pub if_called : Shown → ℕ → List ℕ
if_called (tells (Waits at f)) n = n ∷ []
if_called (tells (Calls at f height)) n = n ∷ []
if_called x n = []

-- the number of sheets at each call, in the order of the calls
abbrev pub sheets_at_calls : ℕ → List Shown → List ℕ
sheets_at_calls n [] = []
sheets_at_calls n (x ∷ xs) = if_called x n ++ sheets_at_calls (sheets_after x n) xs

-- ---- what is shown in order

-- if the story is of this line, its float waits, or was placed since the last sheet
abbrev pub IsCurrent : ℕ → ℕ → StoryView → Type 0
IsCurrent sheets line s = is_story_of line s ≡ true → counted_to sheets s ≡ sheets

abbrev pub AreCurrent : List StoryView → ℕ → ℕ → Type 0
AreCurrent ss sheets line = AllByRecursion (IsCurrent sheets line) ss

-- if the story is of this line, its float does not wait
abbrev pub IsPlaced : ℕ → StoryView → Type 0
IsPlaced line s = is_story_of line s ≡ true → waits s ≡ false

-- if the float waits, it has a reason
abbrev pub HasReason : StoryView → Type 0
HasReason s = waits s ≡ true → is_some s.last ≡ true

-- if the float waits, its box is not on the page
abbrev pub IsNotOn : (ℕ → Where → Type 0) → StoryView → Type 0
IsNotOn Holds s = waits s ≡ true → (place : Where) → Holds s.float.line place → ⊥

-- where a column is put out, each float that waits has a reason; one that stands in its text does not wait; and what is kept
-- back or placed waits, or was placed since the last sheet
abbrev pub IsTaleInOrder : Tale → SummaryView → Type 0
IsTaleInOrder PutOut m = AllByRecursion HasReason m.stories
IsTaleInOrder (Stands line) m = AllByRecursion (IsPlaced line) m.stories
IsTaleInOrder t m = AllByRecursion (λ line. AreCurrent m.stories m.sheets line) (moved_lines t m)

-- a page that is sent holds no float that waits
abbrev pub IsSentInOrder : PlainSent → SummaryView → Type 0
IsSentInOrder (warned w) m = ⊤
IsSentInOrder (shipped page sheet) m = AllByRecursion (IsNotOn (λ line place. HoldsFloat line place sheet)) m.stories

abbrev pub IsShownInOrder : Shown → SummaryView → Type 0
IsShownInOrder (tells t) m = IsTaleInOrder t m
IsShownInOrder (happens (offered t)) m = ⊤
IsShownInOrder (happens (sent e)) m = IsSentInOrder e m

-- all that is shown, from this summary on
abbrev pub IsOrderly : List Shown → SummaryView → Type 0
IsOrderly [] m = ⊤
IsOrderly (x ∷ xs) m = IsShownInOrder x m × IsOrderly xs (after_shown x m)

-- ---- the float at fault

-- the cause is the test of classes
abbrev pub names_class : Cause → Bool
names_class (causes.Failed tests.Class) = true
names_class c = false

-- by the test of classes: the root is the float itself if none is in the way, and else the float in the way, which has no reason
abbrev pub IsByClass : Float → Option Float → (Float → Option Kept) → Kept → Type 0
IsByClass f None reason k = k.root ≡ f
IsByClass f (Some b) reason k = (k.root ≡ b) × (reason b ≡ None)

-- the reason is of the float that is itself at fault: by another cause it is this float, or else it is as above
abbrev pub IsAtFault : Float → Option Float → (Float → Option Kept) → Kept → Type 0
IsAtFault f way reason k = ((names_class k.cause ≡ false) × (k.root ≡ f)) ⊎ IsByClass f way reason k

-- the float that is in the way of a decision, where it is followed
abbrev pub way_told : Told → Option Float
way_told (Enters t) = t.blocker
way_told (TestsWide t) = t.blocker
way_told t = None

-- why the float in the way heads no column, or what kept it before
abbrev pub reason_of_head : SummaryView → Float → Option Kept
reason_of_head m b = or_else (noted_of b.line m.alone) (last_of b.line m.stories)

-- what is told of a column of floats tells of the float at fault
abbrev pub IsColumnFault : ToldColumn → SummaryView → Kept → Type 0
IsColumnFault (Heads f t) m k = IsAtFault f t.blocker (λ b. reason_of_head m b) k
IsColumnFault (Joins f t) m k = IsAtFault f t.blocker (λ b. or_else (noted_of b.line m.passed) (reason_of_head m b)) k
IsColumnFault (Companied f t) m k = IsAtFault f None (λ b. None) k
IsColumnFault (Takes f) m k = ⊥

-- the tale tells this reason of the float that is at fault
abbrev pub TellsFault : Tale → SummaryView → Kept → Type 0
TellsFault (Waits at f) m k = IsAtFault f None (λ b. None) k
TellsFault (Decides f t) m k = IsAtFault f (way_told t) (λ b. last_of b.line m.stories) k
TellsFault (InColumn t) m k = IsColumnFault t m k
TellsFault (Back f place) m k = IsAtFault f None (λ b. None) k
TellsFault (Stands line) m k = (names_class k.cause ≡ false) × (k.root.line ≡ line)
TellsFault t m k = ⊥

-- one of the tales among what is shown does, from this summary on
abbrev pub IsToldOfFault : List Shown → SummaryView → Kept → Type 0
IsToldOfFault [] m k = ⊥
IsToldOfFault (tells t ∷ xs) m k = TellsFault t m k ⊎ IsToldOfFault xs (after_tale t m) k
IsToldOfFault (happens e ∷ xs) m k = IsToldOfFault xs (after_event e m) k

-- ---- the reasons of a summary

-- of a reason, if there is one
abbrev pub IfKept : (Kept → Type 0) → Option Kept → Type 0
IfKept P None = ⊤
IfKept P (Some k) = P k

abbrev pub IfGroup : (Kept → Type 0) → Option Group → Type 0
IfGroup P None = ⊤
IfGroup P (Some g) = P g.kept

-- of each reason of a story
pub record OfStory (P : Kept → Type 0) (s : StoryView) : Type 0 where
  pub last : IfKept P s.last
  pub groups : AllByRecursion (λ g. P g.kept) s.groups
  pub group : IfGroup P s.group

-- of each reason of a summary
pub record OfReasons (P : Kept → Type 0) (m : SummaryView) : Type 0 where
  pub stories : AllByRecursion (OfStory P) m.stories
  pub found : IfKept P m.found
  pub alone : AllByRecursion (λ n. P n.kept) m.alone
  pub passed : AllByRecursion (λ n. P n.kept) m.passed
