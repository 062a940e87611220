-- The summary: one story of each float that was called or waits, as the tales and the shipped pages tell it.
use Rattle.std.specs.Prelude.{ℕ, ℤ, pos, ◌+◌, ◌-ℤ◌, ◌+ℤ◌, Bool, false, not, ◌&&◌, ◌==◌, List, [], ◌∷◌, ◌++◌, map, Option, Some, None, if◌then◌else◌}
use Rattle.tb_node.specs.declared.Float.{Float}
use Rattle.tb_node.specs.declared.What.{What}
use Rattle.tb_node.specs.declared.What.TheVariants as what
use Rattle.tb_node.specs.declared.Where.{Where}
use Rattle.tb_node.specs.declared.Where.TheVariants as places
use Rattle.tb_node.specs.PlainNodes.{hbox, PlainKind, plain, PlainNode}
use Rattle.tb_told.specs.declared.Test.{Test}
use Rattle.tb_told.specs.declared.Test.TheVariants as tests
use Rattle.tb_told.specs.declared.Told.{Told}
use Rattle.tb_told.specs.declared.Told.TheVariants.{Enters, TestsHere, TestsTop, TestsBottom, TestsWide, Goes}
use Rattle.tb_told.specs.declared.Alone.{Alone}
use Rattle.tb_told.specs.declared.Joining.{Joining}
use Rattle.tb_told.specs.declared.Made.{Made}
use Rattle.tb_told.specs.declared.ToldColumn.{ToldColumn}
use Rattle.tb_told.specs.declared.ToldColumn.TheVariants.{Heads, Joins, Companied, Takes}
use Rattle.tb_told.specs.declared.Tale.{Tale}
use Rattle.tb_told.specs.declared.Tale.TheVariants.{Waits, Calls, Decides, Begins, InColumn, Back, Beside, Stands, PutOut}
use Rattle.tb_sheet.specs.Sheet.{PlainSheet, one, wide, two, PlainSent, warned, shipped}
use Rattle.tb_story.specs.declared.Area.{Area}
use Rattle.tb_story.specs.declared.Area.TheVariants as areas
use Rattle.tb_story.specs.declared.Cause.TheVariants as causes
use Rattle.tb_story.specs.declared.Kept.{Kept}
use Rattle.tb_story.specs.declared.Noted.{Noted}
use Rattle.tb_story.specs.Story.{StoryView, is_by_places, is_deferred, or_else, begun, kept_back, placed_at, landed_at, missed_sheet, carried, with_story, last_of}

-- the stories in their order, how many sheets there were, what failed in the areas at this decision, whether floats are
-- cleared, why floats head no column at this start, and why they stay behind a company
pub record SummaryView : Type 0 where
  pub stories : List StoryView
  pub sheets : ℕ
  pub found : Option Kept
  pub clearing : Bool
  pub alone : List Noted
  pub passed : List Noted

abbrev pub no_stories : SummaryView
no_stories = record { stories = []; sheets = 0; found = None; clearing = false; alone = []; passed = [] }

-- ---- the reason of a test that failed

-- the reason that is noted of a float
abbrev pub noted_of : ℕ → List Noted → Option Kept
noted_of line [] = None
noted_of line (n ∷ ns) = if n.float.line == line then Some n.kept else noted_of line ns

-- the reason of a float in the way: what keeps it, or that it is there
abbrev pub way_of : Area → Float → Option Kept → Kept
way_of area b None = record { area = area; cause = causes.Failed tests.Class; root = b; by = pos 0 }
way_of area b (Some k) = k

-- what keeps the float in the way, if one is: of an area it is its last reason
abbrev pub way_in : Area → Option Float → List StoryView → Option Kept
way_in area None ss = None
way_in area (Some b) ss = Some (way_of area b (last_of b.line ss))

-- of the heads of a column, why it heads none comes before
abbrev pub way_of_head : Option Float → SummaryView → Option Kept
way_of_head None m = None
way_of_head (Some b) m = Some (way_of areas.Alone b (or_else (noted_of b.line m.alone) (last_of b.line m.stories)))

-- of a company, why it stays behind comes before
abbrev pub way_of_joining : Option Float → SummaryView → Option Kept
way_of_joining None m = None
way_of_joining (Some b) m = Some (way_of areas.Joins b (or_else (noted_of b.line m.passed) (or_else (noted_of b.line m.alone) (last_of b.line m.stories))))

-- a float that waits for one of its class is kept by what keeps that one
abbrev pub kept_by : Area → Test → Float → ℤ → Option Kept → Kept
kept_by area tests.Class f by (Some k) = k
kept_by area t f by way = record { area = area; cause = causes.Failed t; root = f; by = by }

-- what must be gained, for a test of an amount
abbrev pub gain : Test → ℤ → ℤ → ℤ
gain tests.Room room share = room
gain tests.Share room share = share
gain tests.Tall room share = room
gain tests.Sum room share = share
gain t room share = pos 0

-- one more than what is lacked
abbrev pub lack : ℤ → ℤ → ℤ
lack need has = need -ℤ has +ℤ pos 1

-- ---- stories

-- the story of a float, changed
abbrev pub with_stories : List StoryView → SummaryView → SummaryView
with_stories ss m = record m { stories = ss }

-- a float is kept back for this reason
abbrev pub keep : Float → Kept → SummaryView → SummaryView
keep f k m = with_stories (with_story f.line (kept_back k) m.stories) m

abbrev pub keep_if : Float → Option Kept → SummaryView → SummaryView
keep_if f None m = m
keep_if f (Some k) m = keep f k m

-- a float is placed
abbrev pub put_at : Float → Where → SummaryView → SummaryView
put_at f place m = with_stories (with_story f.line (placed_at place m.sheets) m.stories) m

-- a story begins
abbrev pub begun_story : Float → ℕ → Option Kept → SummaryView → SummaryView
begun_story f page last m = with_stories (m.stories ++ begun f page last m.sheets ∷ []) m

-- ---- decisions

-- the reason, unless the float of this line is kept by its own places
abbrev pub own_reason : ℕ → Option Kept → Option Kept
own_reason line None = None
own_reason line (Some k) = if is_by_places k.cause && (k.root.line == line) then None else Some k

-- what failed first by another test than that of places, or else what failed first
abbrev pub found_with : Kept → Option Kept → Option Kept
found_with k None = Some k
found_with k (Some first) = if is_by_places first.cause && not (is_by_places k.cause) then Some k else Some first

-- why a decision keeps the float: what failed in an area, or else why it heads no column, or else its places
abbrev pub reason_of : ℕ → SummaryView → Option Kept
reason_of line m = or_else (own_reason line m.found) (or_else (noted_of line m.alone) m.found)

-- the next decision finds anew what fails
abbrev pub nothing_found : SummaryView → SummaryView
nothing_found m = record m { found = None }

-- a float goes somewhere, or is kept
abbrev pub decided : Float → Where → SummaryView → SummaryView
decided f place m = nothing_found (if is_deferred place then keep_if f (reason_of f.line m) m else put_at f place m)

-- an area was tested: with what must be gained for its room and for its share
abbrev pub tested_in : Area → Float → Option Float → ℤ → ℤ → Option Test → SummaryView → SummaryView
tested_in area f blocker room share None m = m
tested_in area f blocker room share (Some t) m =
    record m { found = found_with (kept_by area t f (gain t room share) (way_in area blocker m.stories)) m.found }

-- what is told of a decision: the blockers in the text and at the bottom are on the page, and so not followed
abbrev pub after_told : Float → Told → SummaryView → SummaryView
after_told f (Enters t) m = tested_in areas.Enter f t.blocker (lack t.need t.room) (pos 0) t.failed m
after_told f (TestsHere t) m = tested_in areas.Here f None (lack t.need t.room) (pos 0) t.failed m
after_told f (TestsTop t) m = tested_in areas.Top f None (lack t.need t.room) (lack t.high t.share) t.failed m
after_told f (TestsBottom t) m = tested_in areas.Bottom f None (lack t.need t.room) (lack t.high t.share) t.failed m
after_told f (TestsWide t) m = tested_in areas.Wide f t.blocker (lack t.high t.room) (pos 0) t.failed m
after_told f (Goes w) m = decided f w m

-- ---- columns of floats

-- a float heads no column
abbrev pub heads_none : Float → Kept → SummaryView → SummaryView
heads_none f k m = record m { alone = m.alone ++ record { float = f; kept = k } ∷ [] }

abbrev pub not_alone : Float → Kept → SummaryView → SummaryView
not_alone f k m = if m.clearing then keep f k (heads_none f k m) else heads_none f k m

-- a float stays behind the company of a head
abbrev pub stays_behind : Float → Kept → SummaryView → SummaryView
stays_behind f k m = record m { passed = m.passed ++ record { float = f; kept = k } ∷ [] }

-- each of these floats is kept back for the reason that is noted
abbrev pub kept_all : List Noted → List StoryView → List StoryView
kept_all [] ss = ss
kept_all (n ∷ ns) ss = kept_all ns (with_story n.float.line (kept_back n.kept) ss)

abbrev pub keep_noted : List Noted → SummaryView → SummaryView
keep_noted ns m = with_stories (kept_all ns m.stories) m

-- those that head no column, and those that stay behind, are kept back
abbrev pub keep_all : SummaryView → SummaryView
keep_all m = keep_noted m.passed (keep_noted m.alone m)

-- no float stays behind yet
abbrev pub none_behind : SummaryView → SummaryView
none_behind m = record m { passed = [] }

-- why a float heads no column
abbrev pub no_head_by : Float → Alone → Test → SummaryView → Kept
no_head_by f t w m = kept_by areas.Alone w f (gain w (t.high -ℤ t.most) (pos 0)) (way_of_head t.blocker m)

abbrev pub after_heads : Float → Alone → Option Test → SummaryView → SummaryView
after_heads f t None m = none_behind m
after_heads f t (Some w) m = not_alone f (no_head_by f t w m) m

-- why a float stays behind the company of a head
abbrev pub behind_by : Float → Joining → Test → SummaryView → Kept
behind_by f t w m = kept_by areas.Joins w f (gain w (t.high -ℤ t.most) (t.sum -ℤ t.most)) (way_of_joining t.blocker m)

abbrev pub after_joining : Float → Joining → Option Test → SummaryView → SummaryView
after_joining f t None m = m
after_joining f t (Some w) m = stays_behind f (behind_by f t w m) m

abbrev pub after_company : Float → Made → Option Test → SummaryView → SummaryView
after_company f t None m = keep_all m
after_company f t (Some w) m = not_alone f (record { area = areas.Company; cause = causes.Failed tests.Sum; root = f; by = lack t.least t.sum }) m

abbrev pub after_column : ToldColumn → SummaryView → SummaryView
after_column (Heads f t) m = after_heads f t t.failed m
after_column (Joins f t) m = after_joining f t t.failed m
after_column (Companied f t) m = after_company f t t.failed m
after_column (Takes f) m = put_at f places.Page m

-- a column or a wide page is looked for
abbrev pub after_start : Bool → SummaryView → SummaryView
after_start clearing m = record m { clearing = clearing; alone = []; passed = []; found = None }

-- ---- sheets

-- the float of a line stands in the text of the column that is put out
abbrev pub after_stands : ℕ → SummaryView → SummaryView
after_stands line m = with_stories (with_story line (carried m.sheets) m.stories) m

-- a column is put out: what waits misses it
abbrev pub after_output : SummaryView → SummaryView
after_output m = record m { stories = map missed_sheet m.stories; sheets = m.sheets + 1 }

-- ---- tales

-- a wide float of release 2014 waits
abbrev pub by_width : Float → Kept
by_width f = record { area = areas.Wait; cause = causes.Failed tests.Wide; root = f; by = pos 0 }

-- a clear takes the float back
abbrev pub by_clear : Float → Kept
by_clear f = record { area = areas.Clear; cause = causes.Back; root = f; by = pos 0 }

-- nothing is known of a start yet
abbrev pub no_start : SummaryView → SummaryView
no_start m = record m { found = None; alone = [] }

abbrev pub after_tale : Tale → SummaryView → SummaryView
after_tale (Waits at f) m = begun_story f at.page (Some (by_width f)) m
after_tale (Calls at f h) m = begun_story f at.page None (no_start m)
after_tale (Decides f t) m = after_told f t m
after_tale (Begins at z) m = after_start z.clearing m
after_tale (InColumn t) m = after_column t m
after_tale (Back f place) m = keep f (by_clear f) m
after_tale (Beside at n height reach placed) m = m
after_tale (Stands line) m = after_stands line m
after_tale PutOut m = after_output m

-- ---- pages that are shipped

-- the story of the float that a box holds
abbrev pub after_box : ℕ → What → List StoryView → List StoryView
after_box page (what.Float name class place item) ss = with_story item (landed_at page place) ss
after_box page w ss = ss

-- the story of the float whose box a node is
abbrev pub after_node : ℕ → PlainKind → List StoryView → List StoryView
after_node page (plain (hbox w h d)) ss = after_box page w ss
after_node page k ss = ss

-- the stories of the floats among nodes
abbrev pub after_nodes : ℕ → List PlainNode → List StoryView → List StoryView
after_nodes page [] ss = ss
after_nodes page (n ∷ ns) ss = after_nodes page ns (after_node page n.kind ss)

-- the stories of the floats on a page
abbrev pub after_sheet : ℕ → PlainSheet → List StoryView → List StoryView
after_sheet page (one c) ss = after_nodes page c.nodes ss
after_sheet page (wide c) ss = after_nodes page c.nodes ss
after_sheet page (two tops at left right) ss = after_nodes page right.nodes (after_nodes page left.nodes (after_nodes page tops ss))

abbrev pub after_page : ℕ → PlainSheet → SummaryView → SummaryView
after_page page sheet m = with_stories (after_sheet page sheet m.stories) m

-- a page is shipped; a warning changes nothing
abbrev pub after_sent : PlainSent → SummaryView → SummaryView
after_sent (warned w) m = m
after_sent (shipped page sheet) m = after_page page sheet m
