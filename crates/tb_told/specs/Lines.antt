-- The lines of what is told, as bytes.
use Rattle.std.specs.Prelude.{ℕ, ℤ, ◌==◌, Bool, false, List, [], ◌∷◌, ◌++◌, Option, Some, None, codes, if◌then◌else◌}
use Rattle.tb_text.specs.Fields.{and_number, and_count, and_text, line}
use Rattle.tb_node.specs.declared.Name.{Name}
use Rattle.tb_node.specs.declared.Float.{Float}
use Rattle.tb_node.specs.declared.Margin.{Margin}
use Rattle.tb_node.specs.declared.Places.{Places}
use Rattle.tb_told.specs.declared.Test.{Test}
use Rattle.tb_told.specs.declared.Test.TheVariants as tests
use Rattle.tb_told.specs.declared.Counted.{Counted}
use Rattle.tb_told.specs.declared.Entering.{Entering}
use Rattle.tb_told.specs.declared.InText.{InText}
use Rattle.tb_told.specs.declared.AtTop.{AtTop}
use Rattle.tb_told.specs.declared.AtBottom.{AtBottom}
use Rattle.tb_told.specs.declared.AboveBoth.{AboveBoth}
use Rattle.tb_told.specs.declared.Told.{Told}
use Rattle.tb_told.specs.declared.Told.TheVariants.{Enters, TestsHere, TestsTop, TestsBottom, TestsWide, Goes}
use Rattle.tb_fpage.specs.declared.Wanted.{Wanted}
use Rattle.tb_told.specs.declared.Alone.{Alone}
use Rattle.tb_told.specs.declared.Joining.{Joining}
use Rattle.tb_told.specs.declared.Made.{Made}
use Rattle.tb_told.specs.declared.ToldColumn.{ToldColumn}
use Rattle.tb_told.specs.declared.ToldColumn.TheVariants.{Heads, Joins, Companied, Takes}
use Rattle.tb_margin.specs.declared.Placed.{Placed}
use Rattle.tb_margin.specs.Margin.{note_height}
use Rattle.tb_report.specs.Lines.{where_text, side_text}
use Rattle.tb_told.specs.declared.Spot.{Spot}
use Rattle.tb_told.specs.declared.Tale.{Tale}
use Rattle.tb_told.specs.declared.Tale.TheVariants.{Waits, Calls, Decides, Begins, InColumn, Back, Beside, Stands, PutOut}

-- ---- fields

-- the word of a test
abbrev pub test_text : Test → List ℕ
test_text tests.Places = codes "places"
test_text tests.Wide = codes "wide"
test_text tests.Class = codes "class"
test_text tests.Count = codes "count"
test_text tests.Room = codes "room"
test_text tests.Share = codes "share"
test_text tests.Tall = codes "tall"
test_text tests.Sum = codes "sum"

-- yes, or no and the first test that fails
abbrev pub verdict_text : Option Test → List ℕ
verdict_text None = codes " yes"
verdict_text (Some t) = codes " no" ++ and_text (test_text t)

-- the name of a float that is in the way, or a dash
abbrev pub name_or_dash : Option Float → List ℕ
name_or_dash None = codes "-"
name_or_dash (Some f) = f.name

abbrev pub blocker_text : Option Float → List ℕ
blocker_text blocker = codes " class" ++ and_text (name_or_dash blocker)

-- what a limit allows, how many floats are there, and how many may still come
abbrev pub count_text : Counted → List ℕ
count_text c = codes " count" ++ and_number c.number ++ and_count c.used ++ and_number c.left

-- a text, if this holds
abbrev pub text_if : Bool → List ℕ → List ℕ
text_if b text = if b then text else []

-- the mark `!` and the letters of the places
abbrev pub places_text : Bool → Places → List ℕ
places_text bang p = text_if bang (codes "!") ++ text_if p.h (codes "h") ++ text_if p.t (codes "t") ++ text_if p.b (codes "b") ++ text_if p.p (codes "p")

abbrev pub width_text : Bool → List ℕ
width_text wide = if wide then codes "double" else codes "single"

-- the number of a column
abbrev pub column_number : Bool → ℕ
column_number second = if second then 2 else 1

-- the page and the column
abbrev pub spot_text : Spot → List ℕ
spot_text at = codes " page" ++ and_count at.page ++ codes " column" ++ and_count (column_number at.second)

-- which float it is, and what it asks for
abbrev pub float_text : Spot → Float → List ℕ
float_text at f =
    and_text f.name ++ and_count f.line ++ spot_text at ++ codes " class" ++ and_count f.class ++ codes " places" ++ and_text (places_text f.bang f.places)
    ++ codes " width" ++ and_text (width_text f.wide) ++ codes " high" ++ and_number f.height

-- ---- the lines of a decision

abbrev pub enter_line : Name → Entering → List ℕ
enter_line name t = line (
    codes "enter" ++ and_text name ++ blocker_text t.blocker ++ count_text t.count ++ codes " least" ++ and_number t.least ++ codes " high" ++ and_number t.high
    ++ codes " room" ++ and_number t.room ++ codes " need" ++ and_number t.need ++ verdict_text t.failed)

abbrev pub here_line : Name → InText → List ℕ
here_line name t = line (
    codes "here" ++ and_text name ++ blocker_text t.blocker ++ codes " room" ++ and_number t.room ++ codes " need" ++ and_number t.need ++ verdict_text t.failed)

abbrev pub top_line : Name → AtTop → List ℕ
top_line name t = line (
    codes "top" ++ and_text name ++ blocker_text t.blocker ++ count_text t.count ++ codes " room" ++ and_number t.room ++ codes " need" ++ and_number t.need
    ++ codes " share" ++ and_number t.share ++ codes " high" ++ and_number t.high ++ verdict_text t.failed)

abbrev pub bottom_line : Name → AtBottom → List ℕ
bottom_line name t = line (
    codes "bottom" ++ and_text name ++ count_text t.count ++ codes " room" ++ and_number t.room ++ codes " need" ++ and_number t.need
    ++ codes " share" ++ and_number t.share ++ codes " high" ++ and_number t.high ++ verdict_text t.failed)

abbrev pub wide_line : Name → AboveBoth → List ℕ
wide_line name t = line (
    codes "wide" ++ and_text name ++ blocker_text t.blocker ++ count_text t.count ++ codes " room" ++ and_number t.room ++ codes " high" ++ and_number t.high
    ++ verdict_text t.failed)

-- where a float goes
abbrev pub goes_line : Name → List ℕ → List ℕ
goes_line name place = line (codes "goes" ++ and_text name ++ and_text place)

abbrev pub told_line : Name → Told → List ℕ
told_line name (Enters t) = enter_line name t
told_line name (TestsHere t) = here_line name t
told_line name (TestsTop t) = top_line name t
told_line name (TestsBottom t) = bottom_line name t
told_line name (TestsWide t) = wide_line name t
told_line name (Goes w) = goes_line name (where_text w)

-- the lines of a decision, one after another
abbrev pub told_lines : Name → List Told → List ℕ
told_lines name [] = []
told_lines name (t ∷ ts) = told_line name t ++ told_lines name ts

-- ---- the lines of a column of floats

abbrev pub alone_line : Name → Alone → List ℕ
alone_line name t = line (
    codes "alone" ++ and_text name ++ blocker_text t.blocker ++ codes " high" ++ and_number t.high ++ codes " most" ++ and_number t.most ++ verdict_text t.failed)

abbrev pub joins_line : Name → Joining → List ℕ
joins_line name t = line (
    codes "joins" ++ and_text name ++ blocker_text t.blocker ++ codes " high" ++ and_number t.high ++ codes " sum" ++ and_number t.sum ++ codes " most" ++ and_number t.most
    ++ verdict_text t.failed)

abbrev pub company_line : Name → Made → List ℕ
company_line name t = line (
    codes "company" ++ and_text name ++ codes " floats" ++ and_count t.floats ++ codes " sum" ++ and_number t.sum ++ codes " least" ++ and_number t.least ++ verdict_text t.failed)

abbrev pub column_line : ToldColumn → List ℕ
column_line (Heads f t) = alone_line f.name t
column_line (Joins f t) = joins_line f.name t
column_line (Companied f t) = company_line f.name t
column_line (Takes f) = goes_line f.name (codes "page")

-- whether floats are cleared
abbrev pub begins_word : Bool → List ℕ
begins_word clearing = if clearing then codes "clear" else codes "start"

-- the width for which a column is looked for: a page of two columns' width, or a column
abbrev pub begins_text : Spot → Bool → List ℕ
begins_text at wide = if wide then codes " page" ++ and_count at.page ++ codes " wide" else spot_text at

abbrev pub begins_line : Spot → Wanted → List ℕ
begins_line at z = line (begins_word z.clearing ++ begins_text at z.wide ++ codes " height" ++ and_number z.height)

-- ---- the lines of notes

abbrev pub beside_line : Spot → Margin → ℤ → ℤ → Placed → List ℕ
beside_line at m height reach placed = line (
    codes "beside" ++ and_text m.name ++ and_count m.line ++ spot_text at ++ codes " text" ++ and_number height ++ codes " reach" ++ and_number reach
    ++ codes " high" ++ and_number (note_height placed.side m) ++ codes " shift" ++ and_number placed.shift ++ and_text (side_text placed.side))

-- ---- all lines

-- the line of a tale of a float, or of a note
abbrev pub plain_line : Tale → List ℕ
plain_line (Waits at f) = line (codes "wait" ++ float_text at f)
plain_line (Calls at f height) = line (codes "call" ++ float_text at f ++ codes " text" ++ and_number height)
plain_line (Decides f t) = told_line f.name t
plain_line (Begins at z) = begins_line at z
plain_line (InColumn t) = column_line t
plain_line (Back f place) = line (codes "back" ++ and_text f.name ++ and_text (where_text place))
plain_line (Beside at m height reach placed) = beside_line at m height reach placed
plain_line (Stands line) = []
plain_line PutOut = []

-- the float of which a column of floats is told
abbrev pub column_float : ToldColumn → Float
column_float (Heads f t) = f
column_float (Joins f t) = f
column_float (Companied f t) = f
column_float (Takes f) = f

-- what is told of a title over both columns, which has class 0
abbrev pub is_of_title : Tale → Bool
is_of_title (Waits at f) = false
is_of_title (Calls at f height) = false
is_of_title (Decides f t) = f.class == 0
is_of_title (Begins at z) = false
is_of_title (InColumn t) = (column_float t).class == 0
is_of_title (Back f place) = f.class == 0
is_of_title (Beside at m height reach placed) = false
is_of_title (Stands line) = false
is_of_title PutOut = false

-- the line of a tale; what is told of a title is not shown
abbrev pub tale_line : Tale → List ℕ
tale_line t = if is_of_title t then [] else plain_line t
