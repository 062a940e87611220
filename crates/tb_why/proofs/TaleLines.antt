-- The lines of what is told are left out, and those of the summary, if no name in them has a line feed.
use Rattle.std.proofs.Common.{refl, ℕ, ℤ, Bool, true, false, List, [], ◌++◌, Option, Some, None}
use Rattle.std.specs.Prelude.{codes, if◌then◌else◌}
use Rattle.std.proofs.lemmas.List.Folds.{list_all-append}
use Rattle.tb_text.specs.Lines.{IsUnended}
use Rattle.tb_text.specs.Fields.{and_number, and_count, and_text, line}
use Rattle.tb_node.specs.declared.Name.{Name}
use Rattle.tb_node.specs.declared.Float.{Float}
use Rattle.tb_node.specs.declared.Margin.{Margin}
use Rattle.tb_node.specs.declared.Places.{Places}
use Rattle.tb_margin.specs.declared.Placed.{Placed}
use Rattle.tb_margin.specs.Margin.{note_height}
use Rattle.tb_report.specs.Lines.{where_text, side_text}
use Rattle.tb_told.specs.declared.Test.{Test}
use Rattle.tb_told.specs.declared.Test.TheVariants as tests
use Rattle.tb_told.specs.declared.Told.{Told}
use Rattle.tb_told.specs.declared.Told.TheVariants.{Enters, TestsHere, TestsTop, TestsBottom, TestsWide, Goes}
use Rattle.tb_told.specs.declared.ToldColumn.{ToldColumn}
use Rattle.tb_told.specs.declared.ToldColumn.TheVariants.{Heads, Joins, Companied, Takes}
use Rattle.tb_told.specs.declared.Spot.{Spot}
use Rattle.tb_told.specs.declared.Tale.{Tale}
use Rattle.tb_told.specs.declared.Tale.TheVariants.{Waits, Calls, Decides, Begins, InColumn, Back, Beside, Stands, PutOut}
use Rattle.tb_told.specs.Lines.{test_text, verdict_text, name_or_dash, blocker_text, count_text, text_if, places_text, width_text, spot_text, float_text, told_line, column_line, begins_word, begins_text, beside_line, goes_line, plain_line, is_of_title, tale_line}
use Rattle.tb_why.specs.PlainNames.{IsPlainFloat, IsPlainBlocker, IsPlainTold, IsPlainColumn, IsPlainTale}
use Rattle.tb_why.proofs.TextLines.{LeftOut, none-left, line-left, count-plain, number-plain, plain-join}
use Rattle.tb_why.proofs.EventLines.{where-plain, side-plain}

-- ---- fields

pub test-plain : (t : Test) → IsUnended (test_text t)
test-plain tests.Places = refl
test-plain t = refl

verdict-plain : (o : Option Test) → IsUnended (verdict_text o)
verdict-plain None = refl
verdict-plain (Some t) = test-plain t

blocker-plain : (o : Option Float) → IsPlainBlocker o → IsUnended (name_or_dash o)
blocker-plain None p = refl
blocker-plain (Some f) p = p

if-plain : (t : Bool) (text : List ℕ) → IsUnended text → IsUnended (text_if t text)
if-plain true text p = p
if-plain false text p = refl

places-plain : (bang : Bool) (p : Places) → IsUnended (places_text bang p)
places-plain bang p =
    let h = if-plain p.h (codes "h") refl in
    let t = if-plain p.t (codes "t") refl in
    let b = if-plain p.b (codes "b") refl in
    let q = if-plain p.p (codes "p") refl in
    let m = if-plain bang (codes "!") refl in
    simp (list_all-append, m, h, t, b, q) refl

width-plain : (wide : Bool) → IsUnended (width_text wide)
width-plain true = refl
width-plain false = refl

spot-plain : (at : Spot) → IsUnended (spot_text at)
spot-plain at = simp (list_all-append, count-plain) refl

float-plain : (at : Spot) (f : Float) → IsPlainFloat f → IsUnended (float_text at f)
float-plain at f p = simp (list_all-append, p, count-plain, number-plain, spot-plain, places-plain, width-plain) refl

-- ---- lines

goes-left : (name : Name) (place : List ℕ) → IsUnended name → IsUnended place → LeftOut (goes_line name place)
goes-left name place p h = line-left (codes "goes" ++ and_text name ++ and_text place) (simp (list_all-append, p, h) refl) refl

told-left : (name : Name) (t : Told) → IsUnended name → IsPlainTold t → LeftOut (told_line name t)
told-left name (Enters t) p h =
    let b = blocker-plain t.blocker h in
    line-left (
    codes "enter" ++ and_text name ++ blocker_text t.blocker ++ count_text t.count ++ codes " least" ++ and_number t.least ++ codes " high" ++ and_number t.high
    ++ codes " room" ++ and_number t.room ++ codes " need" ++ and_number t.need ++ verdict_text t.failed)
    (simp (list_all-append, p, b, count-plain, number-plain, verdict-plain) refl) refl
told-left name (TestsHere t) p h =
    let b = blocker-plain t.blocker h in
    line-left (codes "here" ++ and_text name ++ blocker_text t.blocker ++ codes " room" ++ and_number t.room ++ codes " need" ++ and_number t.need ++ verdict_text t.failed)
    (simp (list_all-append, p, b, number-plain, verdict-plain) refl) refl
told-left name (TestsTop t) p h =
    let b = blocker-plain t.blocker h in
    line-left (
    codes "top" ++ and_text name ++ blocker_text t.blocker ++ count_text t.count ++ codes " room" ++ and_number t.room ++ codes " need" ++ and_number t.need
    ++ codes " share" ++ and_number t.share ++ codes " high" ++ and_number t.high ++ verdict_text t.failed)
    (simp (list_all-append, p, b, count-plain, number-plain, verdict-plain) refl) refl
told-left name (TestsBottom t) p h =
    line-left (
    codes "bottom" ++ and_text name ++ count_text t.count ++ codes " room" ++ and_number t.room ++ codes " need" ++ and_number t.need
    ++ codes " share" ++ and_number t.share ++ codes " high" ++ and_number t.high ++ verdict_text t.failed)
    (simp (list_all-append, p, count-plain, number-plain, verdict-plain) refl) refl
told-left name (TestsWide t) p h =
    let b = blocker-plain t.blocker h in
    line-left (
    codes "wide" ++ and_text name ++ blocker_text t.blocker ++ count_text t.count ++ codes " room" ++ and_number t.room ++ codes " high" ++ and_number t.high
    ++ verdict_text t.failed)
    (simp (list_all-append, p, b, count-plain, number-plain, verdict-plain) refl) refl
told-left name (Goes w) p h = goes-left name (where_text w) p (where-plain w)

column-left : (t : ToldColumn) → IsPlainColumn t → LeftOut (column_line t)
column-left (Heads f t) p =
    let n = p.0 in
    let b = blocker-plain t.blocker p.1 in
    line-left (codes "alone" ++ and_text f.name ++ blocker_text t.blocker ++ codes " high" ++ and_number t.high ++ codes " most" ++ and_number t.most ++ verdict_text t.failed)
    (simp (list_all-append, n, b, number-plain, verdict-plain) refl) refl
column-left (Joins f t) p =
    let n = p.0 in
    let b = blocker-plain t.blocker p.1 in
    line-left (
    codes "joins" ++ and_text f.name ++ blocker_text t.blocker ++ codes " high" ++ and_number t.high ++ codes " sum" ++ and_number t.sum ++ codes " most" ++ and_number t.most
    ++ verdict_text t.failed)
    (simp (list_all-append, n, b, number-plain, verdict-plain) refl) refl
column-left (Companied f t) p =
    line-left (codes "company" ++ and_text f.name ++ codes " floats" ++ and_count t.floats ++ codes " sum" ++ and_number t.sum ++ codes " least" ++ and_number t.least ++ verdict_text t.failed)
    (simp (list_all-append, p, count-plain, number-plain, verdict-plain) refl) refl
column-left (Takes f) p = goes-left f.name (codes "page") p refl

begins-left : (at : Spot) (clearing wide : Bool) (height : ℤ) → LeftOut (line (begins_word clearing ++ begins_text at wide ++ codes " height" ++ and_number height))
begins-left at true true height = line-left (codes "clear" ++ begins_text at true ++ codes " height" ++ and_number height) (simp (list_all-append, count-plain, number-plain) refl) refl
begins-left at true false height = line-left (codes "clear" ++ begins_text at false ++ codes " height" ++ and_number height) (simp (list_all-append, count-plain, number-plain) refl) refl
begins-left at false true height = line-left (codes "start" ++ begins_text at true ++ codes " height" ++ and_number height) (simp (list_all-append, count-plain, number-plain) refl) refl
begins-left at false false height = line-left (codes "start" ++ begins_text at false ++ codes " height" ++ and_number height) (simp (list_all-append, count-plain, number-plain) refl) refl

beside-left : (at : Spot) (m : Margin) (height reach : ℤ) (placed : Placed) → IsUnended m.name → LeftOut (beside_line at m height reach placed)
beside-left at m height reach placed p =
    line-left (
    codes "beside" ++ and_text m.name ++ and_count m.line ++ spot_text at ++ codes " text" ++ and_number height ++ codes " reach" ++ and_number reach
    ++ codes " high" ++ and_number (note_height placed.side m) ++ codes " shift" ++ and_number placed.shift ++ and_text (side_text placed.side))
    (simp (list_all-append, p, count-plain, number-plain, spot-plain, side-plain) refl) refl

-- the line of a tale of a float or a note is left out
plain-left : (t : Tale) → IsPlainTale t → LeftOut (plain_line t)
plain-left (Waits at f) p = let n = float-plain at f p in line-left (codes "wait" ++ float_text at f) n refl
plain-left (Calls at f height) p =
    let n = float-plain at f p in
    line-left (codes "call" ++ float_text at f ++ codes " text" ++ and_number height) (plain-join (float_text at f ++ codes " text") (and_number height) (plain-join (float_text at f) (codes " text") n refl) (number-plain height)) refl
plain-left (Decides f t) p = told-left f.name t p.0 p.1
plain-left (Begins at z) p = begins-left at z.clearing z.wide z.height
plain-left (InColumn t) p = column-left t p
plain-left (Back f place) p = line-left (codes "back" ++ and_text f.name ++ and_text (where_text place)) (simp (list_all-append, p, where-plain) refl) refl
plain-left (Beside at m height reach placed) p = beside-left at m height reach placed p
plain-left (Stands l) p = none-left
plain-left PutOut p = none-left

-- the line of a tale is left out, and that of a title has none
pub tale-left : (t : Tale) → IsPlainTale t → LeftOut (tale_line t)
tale-left t p = by_title (is_of_title t)
  where
    by_title : (b : Bool) → LeftOut (if b then [] else plain_line t)
    by_title true = none-left
    by_title false = plain-left t p
