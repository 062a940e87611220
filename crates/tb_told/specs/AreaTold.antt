-- What is told of a decision about a float: the tests of each area in their order, with the amounts that they compare, and
-- where the float goes.
use Rattle.std.specs.Prelude.{ℤ, ◌+ℤ◌, Bool, true, false, not, List, [], ◌∷◌, Option, Some, None, if◌then◌else◌}
use Rattle.tb_scaled.specs.Scaled.{max_ℤ}
use Rattle.tb_node.specs.declared.Float.{Float}
use Rattle.tb_node.specs.declared.Where.{Where}
use Rattle.tb_node.specs.declared.Where.TheVariants.{Here, Double, Deferred}
use Rattle.tb_param.specs.declared.Params.{Params}
use Rattle.tb_float.specs.declared.Suppress.{Suppress}
use Rattle.tb_float.specs.declared.Limit.{Limit}
use Rattle.tb_float.specs.declared.Limit.TheVariants as limits
use Rattle.tb_float.specs.Lists.{FloatLists, has_class}
use Rattle.tb_float.specs.Rooms.{column_room_of, top_room_of, bottom_room_of, limit_number, limit_used, count_left_of}
use Rattle.tb_told.specs.declared.Test.{Test}
use Rattle.tb_told.specs.declared.Test.TheVariants as tests
use Rattle.tb_told.specs.Tested.{Tested, tested, first_failed, all_hold, first_of_class, first_float}
use Rattle.tb_told.specs.declared.Told.{Told}
use Rattle.tb_told.specs.declared.Told.TheVariants.{Enters, TestsHere, TestsTop, TestsBottom, TestsWide, Goes}
use Rattle.tb_told.specs.declared.Counted.{Counted}
use Rattle.tb_told.specs.declared.Entering.{Entering}
use Rattle.tb_told.specs.declared.InText.{InText}
use Rattle.tb_told.specs.declared.AtTop.{AtTop}
use Rattle.tb_told.specs.declared.AtBottom.{AtBottom}
use Rattle.tb_told.specs.declared.AboveBoth.{AboveBoth}
use Rattle.tb_area.specs.Area.{may_come, only_page, is_first_of_class, fits_column, fits_top, fits_bottom, is_above_its_class, text_minimum, next_separator, at_top, at_bottom, deferred, where_of, tries_top, fits_double, double_room_for}

-- ---- the tests of each area, in their order

-- what a limit allows, how many floats are there, and how many may still come
abbrev pub counted : Params → FloatLists → Suppress → Limit → Float → Counted
counted p l s limit f =
    record { number = limit_number p limit; used = limit_used l limit; left = count_left_of p l s limit f.bang }

-- may the float enter a column at all, with floats that stay before it, and so much room required?
abbrev pub enter_tests : Params → FloatLists → Suppress → List Float → ℤ → Float → List Tested
enter_tests p l s before required f =
    tested tests.Places (not (only_page f)) ∷ tested tests.Wide (not f.wide) ∷ tested tests.Class (is_first_of_class f before)
    ∷ tested tests.Count (may_come p l s limits.Total f) ∷ tested tests.Room (fits_column p l required) ∷ []

-- does it go into the text?
abbrev pub here_tests : Params → FloatLists → ℤ → Float → List Tested
here_tests p l inside f =
    tested tests.Class (not (has_class f.class l.bottom)) ∷ tested tests.Places f.places.h ∷ tested tests.Room (fits_column p l inside) ∷ []

-- does it go to the top?
abbrev pub top_tests : Params → FloatLists → Suppress → ℤ → Float → List Tested
top_tests p l s above f =
    tested tests.Places f.places.t ∷ tested tests.Count (may_come p l s limits.Top f) ∷ tested tests.Room (fits_column p l above)
    ∷ tested tests.Share (fits_top p l f) ∷ tested tests.Class (is_above_its_class l f) ∷ []

-- does it go to the bottom?
abbrev pub bottom_tests : Params → FloatLists → Suppress → ℤ → Float → List Tested
bottom_tests p l s below f =
    tested tests.Places f.places.b ∷ tested tests.Count (may_come p l s limits.Bottom f) ∷ tested tests.Room (fits_column p l below)
    ∷ tested tests.Share (fits_bottom p l f) ∷ []

-- does it go above both columns?
abbrev pub wide_tests : Params → FloatLists → Suppress → List Float → Float → List Tested
wide_tests p l s before f =
    tested tests.Places f.places.t ∷ tested tests.Wide f.wide ∷ tested tests.Count (may_come p l s limits.Double f)
    ∷ tested tests.Class (is_first_of_class f before) ∷ tested tests.Room (fits_double p l f) ∷ []

-- ---- what is told of each area

-- of the column as a whole
abbrev pub enter_told : Params → FloatLists → Suppress → List Float → ℤ → Float → Entering
enter_told p l s before required f = record {
  blocker = first_of_class f.class before;
  count = counted p l s limits.Total f;
  least = text_minimum p l f;
  high = f.height;
  room = column_room_of p l;
  need = required;
  failed = first_failed (enter_tests p l s before required f);
}

-- of the text
abbrev pub here_told : Params → FloatLists → ℤ → Float → InText
here_told p l inside f = record {
  blocker = first_of_class f.class l.bottom;
  room = column_room_of p l;
  need = inside;
  failed = first_failed (here_tests p l inside f);
}

-- of the top
abbrev pub top_told : Params → FloatLists → Suppress → ℤ → Float → AtTop
top_told p l s above f = record {
  blocker = first_float (first_of_class f.class l.here) (first_of_class f.class l.bottom);
  count = counted p l s limits.Top f;
  room = column_room_of p l;
  need = above;
  share = top_room_of p l;
  high = f.height;
  failed = first_failed (top_tests p l s above f);
}

-- of the bottom
abbrev pub bottom_told : Params → FloatLists → Suppress → ℤ → Float → AtBottom
bottom_told p l s below f = record {
  count = counted p l s limits.Bottom f;
  room = column_room_of p l;
  need = below;
  share = bottom_room_of p l;
  high = f.height;
  failed = first_failed (bottom_tests p l s below f);
}

-- of the space above both columns
abbrev pub wide_told : Params → FloatLists → Suppress → List Float → Float → AboveBoth
wide_told p l s before f = record {
  blocker = first_of_class f.class before;
  count = counted p l s limits.Double f;
  room = double_room_for p l f;
  high = f.height;
  failed = first_failed (wide_tests p l s before f);
}

-- ---- what is told of a decision

-- of the bottom, which is tried last
abbrev pub told_bottom : Params → FloatLists → Suppress → ℤ → Float → List Told
told_bottom p l s required f =
    let below = required +ℤ next_separator p l.bottom in
    TestsBottom (bottom_told p l s below f)
    ∷ Goes (where_of (if all_hold (bottom_tests p l s below f) then at_bottom else deferred)) ∷ []

-- of the top, and then of the bottom
abbrev pub told_areas : Params → FloatLists → Suppress → ℤ → Float → List Told
told_areas p l s required f =
    let above = required +ℤ next_separator p l.top in
    TestsTop (top_told p l s above f)
    ∷ (if all_hold (top_tests p l s above f) then Goes (where_of at_top) ∷ []
    else told_bottom p l s (if tries_top p l s f then above else required) f)

-- of the text, and then of the areas; of the bottom alone if a float of its class is there
abbrev pub told_column : Params → FloatLists → Suppress → ℤ → Float → List Told
told_column p l s required f =
    let inside = required +ℤ p.intextsep.width in
    TestsHere (here_told p l inside f)
    ∷ (if all_hold (here_tests p l inside f) then Goes Here ∷ []
    else (if has_class f.class l.bottom then told_bottom p l s required f
    else told_areas p l s (if f.places.h then inside else required) f))

-- of a float at its call, with a text of this height
abbrev pub told_call : Params → FloatLists → Suppress → ℤ → Float → List Told
told_call p l s page_height f =
    let required = max_ℤ page_height (text_minimum p l f) +ℤ f.height in
    Enters (enter_told p l s l.deferred required f)
    ∷ (if all_hold (enter_tests p l s l.deferred required f) then told_column p l s required f else Goes Deferred ∷ [])

-- of a single float that waits, at the start of a column; a wide one is not asked
abbrev pub told_next : Params → FloatLists → Suppress → List Float → Float → List Told
told_next p l s before f =
    let required = f.height +ℤ text_minimum p l f in
    if f.wide then []
    else Enters (enter_told p l s before required f)
    ∷ (if all_hold (enter_tests p l s before required f) then told_areas p l s required f else Goes Deferred ∷ [])

-- of a wide float that waits, after a pair of columns; a single one is not asked
abbrev pub told_wide : Params → FloatLists → Suppress → List Float → Float → List Told
told_wide p l s before f =
    if f.wide then TestsWide (wide_told p l s before f) ∷ Goes (if all_hold (wide_tests p l s before f) then Double else Deferred) ∷ []
    else []

-- where the last of it says that the float goes; a float that is not asked stays
abbrev pub place_told : List Told → Where
place_told [] = Deferred
place_told (Goes w ∷ []) = w
place_told (t ∷ ts) = place_told ts

-- ---- why a float stays

-- the area and the test that fails there
pub record Reason : Type 0 where
  pub area : Told
  pub test : Test

-- the first test that failed in an area
abbrev pub failed_in : Told → Option Test
failed_in (Enters t) = t.failed
failed_in (TestsHere t) = t.failed
failed_in (TestsTop t) = t.failed
failed_in (TestsBottom t) = t.failed
failed_in (TestsWide t) = t.failed
failed_in (Goes w) = None

-- the float is kept back by its own places
abbrev pub is_by_places : Test → Bool
is_by_places tests.Places = true
is_by_places t = false

-- a reason, unless it is by places, before the later ones
abbrev pub reason_before : Told → Option Test → Option Reason → Option Reason
reason_before t None later = later
reason_before t (Some w) later = if is_by_places w then later else Some (record { area = t; test = w })

-- the first failed test that is not by places, in the order of the areas
abbrev pub reason_of : List Told → Option Reason
reason_of [] = None
reason_of (t ∷ ts) = reason_before t (failed_in t) (reason_of ts)
