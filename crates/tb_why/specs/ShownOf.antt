-- What is shown of a turn, as values of the code.
use Rattle.std.specs.Prelude.{List, map}
use Rattle.std.specs.List.{AllByRecursion}
use Rattle.tb_pool.specs.Lists.{Lists}
use Rattle.tb_node.specs.declared.Node.{Node}
use Rattle.tb_items.specs.Happenings.{event_of, IsPage}
use Rattle.tb_why.specs.declared.shown.Showing.{Showing}
use Rattle.tb_why.specs.declared.shown.Showing.TheVariants as showings
use Rattle.tb_why.specs.WhyRun.{Shown, happens, tells}

-- an event of the run, or a tale
abbrev pub shown_part : Lists Node → Showing → Shown
shown_part store (showings.Happens h) = happens (event_of store h)
shown_part store (showings.Tells t) = tells t

-- all of them
abbrev pub all_shown_of : Lists Node → List Showing → List Shown
all_shown_of store xs = map (shown_part store) xs

-- the lists of a page that is shown may be on a page
abbrev pub IsShownPage : Lists Node → Showing → Type 0
IsShownPage store (showings.Happens h) = IsPage store h
IsShownPage store (showings.Tells t) = Unit {0}

-- the lists of all pages that are shown may be on a page
abbrev pub AreShownPages : Lists Node → List Showing → Type 0
AreShownPages store xs = AllByRecursion (IsShownPage store) xs
