-- What happens while a page is made, as events of the run.
use Rattle.std.specs.Prelude.{ℕ, Bool, List, [], ◌∷◌, ◌++◌, map, if◌then◌else◌}
use Rattle.std.specs.List.{AllByRecursion}
use Rattle.tb_pool.specs.Lists.{Lists}
use Rattle.tb_node.specs.declared.Node.{Node}
use Rattle.tb_builder.specs.declared.Try.{Try}
use Rattle.tb_sheet.specs.StoredSheets.{sent_shown, sent_lists, IsPageSent}
use Rattle.tb_items.specs.declared.happenings.Happening.{Happening}
use Rattle.tb_items.specs.declared.happenings.Happening.TheVariants as happenings
use Rattle.tb_items.specs.RunEvents.{RunEvent, offered, sent}

-- an event of the run
abbrev pub event_of : Lists Node → Happening → RunEvent
event_of store (happenings.Tried t) = offered t
event_of store (happenings.Sent e) = sent (sent_shown store e)

-- the events of what happened
abbrev pub events_of : Lists Node → List Happening → List RunEvent
events_of store hs = map (event_of store) hs

-- a place that was tried, if the caller asks for tries
abbrev pub noted_try : Bool → Try → List Happening
noted_try wanted t = if wanted then happenings.Tried t ∷ [] else []

-- what is noted of an event
abbrev pub noted_event : Bool → RunEvent → List RunEvent
noted_event wanted (offered t) = if wanted then offered t ∷ [] else []
noted_event wanted (sent e) = sent e ∷ []

-- all that is sent, and the tries if the caller asks for them
abbrev pub noted : Bool → List RunEvent → List RunEvent
noted wanted [] = []
noted wanted (e ∷ es) = noted_event wanted e ++ noted wanted es

-- the lists of the pages that were sent
abbrev pub happening_lists : Happening → List ℕ
happening_lists (happenings.Tried t) = []
happening_lists (happenings.Sent e) = sent_lists e

-- all lists of what happened
abbrev pub happened_lists : List Happening → List ℕ
happened_lists [] = []
happened_lists (h ∷ hs) = happening_lists h ++ happened_lists hs

-- the lists of a page that was sent may be on a page
abbrev pub IsPage : Lists Node → Happening → Type 0
IsPage store (happenings.Tried t) = Unit {0}
IsPage store (happenings.Sent e) = IsPageSent store e

-- the lists of all that was sent may be on a page
abbrev pub ArePages : Lists Node → List Happening → Type 0
ArePages store hs = AllByRecursion (IsPage store) hs
