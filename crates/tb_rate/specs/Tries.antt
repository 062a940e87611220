-- The place at which a page broke, and the number of the page, among what happened while it was made.
use Rattle.std.specs.Prelude.{ℕ, List, [], ◌∷◌, Option, Some, None, if◌then◌else◌}
use Rattle.tb_builder.specs.declared.Try.{Try}
use Rattle.tb_items.specs.declared.happenings.Happening.{Happening}
use Rattle.tb_items.specs.declared.happenings.Happening.TheVariants as happenings
use Rattle.tb_items.specs.RunEvents.{RunEvent, offered, sent}
use Rattle.tb_sheet.specs.declared.Sent.TheVariants as sents
use Rattle.tb_sheet.specs.Sheet.{warned, shipped}

-- a place, if it is the best so far, or else this one
abbrev pub later_champion : Option Try → Try → Option Try
later_champion best t = if t.champion then Some t else best

-- the last place among events that was the best so far, or this one if none was
abbrev pub champion_or : Option Try → List RunEvent → Option Try
champion_or best [] = best
champion_or best (offered t ∷ es) = champion_or (later_champion best t) es
champion_or best (sent e ∷ es) = champion_or best es

-- the last place among events that was the best so far: there the page broke
abbrev pub last_champion : List RunEvent → Option Try
last_champion es = champion_or None es

-- the same after one thing that happened
abbrev pub champion_after : Option Try → Happening → Option Try
champion_after best (happenings.Tried t) = later_champion best t
champion_after best (happenings.Sent e) = best

-- the same among what happened
abbrev pub champion_among : Option Try → List Happening → Option Try
champion_among best [] = best
champion_among best (h ∷ hs) = champion_among (champion_after best h) hs

-- the number of the first page that was shipped among events, or this one if none was
abbrev pub first_number : ℕ → List RunEvent → ℕ
first_number n [] = n
first_number n (offered t ∷ es) = first_number n es
first_number n (sent (warned w) ∷ es) = first_number n es
first_number n (sent (shipped number sheet) ∷ es) = number

-- the number of the page, if what happened is that one was shipped
abbrev pub number_in : Happening → Option ℕ
number_in (happenings.Sent (sents.Ship page sheet)) = Some page
number_in h = None

-- a number, or else this one
abbrev pub number_or : ℕ → Option ℕ → ℕ
number_or n None = n
number_or n (Some page) = page

-- the number of the first page that was shipped among what happened, or this one
abbrev pub number_among : ℕ → List Happening → ℕ
number_among n [] = n
number_among n (h ∷ hs) = number_or (number_among n hs) (number_in h)
