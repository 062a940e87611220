-- Stories: where each float is that was called or waits, and what kept it back so far.
use Rattle.std.specs.Prelude.{ℕ, pos, ◌+◌, ◌-◌, Bool, true, false, ◌&&◌, ◌==◌, List, [], ◌∷◌, ◌++◌, map, codes, Option, Some, None, if◌then◌else◌}
use Rattle.std.specs.Str.{bytes_eq}
use Rattle.tb_node.specs.declared.Float.{Float}
use Rattle.tb_node.specs.declared.Where.{Where}
use Rattle.tb_node.specs.declared.Where.TheVariants as places
use Rattle.tb_told.specs.declared.Test.TheVariants as tests
use Rattle.tb_told.specs.Lines.{test_text}
use Rattle.tb_story.specs.declared.Area.{Area}
use Rattle.tb_story.specs.declared.Area.TheVariants as areas
use Rattle.tb_story.specs.declared.Cause.{Cause}
use Rattle.tb_story.specs.declared.Cause.TheVariants as causes
use Rattle.tb_story.specs.declared.Kept.{Kept}
use Rattle.tb_story.specs.declared.Group.{Group}

-- a float, the page on which it was called, where it is, the page on which it was shipped, its last reason, its reasons
-- that are over, the one that goes on, and how many sheets there were when it was placed
pub record StoryView : Type 0 where
  pub float : Float
  pub called : ℕ
  pub place : Where
  pub landed : Option ℕ
  pub last : Option Kept
  pub groups : List Group
  pub group : Option Group
  pub put : ℕ

-- ---- reasons

-- the word of what kept a float back
abbrev pub area_text : Area → List ℕ
area_text areas.Enter = codes "enter"
area_text areas.Here = codes "here"
area_text areas.Top = codes "top"
area_text areas.Bottom = codes "bottom"
area_text areas.Wide = codes "wide"
area_text areas.Alone = codes "alone"
area_text areas.Joins = codes "joins"
area_text areas.Company = codes "company"
area_text areas.Wait = codes "wait"
area_text areas.Clear = codes "clear"

-- the word of the cause
abbrev pub cause_text : Cause → List ℕ
cause_text (causes.Failed t) = test_text t
cause_text causes.Back = codes "back"
cause_text causes.Carried = codes "carried"

-- two floats are the same: they came on one line of the galley
abbrev pub is_same : Float → Float → Bool
is_same f g = f.line == g.line

-- two reasons are told as one: they have the same words and the same root
abbrev pub is_alike : Kept → Kept → Bool
is_alike a b = bytes_eq (area_text a.area) (area_text b.area) && (bytes_eq (cause_text a.cause) (cause_text b.cause) && is_same a.root b.root)

-- the float may not go there by its own places
abbrev pub is_by_places : Cause → Bool
is_by_places (causes.Failed tests.Places) = true
is_by_places c = false

-- the first of these reasons that there is
abbrev pub or_else : Option Kept → Option Kept → Option Kept
or_else None b = b
or_else (Some k) b = Some k

-- ---- one story

-- the float was not shipped yet
abbrev pub is_open_by : Option ℕ → Bool
is_open_by None = true
is_open_by (Some page) = false

abbrev pub is_open : StoryView → Bool
is_open s = is_open_by s.landed

-- it is on no page and in no list of placed floats
abbrev pub is_deferred : Where → Bool
is_deferred places.Deferred = true
is_deferred w = false

-- it was not shipped, and waits
abbrev pub waits : StoryView → Bool
waits s = is_open s && is_deferred s.place

-- it was not shipped, and came on this line
abbrev pub is_story_of : ℕ → StoryView → Bool
is_story_of line s = is_open s && (s.float.line == line)

-- a story begins
abbrev pub begun : Float → ℕ → Option Kept → ℕ → StoryView
begun f page last sheets =
    record { float = f; called = page; place = places.Deferred; landed = None; last = last; groups = []; group = None; put = sheets }

-- the float is kept back for this reason
abbrev pub kept_back : Kept → StoryView → StoryView
kept_back k s = record s { place = places.Deferred; last = Some k }

-- the float is placed, after so many sheets
abbrev pub placed_at : Where → ℕ → StoryView → StoryView
placed_at place sheets s = record s { place = place; put = sheets }

-- the float is shipped
abbrev pub landed_at : ℕ → Where → StoryView → StoryView
landed_at page place s = record s { landed = Some page; place = place }

-- how many sheets the reason that goes on has, if this one is alike
abbrev pub times_so_far : Kept → Option Group → ℕ
times_so_far k None = 0
times_so_far k (Some g) = if is_alike g.kept k then g.times else 0

-- the reasons that are over: the one that went on is, unless this one is alike
abbrev pub closed : Kept → Option Group → List Group → List Group
closed k None gs = gs
closed k (Some g) gs = if is_alike g.kept k then gs else gs ++ g ∷ []

-- so many sheets more went by for a reason; neighbours that are alike are one
abbrev pub missed : ℕ → Kept → StoryView → StoryView
missed n k s = record s { groups = closed k s.group s.groups; group = Some (record { kept = k; times = times_so_far k s.group + n }) }

abbrev pub missed_by : ℕ → Option Kept → StoryView → StoryView
missed_by n None s = s
missed_by n (Some k) s = missed n k s

-- a float that waits misses a sheet
abbrev pub missed_sheet : StoryView → StoryView
missed_sheet s = if waits s then missed_by 1 s.last s else s

-- a break carried the float in the text
abbrev pub by_break : Float → Kept
by_break f = record { area = areas.Here; cause = causes.Carried; root = f; by = pos 0 }

-- a float that a break carried in the text missed the sheets since its decision
abbrev pub carried : ℕ → StoryView → StoryView
carried sheets s = if s.put == sheets then s else record (missed (sheets - s.put) (by_break s.float) s) { put = sheets }

-- for what a float waits at the end, if it does
abbrev pub last_at_end : StoryView → Option Kept
last_at_end s = if waits s then s.last else None

-- it still misses what it waits for
abbrev pub at_end : StoryView → StoryView
at_end s = missed_by 0 (last_at_end s) s

-- ---- all stories

-- a story, changed if it is that of this line's float and the float was not shipped
abbrev pub if_of : ℕ → (StoryView → StoryView) → StoryView → StoryView
if_of line change s = if is_story_of line s then change s else s

-- the story of the float of this line, changed, unless the float was shipped
abbrev pub with_story : ℕ → (StoryView → StoryView) → List StoryView → List StoryView
with_story line change ss = map (if_of line change) ss

-- the last reason of a float that was not shipped
abbrev pub last_of : ℕ → List StoryView → Option Kept
last_of line [] = None
last_of line (s ∷ ss) = if is_story_of line s then s.last else last_of line ss
