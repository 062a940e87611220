-- A run with the ratings of its text columns, and its demerits.
use Rattle.std.specs.Prelude.{ℕ, zero, suc, ◌+◌, ℤ, pos, ◌+ℤ◌, Bool, true, false, List, [], ◌∷◌, ◌++◌, map, length, Option, Some, None, int_lt, if◌then◌else◌}
use Rattle.tb_galley.specs.declared.Item.{Item}
use Rattle.tb_galley.specs.declared.ItemKind.{ItemKind}
use Rattle.tb_galley.specs.declared.ItemKind.TheVariants as items
use Rattle.tb_galley.specs.declared.Galley.{Galley}
use Rattle.tb_galley.specs.GalleyNodes.{expanded}
use Rattle.tb_node.specs.PlainNodes.{PlainNode, is_insertion_kind}
use Rattle.tb_float.specs.Lists.{FloatLists}
use Rattle.tb_output.specs.State.{State, first_state}
use Rattle.tb_items.specs.RunEvents.{RunEvent}
use Rattle.tb_items.specs.Classes.{classes_of}
use Rattle.tb_steps.specs.Run.{End, done, Step, ends, goes_on, step, step_events, firings_left, held_count}
use Rattle.tb_rate.specs.declared.Rating.{Rating}
use Rattle.tb_rate.specs.declared.PlacePenalty.{PlacePenalty}
use Rattle.tb_rate.specs.Places.{place_penalties}
use Rattle.tb_rate.specs.Rating.{rating}
use Rattle.tb_rate.specs.Tries.{last_champion, first_number}

-- ---- a step

-- how many floats wait for a column or a page of their own
abbrev pub floats_waiting : FloatLists → ℕ
floats_waiting l = length l.deferred + length l.second

-- how many insertions wait before all else: what the last page had no room for waits before the node at which it broke
abbrev pub insertions_first : List PlainNode → ℕ
insertions_first [] = 0
insertions_first (n ∷ ns) = if is_insertion_kind n.kind then suc (insertions_first ns) else 0

-- an item is an insertion: a footnote, or what makes a page higher
abbrev pub is_inserted : ItemKind → Bool
is_inserted (items.Foot class ls) = true
is_inserted (items.Enlarge by star) = true
is_inserted _ = false

-- how many insertions come first among items
abbrev pub inserted_first : List Item → ℕ
inserted_first [] = 0
inserted_first (n ∷ ns) = if is_inserted n.kind then suc (inserted_first ns) else 0

-- the rating of the column that a step put out, by the parameters that hold then; it is on the first page that the step shipped, or on the page that is made after it; a step that ends the run puts out none, or one that does not count
abbrev pub rating_by : List PlacePenalty → State → Step → Option Rating
rating_by places s (ends es rs e) = None
rating_by places s (goes_on es rs t) = rating t.params places (first_number t.number es) (last_champion es) (floats_waiting t.floats) (insertions_first t.waiting)

-- the rating of the step from a state
abbrev pub step_rating : List PlacePenalty → State → Option Rating
step_rating places s = rating_by places s (step s)

-- ---- what is shown

-- an event of the run, or a rating
pub data Rated : Type 0 where
  happens : RunEvent → Rated
  rates : Rating → Rated

-- the rating, if there is one
abbrev pub if_rated : Option Rating → List Rated
if_rated None = []
if_rated (Some r) = rates r ∷ []

-- a step's events, and then its rating
abbrev pub step_rated : List PlacePenalty → State → List Rated
step_rated places s = map (λ e. happens e) (step_events (step s)) ++ if_rated (step_rating places s)

-- the run by its first step
abbrev pub rated_after : (State → List Rated) → Step → List Rated
rated_after later (ends es rs e) = []
rated_after later (goes_on es rs t) = later t

-- the run from a state with its ratings, with as much fuel as the run
unfoldable pub rated_from : List PlacePenalty → ℕ → State → List Rated
rated_from places zero s = []
rated_from places (suc fuel) s = step_rated places s ++ rated_after (λ t. rated_from places fuel t) (step s)

-- ---- the demerits

-- the demerits of a rating
abbrev pub demerits_if : Option Rating → ℤ
demerits_if None = pos 0
demerits_if (Some r) = r.demerits

-- this much more, if there is a sum
abbrev pub more_demerits : ℤ → Option ℤ → Option ℤ
more_demerits d None = None
more_demerits d (Some sum) = Some (d +ℤ sum)

-- the demerits at the end of a run: none if it does not end well
abbrev pub demerits_at : End → Option ℤ
demerits_at (done left) = Some (pos 0)
demerits_at _ = None

-- the demerits by the first step
abbrev pub demerits_after : (State → Option ℤ) → ℤ → Step → Option ℤ
demerits_after later d (ends es rs e) = demerits_at e
demerits_after later d (goes_on es rs t) = more_demerits d (later t)

-- the demerits of the columns of a run from a state, with as much fuel as the run; none if the run does not end well
unfoldable pub demerits_from : List PlacePenalty → ℕ → State → Option ℤ
demerits_from places zero s = None
demerits_from places (suc fuel) s = demerits_after (λ t. demerits_from places fuel t) (demerits_if (step_rating places s)) (step s)

-- ---- the run of a galley

-- what is shown of a run from a state, which ends at once if it holds too many nodes
abbrev pub rated_of_state : List PlacePenalty → State → List Rated
rated_of_state places s =
    let shown = rated_from places (suc (firings_left s)) s in
    if int_lt s.params.maxnodes (pos (held_count s)) then [] else shown

-- its demerits
abbrev pub demerits_of_state : List PlacePenalty → State → Option ℤ
demerits_of_state places s =
    let sum = demerits_from places (suc (firings_left s)) s in
    if int_lt s.params.maxnodes (pos (held_count s)) then None else sum

-- the state in which the run of a galley begins
abbrev pub start_of : Galley → State
start_of g = first_state g.params (classes_of g) (expanded g)

-- the run of a galley with the ratings of its text columns
unfoldable pub rated_run : Galley → List Rated
rated_run g = rated_of_state (place_penalties g.items) (start_of g)

-- the demerits of the pages of a galley; none if its run does not end well
unfoldable pub demerits : Galley → Option ℤ
demerits g = demerits_of_state (place_penalties g.items) (start_of g)

-- the events among what is shown
abbrev pub happened_among : List Rated → List RunEvent
happened_among [] = []
happened_among (happens e ∷ xs) = e ∷ happened_among xs
happened_among (rates r ∷ xs) = happened_among xs

-- the ratings among what is shown
abbrev pub ratings_among : List Rated → List Rating
ratings_among [] = []
ratings_among (happens e ∷ xs) = ratings_among xs
ratings_among (rates r ∷ xs) = r ∷ ratings_among xs

-- their sum
abbrev pub sum_of_ratings : List Rating → ℤ
sum_of_ratings [] = pos 0
sum_of_ratings (r ∷ rs) = r.demerits +ℤ sum_of_ratings rs
