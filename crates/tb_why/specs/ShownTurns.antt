-- What is shown of a turn, put together: what happened while the page was filled, the floats that wait from now on, and the firing.
use Rattle.std.specs.Prelude.{◌≡◌, ℕ, ◌≤◌, pos, not, false, ◌&&◌, List, [], ◌∷◌, ◌++◌, length, drop, map, int_lt, if◌then◌else◌}
use Rattle.tb_node.specs.declared.Float.{Float}
use Rattle.tb_builder.specs.declared.Page.{Page}
use Rattle.tb_output.specs.Machine.{MachineView}
use Rattle.tb_items.specs.declared.happenings.Happening.{Happening}
use Rattle.tb_run.specs.declared.routine.Routine.{Routine}
use Rattle.tb_run.specs.Routine.{state_of}
use Rattle.tb_run.specs.FilledPages.{fired_whole}
use Rattle.tb_told.specs.declared.Spot.{Spot}
use Rattle.tb_told.specs.declared.Tale.TheVariants.{Waits}
use Rattle.tb_told.specs.declared.Piece.{Piece}
use Rattle.tb_told.specs.declared.Piece.TheVariants.{Says, NextSent}
use Rattle.tb_why.specs.declared.shown.Showing.{Showing}
use Rattle.tb_why.specs.declared.shown.Showing.TheVariants as showings
use Rattle.tb_why.specs.Firing.{firing_pieces}
use Rattle.tb_why.specs.Seen.{Seen}

-- ---- a page is filled

-- all that happened, as it is shown
abbrev pub all_happens : List Happening → List Showing
all_happens hs = map (λ h. showings.Happens h) hs

-- these floats wait from now on
abbrev pub all_waits : Spot → List Float → List Showing
all_waits spot fs = map (λ f. showings.Tells (Waits spot f)) fs

-- where the machine stands
abbrev pub spot_in : MachineView → Spot
spot_in m = record { page = m.number; second = m.two_columns && not m.first_column }

-- the wide floats of release 2014 that wait, behind the first ones
abbrev pub waits_from : ℕ → MachineView → List Showing
waits_from from m = all_waits (spot_in m) (drop from m.pool.lists.second)

-- what is shown of a page that was filled, where so many wide floats waited before
abbrev pub filled_shown : ℕ → MachineView → List Happening → List Showing
filled_shown from m hs = all_happens hs ++ waits_from from m

-- ---- a page fires

-- what is seen of a machine before it fires
abbrev pub seen_in : MachineView → Seen
seen_in m = record {
  floats = m.pool.lists;
  page = m.page;
  number = m.number;
  two_columns = m.two_columns;
  first_column = m.first_column;
  suppress = m.suppress;
  note_bottom = m.note_bottom;
  over = false;
}

-- what is told of the firing of a page, if it is allowed
abbrev pub pieces_in : Routine → Page → List Piece
pieces_in r page =
    if int_lt (pos r.machine.dead_cycles) r.machine.params.maxdeadcycles then firing_pieces r.machine.params (state_of r) (fired_whole r page) else []

-- what happened stands at its places between the tales, and the rest of it behind them
abbrev pub woven_shown : List Piece → List Happening → List Showing
woven_shown [] hs = all_happens hs
woven_shown (Says t ∷ ps) hs = showings.Tells t ∷ woven_shown ps hs
woven_shown (NextSent ∷ ps) [] = woven_shown ps []
woven_shown (NextSent ∷ ps) (h ∷ hs) = showings.Happens h ∷ woven_shown ps hs

-- a piece was shown: of what happened from the first place on, what stands from the second place on is left
pub record IsPieceShown (piece : Piece) (sent : List Happening) (from upto : ℕ) (old new : List Showing) : Type 0 where
  pub within : upto ≤ length sent
  pub shown : (ps : List Piece) → new ++ woven_shown ps (drop upto sent) ≡ old ++ woven_shown (piece ∷ ps) (drop from sent)
