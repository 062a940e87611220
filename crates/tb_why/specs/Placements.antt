-- Where floats are told to go, and where a run places them.
use Rattle.std.specs.Prelude.{List, [], ◌∷◌, ◌++◌, if◌then◌else◌}
use Rattle.tb_node.specs.declared.Float.{Float}
use Rattle.tb_node.specs.declared.Where.{Where}
use Rattle.tb_told.specs.declared.Told.{Told}
use Rattle.tb_told.specs.declared.Told.TheVariants.{Enters, TestsHere, TestsTop, TestsBottom, TestsWide, Goes}
use Rattle.tb_output.specs.State.{Recorded, placed, output, emptied}
use Rattle.tb_output.specs.FloatMoves.{is_placed}
use Rattle.tb_told.specs.declared.Tale.{Tale}
use Rattle.tb_told.specs.declared.Tale.TheVariants.{Waits, Calls, Decides, Begins, InColumn, Back, Beside, Stands, PutOut}
use Rattle.tb_told.specs.declared.Piece.{Piece}
use Rattle.tb_told.specs.declared.Piece.TheVariants.{Says, NextSent}

-- a float and the place to which it goes
pub record Placement : Type 0 where
  pub float : Float
  pub place : Where

-- the placements that a run records
abbrev pub placements_of : List Recorded → List Placement
placements_of [] = []
placements_of (placed p f w l h ∷ rs) = record { float = f; place = w } ∷ placements_of rs
placements_of (output c ∷ rs) = placements_of rs
placements_of (emptied l ∷ rs) = placements_of rs

-- the placement that is told of a float, if it goes to a place
abbrev pub placement_if : Float → Where → List Placement
placement_if f w = if is_placed w then record { float = f; place = w } ∷ [] else []

abbrev pub placement_told : Float → Told → List Placement
placement_told f (Enters t) = []
placement_told f (TestsHere t) = []
placement_told f (TestsTop t) = []
placement_told f (TestsBottom t) = []
placement_told f (TestsWide t) = []
placement_told f (Goes w) = placement_if f w

abbrev pub placement_in : Tale → List Placement
placement_in (Waits at f) = []
placement_in (Calls at f height) = []
placement_in (Decides f t) = placement_told f t
placement_in (Begins at z) = []
placement_in (InColumn t) = []
placement_in (Back f place) = []
placement_in (Beside at m height reach p) = []
placement_in (Stands line) = []
placement_in PutOut = []

-- the placements that are told
abbrev pub placements_told : List Piece → List Placement
placements_told [] = []
placements_told (Says t ∷ ps) = placement_in t ++ placements_told ps
placements_told (NextSent ∷ ps) = placements_told ps
