-- What is told of a start, and of the space above both columns: each float that waits is told of, one after another.
use Rattle.std.specs.Prelude.{◌≡◌, ℕ, ◌+◌, false, List, [], ◌∷◌, ◌++◌, length, take, drop}
use Rattle.tb_node.specs.declared.Float.{Float}
use Rattle.tb_param.specs.declared.Params.{Params}
use Rattle.tb_float.specs.declared.Suppress.{Suppress}
use Rattle.tb_float.specs.declared.Part.{Part}
use Rattle.tb_float.specs.Lists.{FloatLists, floats_of}
use Rattle.tb_area.specs.Area.{next_area_place, goes_double}
use Rattle.tb_area.specs.Deferred.{gone_to, still_before, filled, gone_double, still_single, doubled}
use Rattle.tb_told.specs.declared.Piece.{Piece}
use Rattle.tb_told.specs.AreaTold.{told_next, told_wide}
use Rattle.tb_told.specs.Tales.{tales, decisions}

-- what is told of each float that waits, as it is tried for the next column; those before it are those that stay
abbrev pub filled_pieces : Params → Suppress → List Float → List Float → FloatLists → List Piece
filled_pieces p s before [] l = []
filled_pieces p s before (f ∷ rest) l =
    let place = next_area_place p l s before f in
    tales (decisions f (told_next p l s before f)) ++ filled_pieces p s (still_before place f before) rest (gone_to place f before rest l)

-- one float was told of and went to its place, or stays: the walk from there on leads to the same lists, and to the same pieces
pub record IsTurn (p : Params) (s : Suppress) (k j : ℕ) (l m : FloatLists) (old new : List Piece) : Type 0 where
  pub lists : filled p s (take k l.deferred) (drop k l.deferred) l ≡ filled p s (take j m.deferred) (drop j m.deferred) m
  pub pieces : new ++ filled_pieces p s (take j m.deferred) (drop j m.deferred) m ≡ old ++ filled_pieces p s (take k l.deferred) (drop k l.deferred) l
  pub left : length m.deferred + (k + 1) ≡ length l.deferred + j

-- no area is suppressed; the space above both columns never is
abbrev pub none_suppressed : Suppress
none_suppressed = record { all = false; top = false; bottom = false }

-- what is told of each float of a list, as it is tried for the space above the next two columns
abbrev pub doubled_pieces : Part → Params → List Float → List Float → FloatLists → List Piece
doubled_pieces from p before [] l = []
doubled_pieces from p before (f ∷ rest) l =
    let goes = goes_double p l none_suppressed before f in
    tales (decisions f (told_wide p l none_suppressed before f)) ++ doubled_pieces from p (still_single goes f before) rest (gone_double from goes f before rest l)

-- one float was told of and went above both columns, or stays
pub record IsDoubleTurn (from : Part) (p : Params) (k j : ℕ) (l m : FloatLists) (old new : List Piece) : Type 0 where
  pub lists : doubled from p none_suppressed (take k (floats_of from l)) (drop k (floats_of from l)) l ≡ doubled from p none_suppressed (take j (floats_of from m)) (drop j (floats_of from m)) m
  pub pieces : new ++ doubled_pieces from p (take j (floats_of from m)) (drop j (floats_of from m)) m ≡ old ++ doubled_pieces from p (take k (floats_of from l)) (drop k (floats_of from l)) l
  pub left : length (floats_of from m) + (k + 1) ≡ length (floats_of from l) + j
