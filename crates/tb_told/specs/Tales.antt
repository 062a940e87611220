-- What is told of floats and marginal notes, one tale for each line.
use Rattle.std.specs.Prelude.{ℕ, Bool, List, [], ◌∷◌, map, if◌then◌else◌}
use Rattle.std.specs.Bool.{beq}
use Rattle.std.specs.List.{list_any}
use Rattle.tb_node.specs.declared.Float.{Float}
use Rattle.tb_node.specs.declared.Where.{Where}
use Rattle.tb_node.specs.declared.Where.TheVariants as places
use Rattle.tb_node.specs.declared.What.TheVariants as what
use Rattle.tb_node.specs.PlainNodes.{PlainNode, PlainKind, plain, hbox}
use Rattle.tb_told.specs.declared.Told.{Told}
use Rattle.tb_fpage.specs.declared.Wanted.{Wanted}
use Rattle.tb_told.specs.ColumnTold.{told_column}
use Rattle.tb_told.specs.declared.Spot.{Spot}
use Rattle.tb_told.specs.declared.Piece.{Piece}
use Rattle.tb_told.specs.declared.Piece.TheVariants.{Says}
use Rattle.tb_told.specs.declared.Tale.{Tale}
use Rattle.tb_told.specs.declared.Tale.TheVariants.{Decides, Begins, InColumn, Back, Stands}

-- these tales, one after another
abbrev pub tales : List Tale → List Piece
tales ts = map (λ t. Says t) ts

-- what is told of one float
abbrev pub decisions : Float → List Told → List Tale
decisions f ts = map (λ t. Decides f t) ts

-- a float of the width is in the list
abbrev pub has_width : Bool → List Float → Bool
has_width wide fs = list_any (λ f. beq f.wide wide) fs

-- a column of floats is looked for among these
abbrev pub column_tales : Spot → Wanted → List Float → List Tale
column_tales at z fs = if has_width z.wide fs then Begins at z ∷ map (λ t. InColumn t) (told_column z fs) else []

-- each of these floats is taken back from its place
abbrev pub back_tales : Where → List Float → List Tale
back_tales place fs = map (λ f. Back f place) fs

-- the line of a float in the text, before later lines
abbrev pub and_here : PlainKind → List ℕ → List ℕ
and_here (plain (hbox (what.Float name class places.Here item) h d)) later = item ∷ later
and_here k later = later

-- the lines of the floats in a text
abbrev pub here_lines : List PlainNode → List ℕ
here_lines [] = []
here_lines (n ∷ ns) = and_here n.kind (here_lines ns)

-- the floats in the text of a column that is put out
abbrev pub stands_tales : List PlainNode → List Tale
stands_tales body = map (λ l. Stands l) (here_lines body)
