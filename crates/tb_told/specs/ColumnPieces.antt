-- What is told of a column of floats, in pieces, and how a company is told once its choices are known.
use Rattle.std.specs.Prelude.{◌≡◌, Bool, List, [], ◌∷◌, ◌++◌, map, Some, if◌then◌else◌}
use Rattle.std.specs.Bool.{beq}
use Rattle.tb_node.specs.declared.Float.{Float}
use Rattle.tb_float.specs.declared.Part.{Part}
use Rattle.tb_float.specs.Lists.{floats_of, with_floats_of}
use Rattle.tb_float.specs.Pool.{FloatPool}
use Rattle.tb_fpage.specs.declared.Wanted.{Wanted}
use Rattle.tb_fpage.specs.Company.{Choice, company, chosen_floats, left_floats}
use Rattle.tb_told.specs.declared.ToldColumn.{ToldColumn}
use Rattle.tb_told.specs.declared.ToldColumn.TheVariants.{Joins, Takes}
use Rattle.tb_told.specs.declared.Piece.{Piece}
use Rattle.tb_told.specs.declared.Tale.TheVariants.{InColumn}
use Rattle.tb_told.specs.ColumnTold.{joins_told, if_of_width, told_float}
use Rattle.tb_told.specs.Tales.{tales}

-- the pieces of what is told of a column
abbrev pub in_column : List ToldColumn → List Piece
in_column ts = tales (map (λ t. InColumn t) ts)

-- nothing more is told once a company is made
abbrev pub unless_made : Bool → List ToldColumn → List ToldColumn
unless_made made later = if made then [] else later

-- of a float that may head a company, and then of later ones; a float of the other width is passed over
abbrev pub told_at : Wanted → List Float → Float → List Float → List ToldColumn → List ToldColumn
told_at z before f fs later = if beq f.wide z.wide then told_float z before f fs later else later

-- of the later floats of a company, after these choices, by what was chosen
abbrev pub told_choices : Wanted → List Choice → List Choice → List ToldColumn
told_choices z before [] = []
told_choices z before (c ∷ cs) = if_of_width z c.float (Joins c.float (joins_told z before c.float)) ++ told_choices z (before ++ c ∷ []) cs

-- of the floats that a company takes
abbrev pub taken_told : List Choice → List ToldColumn
taken_told cs = map (λ g. Takes g) (chosen_floats cs)

-- ---- a company leaves the list

-- the floats of the company that makes the column have left the list, and the others stay in their order
pub record IsTaken (z : Wanted) (from : Part) (v w : FloatPool) : Type 0 where
  pub choices : List Choice
  pub found : company z (floats_of from v.lists) ≡ Some choices
  pub lists : w.lists ≡ with_floats_of from (left_floats choices) v.lists
