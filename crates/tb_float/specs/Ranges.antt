-- The ranges of what the float calls are given, and of what they return.
use Rattle.std.specs.Prelude.{ℕ, ℤ, pos, neg_ℤ, ◌≤ℤ◌}
pub use Rattle.tb_node.specs.Fit.{IsDimension, IsExtent}
use Rattle.tb_node.specs.declared.Float.{Float}
use Rattle.tb_node.specs.declared.Margin.{Margin}
use Rattle.tb_param.specs.declared.Params.{Params}
use Rattle.tb_float.specs.declared.Entry.{Entry}
use Rattle.tb_float.specs.declared.Entry.TheVariants as entries

-- a fraction in 65536ths, from 0 to 1
pub record IsShare (z : ℤ) : Type 0 where
  pub low : pos 0 ≤ℤ z
  pub high : z ≤ℤ pos 65536

-- how many floats an area may hold
pub record IsCount (z : ℤ) : Type 0 where
  pub low : pos 0 ≤ℤ z
  pub high : z ≤ℤ pos 1000

-- at most n in absolute value
pub record IsWithin (n : ℕ) (z : ℤ) : Type 0 where
  pub low : neg_ℤ (pos n) ≤ℤ z
  pub high : z ≤ℤ pos n

-- a room that floats leave, or a height that they take part in: at most 2^46 in absolute value
abbrev pub IsRoom : ℤ → Type 0
IsRoom z = IsWithin 70368744177664 z

-- the parameters on which the place of a float depends are in their ranges
pub record AreFloatParams (p : Params) : Type 0 where
  pub textheight : IsExtent p.textheight
  pub textfloatsep : IsDimension p.textfloatsep.width
  pub floatsep : IsDimension p.floatsep.width
  pub intextsep : IsDimension p.intextsep.width
  pub dbltextfloatsep : IsDimension p.dbltextfloatsep.width
  pub dblfloatsep : IsDimension p.dblfloatsep.width
  pub topfraction : IsShare p.topfraction
  pub bottomfraction : IsShare p.bottomfraction
  pub textfraction : IsShare p.textfraction
  pub dbltopfraction : IsShare p.dbltopfraction
  pub totalnumber : IsCount p.totalnumber
  pub topnumber : IsCount p.topnumber
  pub bottomnumber : IsCount p.bottomnumber
  pub dbltopnumber : IsCount p.dbltopnumber

-- the heights and depths of a note's two boxes are in range
pub record IsSizedMargin (m : Margin) : Type 0 where
  pub left_height : IsExtent m.left_height
  pub left_depth : IsExtent m.left_depth
  pub right_height : IsExtent m.right_height
  pub right_depth : IsExtent m.right_depth

-- the height of a float is in range
abbrev pub IsSizedFloat : Float → Type 0
IsSizedFloat f = IsExtent f.height

-- the heights and depths of an entry are in range
abbrev pub IsSizedEntry : Entry → Type 0
IsSizedEntry (entries.Float f) = IsSizedFloat f
IsSizedEntry (entries.Left m) = IsSizedMargin m
IsSizedEntry (entries.Right m) = IsSizedMargin m
