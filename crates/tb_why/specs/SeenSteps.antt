-- What a step of a firing does to what is seen of it, as the calls that tell of it promise.
use Rattle.std.specs.Prelude.{◌≡◌, ℕ, suc, Bool, List, [], ◌++◌, Some, None, if◌then◌else◌}
use Rattle.tb_param.specs.declared.Params.{Params}
use Rattle.tb_float.specs.declared.Part.{Part}
use Rattle.tb_float.specs.declared.Part.TheVariants as parts
use Rattle.tb_float.specs.Lists.{floats_of, with_floats_of}
use Rattle.tb_fpage.specs.declared.Wanted.{Wanted}
use Rattle.tb_fpage.specs.Company.{Choice, company, left_floats}
use Rattle.tb_told.specs.declared.Piece.{Piece}
use Rattle.tb_why.specs.Seen.{Seen, with_lists, wide_told, wide_seen, float_told, float_seen}

-- the floats of the list are on a page, and can leave it all at once
abbrev pub IsLeavable : Part → Type 0
IsLeavable parts.Current = ⊥
IsLeavable parts.Here = Unit {0}
IsLeavable parts.Top = Unit {0}
IsLeavable parts.Bottom = Unit {0}
IsLeavable parts.Deferred = ⊥
IsLeavable parts.Double = Unit {0}
IsLeavable parts.Second = ⊥

-- the company that makes the column has left the list
pub record TakesCompany (z : Wanted) (from : Part) (v u : Seen) : Type 0 where
  pub choices : List Choice
  pub found : company z (floats_of from v.floats) ≡ Some choices
  pub seen : u ≡ with_lists (with_floats_of from (left_floats choices) v.floats) v

-- no floats make a column, and nothing changed
pub record TakesNone (z : Wanted) (from : Part) (v u : Seen) : Type 0 where
  pub none : company z (floats_of from v.floats) ≡ None
  pub seen : u ≡ v

-- a wide page was looked for: what is told and where it leads is that of one turn, and of the later ones if there was one
pub record IsWideTurn (p : Params) (clearing more : Bool) (v u : Seen) (old new : List Piece) : Type 0 where
  pub told : (n : ℕ) → new ++ (if more then wide_told p clearing n u else []) ≡ old ++ wide_told p clearing (suc n) v
  pub seen : (n : ℕ) → (if more then wide_seen p clearing n u else u) ≡ wide_seen p clearing (suc n) v

-- a column of floats was looked for
pub record IsFloatTurn (p : Params) (clearing more : Bool) (v u : Seen) (old new : List Piece) : Type 0 where
  pub told : (n : ℕ) → new ++ (if more then float_told p clearing n u else []) ≡ old ++ float_told p clearing (suc n) v
  pub seen : (n : ℕ) → (if more then float_seen p clearing n u else u) ≡ float_seen p clearing (suc n) v
