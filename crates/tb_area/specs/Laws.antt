-- What holds of a float and the place to which it goes: its own places, the order of its class, and the limits.
use Rattle.std.specs.Prelude.{◌≡◌, ◌<ℤ◌, ℕ, ℤ, pos, ◌+ℤ◌, true, false, List, ◌++◌}
use Rattle.tb_scaled.specs.Scaled.{fraction_of}
use Rattle.tb_node.specs.declared.Float.{Float}
use Rattle.tb_node.specs.declared.Where.{Where}
use Rattle.tb_node.specs.declared.Where.TheVariants.{Here, Top, Bottom, Page, Double, Deferred}
use Rattle.tb_param.specs.declared.Params.{Params}
use Rattle.tb_float.specs.declared.Limit.{Limit}
use Rattle.tb_float.specs.declared.Limit.TheVariants as limits
use Rattle.tb_float.specs.declared.Part.{Part}
use Rattle.tb_float.specs.Lists.{FloatLists, has_class, of_class, floats_of}
use Rattle.tb_float.specs.Rooms.{area_taken, double_taken, column_height_of, limit_number, limit_used}

-- a float goes where it may, wide ones above both columns; none goes on a page of floats by a decision
abbrev pub IsAllowed : Float → Where → Type 0
IsAllowed f Here = (f.places.h ≡ true) × (f.wide ≡ false)
IsAllowed f Top = (f.places.t ≡ true) × (f.wide ≡ false)
IsAllowed f Bottom = (f.places.b ≡ true) × (f.wide ≡ false)
IsAllowed f Page = ⊥
IsAllowed f Double = (f.places.t ≡ true) × (f.wide ≡ true)
IsAllowed f Deferred = Unit {0}

-- no float of its class is in the list
abbrev pub HasNone : Float → List Float → Type 0
HasNone f fs = has_class f.class fs ≡ false

-- no float of its class is passed by: none comes before it, is in the text or at the bottom of the column if it goes to the
-- top, or is at the bottom if it goes into the text
abbrev pub PassesNone : FloatLists → List Float → Float → Where → Type 0
PassesNone l before f Here = HasNone f before × HasNone f l.bottom
PassesNone l before f Top = HasNone f before × HasNone f l.here × HasNone f l.bottom
PassesNone l before f Bottom = HasNone f before
PassesNone l before f Page = ⊥
PassesNone l before f Double = HasNone f before
PassesNone l before f Deferred = Unit {0}

-- fewer floats are there than the number of the limit
abbrev pub IsBelow : Params → FloatLists → Limit → Type 0
IsBelow p l limit = pos (limit_used l limit) <ℤ limit_number p limit

-- what the floats of an area take, and the float's height, are less than the share of an amount
abbrev pub FitsShare : ℤ → ℤ → ℤ → Float → Type 0
FitsShare share amount taken f = (taken +ℤ f.height) <ℤ fraction_of share amount

-- the counts and the share of the list to which the float goes have room for it
abbrev pub KeepsLimits : Params → FloatLists → Float → Where → Type 0
KeepsLimits p l f Here = IsBelow p l limits.Total
KeepsLimits p l f Top =
    IsBelow p l limits.Total × IsBelow p l limits.Top × FitsShare p.topfraction (column_height_of p l) (area_taken p l.top) f
KeepsLimits p l f Bottom =
    IsBelow p l limits.Total × IsBelow p l limits.Bottom × FitsShare p.bottomfraction (column_height_of p l) (area_taken p l.bottom) f
KeepsLimits p l f Page = ⊥
KeepsLimits p l f Double = IsBelow p l limits.Double × FitsShare p.dbltopfraction p.textheight (double_taken p l) f
KeepsLimits p l f Deferred = Unit {0}

-- the laws of a decision; the mark `!` lifts the limits
pub record KeepsLaws (p : Params) (l : FloatLists) (before : List Float) (f : Float) (place : Where) : Type 0 where
  pub allowed : IsAllowed f place
  pub order : PassesNone l before f place
  pub limits : f.bang ≡ false → KeepsLimits p l f place

-- the floats of a class at the top, at the bottom and among the deferred ones, in the order in which they ship
abbrev pub column_order : ℕ → FloatLists → List Float
column_order k l = of_class k (l.top ++ l.bottom ++ l.deferred)

-- the same above both columns and in the list in which wide floats wait
abbrev pub double_order : Part → ℕ → FloatLists → List Float
double_order from k l = of_class k (l.double ++ floats_of from l)
