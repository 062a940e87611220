-- What is told of a decision: its tests in order, and the float that is in the way.
use Rattle.std.specs.Prelude.{ℕ, Bool, true, false, ◌&&◌, List, [], ◌∷◌, ◌==◌, Option, Some, None, if◌then◌else◌}
use Rattle.tb_node.specs.declared.Float.{Float}
use Rattle.tb_told.specs.declared.Test.{Test}

-- a test, and whether it holds
pub record Tested : Type 0 where
  pub test : Test
  pub holds : Bool

-- this test, which holds or not
abbrev pub tested : Test → Bool → Tested
tested t b = record { test = t; holds = b }

-- the first test that fails, if one does
abbrev pub first_failed : List Tested → Option Test
first_failed [] = None
first_failed (t ∷ ts) = if t.holds then first_failed ts else Some t.test

-- all tests hold
abbrev pub all_hold : List Tested → Bool
all_hold [] = true
all_hold (t ∷ ts) = t.holds && all_hold ts

-- no test failed
abbrev pub is_yes : Option Test → Bool
is_yes None = true
is_yes (Some t) = false

-- the first float of a class
abbrev pub first_of_class : ℕ → List Float → Option Float
first_of_class k [] = None
first_of_class k (f ∷ fs) = if f.class == k then Some f else first_of_class k fs

-- the first of two floats, if there are any
abbrev pub first_float : Option Float → Option Float → Option Float
first_float None later = later
first_float (Some f) later = Some f
