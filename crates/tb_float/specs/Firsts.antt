-- The floats of a list that are the first of their class there.
use Rattle.std.specs.Prelude.{◌≡◌, ◌≢◌, Bool, true, false, Option, Some, List, [], ◌∷◌, ◌++◌, length, if◌then◌else◌}
use Rattle.tb_node.specs.declared.Float.{Float}
use Rattle.tb_float.specs.declared.Part.{Part}
use Rattle.tb_float.specs.declared.Part.TheVariants as parts
use Rattle.tb_float.specs.declared.firsts.First.{First}
use Rattle.tb_float.specs.declared.firsts.Firsts.{Firsts}
use Rattle.tb_float.specs.Lists.{FloatLists, has_class, floats_of, IsWaiting}
use Rattle.tb_float.specs.Classes.{AreClassesOf}

-- of floats that come after others: each before which none of its class comes, with its place
abbrev pub firsts_from : List Float → List Float → List First
firsts_from before [] = []
firsts_from before (f ∷ fs) = if has_class f.class before then firsts_from (before ++ f ∷ []) fs else record { place = length before; float = f } ∷ firsts_from (before ++ f ∷ []) fs

-- the first floats of a list: each before which none of its class comes, with its place
abbrev pub firsts_of : List Float → List First
firsts_of fs = firsts_from [] fs

-- what is known is known of this list, in which floats wait
abbrev pub is_of : Option Part → Part → Bool
is_of (Some parts.Deferred) parts.Deferred = true
is_of (Some parts.Second) parts.Second = true
is_of o p = false

-- these are the first floats of a list, and their classes
pub record IsFirstsOf (k : Firsts) (fs : List Float) : Type 0 where
  pub items : k.items.items ≡ firsts_of fs
  pub classes : AreClassesOf k.classes fs

-- what is known holds of its list, in which floats wait
abbrev pub KnowsFirsts : Firsts → FloatLists → Type 0
KnowsFirsts k l = (p : Part) → k.of ≡ Some p → IsFirstsOf k (floats_of p l) × IsWaiting p

-- the floats of the other lists are the same
abbrev pub ChangesOnly : Part → FloatLists → FloatLists → Type 0
ChangesOnly p l m = (q : Part) → q ≢ p → floats_of q m ≡ floats_of q l
