-- Lists that have the same entries in two pools. No public clause cites this module.
use Rattle.std.specs.Prelude.{◌≡◌, List, [], ◌∷◌}
use Rattle.tb_float.specs.declared.Part.{Part}
use Rattle.tb_float.specs.Lists.{FloatLists, entries_of}

-- each of these lists has the same entries
abbrev pub HaveSame : FloatLists → FloatLists → List Part → Type 0
HaveSame l m [] = Unit {0}
HaveSame l m (p ∷ ps) = (entries_of p l ≡ entries_of p m) × HaveSame l m ps
