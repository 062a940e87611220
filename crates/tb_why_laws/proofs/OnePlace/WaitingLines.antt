-- The lines of the floats that wait, and of those that are still to be called.
use Rattle.std.proofs.Common.{ℕ, List, [], ◌∷◌, ◌++◌}
use Rattle.tb_node.specs.declared.Act.{Act}
use Rattle.tb_node.specs.declared.Act.TheVariants as acts
use Rattle.tb_float.specs.Lists.{FloatLists, floats_among}
use Rattle.tb_output.specs.State.{State}
use Rattle.tb_laws.specs.Laws.{float_lines}
use Rattle.tb_laws.proofs.ClassesRise.PageLines.{deeds}

-- the lines of the floats that wait
abbrev pub waiting_lines : FloatLists → List ℕ
waiting_lines l = float_lines l.deferred ++ float_lines l.second

-- the line of the float that an act takes, if it takes one
abbrev pub taken_line : Act → List ℕ
taken_line (acts.Take f) = f.line ∷ []
taken_line (acts.TakeMargin m) = []
taken_line (acts.Suppress area) = []
taken_line (acts.Page n) = []
taken_line (acts.Set c) = []
taken_line (acts.Head f) = f.line ∷ []
taken_line (acts.Columns two) = []

-- the lines of the floats that acts take
abbrev pub act_takes : List Act → List ℕ
act_takes [] = []
act_takes (a ∷ ds) = taken_line a ++ act_takes ds

-- the lines of the floats that are still to be called: those of the current list, and those that are still to be taken
abbrev pub uncalled : State → List ℕ
uncalled s = float_lines (floats_among s.floats.current) ++ act_takes (deeds s.waiting)
