-- The line of a place whose numbers are not below 0, and none a star, by its parts.
use Rattle.std.specs.Prelude.{ℕ, List, ◌++◌, codes}
use Rattle.tb_text.specs.Fields.{and_count}
use Rattle.tb_trace.specs.declared.plain.PlainCosts.{PlainCosts}
use Rattle.tb_trace.specs.declared.plain.PlainSums.{PlainSums}
use Rattle.tb_trace.specs.declared.plain.Stretch.{Stretch}

-- a space and a number, for each order
abbrev pub stretch_text : Stretch → List ℕ
stretch_text s = and_count s.normal ++ and_count s.fil ++ and_count s.fill ++ and_count s.filll

-- the line of the place in the galley, and the sums of the page before it
abbrev pub sums_text : PlainSums → List ℕ
sums_text s = codes "try" ++ and_count s.line ++ codes " t" ++ and_count s.total ++ codes " s" ++ stretch_text s.stretch ++ codes " z" ++ and_count s.shrink

-- the goal, the badness, the penalty and the cost
abbrev pub costs_text : PlainCosts → List ℕ
costs_text c = codes " g" ++ and_count c.goal ++ codes " b" ++ and_count c.badness ++ codes " p" ++ and_count c.penalty ++ codes " c" ++ and_count c.cost
