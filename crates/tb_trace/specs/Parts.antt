-- The line of a place by its parts.
use Rattle.std.specs.Prelude.{ℕ, Bool, List, [], ◌∷◌, ◌++◌, codes}
use Rattle.tb_node.specs.declared.Sums.{Sums}
use Rattle.tb_builder.specs.declared.Try.{Try}
use Rattle.tb_text.specs.Fields.{and_number, and_count}
use Rattle.tb_trace.specs.Lines.{and_cost, and_numbers, champion_text}

-- the line of the place in the galley, and the sums of the page before it
abbrev pub sums_of : ℕ → Sums → List ℕ
sums_of n s = codes "try" ++ and_count n ++ codes " t" ++ and_number s.total ++ codes " s" ++ and_numbers s.stretch ++ codes " z" ++ and_number s.shrink

-- the goal, the badness, the penalty and the cost
abbrev pub costs_of : Try → List ℕ
costs_of t = codes " g" ++ and_number t.goal ++ codes " b" ++ and_cost t.badness ++ codes " p" ++ and_number t.penalty ++ codes " c" ++ and_cost t.cost

-- the mark of the place and the end of the line
abbrev pub end_text : Bool → List ℕ
end_text champion = champion_text champion ++ 10 ∷ []
