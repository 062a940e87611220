-- The report of a run with the ratings of its text columns.
use Rattle.std.specs.Prelude.{ℕ, List, [], ◌∷◌, ◌++◌, codes}
use Rattle.tb_galley.specs.declared.Galley.{Galley}
use Rattle.tb_output.specs.State.{State}
use Rattle.tb_steps.specs.Run.{run_of_state}
use Rattle.tb_rate.specs.declared.PlacePenalty.{PlacePenalty}
use Rattle.tb_rate.specs.Places.{place_penalties}
use Rattle.tb_rate.specs.RatedRun.{Rated, happens, rates, rated_of_state, demerits_of_state, start_of}
use Rattle.tb_rate.specs.RatingLines.{rating_line, demerits_lines}
use Rattle.tb_top.specs.Report.{event_lines, closing_lines}

-- the lines of an event, as in a report, or of a rating
abbrev pub rated_lines : Rated → List ℕ
rated_lines (happens e) = event_lines e
rated_lines (rates r) = rating_line r

-- the lines of what is shown, one after another
abbrev pub all_rated_lines : List Rated → List ℕ
all_rated_lines [] = []
all_rated_lines (x ∷ xs) = rated_lines x ++ all_rated_lines xs

-- the report of the run from a state with a line for each text column, and after its last line the demerits of the run
abbrev pub rated_text : List PlacePenalty → State → List ℕ
rated_text places s =
    codes "report 1\n" ++ (all_rated_lines (rated_of_state places s) ++ (closing_lines (run_of_state s).end (run_of_state s).events ++ demerits_lines (demerits_of_state places s)))

-- the same of the run of a galley
unfoldable pub rated_report : Galley → List ℕ
rated_report g = rated_text (place_penalties g.items) (start_of g)
