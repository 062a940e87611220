-- What is shown of the run of each valid galley, and what its summary says.
use Rattle.std.specs.Prelude.{ℕ, List}
use Rattle.tb_galley.specs.declared.Galley.{Galley}
use Rattle.tb_galley.specs.Valid.{IsValid}
use Rattle.tb_story.specs.Summary.{SummaryView, no_stories}
use Rattle.tb_why.specs.WhyRun.{shown_run}
use Rattle.tb_why.specs.Summary.{summed}
use Rattle.tb_why.specs.SummaryLaws.{AreTimed, sheets_at_calls, IsOrderly}

-- what is shown of a run is in order
abbrev pub ShownInOrder : Type 0
ShownInOrder = (g : Galley) → IsValid g → IsOrderly (shown_run g) no_stories

-- the summary of a run
abbrev pub summary_of : Galley → SummaryView
summary_of g = summed (shown_run g) no_stories

-- how many sheets there were at each call of a run
abbrev pub sheets_at_calls_of : Galley → List ℕ
sheets_at_calls_of g = sheets_at_calls 0 (shown_run g)

-- the sum of a story's times is the number of sheets since the call of its float
abbrev pub TimesAreSheets : Type 0
TimesAreSheets = (g : Galley) → IsValid g → AreTimed (summary_of g).sheets (sheets_at_calls_of g) (summary_of g).stories
