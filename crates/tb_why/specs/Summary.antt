-- The summary of what is shown.
use Rattle.std.specs.Prelude.{ℕ, List, [], ◌∷◌}
use Rattle.tb_items.specs.RunEvents.{RunEvent, offered, sent}
use Rattle.tb_story.specs.Summary.{SummaryView, no_stories, after_tale, after_sent}
use Rattle.tb_story.specs.StoryLines.{story_lines}
use Rattle.tb_why.specs.WhyRun.{Shown, happens, tells}

-- a try changes nothing
abbrev pub after_event : RunEvent → SummaryView → SummaryView
after_event (offered t) m = m
after_event (sent e) m = after_sent e m

abbrev pub after_shown : Shown → SummaryView → SummaryView
after_shown (happens e) m = after_event e m
after_shown (tells t) m = after_tale t m

-- the summary after what is shown
abbrev pub summed : List Shown → SummaryView → SummaryView
summed [] m = m
summed (x ∷ xs) m = summed xs (after_shown x m)

-- the lines of the summary of what is shown
abbrev pub summary_lines : List Shown → List ℕ
summary_lines xs = story_lines (summed xs no_stories).stories
