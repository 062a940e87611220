-- Stories in which no name has a line feed.
use Rattle.std.specs.Prelude.{List, Option, Some, None}
use Rattle.std.specs.List.{AllByRecursion}
use Rattle.tb_story.specs.declared.Group.{Group}
use Rattle.tb_story.specs.declared.Kept.{Kept}
use Rattle.tb_story.specs.declared.Noted.{Noted}
use Rattle.tb_story.specs.Story.{StoryView}
use Rattle.tb_story.specs.Summary.{SummaryView}
use Rattle.tb_why.specs.PlainNames.{IsPlainFloat}

-- the float at the root of a reason
abbrev pub IsPlainKept : Kept → Type 0
IsPlainKept k = IsPlainFloat k.root

abbrev pub IsPlainReason : Option Kept → Type 0
IsPlainReason None = Unit {0}
IsPlainReason (Some k) = IsPlainKept k

abbrev pub ArePlainGroups : List Group → Type 0
ArePlainGroups gs = AllByRecursion (λ g. IsPlainKept g.kept) gs

abbrev pub IsPlainGroup : Option Group → Type 0
IsPlainGroup None = Unit {0}
IsPlainGroup (Some g) = IsPlainKept g.kept

-- the float of a story, and those at the roots of its reasons
abbrev pub IsPlainStory : StoryView → Type 0
IsPlainStory s = IsPlainFloat s.float × IsPlainReason s.last × ArePlainGroups s.groups × IsPlainGroup s.group

abbrev pub ArePlainStories : List StoryView → Type 0
ArePlainStories ss = AllByRecursion IsPlainStory ss

abbrev pub ArePlainNoted : List Noted → Type 0
ArePlainNoted ns = AllByRecursion (λ n. IsPlainKept n.kept) ns

abbrev pub IsPlainSummary : SummaryView → Type 0
IsPlainSummary m = ArePlainStories m.stories × IsPlainReason m.found × ArePlainNoted m.alone × ArePlainNoted m.passed
