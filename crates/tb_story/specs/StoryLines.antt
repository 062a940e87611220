-- The lines of the stories, as bytes.
use Rattle.std.specs.Prelude.{ℕ, List, [], ◌∷◌, ◌++◌, codes, Option, Some, None}
use Rattle.tb_text.specs.Fields.{and_number, and_count, and_text, line}
use Rattle.tb_report.specs.Lines.{where_text}
use Rattle.tb_node.specs.declared.Where.{Where}
use Rattle.tb_story.specs.declared.Kept.{Kept}
use Rattle.tb_story.specs.declared.Group.{Group}
use Rattle.tb_story.specs.Story.{StoryView, area_text, cause_text, at_end}

-- the words of a reason, and the float at its root
abbrev pub kept_words : Kept → List ℕ
kept_words k = and_text (area_text k.area) ++ (and_text (cause_text k.cause) ++ and_text k.root.name)

-- a reason, what must be gained, and for how many sheets it was told
abbrev pub group_text : Group → List ℕ
group_text g = kept_words g.kept ++ (and_number g.kept.by ++ and_count g.times)

-- reasons, one after another
abbrev pub all_groups : List Group → List ℕ
all_groups [] = []
all_groups (g ∷ gs) = group_text g ++ all_groups gs

-- the reasons that are over and the one that goes on, if there is one
abbrev pub because_text : List Group → Option Group → List ℕ
because_text gs None = []
because_text gs (Some g) = codes " because" ++ (all_groups gs ++ group_text g)

-- what kept the float back
abbrev pub reasons_text : StoryView → List ℕ
reasons_text s = because_text s.groups s.group

-- on which page the float was shipped, or that it waits
abbrev pub landed_words : Option ℕ → List ℕ
landed_words None = codes " waits"
landed_words (Some page) = codes " landed" ++ and_count page

-- and where
abbrev pub landed_text : Option ℕ → Where → List ℕ
landed_text landed place = landed_words landed ++ and_text (where_text place)

-- which float it is
abbrev pub head_text : StoryView → List ℕ
head_text s = codes "why" ++ (and_text s.float.name ++ and_count s.float.line)

-- what became of it, and why
abbrev pub fate_text : StoryView → List ℕ
fate_text s = landed_text s.landed s.place ++ reasons_text (at_end s)

abbrev pub story_text : StoryView → List ℕ
story_text s = head_text s ++ ((codes " called" ++ and_count s.called) ++ fate_text s)

abbrev pub story_line : StoryView → List ℕ
story_line s = line (story_text s)

-- the lines of the stories, one after another
abbrev pub story_lines : List StoryView → List ℕ
story_lines [] = []
story_lines (s ∷ ss) = story_line s ++ story_lines ss
