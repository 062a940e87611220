-- The galley of the lines that breaks make.
use Rattle.std.specs.Prelude.{◌≡◌, ℕ, ◌+◌, ◌-◌, ◌<◌, ◌≤◌, max, ◌==◌, nat_lt, List, [], ◌∷◌, ◌++◌, length, codes, decimal, Option, Some, None, if◌then◌else◌}
use Rattle.tb_lines.specs.declared.text.Item.{Item}
use Rattle.tb_lines.specs.declared.text.Item.TheVariants.{Word as word, Space as space, Penalty as penalty}
use Rattle.tb_lines.specs.declared.text.LineParams.{LineParams}
use Rattle.tb_lines.specs.declared.text.Paragraph.{Paragraph}
use Rattle.tb_lines.specs.declared.text.Text.{Text}
use Rattle.tb_lines.specs.declared.entries.Entry.{Entry}
use Rattle.tb_lines.specs.declared.entries.Entry.TheVariants.{Item as item, Fill as fill}
pub use Rattle.tb_lines.specs.declared.line_texts.Size.{Size}
use Rattle.tb_lines.specs.Solution.{SolutionView}
use Rattle.tb_lines.specs.Entries.{list_of, line_between}
use Rattle.tb_lines.specs.LeastSolution.{IsLeastOf}

-- ---- the sizes of lines

-- the size of nothing
abbrev pub no_size : Size
no_size = record { height = 0; depth = 0 }

-- the height and the depth of an item; only words have them
abbrev pub item_size : Item → Size
item_size (word w h d) = record { height = h; depth = d }
item_size (space w st sh) = no_size
item_size (penalty p) = no_size

-- the same of an entry
abbrev pub entry_size : Entry → Size
entry_size (item i) = item_size i
entry_size fill = no_size

-- the greater height and the greater depth
abbrev pub joined_size : Size → Size → Size
joined_size a b = record { height = max a.height b.height; depth = max a.depth b.depth }

-- the greatest height and the greatest depth of the words
abbrev pub size_of : List Entry → Size
size_of [] = no_size
size_of (e ∷ es) = joined_size (entry_size e) (size_of es)

-- the sizes of the lines that these breaks make, the first after break q or the start
abbrev pub line_sizes : List Entry → Option ℕ → List ℕ → List Size
line_sizes es q [] = []
line_sizes es q (j ∷ js) = size_of (line_between es q j) ∷ line_sizes es (Some j) js

-- the sizes of a paragraph's lines
abbrev pub paragraph_sizes : Paragraph → SolutionView → List Size
paragraph_sizes p s = line_sizes (list_of p.items) None s.breaks

-- breaks that rise, from place k on and before place n
abbrev pub AreWithin : ℕ → ℕ → List ℕ → Type 0
AreWithin k n [] = Unit {0}
AreWithin k n (j ∷ js) = (k ≤ j) × (j < n) × AreWithin (j + 1) n js

-- ---- the text of a line

-- glue of this width
abbrev pub width_text : ℕ → List ℕ
width_text w = codes "glue " ++ decimal w

-- the end of a line of glue that neither stretches nor shrinks
abbrev pub fixed_text : List ℕ
fixed_text = codes " plus 0 minus 0\n"

-- glue that neither stretches nor shrinks
abbrev pub glue_line : ℕ → List ℕ
glue_line w = width_text w ++ fixed_text

-- the glue between a line of this height and a line of this depth above it
abbrev pub interline : LineParams → ℕ → ℕ → ℕ
interline ps above height = if nat_lt ps.baseline_skip (above + height) then ps.line_skip else ps.baseline_skip - (above + height)

-- the penalty after line k of a paragraph of this many lines
abbrev pub penalty_after : LineParams → ℕ → ℕ → ℕ
penalty_after ps k count = (if k == 1 then ps.club_penalty else 0) + (if k + 1 == count then ps.widow_penalty else 0)

-- a penalty that is not 0
abbrev pub penalty_line : ℕ → List ℕ
penalty_line p = if p == 0 then [] else codes "penalty " ++ decimal p ++ 10 ∷ []

-- the glue before line k of a paragraph, after a line of this depth; before a paragraph's first line there is also `parskip`
abbrev pub space_before : LineParams → ℕ → Option ℕ → ℕ → List ℕ
space_before ps k None height = []
space_before ps k (Some above) height = (if k == 1 then glue_line ps.par_skip else []) ++ glue_line (interline ps above height)

-- the box of line k of a paragraph
abbrev pub box_line : List ℕ → ℕ → Size → List ℕ
box_line name k s = codes "box " ++ name ++ codes "." ++ decimal k ++ codes " " ++ decimal s.height ++ codes " " ++ decimal s.depth ++ 10 ∷ []

-- the penalty between line k and the one before it
abbrev pub penalty_before : LineParams → ℕ → ℕ → List ℕ
penalty_before ps k count = if k == 1 then [] else penalty_line (penalty_after ps (k - 1) count)

-- one line, with what comes between it and the one before it
abbrev pub one_line : LineParams → List ℕ → ℕ → ℕ → Option ℕ → Size → List ℕ
one_line ps name count k above s = penalty_before ps k count ++ space_before ps k above s.height ++ box_line name k s

-- ---- the text of the lines

-- the lines of a paragraph from line k on
abbrev pub lines_text : LineParams → List ℕ → ℕ → ℕ → Option ℕ → List Size → List ℕ
lines_text ps name count k above [] = []
lines_text ps name count k above (s ∷ ss) = one_line ps name count k above s ++ lines_text ps name count (k + 1) (Some s.depth) ss

-- the depth of the last line so far
abbrev pub depth_after : Option ℕ → List Size → Option ℕ
depth_after above [] = above
depth_after above (s ∷ ss) = depth_after (Some s.depth) ss

-- the lines of a paragraph, after a line of this depth
abbrev pub paragraph_text : LineParams → Option ℕ → Paragraph → SolutionView → List ℕ
paragraph_text ps above p s = lines_text ps p.name (length (paragraph_sizes p s)) 1 above (paragraph_sizes p s)

-- the depth of the last line of a paragraph, after a line of this depth
abbrev pub paragraph_depth : Option ℕ → Paragraph → SolutionView → Option ℕ
paragraph_depth above p s = depth_after above (paragraph_sizes p s)

-- the lines of paragraphs, each with its solution
abbrev pub paragraphs_text : LineParams → Option ℕ → List Paragraph → List SolutionView → List ℕ
paragraphs_text ps above [] ss = []
paragraphs_text ps above (p ∷ pars) [] = []
paragraphs_text ps above (p ∷ pars) (s ∷ ss) = paragraph_text ps above p s ++ paragraphs_text ps (paragraph_depth above p s) pars ss

-- the galley of the lines that these solutions make
unfoldable pub line_text : Text → List SolutionView → List ℕ
line_text t ss = codes "galley 1\n" ++ paragraphs_text t.params None t.paragraphs ss ++ codes "end\n"

-- ---- words of contracts

-- each paragraph has its least solution
abbrev pub AreLeast : LineParams → List Paragraph → List SolutionView → Type 0
AreLeast ps [] [] = Unit {0}
AreLeast ps [] (s ∷ ss) = ⊥
AreLeast ps (p ∷ pars) [] = ⊥
AreLeast ps (p ∷ pars) (s ∷ ss) = IsLeastOf ps p.items s × AreLeast ps pars ss

-- the text was appended, and the depth of the last line is known
abbrev pub Writes : List ℕ → List ℕ → Option ℕ → List ℕ → Option ℕ → Type 0
Writes before text depth after below = (after ≡ before ++ text) × (below ≡ depth)
