-- Texts whose values are in their ranges.
use Rattle.std.specs.Prelude.{◌≡◌, ℕ, ◌+◌, ◌≤◌, pos, negsuc, ◌≤ℤ◌, true, List, [], ◌∷◌, length}
use Rattle.std.specs.List.{AllByRecursion}
use Rattle.tb_lines.specs.declared.text.Item.{Item}
use Rattle.tb_lines.specs.declared.text.Item.TheVariants.{Word as word, Space as space, Penalty as penalty}
use Rattle.tb_lines.specs.declared.text.LineParams.{LineParams}
use Rattle.tb_lines.specs.declared.text.Paragraph.{Paragraph}
use Rattle.tb_lines.specs.declared.text.Text.{Text}
use Rattle.tb_lines.specs.Fields.{is_par_name}

-- a dimension of at least 0
abbrev pub IsSize : ℕ → Type 0
IsSize n = n ≤ 1073741823

-- each amount of an item in its range
abbrev pub IsValidItem : Item → Type 0
IsValidItem (word w h d) = IsSize w × IsSize h × IsSize d
IsValidItem (space w st sh) = IsSize w × IsSize st × IsSize sh
IsValidItem (penalty p) = (negsuc 9999 ≤ℤ p) × (p ≤ℤ pos 10000)

-- each parameter in its range
pub record IsValidParams (ps : LineParams) : Type 0 where
  pub hsize : (1 ≤ ps.hsize) × IsSize ps.hsize
  pub tolerance : ps.tolerance ≤ 10000
  pub line_penalty : ps.line_penalty ≤ 10000
  pub club_penalty : ps.club_penalty ≤ 5000
  pub widow_penalty : ps.widow_penalty ≤ 5000
  pub baseline_skip : IsSize ps.baseline_skip
  pub line_skip : IsSize ps.line_skip
  pub par_skip : IsSize ps.par_skip

-- a paragraph has a name of at most 58 bytes, and at most 5000 items
pub record IsValidParagraph (p : Paragraph) : Type 0 where
  pub name : is_par_name p.name ≡ true
  pub few : length p.items ≤ 5000
  pub items : AllByRecursion IsValidItem p.items

-- the lines that count: one for each paragraph and one for each item
abbrev pub text_weight : List Paragraph → ℕ
text_weight [] = 0
text_weight (p ∷ pars) = length p.items + 1 + text_weight pars

-- a text with valid parameters and paragraphs, and at most 25000 lines that count
pub record IsValidText (t : Text) : Type 0 where
  pub params : IsValidParams t.params
  pub paragraphs : AllByRecursion IsValidParagraph t.paragraphs
  pub few : text_weight t.paragraphs ≤ 25000
