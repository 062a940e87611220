-- In one column, where no item sets the page number, a float lands as many pages behind that of its call as sheets count for its reasons.
use Rattle.std.specs.Prelude.{◌≡◌, ⊤, ℕ, ◌+◌, Option, Some, None}
use Rattle.std.specs.List.{AllByRecursion}
use Rattle.tb_galley.specs.declared.Item.{Item}
use Rattle.tb_galley.specs.declared.ItemKind.{ItemKind}
use Rattle.tb_galley.specs.declared.ItemKind.TheVariants as items
use Rattle.tb_galley.specs.declared.Galley.{Galley}
use Rattle.tb_galley.specs.Valid.{IsValid}
use Rattle.tb_story.specs.Story.{StoryView}
use Rattle.tb_why.specs.SummaryLaws.{times_of}
use Rattle.tb_why_laws.specs.WholeRuns.{summary_of}

-- the item does not change to two columns, and does not set the page number
abbrev pub IsSingleItem : ItemKind → Type 0
IsSingleItem items.TwoColumn = ⊥
IsSingleItem (items.Page n) = ⊥
IsSingleItem k = ⊤

-- no item of the galley does
abbrev pub HasOneColumn : Galley → Type 0
HasOneColumn g = AllByRecursion (λ (n : Item). IsSingleItem n.kind) g.items

-- if a float landed, it did so on this page
abbrev pub IsPageOf : ℕ → Option ℕ → Type 0
IsPageOf page None = ⊤
IsPageOf page (Some landed) = page ≡ landed

-- if the float of a story landed, it did so as many pages behind its call as its times add up to
abbrev pub LandsInTime : StoryView → Type 0
LandsInTime s = IsPageOf (s.called + times_of s) s.landed

-- in the summary of each valid galley of one column whose page numbers go on each float that landed did so
abbrev pub OneColumnFloatsLandInTime : Type 0
OneColumnFloatsLandInTime = (g : Galley) → IsValid g → HasOneColumn g → AllByRecursion LandsInTime (summary_of g).stories
