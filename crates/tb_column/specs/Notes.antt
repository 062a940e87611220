-- The boxes of classes of insertions that a text column is made of.
use Rattle.std.specs.Prelude.{ℕ, suc, ◌+◌, ◌≤◌, Bool, true, false, List, [], ◌∷◌, ◌++◌, length, map, filter, None, unwrap_or}
use Rattle.std.specs.List.{AllByRecursion}
use Rattle.tb_pool.specs.Lists.{Lists, IsLive, list_at}
use Rattle.tb_pool.specs.Frame.{IsNoneOf}
use Rattle.tb_node.specs.declared.Node.{Node}
use Rattle.tb_node.specs.PlainNodes.{leaf_of}
use Rattle.tb_column.specs.declared.NoteBox.{NoteBox}
use Rattle.tb_column.specs.declared.Standing.{Standing}
use Rattle.tb_column.specs.declared.Standing.TheVariants as standings
use Rattle.tb_column.specs.Column.{Notes, standing_of, is_at}
use Rattle.tb_column.specs.Page.{IsPageList}
use Rattle.tb_column.specs.Ranges.{IsSizedGlue, IsSizedRule}

-- what the box of a class held, in a store that holds its list
abbrev pub note_shown : Lists Node → NoteBox → Notes
note_shown store n = record { class = n.class; below = n.below; skip = n.skip; inner = map leaf_of (list_at store n.list) }

-- the same of each of the boxes
abbrev pub notes_shown : Lists Node → List NoteBox → List Notes
notes_shown store ns = map (note_shown store) ns

-- the boxes of the classes that stand there
abbrev pub boxes_at : Standing → List NoteBox → List NoteBox
boxes_at s ns = filter (λ n. is_at s (standing_of n.class n.below)) ns

-- the boxes of footnotes and of what stands below them, or of what stands above them
abbrev pub boxes_among : Bool → List NoteBox → List NoteBox
boxes_among true ns = boxes_at standings.Feet ns ++ boxes_at standings.Below ns
boxes_among false ns = boxes_at standings.Above ns

-- the lists of the boxes
abbrev pub note_lists : List NoteBox → List ℕ
note_lists ns = map (λ n. n.list) ns

-- how many nodes these lists have together
abbrev pub note_count : Lists Node → List NoteBox → ℕ
note_count store [] = 0
note_count store (n ∷ ns) = length (list_at store n.list) + note_count store ns

-- the classes rise strictly from this one on
abbrev pub AreRisingFrom : ℕ → List NoteBox → Type 0
AreRisingFrom k [] = Unit {0}
AreRisingFrom k (n ∷ ns) = (k ≤ n.class) × AreRisingFrom (suc n.class) ns

-- no two of these are the same
abbrev pub AreDistinct : List ℕ → Type 0
AreDistinct [] = Unit {0}
AreDistinct (l ∷ ls) = IsNoneOf l ls × AreDistinct ls

-- the list of a box may be on a page, and the amounts of its glue and its rule are dimensions
pub record IsNote (store : Lists Node) (n : NoteBox) : Type 0 where
  pub list : IsPageList store n.list
  pub rule : IsSizedRule (unwrap_or n.below None)
  pub skip : IsSizedGlue n.skip

-- boxes whose lists live and are neither the text's nor each other's
pub record AreApart (store : Lists Node) (body : ℕ) (ns : List NoteBox) : Type 0 where
  pub apart : AreDistinct (body ∷ note_lists ns)
  pub live : AllByRecursion (λ n. IsLive store n.list) ns

-- boxes of rising classes, whose lists may join the text's
pub record AreNotes (store : Lists Node) (body : ℕ) (ns : List NoteBox) : Type 0 where
  pub rising : AreRisingFrom 0 ns
  pub apart : AreDistinct (body ∷ note_lists ns)
  pub each : AllByRecursion (IsNote store) ns
