-- The insertions of a page are taken out of the boxes of their classes.
use Rattle.std.specs.Prelude.{◌≡◌, ◌≤◌, ◌==◌, ℕ, true, not, List, [], ◌∷◌, filter}
use Rattle.std.specs.List.{AllByRecursion}
use Rattle.tb_pool.specs.Lists.{Lists, IsLive, list_at}
use Rattle.tb_pool.specs.Frame.{IsNoneOf}
use Rattle.tb_node.specs.declared.Node.{Node}
use Rattle.tb_insert.specs.declared.Class.{Class}
use Rattle.tb_builder.specs.declared.Builder.{Builder}
use Rattle.tb_builder.specs.FiredPages.{Boxed}
use Rattle.tb_builder.specs.Contents.{contents_of, box_count}
use Rattle.tb_builder.specs.Contributions.{with_void}
use Rattle.tb_builder.specs.Ownership.{has_class}
use Rattle.tb_column.specs.declared.NoteBox.{NoteBox}
use Rattle.tb_column.specs.Notes.{notes_shown, note_lists, note_count, AreDistinct, AreRisingFrom, IsNote}
use Rattle.tb_column.specs.Page.{AreLeaves}
use Rattle.tb_output.specs.declared.notes.TakenNotes.{TakenNotes}
use Rattle.tb_output.specs.declared.notes.TakenNotes.TheVariants.{Empty, One, Many}
use Rattle.tb_output.specs.State.{notes_in}
use Rattle.tb_output.specs.Columns.{emptied_boxes}
use Rattle.tb_builder.specs.BuilderLists.{builder_lists}
use Rattle.tb_sheet.specs.ApartLists.{AreNoneOf}

-- the boxes that were taken
abbrev pub boxes_held : TakenNotes → List NoteBox
boxes_held Empty = []
boxes_held (One n) = n ∷ []
boxes_held (Many ns) = ns.items

-- the boxes of the insertions that stand on a page: all but those of class 255
abbrev pub standing_boxes : List NoteBox → List NoteBox
standing_boxes ns = filter (λ n. not (n.class == 255)) ns

-- the boxes, with those of these classes void
abbrev pub with_voids : List Class → List Boxed → List Boxed
with_voids [] bs = bs
with_voids (c ∷ cs) bs = with_voids cs (with_void c.number bs)

-- a live list without insertions and acts
pub record IsLeafList (store : Lists Node) (l : ℕ) : Type 0 where
  pub live : IsLive store l
  pub leaves : AreLeaves (list_at store l)

-- no two of the lists are the same; each was the builder's or was not live, and none is the builder's now
pub record AreOwnLists (ls : List ℕ) (b now : Builder) (store new : Lists Node) : Type 0 where
  pub apart : AreDistinct ls
  pub fresh : (q : ℕ) → IsLive store q → IsNoneOf q (builder_lists b store) → IsNoneOf q ls
  pub free : AreNoneOf ls (builder_lists now new)

-- the boxes of these classes were taken, each that was not void into a list of its own
pub record BoxesTaken (classes : List Class) (notes : List NoteBox) (b now : Builder) (store new : Lists Node) : Type 0 where
  pub contents : contents_of now new ≡ record (contents_of b store) { boxes = with_voids classes (contents_of b store).boxes }
  pub shown : notes_shown new notes ≡ notes_in classes (contents_of b store).boxes
  pub lists : AllByRecursion (IsLeafList new) (note_lists notes)
  pub own : AreOwnLists (note_lists notes) b now store new

-- the insertions are of these classes
abbrev pub AreKnownNotes : List Class → List NoteBox → Type 0
AreKnownNotes cs ns = AllByRecursion (λ n. has_class cs n.class ≡ true) ns

-- each box that was not void was taken into a list of its own, which may be on a page, and all boxes are void
pub record NotesTaken (classes : List Class) (notes : List NoteBox) (b now : Builder) (store new : Lists Node) : Type 0 where
  pub contents : contents_of now new ≡ record (contents_of b store) { boxes = emptied_boxes (contents_of b store).boxes }
  pub shown : notes_shown new notes ≡ notes_in classes (contents_of b store).boxes
  pub rising : AreRisingFrom 0 notes
  pub each : AllByRecursion (IsNote new) notes
  pub known : AreKnownNotes classes notes
  pub few : note_count new notes ≤ box_count (contents_of b store).boxes
  pub own : AreOwnLists (note_lists notes) b now store new
