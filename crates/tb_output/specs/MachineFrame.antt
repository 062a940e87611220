-- What a call of the output routine changes, and what it leaves as it was.
use Rattle.std.specs.Prelude.{◌≡◌, ◌≢◌, ◌+◌, ◌≤◌, ℕ, List, ◌∷◌, ◌++◌, length, All, Some}
use Rattle.std.specs.FinMap.{get}
use Rattle.std.specs.List.{AllByRecursion}
use Rattle.tb_pool.specs.Lists.{Lists, IsLive, list_at}
use Rattle.tb_pool.specs.Frame.{IsNoneOf, OnlyChanged}
use Rattle.tb_node.specs.declared.Node.{Node}
use Rattle.tb_node.specs.Fit.{IsSizedNode}
use Rattle.tb_builder.specs.Ownership.{inner_ids, AllKnown}
use Rattle.tb_float.specs.Lists.{FloatLists}
use Rattle.tb_float.specs.Pool.{HasNoMarks}
use Rattle.tb_column.specs.declared.NoteBox.{NoteBox}
use Rattle.tb_column.specs.Notes.{AreDistinct, AreNotes, note_lists, note_count}
use Rattle.tb_column.specs.Page.{IsPageList}
use Rattle.tb_sheet.specs.ApartLists.{AreNoneOf}
use Rattle.tb_output.specs.Machine.{MachineView, machine_lists, IsMachine}

-- ---- the machine

-- parameters, classes and fault are as before
pub record KeepsFields (m now : MachineView) : Type 0 where
  pub params : now.params ≡ m.params
  pub classes : now.classes ≡ m.classes
  pub fault : now.fault ≡ m.fault

-- it is a machine still; of the lists that were live only these arguments and its own changed, or are its own now
pub record KeepsMachine (args : List ℕ) (m now : MachineView) (store new : Lists Node) : Type 0 where
  pub machine : IsMachine now new
  pub frame : OnlyChanged (args ++ machine_lists m) (machine_lists now) store new
  pub fields : KeepsFields m now

-- only the floats moved: the lists of floats are these now
pub record HasFloats (l : FloatLists) (m now : MachineView) : Type 0 where
  pub lists : now.pool.lists ≡ l
  pub size : now.pool.size ≡ m.pool.size
  pub unmarked : HasNoMarks m.pool → HasNoMarks now.pool
  pub rest : now ≡ record m { pool = now.pool }

-- ---- what goes back

-- these nodes were added at the end of the list; of the other lists only these changed
pub record HasGrown (l : ℕ) (ns : List Node) (args : List ℕ) (store new : Lists Node) : Type 0 where
  pub list : get new.lists l ≡ Some (list_at store l ++ ns)
  pub others : (q : ℕ) → q ≢ l → IsNoneOf q args → get new.lists q ≡ get store.lists q

-- the list that goes back, and those of its insertions
abbrev pub back_lists : Lists Node → ℕ → List ℕ
back_lists store l = l ∷ inner_ids (list_at store l)

-- the list that goes back: its nodes are sized, its insertions are of the machine's classes, and their lists may be on a page; it
-- and they are apart from each other and from the machine's lists
pub record IsBack (l : ℕ) (m : MachineView) (store : Lists Node) : Type 0 where
  pub live : IsLive store l
  pub sized : All IsSizedNode (list_at store l)
  pub known : AllKnown m.classes (list_at store l)
  pub inner : AllByRecursion (IsPageList store) (inner_ids (list_at store l))
  pub apart : AreDistinct (back_lists store l ++ machine_lists m)

-- the same with a list that goes back
pub record KeepsBack (l : ℕ) (args : List ℕ) (m now : MachineView) (store new : Lists Node) : Type 0 where
  pub machine : IsMachine now new
  pub back : IsBack l now new
  pub frame : OnlyChanged (args ++ (back_lists store l ++ machine_lists m)) (back_lists new l ++ machine_lists now) store new
  pub fields : KeepsFields m now

-- ---- a page

-- the lists of a text column: they may be on a page, are apart from each other and from these lists, and have at most this many nodes
pub record AreTextLists (most : ℕ) (others : List ℕ) (store : Lists Node) (l : ℕ) (ns : List NoteBox) : Type 0 where
  pub text : IsPageList store l
  pub notes : AreNotes store l ns
  pub few : length (list_at store l) + note_count store ns ≤ most
  pub apart : AreNoneOf (l ∷ note_lists ns) others
