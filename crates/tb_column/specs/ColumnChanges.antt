-- What a call that makes a column changes.
use Rattle.std.specs.Prelude.{◌≡◌, ◌≢◌, ℕ, List, [], ◌∷◌, Some, None}
use Rattle.std.specs.List.{AllByRecursion}
use Rattle.std.specs.FinMap.{get}
use Rattle.tb_pool.specs.Lists.{Lists}
use Rattle.tb_pool.specs.Frame.{IsNoneOf}
use Rattle.tb_node.specs.declared.Node.{Node}
use Rattle.tb_float.specs.Pool.{FloatPool}
use Rattle.tb_column.specs.declared.NoteBox.{NoteBox}
use Rattle.tb_column.specs.Notes.{note_lists}

-- the lists of the notes are empty, and each list besides them and the text's is as it was
pub record AreJoined (body : ℕ) (notes : List NoteBox) (store new : Lists Node) : Type 0 where
  pub emptied : AllByRecursion (λ n. get new.lists n.list ≡ Some []) notes
  pub others : (q : ℕ) → IsNoneOf q (body ∷ note_lists notes) → get new.lists q ≡ get store.lists q

-- a list of this id is new, and each other list is as it was
pub record IsOpened (l : ℕ) (store new : Lists Node) : Type 0 where
  pub fresh : get store.lists l ≡ None
  pub others : (q : ℕ) → q ≢ l → get new.lists q ≡ get store.lists q

-- the floats in the text, at the top and at the bottom have left the pool
abbrev pub without_text_floats : FloatPool → FloatPool
without_text_floats v = record v { lists = record v.lists { here = []; top = []; bottom = [] } }
