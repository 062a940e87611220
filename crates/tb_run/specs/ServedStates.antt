-- What stays of the states of a run, so that each page can be filled and served.
use Rattle.std.specs.Prelude.{ℕ, ◌+◌, ◌-◌, ◌*◌, ◌≤◌, List, [], ◌∷◌, ◌++◌, All}
use Rattle.std.specs.List.{AllByRecursion}
use Rattle.tb_node.specs.declared.Act.{Act}
use Rattle.tb_node.specs.declared.Act.TheVariants as acts
use Rattle.tb_node.specs.PlainNodes.{PlainKind, plain, ins, act, PlainNode}
use Rattle.tb_builder.specs.FiredPages.{Fired}
use Rattle.tb_builder.specs.SizedContents.{AreBoxesOf}
use Rattle.tb_builder.specs.Pageable.{IsSizedOnPage, IsSizedBox}
use Rattle.tb_float.specs.declared.Entry.{Entry}
use Rattle.tb_float.specs.declared.Entry.TheVariants as entries
use Rattle.tb_float.specs.Ranges.{IsWithin, IsSizedEntry}
use Rattle.tb_output.specs.State.{State}
use Rattle.tb_items.specs.GalleyNodes.{IsMild, IsGalleyNode}

-- ---- marginal notes that have no place yet

-- how many marginal notes an act takes
abbrev pub act_notes : Act → ℕ
act_notes (acts.Take f) = 0
act_notes (acts.TakeMargin m) = 1
act_notes (acts.Suppress area) = 0
act_notes (acts.Page n) = 0
act_notes (acts.Head f) = 0
act_notes (acts.Columns two) = 0
act_notes (acts.Set c) = 0

-- how many marginal notes a node takes
abbrev pub kind_notes : PlainKind → ℕ
kind_notes (plain m) = 0
kind_notes (ins i) = 0
kind_notes (act a) = act_notes a

-- how many marginal notes the nodes that wait take
abbrev pub notes_waiting : List PlainNode → ℕ
notes_waiting [] = 0
notes_waiting (n ∷ ns) = kind_notes n.kind + notes_waiting ns

-- how many marginal notes a box of the pool is: each note counts once, at its left box
abbrev pub entry_notes : Entry → ℕ
entry_notes (entries.Float f) = 0
entry_notes (entries.Left m) = 1
entry_notes (entries.Right m) = 0

-- how many marginal notes were taken
abbrev pub notes_taken : List Entry → ℕ
notes_taken [] = 0
notes_taken (e ∷ es) = entry_notes e + notes_taken es

-- how many marginal notes have no place yet in a state in which these nodes wait
abbrev pub notes_left : List PlainNode → State → ℕ
notes_left ns s = notes_waiting ns + notes_taken s.floats.current

-- ---- a state

-- a node of a held page: no insertion and no act, and a penalty is mild
abbrev pub IsTextKind : PlainKind → Type 0
IsTextKind (plain m) = IsMild m
IsTextKind (ins i) = ⊥
IsTextKind (act a) = ⊥

-- these nodes wait, and all that is added up fits: the notes of a column reach no further down than its text and 2^32 more for each note that was placed
pub record IsServed (ns : List PlainNode) (s : State) : Type 0 where
  pub nodes : All (IsGalleyNode s.classes) ns
  pub held : AllByRecursion (λ n. IsTextKind n.kind) s.held_page
  pub boxes : All IsSizedBox s.boxes
  pub entries : AllByRecursion IsSizedEntry s.floats.current
  pub notes : notes_left ns s ≤ 600005
  pub bottom : IsWithin (9007199254740992 + 4294967296 * (600006 - notes_left ns s)) s.note_bottom

-- ---- a page that fires

-- the same when this page fires: no node of its body is an insertion or an act, and each class has a box
pub record IsServedPage (s : State) (f : Fired) : Type 0 where
  pub body : All IsSizedOnPage f.body
  pub text : AllByRecursion (λ n. IsTextKind n.kind) f.body
  pub back : All (IsGalleyNode s.classes) f.held
  pub rest : All (IsGalleyNode s.classes) f.rest
  pub boxes : All IsSizedBox f.boxes
  pub boxes_of : AreBoxesOf s.classes f.boxes
  pub held : AllByRecursion (λ n. IsTextKind n.kind) s.held_page
  pub entries : AllByRecursion IsSizedEntry s.floats.current
  pub notes : notes_left (f.held ++ f.rest) s ≤ 600005
  pub bottom : IsWithin (9007199254740992 + 4294967296 * (600006 - notes_left (f.held ++ f.rest) s)) s.note_bottom
