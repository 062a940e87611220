-- Whether marginal notes may change sides from page to page: from the beginning, or from an item on. Without notes it is of no account.
use Rattle.std.specs.Prelude.{◌≡◌, Bool, true, false, not, ◌&&◌, ◌||◌, List}
use Rattle.std.specs.List.{list_any, AllByRecursion}
use Rattle.tb_node.specs.declared.Act.TheVariants as acts
use Rattle.tb_node.specs.PlainNodes.{PlainKind, act, PlainNode}
use Rattle.tb_param.specs.declared.Field.{Field}
use Rattle.tb_param.specs.declared.Field.TheVariants as fields
use Rattle.tb_galley.specs.declared.Item.{Item}
use Rattle.tb_galley.specs.declared.ItemKind.{ItemKind}
use Rattle.tb_galley.specs.declared.ItemKind.TheVariants as items
use Rattle.tb_galley.specs.declared.Galley.{Galley}
use Rattle.tb_margin.specs.Margin.{is_on}
use Rattle.tb_float.specs.declared.Entry.{Entry}
use Rattle.tb_float.specs.declared.Entry.TheVariants as entries
use Rattle.tb_output.specs.State.{State}
use Rattle.tb_best.specs.ItemsAhead.{Ahead}

-- the parameter by which notes change sides
abbrev pub is_switch : Field → Bool
is_switch fields.Mparswitch = true
is_switch _ = false

-- the item sets it
abbrev pub is_switch_item : ItemKind → Bool
is_switch_item (items.Set c) = is_switch c.field
is_switch_item _ = false

-- one of the items does
abbrev pub has_switch : List Item → Bool
has_switch ns = list_any (λ n. is_switch_item n.kind) ns

-- the item is a marginal note
abbrev pub is_note_item : ItemKind → Bool
is_note_item (items.Margin m vert) = true
is_note_item _ = false

-- one of the items is
abbrev pub has_note : List Item → Bool
has_note ns = list_any (λ n. is_note_item n.kind) ns

-- what the sides of marginal notes depend on: whether they change from page to page, and whether there are notes
pub record Sides : Type 0 where
  pub change : Bool
  pub notes : Bool

-- so it is in a galley: notes change sides if the parameter is on at its beginning or an item sets it, and there are notes if an item is one
abbrev pub sides_of : Galley → Sides
sides_of g = record { change = is_on g.params.mparswitch || has_switch g.items; notes = has_note g.items }

-- there are notes that change sides
abbrev pub alternate : Sides → Bool
alternate x = x.change && x.notes

-- notes may change sides in a run of the galley
abbrev pub may_alternate : Galley → Bool
may_alternate g = alternate (sides_of g)

-- the node sets the parameter though the sides do not change, or takes a note though there is none
abbrev pub is_beyond : Sides → PlainKind → Bool
is_beyond x (act (acts.Set c)) = not x.change && is_switch c.field
is_beyond x (act (acts.TakeMargin m)) = not x.notes
is_beyond x _ = false

-- one of the nodes does
abbrev pub any_beyond : Sides → List PlainNode → Bool
any_beyond x ns = list_any (λ n. is_beyond x n.kind) ns

-- by these nodes notes change sides only if they may, and there are notes only if there may be
abbrev pub KeepSides : Sides → List PlainNode → Type 0
KeepSides x ns = any_beyond x ns ≡ false

-- the entry is a box of a note
abbrev pub is_note_entry : Entry → Bool
is_note_entry (entries.Float f) = false
is_note_entry (entries.Left m) = true
is_note_entry (entries.Right m) = true

-- one of the entries is
abbrev pub note_among : List Entry → Bool
note_among es = list_any is_note_entry es

-- there is a note among these entries only if there may be
abbrev pub KeepCurrent : Sides → List Entry → Type 0
KeepCurrent x es = note_among es ≡ true → x.notes ≡ true

-- in a run from this state notes change sides only if they may, and there are notes only if there may be
pub record KeepsSides (x : Sides) (s : State) : Type 0 where
  pub now : is_on s.params.mparswitch ≡ true → x.change ≡ true
  pub current : KeepCurrent x s.floats.current
  pub waiting : KeepSides x s.waiting
  pub held : KeepSides x s.held_page

-- so it is with the nodes of each of these items
abbrev pub AheadKeep : Sides → List Ahead → Type 0
AheadKeep x cs = AllByRecursion (λ c. KeepSides x c.nodes) cs
