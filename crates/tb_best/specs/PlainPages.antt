-- Pages of plain text, in one column and without floats, and the state after such a page that was broken by force.
use Rattle.std.specs.Prelude.{pos, ◌≡◌, Bool, true, false, List, [], ◌∷◌, ◌+◌}
use Rattle.std.specs.List.{list_all}
use Rattle.tb_scaled.specs.Scaled.{inf_penalty}
use Rattle.tb_node.specs.PlainNodes.{pen, PlainKind, plain, ins, act, PlainNode}
use Rattle.tb_float.specs.Lists.{no_floats}
use Rattle.tb_float.specs.Rooms.{column_room_of}
use Rattle.tb_output.specs.State.{State, no_suppress}
use Rattle.tb_output.specs.Columns.{emptied_boxes}
use Rattle.tb_best.specs.ItemsAhead.{Ahead}

-- a node of this kind is neither an insertion nor an act
abbrev pub is_plain : PlainKind → Bool
is_plain (plain m) = true
is_plain (ins i) = false
is_plain (act a) = false

-- so are all of these
abbrev pub all_plain : List PlainNode → Bool
all_plain ns = list_all (λ n. is_plain n.kind) ns

-- a state in one column in which no float is in any list and no page is held
pub record IsBare (s : State) : Type 0 where
  pub floats : s.floats ≡ no_floats
  pub one_column : s.two_columns ≡ false
  pub held : s.held_page ≡ []

-- the break before an item after its page: it no longer breaks
abbrev pub spent : Ahead → PlainNode
spent c = record { line = c.line; kind = plain (pen inf_penalty) }

-- the state after a plain page of a bare one that was broken before this item
abbrev pub after_plain : Ahead → State → State
after_plain c s = record s {
  waiting = spent c ∷ c.nodes;
  boxes = emptied_boxes s.boxes;
  goal = column_room_of s.params no_floats;
  page = s.page + 1;
  number = s.number + 1;
  dead_cycles = 0;
  note_bottom = pos 0;
  suppress = no_suppress;
  shrink = pos 0;
}
